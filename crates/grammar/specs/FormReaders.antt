-- A reader for each way to put rules together, and what a reader of a rule has to do.
-- A reader answers with a value and the tokens behind it, or with the tokens from the refused one on.
use Rattle.std.specs.Prelude.{◌≡◌, ℕ, zero, suc, ◌≤◌, Bool, true, false, ◌&&◌, List, [], ◌∷◌, ◌++◌, length, Option, Some, None, Result, Ok, Err, if◌then◌else◌, nat_le}

-- the next token is none of those
abbrev pub NextNot : {T : Type 0} → (T → Type 0) → List T → Type 0
NextNot c [] = Unit {0}
NextNot c (t ∷ r) = c t → ⊥

abbrev pub NextNotIn : {T : Type 0} → (T → Bool) → List T → Type 0
NextNotIn c ts = NextNot (λ t. c t ≡ true) ts

-- those of a class, whatever the value before
abbrev pub By : {T A : Type 0} → (T → Bool) → A → T → Type 0
By c a t = c t ≡ true

abbrev pub Apart : {T : Type 0} → (T → Bool) → (T → Bool) → Type 0
Apart {T} c f = (t : T) → c t ≡ true → f t ≡ true → ⊥

abbrev pub remaining : {T A : Type 0} → Result (A × List T) (List T) → ℕ
remaining (Ok x) = length (x.1)
remaining (Err r) = length r

-- `first` has the tokens that begin the rule, `continues` those that can go on behind a whole one of that value, and `null`
-- tells whether no token at all can spell it. The values are within the levels `b` by their depth `d`.
pub record Reads {T A : Type 0} (W : A → List T → Type 0) (F : List T → Type 0) (d : A → ℕ) (b : ℕ) (first : T → Bool) (continues : A → T → Type 0) (null : Bool) (p : List T → Result (A × List T) (List T)) : Type 0 where
  pub sound : (ts : List T) (a : A) (rest : List T) → p ts ≡ Ok (a, rest) → (u : List T) × (ts ≡ u ++ rest) × W a u × (d a ≤ b)
  pub refusal : (ts rest : List T) → p ts ≡ Err rest → (u : List T) × (ts ≡ u ++ rest) × F u
  pub complete : (a : A) (u rest : List T) → W a u → d a ≤ b → NextNot (continues a) rest → p (u ++ rest) ≡ Ok (a, rest)
  -- it gets past every front, so it refuses no token too early
  pub reach : (u v : List T) → F u → remaining (p (u ++ v)) ≤ length v
  pub starts : (t : T) (u : List T) → F (t ∷ u) → first t ≡ true
  -- wholes are fronts, and what fronts begin with are
  pub holds : (a : A) (u : List T) → W a u → d a ≤ b → F u
  pub closed : (u v : List T) → F (u ++ v) → F u
  pub nothing : F []
  pub empty : (a : A) → W a [] → null ≡ true

abbrev pub and_then : {T A B : Type 0} → Result (A × List T) (List T) → (A → List T → Result (B × List T) (List T)) → Result (B × List T) (List T)
and_then (Ok x) f = f (x.0) (x.1)
and_then (Err r) f = Err r

abbrev pub read_one_token : {T A : Type 0} → Option A → T → List T → Result (A × List T) (List T)
read_one_token (Some a) t r = Ok (a, r)
read_one_token None t r = Err (t ∷ r)

abbrev pub read_token : {T A : Type 0} → (T → Option A) → List T → Result (A × List T) (List T)
read_token f [] = Err []
read_token f (t ∷ r) = read_one_token (f t) t r

abbrev pub read_absent : {T A : Type 0} → Bool → A → List T → Result (A × List T) (List T)
read_absent fits a ts = if fits then Ok (a, ts) else Err ts

abbrev pub read_sequence : {T A B : Type 0} → (List T → Result (A × List T) (List T)) → (List T → Result (B × List T) (List T)) → List T → Result ((A × B) × List T) (List T)
read_sequence p q ts = and_then (p ts) (λ a rest. and_then (q rest) (λ c after. Ok ((a, c), after)))

-- whether a token of the class comes next
abbrev pub next_in : {T : Type 0} → (T → Bool) → List T → Bool
next_in f [] = false
next_in f (t ∷ r) = f t

abbrev pub read_choice : {T A : Type 0} → (T → Bool) → (List T → Result (A × List T) (List T)) → (List T → Result (A × List T) (List T)) → List T → Result (A × List T) (List T)
read_choice first p q ts = if next_in first ts then p ts else q ts

abbrev pub read_view : {T A B : Type 0} → (A → B) → (List T → Result (A × List T) (List T)) → List T → Result (B × List T) (List T)
read_view f p ts = and_then (p ts) (λ a rest. Ok (f a, rest))

abbrev pub read_node : {T A B : Type 0} → (A → B) → (ℕ → List T → Result (A × List T) (List T)) → ℕ → List T → Result (B × List T) (List T)
read_node f p zero ts = Err ts
read_node f p (suc b) ts = read_view f (p b) ts

abbrev pub read_many : {T A : Type 0} → (T → Bool) → (List T → Result (A × List T) (List T)) → ℕ → List T → Result (List A × List T) (List T)
read_many first p zero ts = Ok ([], ts)
read_many first p (suc n) ts = if next_in first ts then and_then (p ts) (λ a rest. and_then (read_many first p n rest) (λ xs after. Ok (a ∷ xs, after))) else Ok ([], ts)

-- as `read_many`, behind those found so far
unfoldable pub read_many_from : {T A : Type 0} → (T → Bool) → (List T → Result (A × List T) (List T)) → ℕ → List A → List T → Result (List A × List T) (List T)
read_many_from first p zero found ts = Ok (found, ts)
read_many_from first p (suc n) found ts = if next_in first ts then and_then (p ts) (λ a rest. read_many_from first p n (found ++ a ∷ []) rest) else Ok (found, ts)

abbrev pub read_more_suffixes : {T A S : Type 0} → (T → Bool) → (A → Bool) → (A → S → A) → (List T → Result (S × List T) (List T)) → ℕ → A → List T → Result (A × List T) (List T)
read_more_suffixes first fits f q zero l ts = Ok (l, ts)
read_more_suffixes first fits f q (suc n) l ts = if next_in first ts && fits l then and_then (q ts) (λ s rest. read_more_suffixes first fits f q n (f l s) rest) else Ok (l, ts)

abbrev pub read_suffixes : {T A S : Type 0} → (T → Bool) → (A → Bool) → (A → S → A) → (List T → Result (A × List T) (List T)) → (List T → Result (S × List T) (List T)) → List T → Result (A × List T) (List T)
read_suffixes first fits f p q ts = and_then (p ts) (λ l rest. read_more_suffixes first fits f q (length rest) l rest)

abbrev pub read_one_suffix : {T A S : Type 0} → (T → Bool) → (A → Bool) → (A → S → A) → (List T → Result (S × List T) (List T)) → A → List T → Result (A × List T) (List T)
read_one_suffix first fits f q l ts = if next_in first ts && fits l then and_then (q ts) (λ s rest. Ok (f l s, rest)) else Ok (l, ts)

abbrev pub read_suffix : {T A S : Type 0} → (T → Bool) → (A → Bool) → (A → S → A) → (List T → Result (A × List T) (List T)) → (List T → Result (S × List T) (List T)) → List T → Result (A × List T) (List T)
read_suffix first fits f p q ts = and_then (p ts) (λ l rest. read_one_suffix first fits f q l rest)

-- the levels that are left under so many
abbrev pub under : ℕ → ℕ → Option ℕ
under zero b = Some b
under (suc n) zero = None
under (suc n) (suc b) = under n b

-- with the levels that a part behind leaves, if there are such
abbrev pub read_suffixes_at : {T A S : Type 0} → (T → Bool) → (A → ℕ) → (A → S → A) → (List T → Result (A × List T) (List T)) → (ℕ → List T → Result (S × List T) (List T)) → Option ℕ → List T → Result (A × List T) (List T)
read_suffixes_at first d f p q None ts = p ts
read_suffixes_at first d f p q (Some c) ts = read_suffixes first (λ l. nat_le (d l) c) f p (q c) ts

abbrev pub read_suffix_at : {T A S : Type 0} → (T → Bool) → (A → ℕ) → (A → Bool) → (A → S → A) → (List T → Result (A × List T) (List T)) → (ℕ → List T → Result (S × List T) (List T)) → Option ℕ → List T → Result (A × List T) (List T)
read_suffix_at first d ok f p q None ts = p ts
read_suffix_at first d ok f p q (Some c) ts = read_suffix first (λ l. ok l && nat_le (d l) c) f p (q c) ts

abbrev pub read_starting : {T A : Type 0} → (T → Bool) → (List T → Result (A × List T) (List T)) → List T → Result (A × List T) (List T)
read_starting g p ts = if next_in g ts then p ts else Err ts

abbrev pub read_needs : {T A : Type 0} → ℕ → ℕ → (List T → Result (A × List T) (List T)) → List T → Result (A × List T) (List T)
read_needs n b p ts = if nat_le n b then p ts else Err ts

abbrev pub read_bind : {T A B : Type 0} → (List T → Result (A × List T) (List T)) → (A → List T → Result (B × List T) (List T)) → List T → Result ((A × B) × List T) (List T)
read_bind p q ts = and_then (p ts) (λ a rest. and_then (q a rest) (λ c after. Ok ((a, c), after)))

-- ---- parentheses that make no node, read without recursion

-- the openings that come next, and what stands behind them
abbrev pub openings : {T : Type 0} → (T → Bool) → List T → ℕ
openings opens [] = 0
openings opens (t ∷ r) = if opens t then suc (openings opens r) else 0

abbrev pub behind_openings : {T : Type 0} → (T → Bool) → List T → List T
behind_openings opens [] = []
behind_openings opens (t ∷ r) = if opens t then behind_openings opens r else t ∷ r

-- behind a value that stands in so many of them: the rest of an expression and its closing one, as often
unfoldable pub close_all : {T A B : Type 0} → (A → List T → Result (B × List T) (List T)) → (B → List T → Result (A × List T) (List T)) → ℕ → A → List T → Result (A × List T) (List T)
close_all resume close zero a ts = Ok (a, ts)
close_all resume close (suc n) a ts = and_then (resume a ts) (λ e rest. and_then (close e rest) (λ c after. close_all resume close n c after))
