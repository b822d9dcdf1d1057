-- With enough steps more steps change nothing, so the reader of a name is that of its rule.
use Rattle.std.proofs.Common.{◌≡◌, ℕ, zero, suc, ◌+◌, ◌≤◌, ◌<◌, Bool, true, false, ◌&&◌, List, [], ◌∷◌, ◌++◌, length, Option, Some, None, Result, Ok, Err, inl, inr, refl, sym, ap, ◌∙◌, length-append, arith, le_refl, le_trans, true≢false}
use Rattle.std.specs.Prelude.{nat_le, ◌&&◌, if◌then◌else◌}
use Rattle.grammar.specs.FormReaders.{Reads, and_then, next_in, read_many, read_more_suffixes, under, read_suffixes_at, read_suffix_at}
use Rattle.grammar.specs.Rules.{Sort, El, deep, Rule, token, token_where, absent, sequence, choice, view, node, many, suffixes, suffix, starting, bind, needs, named, Grammar}
use Rattle.grammar.specs.Spelling.{RuleSpells, Derives, RuleFront, DerivesFront}
use Rattle.grammar.specs.Checks.{nullable, first, GoesOn, Checks, Guarded, Predictive}
use Rattle.grammar.specs.Readers.{Reader, read_rule, read_within, read_named}
use Rattle.grammar.proofs.ReadsLevels.{under_some}
use Rattle.grammar.proofs.ReadsRules.{reads, derives_nullable, read_within_reads}

chain_by : {T A B : Type 0} (o : Result (A × List T) (List T)) (f g : A → List T → Result (B × List T) (List T)) → ((a : A) (r : List T) → o ≡ Ok (a, r) → f a r ≡ g a r) → and_then o f ≡ and_then o g
chain_by (Ok y) f g h = h y.0 y.1 refl
chain_by (Err r) f g h = refl

chain_same : {T A B : Type 0} (o o' : Result (A × List T) (List T)) (f g : A → List T → Result (B × List T) (List T)) → o ≡ o' → ((a : A) (r : List T) → o ≡ Ok (a, r) → f a r ≡ g a r) → and_then o f ≡ and_then o' g
chain_same o o' f g e h = chain_by o f g h ∙ ap (λ z. and_then z g) e

if_same : {A : Type 0} (c : Bool) (x x' y y' : A) → x ≡ x' → y ≡ y' → (if c then x else y) ≡ (if c then x' else y')
if_same true x x' y y' e f = e
if_same false x x' y y' e f = f

module _ {T N K : Type 0} {sorts : K → Sort} (G : Grammar T N K sorts) (S : Predictive G) (n : ℕ) (env' : ℕ → (k : K) → Reader G (El T N (sorts k))) where
  abbrev old : {s : Sort} → Rule T N K sorts s → ℕ → List T → Result (El T N s × List T) (List T)
  old r b ts = read_rule G (read_within G n) r b ts

  abbrev new : {s : Sort} → Rule T N K sorts s → ℕ → List T → Result (El T N s × List T) (List T)
  new r b ts = read_rule G env' r b ts

  abbrev R : {s : Sort} (r : Rule T N K sorts s) (b : ℕ) → Checks G r → Reads (RuleSpells G (Derives G n) r) (RuleFront G (Derives G n) (DerivesFront G n) r b) (deep T G.depth s) b (λ t. first G r (G.code t)) (λ a t. GoesOn G r a (G.code t)) (nullable G r) (read_rule G (read_within G n) r b)
  R r b c = reads G S (Derives G n) (DerivesFront G n) (read_within G n) (derives_nullable G S n) (λ c k. read_within_reads G S n c k) r b c

  used : {s : Sort} (r : Rule T N K sorts s) (c : Checks G r) (b : ℕ) (ts : List T) (a : El T N s) (rest : List T) → old r b ts ≡ Ok (a, rest) → length rest ≤ length ts
  used r c b ts a rest e = let s = (R r b c).sound ts a rest e in omega (arith, ap length s.1 ∙ length-append s.0 rest)

  used_some : {s : Sort} (r : Rule T N K sorts s) (c : Checks G r) → nullable G r ≡ false → (b : ℕ) (ts : List T) (a : El T N s) (rest : List T) → old r b ts ≡ Ok (a, rest) → length rest < length ts
  used_some {s} r c full b ts a rest e = let s = (R r b c).sound ts a rest e in by s.0 s.1 s.2
    where
      by : (u : List T) → ts ≡ u ++ rest → RuleSpells G (Derives G n) r a u → length rest < length ts
      by [] e w = absurd (true≢false (sym ((R r b c).empty a w) ∙ full))
      by (t ∷ u) e w = omega (arith, ap length e ∙ length-append (t ∷ u) rest)

  -- loops
  many_same : {s : Sort} (r : Rule T N K sorts s) (c : Checks G r) (b : ℕ) (begins : T → Bool) (len : ℕ) → ((ts : List T) → length ts ≤ len → old r b ts ≡ new r b ts)
      → (m : ℕ) (ts : List T) → length ts ≤ len → read_many begins (old r b) m ts ≡ read_many begins (new r b) m ts
  many_same r c b begins len h zero ts le = refl
  many_same r c b begins len h (suc m) ts le =
      if_same (next_in begins ts) _ _ (Ok ([], ts)) (Ok ([], ts))
      (chain_same (old r b ts) (new r b ts) (λ a rest. and_then (read_many begins (old r b) m rest) (λ xs after. Ok (a ∷ xs, after))) (λ a rest. and_then (read_many begins (new r b) m rest) (λ xs after. Ok (a ∷ xs, after))) (h ts le)
      (λ a rest e. ap (λ o. and_then o (λ xs after. Ok (a ∷ xs, after))) (many_same r c b begins len h m rest (le_trans (used r c b ts a rest e) le)))) refl

  loop_same : {A : Type 0} {s : Sort} (q : Rule T N K sorts s) (c : Checks G q) (b : ℕ) (begins : T → Bool) (fits : A → Bool) (f : A → El T N s → A) (len : ℕ) → ((ts : List T) → length ts ≤ len → old q b ts ≡ new q b ts)
      → (m : ℕ) (l : A) (ts : List T) → length ts ≤ len → read_more_suffixes begins fits f (old q b) m l ts ≡ read_more_suffixes begins fits f (new q b) m l ts
  loop_same q c b begins fits f len h zero l ts le = refl
  loop_same q c b begins fits f len h (suc m) l ts le =
      if_same (next_in begins ts && fits l) _ _ (Ok (l, ts)) (Ok (l, ts))
      (chain_same (old q b ts) (new q b ts) (λ x rest. read_more_suffixes begins fits f (old q b) m (f l x) rest) (λ x rest. read_more_suffixes begins fits f (new q b) m (f l x) rest) (h ts le)
      (λ x rest e. loop_same q c b begins fits f len h m (f l x) rest (le_trans (used q c b ts x rest e) le))) refl

  -- with parts behind, whose levels are under a node where there are such
  suffixes_same : {s s' : Sort} (r : Rule T N K sorts s) (c1 : Checks G r) (full : nullable G r ≡ false) (q : Rule T N K sorts s') (c2 : Checks G q) (ft : ℕ → Bool) (d : El T N s → ℕ) (f : El T N s → El T N s' → El T N s) (b : ℕ) (ts : List T) → old r b ts ≡ new r b ts → (o : Option ℕ)
      → ((c : ℕ) → o ≡ Some c → (xs : List T) → length xs < length ts → old q c xs ≡ new q c xs)
      → read_suffixes_at (λ t. ft (G.code t)) d f (old r b) (λ c. old q c) o ts ≡ read_suffixes_at (λ t. ft (G.code t)) d f (new r b) (λ c. new q c) o ts
  suffixes_same r c1 full q c2 ft d f b ts e None h = e
  suffixes_same r c1 full q c2 ft d f b ts e (Some c) h =
      chain_same (old r b ts) (new r b ts) _ _ e
      (λ l rest e'. let less = used_some r c1 full b ts l rest e' in loop_same q c2 c (λ t. ft (G.code t)) (λ l. nat_le (d l) c) f (length rest) (λ xs i. h c refl xs (omega (arith, i, less))) (length rest) l rest (le_refl _))

  suffix_same : {s s' : Sort} (r : Rule T N K sorts s) (c1 : Checks G r) (full : nullable G r ≡ false) (q : Rule T N K sorts s') (c2 : Checks G q) (ft : ℕ → Bool) (d : El T N s → ℕ) (ok : El T N s → Bool) (f : El T N s → El T N s' → El T N s) (b : ℕ) (ts : List T) → old r b ts ≡ new r b ts → (o : Option ℕ)
      → ((c : ℕ) → o ≡ Some c → (xs : List T) → length xs < length ts → old q c xs ≡ new q c xs)
      → read_suffix_at (λ t. ft (G.code t)) d ok f (old r b) (λ c. old q c) o ts ≡ read_suffix_at (λ t. ft (G.code t)) d ok f (new r b) (λ c. new q c) o ts
  suffix_same r c1 full q c2 ft d ok f b ts e None h = e
  suffix_same r c1 full q c2 ft d ok f b ts e (Some c) h =
      chain_same (old r b ts) (new r b ts) _ _ e
      (λ l rest e'. if_same (next_in (λ t. ft (G.code t)) rest && (ok l && nat_le (d l) c)) _ _ (Ok (l, rest)) (Ok (l, rest))
      (ap (λ o. and_then o (λ x after. Ok (f l x, after))) (h c refl rest (used_some r c1 full b ts l rest e'))) refl)

  abbrev Same : ℕ → Type 0
  Same L = (c : ℕ) (k : K) (ts : List T) → length ts + c ≤ L → read_within G n c k ts ≡ env' c k ts

  weak : {s : Sort} (r : Rule T N K sorts s) → Checks G r → (b : ℕ) (ts : List T) (L : ℕ) → length ts + b ≤ L → Same L → old r b ts ≡ new r b ts
  weak (token f) c b ts L le h = refl
  weak (token_where f ok) c b ts L le h = refl
  weak (absent a) c b ts L le h = refl
  weak (sequence r q) c b ts L le h =
      chain_same (old r b ts) (new r b ts) _ _ (weak r c.1 b ts L le h) (λ a rest e. ap (λ o. and_then o (λ x after. Ok ((a, x), after))) (weak q c.2 b rest L (omega (arith, le, used r c.1 b ts a rest e)) h))
  weak (choice r q) c b ts L le h = if_same (next_in (λ t. first G r (G.code t)) ts) _ _ _ _ (weak r c.2 b ts L le h) (weak q c.3 b ts L le h)
  weak (view f r) c b ts L le h = ap (λ o. and_then o (λ a rest. Ok (f a, rest))) (weak r c.1 b ts L le h)
  weak (node f r) c zero ts L le h = refl
  weak (node f r) c (suc b) ts L le h = ap (λ o. and_then o (λ a rest. Ok (f a, rest))) (weak r c.1 b ts L (omega (arith, le)) h)
  weak (many r) c b ts L le h = many_same r c.2 b (λ t. first G r (G.code t)) (length ts) (λ xs l. weak r c.2 b xs L (omega (arith, le, l)) h) (length ts) ts (le_refl _)
  weak (suffixes {s = s} levels r q f) c b ts L le h =
      suffixes_same r c.5 c.2 q c.6 (first G q) (deep T G.depth s) f b ts (weak r c.5 b ts L le h) (under levels b)
      (λ b' is xs i. weak q c.6 b' xs L (omega (arith, le, i, under_some levels b b' is)) h)
  weak (suffix {s = s} levels r ok q f) c b ts L le h =
      suffix_same r c.4 c.1 q c.5 (first G q) (deep T G.depth s) ok f b ts (weak r c.4 b ts L le h) (under levels b)
      (λ b' is xs i. weak q c.5 b' xs L (omega (arith, le, i, under_some levels b b' is)) h)
  weak (starting g r) c b ts L le h = if_same (next_in (λ t. g (G.code t)) ts) _ _ (Err ts) (Err ts) (weak r c.1 b ts L le h) refl
  weak (bind r null begins goes_on q) c b ts L le h =
      chain_same (old r b ts) (new r b ts) _ _ (weak r c.1 b ts L le h)
      (λ a rest e. ap (λ o. and_then o (λ x after. Ok ((a, x), after))) (weak (q a) ((c.2 a).3) b rest L (omega (arith, le, used r c.1 b ts a rest e)) h))
  weak (needs n r) c b ts L le h = if_same (nat_le n b) _ _ (Err ts) (Err ts) (weak r c.1 b ts L le h) refl
  weak (named k) c b ts L le h = h b k ts le

  strict : {s : Sort} (r : Rule T N K sorts s) → Checks G r → Guarded G r → (b : ℕ) (ts : List T) (L : ℕ) → length ts + b ≤ L
      → ((c : ℕ) (k : K) (ts : List T) → length ts + c < L → read_within G n c k ts ≡ env' c k ts) → old r b ts ≡ new r b ts
  strict (token f) c d b ts L le h = refl
  strict (token_where f ok) c d b ts L le h = refl
  strict (absent a) c d b ts L le h = refl
  strict (sequence r q) c d b ts L le h =
      chain_same (old r b ts) (new r b ts) _ _ (strict r c.1 d.0 b ts L le h)
      (λ a rest e. ap (λ o. and_then o (λ x after. Ok ((a, x), after))) (elim d.1 [
        | inl g ↦ strict q c.2 g b rest L (omega (arith, le, used r c.1 b ts a rest e)) h
        | inr g ↦ weak q c.2 b rest (length rest + b) (le_refl _) (λ c' k t i. h c' k t (omega (arith, i, le, used_some r c.1 g b ts a rest e)))
      ]))
  strict (choice r q) c d b ts L le h = if_same (next_in (λ t. first G r (G.code t)) ts) _ _ _ _ (strict r c.2 d.0 b ts L le h) (strict q c.3 d.1 b ts L le h)
  strict (view f r) c d b ts L le h = ap (λ o. and_then o (λ a rest. Ok (f a, rest))) (strict r c.1 d b ts L le h)
  strict (node f r) c d zero ts L le h = refl
  strict (node f r) c d (suc b) ts L le h = ap (λ o. and_then o (λ a rest. Ok (f a, rest))) (weak r c.1 b ts (length ts + b) (le_refl _) (λ c' k t i. h c' k t (omega (arith, i, le))))
  strict (many r) c d b ts L le h = many_same r c.2 b (λ t. first G r (G.code t)) (length ts) (λ xs l. strict r c.2 d b xs L (omega (arith, le, l)) h) (length ts) ts (le_refl _)
  strict (suffixes {s = s} levels r q f) c d b ts L le h =
      suffixes_same r c.5 c.2 q c.6 (first G q) (deep T G.depth s) f b ts (strict r c.5 d b ts L le h) (under levels b)
      (λ b' is xs i. let lv = under_some levels b b' is in weak q c.6 b' xs (length xs + b') (le_refl _) (λ c' k t j. h c' k t (omega (arith, j, i, le, lv))))
  strict (suffix {s = s} levels r ok q f) c d b ts L le h =
      suffix_same r c.4 c.1 q c.5 (first G q) (deep T G.depth s) ok f b ts (strict r c.4 d b ts L le h) (under levels b)
      (λ b' is xs i. let lv = under_some levels b b' is in weak q c.5 b' xs (length xs + b') (le_refl _) (λ c' k t j. h c' k t (omega (arith, j, i, le, lv))))
  strict (starting g r) c d b ts L le h = if_same (next_in (λ t. g (G.code t)) ts) _ _ (Err ts) (Err ts) (strict r c.1 d b ts L le h) refl
  strict (bind r null begins goes_on q) c d b ts L le h =
      chain_same (old r b ts) (new r b ts) _ _ (strict r c.1 d.0 b ts L le h)
      (λ a rest e. ap (λ o. and_then o (λ x after. Ok ((a, x), after))) (elim d.1 [
        | inl g ↦ strict (q a) ((c.2 a).3) (g a) b rest L (omega (arith, le, used r c.1 b ts a rest e)) h
        | inr g ↦ weak (q a) ((c.2 a).3) b rest (length rest + b) (le_refl _) (λ c' k t i. h c' k t (omega (arith, i, le, used_some r c.1 g b ts a rest e)))
      ]))
  strict (needs n r) c d b ts L le h = if_same (nat_le n b) _ _ (Err ts) (Err ts) (strict r c.1 d b ts L le h) refl
  strict (named k) c d b ts L le h = absurd d

module _ {T N K : Type 0} {sorts : K → Sort} (G : Grammar T N K sorts) (S : Predictive G) where
  pub read_within_same : (n n' b : ℕ) (k : K) (ts : List T) → length ts + b < n → length ts + b < n' → read_within G n b k ts ≡ read_within G n' b k ts
  unfolding read_within
  read_within_same zero n' b k ts h h' = let no : ⊥ = omega (arith, h) in absurd no
  read_within_same (suc n) zero b k ts h h' = let no : ⊥ = omega (arith, h') in absurd no
  read_within_same (suc n) (suc n') b k ts h h' =
      strict G S n (read_within G n') (G.production k) (S.checks k) (S.guarded k) b ts (length ts + b) (le_refl _) (λ c j t l. read_within_same n n' c j t (omega (arith, h, l)) (omega (arith, h', l)))

  pub read_named_is : (b : ℕ) (k : K) (ts : List T) → read_named G b k ts ≡ read_rule G (read_named G) (G.production k) b ts
  unfolding read_within read_named
  read_named_is b k ts =
      strict G S (length ts + b) (read_named G) (G.production k) (S.checks k) (S.guarded k) b ts (length ts + b) (le_refl _) (λ c j t l. read_within_same (length ts + b) (suc (length t + c)) c j t l (omega arith))
