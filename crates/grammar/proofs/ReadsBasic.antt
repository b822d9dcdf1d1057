-- A token, no token, a choice, a map, a node.
use Rattle.std.proofs.Common.{◌≡◌, ℕ, ◌≤◌, Bool, true, false, ◌||◌, List, [], ◌∷◌, ◌++◌, length, Option, Some, None, Result, Ok, Err, ◌⊎◌, inl, inr, refl, sym, ap, ◌∙◌, subst, arith, le_refl, le_trans, true≢false, is_some}
use Rattle.std.specs.Prelude.{if◌then◌else◌}
use Rattle.grammar.specs.Forms.{TokenSpells, TokenFront, AbsentSpells, AbsentFront, ChoiceSpells, ChoiceFront, ViewSpells}
use Rattle.grammar.specs.FormReaders.{NextNot, Apart, remaining, Reads, and_then, read_one_token, read_token, read_absent, read_choice, read_view}
use Rattle.grammar.proofs.Lists.{ok_err, err_ok, ok_inj, err_inj, cons_nil, nil_cons, heads, tails, bind_ok, bind_err, append_empty, or_left, or_right, cases_if, if_true, if_false, le_of_eq, off_less}

module _ {T A : Type 0} (f : T → Option A) (d : A → ℕ) (b : ℕ) (flat : (a : A) → d a ≤ 0) where
  abbrev pub token_first : T → Bool
  token_first t = is_some (f t)

  one_some : (t : T) (a : A) (r : List T) → f t ≡ Some a → read_token f (t ∷ r) ≡ Ok (a, r)
  one_some t a r h = ap (λ o. read_one_token o t r) h

  token_sound : (ts : List T) (a : A) (rest : List T) → read_token f ts ≡ Ok (a, rest) → (u : List T) × (ts ≡ u ++ rest) × TokenSpells f a u × (d a ≤ b)
  token_sound [] a rest h = err_ok h
  token_sound (t ∷ r) a rest h = by (f t) refl h
    where
      by : (o : Option A) → f t ≡ o → read_one_token o t r ≡ Ok (a, rest) → (u : List T) × (t ∷ r ≡ u ++ rest) × TokenSpells f a u × (d a ≤ b)
      by (Some c) e k =
          let same = ok_inj k in
          (t ∷ [], ap (λ x. t ∷ x.1) same, (t, refl, e ∙ ap (λ x. Some x.0) same), omega (arith, flat a))
      by None e k = err_ok k

  token_refusal : (ts rest : List T) → read_token f ts ≡ Err rest → (u : List T) × (ts ≡ u ++ rest) × TokenFront f u
  token_refusal [] rest h = ([], err_inj h, inl refl)
  token_refusal (t ∷ r) rest h = by (f t) h
    where
      by : (o : Option A) → read_one_token o t r ≡ Err rest → (u : List T) × (t ∷ r ≡ u ++ rest) × TokenFront f u
      by (Some c) k = ok_err k
      by None k = ([], err_inj k, inl refl)

  token_complete : (a : A) (u rest : List T) → TokenSpells f a u → read_token f (u ++ rest) ≡ Ok (a, rest)
  token_complete a u rest (t, e, h) = ap (λ l. read_token f (l ++ rest)) e ∙ one_some t a rest h

  token_short : (v : List T) → remaining (read_token f v) ≤ length v
  token_short [] = le_refl 0
  token_short (t ∷ r) = by (f t)
    where
      by : (o : Option A) → remaining {A = A} (read_one_token o t r) ≤ length (t ∷ r)
      by (Some c) = omega arith
      by None = le_refl _

  token_reach : (u v : List T) → TokenFront f u → remaining (read_token f (u ++ v)) ≤ length v
  token_reach u v (inl e) = rw e (token_short v)
  token_reach u v (inr (t, a, e, h)) = le_of_eq (ap remaining (token_complete a u v (t, e, h)))

  token_closed : (u v : List T) → TokenFront f (u ++ v) → TokenFront f u
  token_closed [] v h = inl refl
  token_closed (s ∷ u) v (inl e) = cons_nil e
  token_closed (s ∷ u) v (inr (t, a, e, h)) = inr (t, a, ap (λ x. x ∷ u) (heads e) ∙ ap (λ l. t ∷ l) ((append_empty u v (sym (tails e))).0), h)

  token_starts : (t : T) (u : List T) → TokenFront f (t ∷ u) → token_first t ≡ true
  token_starts t u (inl e) = cons_nil e
  token_starts t u (inr (s, a, e, h)) = ap (λ x. is_some (f x)) (heads e) ∙ ap is_some h

  pub token_reads : Reads (TokenSpells f) (TokenFront f) d b token_first (λ a t. ⊥) false (read_token f)
  token_reads = record {
    sound = token_sound;
    refusal = token_refusal;
    complete = λ a u rest h le off. token_complete a u rest h;
    reach = token_reach;
    starts = token_starts;
    holds = λ a u h le. inr (h.0, a, h.1, h.2);
    closed = token_closed;
    nothing = inl refl;
    empty = λ a h. nil_cons h.1;
  }

module _ {T A : Type 0} (a0 : A) (d : A → ℕ) (b : ℕ) (fits : Bool) (fits_is : fits ≡ true → d a0 ≤ b) (fits_if : d a0 ≤ b → fits ≡ true) where
  absent_sound : (ts : List T) (a : A) (rest : List T) → read_absent fits a0 ts ≡ Ok (a, rest) → (u : List T) × (ts ≡ u ++ rest) × AbsentSpells a0 a u × (d a ≤ b)
  absent_sound ts a rest h = elim (cases_if fits (Ok (a0, ts)) (Err ts) (Ok (a, rest)) h) [
    | inl k ↦ let same = ok_inj k.1 in
        let e0 : a ≡ a0 = sym (ap (λ x. x.0) same) in
        ([], ap (λ x. x.1) same, (e0, refl), subst (λ z. d z ≤ b) (sym e0) (fits_is k.0))
    | inr k ↦ err_ok k.1
  ]

  absent_refusal : (ts rest : List T) → read_absent fits a0 ts ≡ Err rest → (u : List T) × (ts ≡ u ++ rest) × AbsentFront u
  absent_refusal ts rest h = elim (cases_if fits (Ok (a0, ts)) (Err ts) (Err rest) h) [
    | inl k ↦ ok_err k.1
    | inr k ↦ ([], err_inj k.1, refl)
  ]

  absent_left : (ts : List T) → remaining (read_absent fits a0 ts) ≤ length ts
  absent_left ts = by fits
    where
      by : (c : Bool) → remaining {A = A} (if c then Ok (a0, ts) else Err ts) ≤ length ts
      by true = le_refl _
      by false = le_refl _

  pub absent_reads : Reads {T = T} (AbsentSpells a0) AbsentFront d b (λ t. false) (λ a t. ⊥) true (read_absent fits a0)
  absent_reads = record {
    sound = absent_sound;
    refusal = absent_refusal;
    complete = λ a u rest h le off. ap (λ l. read_absent fits a0 (l ++ rest)) h.1 ∙ if_true fits (Ok (a0, rest)) (Err rest) (fits_if (subst (λ z. d z ≤ b) h.0 le)) ∙ ap (λ z. Ok (z, rest)) (sym h.0);
    reach = λ u v h. rw h (absent_left v);
    starts = λ t u h. cons_nil h;
    holds = λ a u h le. h.1;
    closed = λ u v h. (append_empty u v (sym h)).0;
    nothing = refl;
    empty = λ a h. refl;
  }

module _ {T A : Type 0} {W : A → List T → Type 0} {F : List T → Type 0} {d : A → ℕ} {V : A → List T → Type 0} {G : List T → Type 0} {b : ℕ}
    {first1 first2 : T → Bool} {cont1 cont2 : A → T → Type 0} {null2 : Bool} {p q : List T → Result (A × List T) (List T)}
    (R : Reads W F d b first1 cont1 false p) (S : Reads V G d b first2 cont2 null2 q) (apart : Apart first1 first2) where
  abbrev pub choice_first : T → Bool
  choice_first t = first1 t || first2 t

  abbrev pub choice_cont : A → T → Type 0
  choice_cont a t = cont1 a t ⊎ (cont2 a t ⊎ ((null2 ≡ true) × (first1 t ≡ true)))

  choice_sound : (ts : List T) (a : A) (rest : List T) → read_choice first1 p q ts ≡ Ok (a, rest) → (u : List T) × (ts ≡ u ++ rest) × ChoiceSpells W V a u × (d a ≤ b)
  choice_sound [] a rest h = let s = S.sound [] a rest h in (s.0, s.1, inr s.2, s.3)
  choice_sound (t ∷ r) a rest h = elim (cases_if (first1 t) (p (t ∷ r)) (q (t ∷ r)) (Ok (a, rest)) h) [
    | inl k ↦ let s = R.sound (t ∷ r) a rest k.1 in (s.0, s.1, inl s.2, s.3)
    | inr k ↦ let s = S.sound (t ∷ r) a rest k.1 in (s.0, s.1, inr s.2, s.3)
  ]

  choice_refusal : (ts rest : List T) → read_choice first1 p q ts ≡ Err rest → (u : List T) × (ts ≡ u ++ rest) × ChoiceFront F G u
  choice_refusal [] rest h = let s = S.refusal [] rest h in (s.0, s.1, inr s.2)
  choice_refusal (t ∷ r) rest h = elim (cases_if (first1 t) (p (t ∷ r)) (q (t ∷ r)) (Err rest) h) [
    | inl k ↦ let s = R.refusal (t ∷ r) rest k.1 in (s.0, s.1, inl s.2)
    | inr k ↦ let s = S.refusal (t ∷ r) rest k.1 in (s.0, s.1, inr s.2)
  ]

  take_l : (t : T) (u : List T) → first1 t ≡ true → read_choice first1 p q (t ∷ u) ≡ p (t ∷ u)
  take_l t u h = if_true (first1 t) (p (t ∷ u)) (q (t ∷ u)) h

  take_r : (t : T) (u : List T) → (first1 t ≡ true → ⊥) → read_choice first1 p q (t ∷ u) ≡ q (t ∷ u)
  take_r t u h = if_false (first1 t) (p (t ∷ u)) (q (t ∷ u)) h

  choice_complete : (a : A) (u rest : List T) → ChoiceSpells W V a u → d a ≤ b → NextNot (choice_cont a) rest → read_choice first1 p q (u ++ rest) ≡ Ok (a, rest)
  choice_complete a [] rest (inl h) le off = absurd (true≢false (sym (R.empty a h)))
  choice_complete a (t ∷ u) rest (inl h) le off = take_l t (u ++ rest) (R.starts t u (R.holds a (t ∷ u) h le)) ∙ R.complete a (t ∷ u) rest h le (off_less (λ t k. inl k) rest off)
  choice_complete a [] [] (inr h) le off = S.complete a [] [] h le tt
  choice_complete a [] (t ∷ r) (inr h) le off =
      take_r t r (λ k. off (inr (inr (S.empty a h, k)))) ∙ S.complete a [] (t ∷ r) h le (λ k. off (inr (inl k)))
  choice_complete a (t ∷ u) rest (inr h) le off = take_r t (u ++ rest) (λ k. apart t k (S.starts t u (S.holds a (t ∷ u) h le))) ∙ S.complete a (t ∷ u) rest h le (off_less (λ t k. inr (inl k)) rest off)

  choice_short : (v : List T) → remaining (read_choice first1 p q v) ≤ length v
  choice_short [] = S.reach [] [] S.nothing
  choice_short (t ∷ r) = by (first1 t)
    where
      by : (c : Bool) → remaining {A = A} (if c then p (t ∷ r) else q (t ∷ r)) ≤ length (t ∷ r)
      by true = R.reach [] (t ∷ r) R.nothing
      by false = S.reach [] (t ∷ r) S.nothing

  choice_reach : (u v : List T) → ChoiceFront F G u → remaining (read_choice first1 p q (u ++ v)) ≤ length v
  choice_reach [] v h = choice_short v
  choice_reach (t ∷ u) v (inl h) = le_trans (le_of_eq (ap remaining (take_l t (u ++ v) (R.starts t u h)))) (R.reach (t ∷ u) v h)
  choice_reach (t ∷ u) v (inr h) = le_trans (le_of_eq (ap remaining (take_r t (u ++ v) (λ k. apart t k (S.starts t u h))))) (S.reach (t ∷ u) v h)

  choice_starts : (t : T) (u : List T) → ChoiceFront F G (t ∷ u) → choice_first t ≡ true
  choice_starts t u (inl h) = or_left (first1 t) _ (R.starts t u h)
  choice_starts t u (inr h) = or_right (first1 t) _ (S.starts t u h)

  choice_holds : (a : A) (u : List T) → ChoiceSpells W V a u → d a ≤ b → ChoiceFront F G u
  choice_holds a u (inl h) le = inl (R.holds a u h le)
  choice_holds a u (inr h) le = inr (S.holds a u h le)

  choice_closed : (u v : List T) → ChoiceFront F G (u ++ v) → ChoiceFront F G u
  choice_closed u v (inl h) = inl (R.closed u v h)
  choice_closed u v (inr h) = inr (S.closed u v h)

  choice_empty : (a : A) → ChoiceSpells W V a [] → null2 ≡ true
  choice_empty a (inl h) = absurd (true≢false (sym (R.empty a h)))
  choice_empty a (inr h) = S.empty a h

  pub choice_reads : Reads (ChoiceSpells W V) (ChoiceFront F G) d b choice_first choice_cont null2 (read_choice first1 p q)
  choice_reads = record { sound = choice_sound; refusal = choice_refusal; complete = choice_complete; reach = choice_reach; starts = choice_starts; holds = choice_holds; closed = choice_closed; nothing = inl R.nothing; empty = choice_empty }

-- a map, whose value may be some levels deeper than the parts
module _ {T A B : Type 0} (f : A → B) {W : A → List T → Type 0} {F : List T → Type 0} {d : A → ℕ} (e : B → ℕ) {b : ℕ} (c : ℕ)
    {first : T → Bool} {goes_on : A → T → Type 0} {null : Bool} {p : List T → Result (A × List T) (List T)}
    (R : Reads W F d b first goes_on null p) (down : (a : A) → d a ≤ b → e (f a) ≤ c) (up : (a : A) → e (f a) ≤ c → d a ≤ b) where
  view_sound : (ts : List T) (x : B) (rest : List T) → read_view f p ts ≡ Ok (x, rest) → (u : List T) × (ts ≡ u ++ rest) × ViewSpells f W x u × (e x ≤ c)
  view_sound ts x rest h =
      let one = bind_ok (p ts) (λ a r. Ok (f a, r)) (x, rest) h in
      let s = R.sound ts one.0 one.1 one.2 in
      let same = ok_inj one.3 in
      let e0 : f one.0 ≡ x = ap (λ z. z.0) same in
      (s.0, s.1 ∙ ap (λ l. s.0 ++ l) (ap (λ z. z.1) same), (one.0, sym e0, s.2), subst (λ z. e z ≤ c) e0 (down one.0 s.3))

  view_refusal : (ts rest : List T) → read_view f p ts ≡ Err rest → (u : List T) × (ts ≡ u ++ rest) × F u
  view_refusal ts rest h = elim (bind_err (p ts) (λ a r. Ok (f a, r)) rest h) [ inl k ↦ R.refusal ts rest k | inr k ↦ ok_err k.3 ]

  view_same : (o : Result (A × List T) (List T)) → remaining {A = B} (and_then o (λ a r. Ok (f a, r))) ≡ remaining o
  view_same (Ok y) = refl
  view_same (Err y) = refl

  abbrev pub view_cont : B → T → Type 0
  view_cont x t = (a : A) × (x ≡ f a) × goes_on a t

  view_complete : (x : B) (u rest : List T) → ViewSpells f W x u → e x ≤ c → NextNot (view_cont x) rest → read_view f p (u ++ rest) ≡ Ok (x, rest)
  view_complete x u rest (a, e0, h) le off =
      ap (λ r. and_then r (λ a r. Ok (f a, r))) (R.complete a u rest h (up a (subst (λ z. e z ≤ c) e0 le)) (off_less (λ t k. (a, e0, k)) rest off)) ∙ ap (λ z. Ok (z, rest)) (sym e0)

  pub view_reads : Reads (ViewSpells f W) F e c first view_cont null (read_view f p)
  view_reads = record {
    sound = view_sound;
    refusal = view_refusal;
    complete = view_complete;
    reach = λ u v h. le_trans (le_of_eq (view_same (p (u ++ v)))) (R.reach u v h);
    starts = R.starts;
    holds = λ x u h le. R.holds h.0 u h.2 (up h.0 (subst (λ z. e z ≤ c) h.1 le));
    closed = R.closed;
    nothing = R.nothing;
    empty = λ x h. R.empty h.0 h.2;
  }

-- a node where no level is left
module _ {T B : Type 0} {W : B → List T → Type 0} (e : B → ℕ) {first : T → Bool} {goes_on : B → T → Type 0} {null : Bool} (deep : (x : B) (u : List T) → W x u → e x ≤ 0 → ⊥) (empty' : (x : B) → W x [] → null ≡ true) where
  pub no_node_reads : Reads W (λ u. u ≡ []) e 0 first goes_on null (λ ts. Err ts)
  no_node_reads = record {
    sound = λ ts x rest h. err_ok h;
    refusal = λ ts rest h. ([], err_inj h, refl);
    complete = λ x u rest h le off. absurd (deep x u h le);
    reach = λ u v h. rw h (le_refl _);
    starts = λ t u h. cons_nil h;
    holds = λ x u h le. absurd (deep x u h le);
    closed = λ u v h. (append_empty u v (sym h)).0;
    nothing = refl;
    empty = empty';
  }
