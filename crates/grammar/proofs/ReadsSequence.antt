-- One rule after another.
use Rattle.std.proofs.Common.{◌≡◌, ℕ, ◌≤◌, max, Bool, true, ◌&&◌, ◌||◌, List, [], ◌∷◌, ◌++◌, length, Result, Ok, Err, ◌⊎◌, inl, inr, refl, sym, ap, ◌∙◌, subst, append_assoc, append-nil, arith, le_refl, le_trans}
use Rattle.grammar.specs.Forms.{SequenceSpells, SequenceFront}
use Rattle.grammar.specs.FormReaders.{NextNot, remaining, Reads, and_then, read_sequence}
use Rattle.grammar.proofs.Lists.{ok_err, ok_inj, heads, bind_ok, bind_err, cut, append_empty, or_left, or_right, and_both, off_less}

module _ {T A B : Type 0} {W : A → List T → Type 0} {F : List T → Type 0} {d : A → ℕ} {V : B → List T → Type 0} {G : List T → Type 0} {e : B → ℕ} {b : ℕ}
    {first1 first2 : T → Bool} {cont1 : A → T → Type 0} {cont2 : B → T → Type 0} {null1 null2 : Bool} {p : List T → Result (A × List T) (List T)} {q : List T → Result (B × List T) (List T)}
    (R : Reads W F d b first1 cont1 null1 p) (S : Reads V G e b first2 cont2 null2 q) (apart : (a : A) (t : T) → cont1 a t → first2 t ≡ true → ⊥) where
  abbrev sequence_first : T → Bool
  sequence_first t = first1 t || (null1 && first2 t)

  abbrev pub sequence_cont : A × B → T → Type 0
  sequence_cont x t = cont2 x.1 t ⊎ ((null2 ≡ true) × cont1 x.0 t)

  -- what stands behind the first part does not go on with it
  off1 : (x : A × B) (w rest : List T) → V x.1 w → e x.1 ≤ b → NextNot (sequence_cont x) rest → NextNot (cont1 x.0) (w ++ rest)
  off1 x [] [] h le off = tt
  off1 x [] (t ∷ r) h le off = λ k. off (inr (S.empty x.1 h, k))
  off1 x (t ∷ w) rest h le off = λ k. apart x.0 t k (S.starts t w (S.holds x.1 (t ∷ w) h le))

  sequence_sound : (ts : List T) (x : A × B) (rest : List T) → read_sequence p q ts ≡ Ok (x, rest) → (u : List T) × (ts ≡ u ++ rest) × SequenceSpells W V x u × (max (d x.0) (e x.1) ≤ b)
  sequence_sound ts x rest h =
      let one = bind_ok (p ts) (λ a r. and_then (q r) (λ c r'. Ok ((a, c), r'))) (x, rest) h in
      let two = bind_ok (q one.1) (λ c r'. Ok ((one.0, c), r')) (x, rest) one.3 in
      let s1 = R.sound ts one.0 one.1 one.2 in
      let s2 = S.sound one.1 two.0 two.1 two.2 in
      let same = ok_inj two.3 in
      let e1 : one.0 ≡ x.0 = ap (λ z. z.0.0) same in
      let e2 : two.0 ≡ x.1 = ap (λ z. z.0.1) same in
      let e3 : two.1 ≡ rest = ap (λ z. z.1) same in
      let whole : ts ≡ (s1.0 ++ s2.0) ++ rest = s1.1 ∙ ap (λ l. s1.0 ++ l) (s2.1 ∙ ap (λ l. s2.0 ++ l) e3) ∙ sym (append_assoc s1.0 s2.0 rest) in
      (s1.0 ++ s2.0, whole, (s1.0, s2.0, refl, subst (λ a. W a s1.0) e1 s1.2, subst (λ a. V a s2.0) e2 s2.2), omega (arith, s1.3, s2.3, ap d e1, ap e e2))

  sequence_refusal : (ts rest : List T) → read_sequence p q ts ≡ Err rest → (u : List T) × (ts ≡ u ++ rest) × SequenceFront W d b F G u
  sequence_refusal ts rest h = elim (bind_err (p ts) (λ a r. and_then (q r) (λ c r'. Ok ((a, c), r'))) rest h) [
    | inl k ↦ let s = R.refusal ts rest k in (s.0, s.1, inl s.2)
    | inr one ↦
        let s1 = R.sound ts one.0 one.1 one.2 in
        elim (bind_err (q one.1) (λ c r'. Ok ((one.0, c), r')) rest one.3) [
          | inl k ↦ let s2 = S.refusal one.1 rest k in
              (s1.0 ++ s2.0, s1.1 ∙ ap (λ l. s1.0 ++ l) s2.1 ∙ sym (append_assoc s1.0 s2.0 rest), inr (one.0, s1.0, s2.0, refl, s1.2, s1.3, s2.2))
          | inr two ↦ ok_err two.3
        ]
  ]

  sequence_complete : (x : A × B) (u rest : List T) → SequenceSpells W V x u → max (d x.0) (e x.1) ≤ b → NextNot (sequence_cont x) rest → read_sequence p q (u ++ rest) ≡ Ok (x, rest)
  sequence_complete x u rest h le off =
      let v = h.0 in
      let w = h.1 in
      let le1 : d x.0 ≤ b = omega (arith, le) in
      let le2 : e x.1 ≤ b = omega (arith, le) in
      let again : u ++ rest ≡ v ++ (w ++ rest) = ap (λ l. l ++ rest) h.2 ∙ append_assoc v w rest in
      let e1 : p (u ++ rest) ≡ Ok (x.0, w ++ rest) = ap p again ∙ R.complete x.0 v (w ++ rest) h.3 le1 (off1 x w rest h.4 le2 off) in
      let e2 : q (w ++ rest) ≡ Ok (x.1, rest) = S.complete x.1 w rest h.4 le2 (off_less (λ t k. inl k) rest off) in
      ap (λ r. and_then r (λ a r. and_then (q r) (λ c r'. Ok ((a, c), r')))) e1 ∙ ap (λ r. and_then r (λ c r'. Ok ((x.0, c), r'))) e2

  -- the second reader moves on only
  shrink : (a : A) (o : Result (B × List T) (List T)) → remaining {A = A × B} (and_then o (λ c r'. Ok ((a, c), r'))) ≡ remaining o
  shrink a (Ok y) = refl
  shrink a (Err y) = refl

  shrinks : (a : A) (r : List T) → remaining {A = A × B} (and_then (q r) (λ c r'. Ok ((a, c), r'))) ≡ remaining (q r)
  shrinks a r = shrink a (q r)

  after1 : (o : Result (A × List T) (List T)) → remaining {A = A × B} (and_then o (λ a r. and_then (q r) (λ c r'. Ok ((a, c), r')))) ≤ remaining o
  after1 (Ok y) = le_trans (le_of (shrinks y.0 y.1)) (S.reach [] y.1 S.nothing)
    where
      le_of : {m n : ℕ} → m ≡ n → m ≤ n
      le_of {m} h = subst (λ k. m ≤ k) h (le_refl m)
  after1 (Err y) = le_refl (length y)

  sequence_reach : (u v : List T) → SequenceFront W d b F G u → remaining (read_sequence p q (u ++ v)) ≤ length v
  sequence_reach u v (inl h) = le_trans (after1 (p (u ++ v))) (R.reach u v h)
  sequence_reach u v (inr (a, x, [], e1, h, le, g)) =
      let whole : F u = subst F (sym (e1 ∙ append-nil x)) (R.holds a x h le) in
      le_trans (after1 (p (u ++ v))) (R.reach u v whole)
  sequence_reach u v (inr (a, x, t ∷ y, e1, h, le, g)) =
      let again : u ++ v ≡ x ++ ((t ∷ y) ++ v) = ap (λ l. l ++ v) e1 ∙ append_assoc x (t ∷ y) v in
      let off : NextNot (cont1 a) ((t ∷ y) ++ v) = λ k. apart a t k (S.starts t y g) in
      let e2 : p (u ++ v) ≡ Ok (a, (t ∷ y) ++ v) = ap p again ∙ R.complete a x ((t ∷ y) ++ v) h le off in
      let e3 : remaining (read_sequence p q (u ++ v)) ≡ remaining (q ((t ∷ y) ++ v)) = ap (λ r. remaining {A = A × B} (and_then r (λ a r. and_then (q r) (λ c r'. Ok ((a, c), r'))))) e2 ∙ shrinks a ((t ∷ y) ++ v) in
      subst (λ n. n ≤ length v) (sym e3) (S.reach (t ∷ y) v g)

  sequence_starts : (t : T) (u : List T) → SequenceFront W d b F G (t ∷ u) → sequence_first t ≡ true
  sequence_starts t u (inl h) = or_left (first1 t) _ (R.starts t u h)
  sequence_starts t u (inr (a, [], y, e1, h, le, g)) = or_right (first1 t) _ (and_both null1 _ (R.empty a h) (S.starts t u (subst G (sym e1) g)))
  sequence_starts t u (inr (a, s ∷ x, y, e1, h, le, g)) = or_left (first1 t) _ (subst (λ z. first1 z ≡ true) (sym (heads e1)) (R.starts s x (R.holds a (s ∷ x) h le)))

  sequence_closed : (u v : List T) → SequenceFront W d b F G (u ++ v) → SequenceFront W d b F G u
  sequence_closed u v (inl h) = inl (R.closed u v h)
  sequence_closed u v (inr (a, x, y, e1, h, le, g)) = elim (cut u v x y e1) [
    | inl m ↦ inr (a, x, m.0, m.1, h, le, S.closed m.0 v (subst G m.2 g))
    | inr m ↦ inl (R.closed u m.0 (subst F m.1 (R.holds a x h le)))
  ]

  sequence_empty : (x : A × B) → SequenceSpells W V x [] → (null1 && null2) ≡ true
  sequence_empty x (v, w, e1, h, k) =
      let none = append_empty v w e1 in
      and_both null1 null2 (R.empty x.0 (subst (W x.0) none.0 h)) (S.empty x.1 (subst (V x.1) none.1 k))

  pub sequence_reads : Reads (SequenceSpells W V) (SequenceFront W d b F G) (λ x. max (d x.0) (e x.1)) b sequence_first sequence_cont (null1 && null2) (read_sequence p q)
  sequence_reads = record {
    sound = sequence_sound;
    refusal = sequence_refusal;
    complete = sequence_complete;
    reach = sequence_reach;
    starts = sequence_starts;
    holds = λ x u h le. inr (x.0, h.0, h.1, h.2, h.3, omega (arith, le), S.holds x.1 h.1 h.4 (omega (arith, le)));
    closed = sequence_closed;
    nothing = inl R.nothing;
    empty = sequence_empty;
  }
