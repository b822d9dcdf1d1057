-- One rule after another, which hangs on what the first spells.
use Rattle.std.proofs.Common.{◌≡◌, ℕ, ◌≤◌, max, Bool, true, ◌&&◌, ◌||◌, List, [], ◌∷◌, ◌++◌, length, Result, Ok, Err, inl, inr, refl, sym, ap, ◌∙◌, subst, append_assoc, append-nil, arith, le_refl, le_trans}
use Rattle.grammar.specs.Forms.{BindSpells, BindFront}
use Rattle.grammar.specs.FormReaders.{NextNotIn, By, Apart, remaining, Reads, and_then, read_bind}
use Rattle.grammar.proofs.Lists.{ok_err, ok_inj, heads, bind_ok, bind_err, cut, append_empty, or_left, or_right, and_both}

module _ {T A B : Type 0} {W : A → List T → Type 0} {F : List T → Type 0} {d : A → ℕ} {V : A → B → List T → Type 0} {G : A → List T → Type 0} {e : B → ℕ} {b : ℕ}
    {first1 cont1 first2 cont2 : T → Bool} {null1 null2 : Bool} {p : List T → Result (A × List T) (List T)} {q : A → List T → Result (B × List T) (List T)}
    (R : Reads W F d b first1 (By cont1) null1 p) (S : (a : A) → Reads (V a) (G a) e b first2 (By cont2) null2 (q a)) (apart : Apart cont1 first2) where
  abbrev bind_first : T → Bool
  bind_first t = first1 t || (null1 && first2 t)

  abbrev bind_cont : T → Bool
  bind_cont t = cont2 t || (null2 && cont1 t)

  -- what stands behind the first part does not go on with it
  off1 : (a : A) (c : B) (w rest : List T) → V a c w → e c ≤ b → NextNotIn bind_cont rest → NextNotIn cont1 (w ++ rest)
  off1 a c [] [] h le off = tt
  off1 a c [] (t ∷ r) h le off = λ k. off (or_right (cont2 t) _ (and_both null2 _ ((S a).empty c h) k))
  off1 a c (t ∷ w) rest h le off = λ k. apart t k ((S a).starts t w ((S a).holds c (t ∷ w) h le))

  off2 : (rest : List T) → NextNotIn bind_cont rest → NextNotIn cont2 rest
  off2 [] off = tt
  off2 (t ∷ r) off = λ k. off (or_left (cont2 t) _ k)

  bind_sound : (ts : List T) (x : A × B) (rest : List T) → read_bind p q ts ≡ Ok (x, rest) → (u : List T) × (ts ≡ u ++ rest) × BindSpells W V x u × (max (d x.0) (e x.1) ≤ b)
  bind_sound ts x rest h =
      let one = bind_ok (p ts) (λ a r. and_then (q a r) (λ c r'. Ok ((a, c), r'))) (x, rest) h in
      let two = bind_ok (q one.0 one.1) (λ c r'. Ok ((one.0, c), r')) (x, rest) one.3 in
      let s1 = R.sound ts one.0 one.1 one.2 in
      let s2 = (S one.0).sound one.1 two.0 two.1 two.2 in
      let same = ok_inj two.3 in
      let e1 : one.0 ≡ x.0 = ap (λ z. z.0.0) same in
      let e2 : two.0 ≡ x.1 = ap (λ z. z.0.1) same in
      let e3 : two.1 ≡ rest = ap (λ z. z.1) same in
      let whole : ts ≡ (s1.0 ++ s2.0) ++ rest = s1.1 ∙ ap (λ l. s1.0 ++ l) (s2.1 ∙ ap (λ l. s2.0 ++ l) e3) ∙ sym (append_assoc s1.0 s2.0 rest) in
      (s1.0 ++ s2.0, whole, (s1.0, s2.0, refl, subst (λ a. W a s1.0) e1 s1.2, subst (λ z. V x.0 z s2.0) e2 (subst (λ z. V z two.0 s2.0) e1 s2.2)), omega (arith, s1.3, s2.3, ap d e1, ap e e2))

  bind_refusal : (ts rest : List T) → read_bind p q ts ≡ Err rest → (u : List T) × (ts ≡ u ++ rest) × BindFront W d b F G u
  bind_refusal ts rest h = elim (bind_err (p ts) (λ a r. and_then (q a r) (λ c r'. Ok ((a, c), r'))) rest h) [
    | inl k ↦ let s = R.refusal ts rest k in (s.0, s.1, inl s.2)
    | inr one ↦
        let s1 = R.sound ts one.0 one.1 one.2 in
        elim (bind_err (q one.0 one.1) (λ c r'. Ok ((one.0, c), r')) rest one.3) [
          | inl k ↦ let s2 = (S one.0).refusal one.1 rest k in
              (s1.0 ++ s2.0, s1.1 ∙ ap (λ l. s1.0 ++ l) s2.1 ∙ sym (append_assoc s1.0 s2.0 rest), inr (one.0, s1.0, s2.0, refl, s1.2, s1.3, s2.2))
          | inr two ↦ ok_err two.3
        ]
  ]

  bind_complete : (x : A × B) (u rest : List T) → BindSpells W V x u → max (d x.0) (e x.1) ≤ b → NextNotIn bind_cont rest → read_bind p q (u ++ rest) ≡ Ok (x, rest)
  bind_complete x u rest h le off =
      let v = h.0 in
      let w = h.1 in
      let le1 : d x.0 ≤ b = omega (arith, le) in
      let le2 : e x.1 ≤ b = omega (arith, le) in
      let again : u ++ rest ≡ v ++ (w ++ rest) = ap (λ l. l ++ rest) h.2 ∙ append_assoc v w rest in
      let e1 : p (u ++ rest) ≡ Ok (x.0, w ++ rest) = ap p again ∙ R.complete x.0 v (w ++ rest) h.3 le1 (off1 x.0 x.1 w rest h.4 le2 off) in
      let e2 : q x.0 (w ++ rest) ≡ Ok (x.1, rest) = (S x.0).complete x.1 w rest h.4 le2 (off2 rest off) in
      ap (λ r. and_then r (λ a r. and_then (q a r) (λ c r'. Ok ((a, c), r')))) e1 ∙ ap (λ r. and_then r (λ c r'. Ok ((x.0, c), r'))) e2

  -- the second reader moves on only
  shrink : (a : A) (o : Result (B × List T) (List T)) → remaining {A = A × B} (and_then o (λ c r'. Ok ((a, c), r'))) ≡ remaining o
  shrink a (Ok y) = refl
  shrink a (Err y) = refl

  shrinks : (a : A) (r : List T) → remaining {A = A × B} (and_then (q a r) (λ c r'. Ok ((a, c), r'))) ≡ remaining (q a r)
  shrinks a r = shrink a (q a r)

  after1 : (o : Result (A × List T) (List T)) → remaining {A = A × B} (and_then o (λ a r. and_then (q a r) (λ c r'. Ok ((a, c), r')))) ≤ remaining o
  after1 (Ok y) = le_trans (le_of (shrinks y.0 y.1)) ((S y.0).reach [] y.1 (S y.0).nothing)
    where
      le_of : {m n : ℕ} → m ≡ n → m ≤ n
      le_of {m} h = subst (λ k. m ≤ k) h (le_refl m)
  after1 (Err y) = le_refl (length y)

  bind_reach : (u v : List T) → BindFront W d b F G u → remaining (read_bind p q (u ++ v)) ≤ length v
  bind_reach u v (inl h) = le_trans (after1 (p (u ++ v))) (R.reach u v h)
  bind_reach u v (inr (a, x, [], e1, h, le, g)) =
      let whole : F u = subst F (sym (e1 ∙ append-nil x)) (R.holds a x h le) in
      le_trans (after1 (p (u ++ v))) (R.reach u v whole)
  bind_reach u v (inr (a, x, t ∷ y, e1, h, le, g)) =
      let again : u ++ v ≡ x ++ ((t ∷ y) ++ v) = ap (λ l. l ++ v) e1 ∙ append_assoc x (t ∷ y) v in
      let off : NextNotIn cont1 ((t ∷ y) ++ v) = λ k. apart t k ((S a).starts t y g) in
      let e2 : p (u ++ v) ≡ Ok (a, (t ∷ y) ++ v) = ap p again ∙ R.complete a x ((t ∷ y) ++ v) h le off in
      let e3 : remaining (read_bind p q (u ++ v)) ≡ remaining (q a ((t ∷ y) ++ v)) = ap (λ r. remaining {A = A × B} (and_then r (λ a r. and_then (q a r) (λ c r'. Ok ((a, c), r'))))) e2 ∙ shrinks a ((t ∷ y) ++ v) in
      subst (λ n. n ≤ length v) (sym e3) ((S a).reach (t ∷ y) v g)

  bind_starts : (t : T) (u : List T) → BindFront W d b F G (t ∷ u) → bind_first t ≡ true
  bind_starts t u (inl h) = or_left (first1 t) _ (R.starts t u h)
  bind_starts t u (inr (a, [], y, e1, h, le, g)) = or_right (first1 t) _ (and_both null1 _ (R.empty a h) ((S a).starts t u (subst (G a) (sym e1) g)))
  bind_starts t u (inr (a, s ∷ x, y, e1, h, le, g)) = or_left (first1 t) _ (subst (λ z. first1 z ≡ true) (sym (heads e1)) (R.starts s x (R.holds a (s ∷ x) h le)))

  bind_closed : (u v : List T) → BindFront W d b F G (u ++ v) → BindFront W d b F G u
  bind_closed u v (inl h) = inl (R.closed u v h)
  bind_closed u v (inr (a, x, y, e1, h, le, g)) = elim (cut u v x y e1) [
    | inl m ↦ inr (a, x, m.0, m.1, h, le, (S a).closed m.0 v (subst (G a) m.2 g))
    | inr m ↦ inl (R.closed u m.0 (subst F m.1 (R.holds a x h le)))
  ]

  bind_empty : (x : A × B) → BindSpells W V x [] → (null1 && null2) ≡ true
  bind_empty x (v, w, e1, h, k) =
      let none = append_empty v w e1 in
      and_both null1 null2 (R.empty x.0 (subst (W x.0) none.0 h)) ((S x.0).empty x.1 (subst (V x.0 x.1) none.1 k))

  pub bind_reads : Reads (BindSpells W V) (BindFront W d b F G) (λ x. max (d x.0) (e x.1)) b bind_first (By bind_cont) (null1 && null2) (read_bind p q)
  bind_reads = record {
    sound = bind_sound;
    refusal = bind_refusal;
    complete = bind_complete;
    reach = bind_reach;
    starts = bind_starts;
    holds = λ x u h le. inr (x.0, h.0, h.1, h.2, h.3, omega (arith, le), (S x.0).holds x.1 h.1 h.4 (omega (arith, le)));
    closed = bind_closed;
    nothing = inl R.nothing;
    empty = bind_empty;
  }
