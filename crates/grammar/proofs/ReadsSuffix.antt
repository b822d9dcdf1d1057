-- A rule with at most one part behind it.
use Rattle.std.proofs.Common.{◌≡◌, ℕ, ◌+◌, ◌≤◌, max, Bool, true, false, ◌&&◌, List, [], ◌∷◌, ◌++◌, length, Result, Ok, Err, ◌⊎◌, inl, inr, refl, sym, ap, ◌∙◌, subst, append_assoc, append-nil, arith, le_refl, le_trans, true≢false}
use Rattle.std.specs.Prelude.{if◌then◌else◌}
use Rattle.grammar.specs.Forms.{SuffixSpells, BehindSuffix}
use Rattle.grammar.specs.FormReaders.{NextNot, remaining, Reads, and_then, read_one_suffix, read_suffix}
use Rattle.grammar.proofs.Lists.{ok_err, ok_inj, heads, bind_ok, bind_err, cut, append_empty, and_split, and_both, cases_if, if_true, if_false, le_of_eq, off_less}

module _ {T A S : Type 0} {W : A → List T → Type 0} {F : List T → Type 0} {d : A → ℕ} {V : S → List T → Type 0} {G : List T → Type 0} {e : S → ℕ} {b : ℕ} (B levels : ℕ) (lv : B ≡ levels + b)
    {first1 first2 : T → Bool} {cont1 : A → T → Type 0} {cont2 : S → T → Type 0} {p : List T → Result (A × List T) (List T)} {q : List T → Result (S × List T) (List T)}
    (f : A → S → A) (ok : A → Bool) (fits : A → Bool)
    (R : Reads W F d B first1 cont1 false p) (Q : Reads V G e b first2 cont2 false q)
    (stops : (l : A) (u : List T) (t : T) (r : List T) → W l u → d l ≤ B → ok l ≡ true → first2 t ≡ true → p (u ++ t ∷ r) ≡ Ok (l, t ∷ r))
    (fits_is : (l : A) → fits l ≡ true → (ok l ≡ true) × (d l ≤ b)) (fits_if : (l : A) → ok l ≡ true → d l ≤ b → fits l ≡ true)
    (over : (l : A) (s : S) (w : List T) → ok l ≡ true → V s w → d (f l s) ≡ levels + max (d l) (e s)) where
  abbrev pub suffix_cont : A → T → Type 0
  suffix_cont x t = cont1 x t ⊎ (((l : A) × (s : S) × (x ≡ f l s) × (ok l ≡ true) × cont2 s t) ⊎ ((ok x ≡ true) × (first2 t ≡ true)))

  abbrev one : A → List T → Result (A × List T) (List T)
  one = read_one_suffix first2 fits f q

  abbrev read : List T → Result (A × List T) (List T)
  read = read_suffix first2 fits f p q

  abbrev Whole : A → List T → Type 0
  Whole = SuffixSpells W ok V f

  abbrev pub Front : List T → Type 0
  Front u = F u ⊎ BehindSuffix W ok d b G u

  abbrev Got : List T → A → List T → Type 0
  Got ts x rest = (u : List T) × (ts ≡ u ++ rest) × Whole x u × (d x ≤ B)

  one_sound : (l : A) (u ts : List T) (x : A) (rest : List T) → W l u → d l ≤ B → one l ts ≡ Ok (x, rest) → Got (u ++ ts) x rest
  one_sound l u [] x rest h le k =
      let same = ok_inj k in
      let e0 : l ≡ x = ap (λ z. z.0) same in
      (u, ap (λ z. u ++ z.1) same, inl (subst (λ z. W z u) e0 h), subst (λ z. d z ≤ B) e0 le)
  one_sound l u (t ∷ r) x rest h le k =
      elim (cases_if (first2 t && fits l) (and_then (q (t ∷ r)) (λ s after. Ok (f l s, after))) (Ok (l, t ∷ r)) (Ok (x, rest)) k) [
        | inl j ↦
            let two = bind_ok (q (t ∷ r)) (λ s after. Ok (f l s, after)) (x, rest) j.1 in
            let g = Q.sound (t ∷ r) two.0 two.1 two.2 in
            let low = fits_is l ((and_split (first2 t) (fits l) j.0).1) in
            let same = ok_inj two.3 in
            let e0 : f l two.0 ≡ x = ap (λ z. z.0) same in
            let deep = over l two.0 g.0 low.0 g.2 in (
              u ++ g.0,
              ap (λ z. u ++ z) (g.1 ∙ ap (λ z. g.0 ++ z.1) same) ∙ sym (append_assoc u g.0 rest),
              inr (l, two.0, u, g.0, sym e0, refl, low.0, h, g.2),
              subst (λ z. d z ≤ B) e0 (omega (arith, deep, low.1, g.3)),
            )
        | inr j ↦
            let same = ok_inj j.1 in
            let e0 : l ≡ x = ap (λ z. z.0) same in
            (u, ap (λ z. u ++ z.1) same, inl (subst (λ z. W z u) e0 h), subst (λ z. d z ≤ B) e0 le)
      ]

  suffix_sound : (ts : List T) (x : A) (rest : List T) → read ts ≡ Ok (x, rest) → Got ts x rest
  suffix_sound ts x rest h =
      let two = bind_ok (p ts) one (x, rest) h in
      let s = R.sound ts two.0 two.1 two.2 in
      subst (λ z. Got z x rest) (sym s.1) (one_sound two.0 s.0 two.1 x rest s.2 s.3 two.3)

  one_refusal : (l : A) (u ts : List T) (rest : List T) → W l u → one l ts ≡ Err rest → (w : List T) × (u ++ ts ≡ w ++ rest) × Front w
  one_refusal l u [] rest h k = ok_err k
  one_refusal l u (t ∷ r) rest h k =
      elim (cases_if (first2 t && fits l) (and_then (q (t ∷ r)) (λ s after. Ok (f l s, after))) (Ok (l, t ∷ r)) (Err rest) k) [
        | inl j ↦
            let low = fits_is l ((and_split (first2 t) (fits l) j.0).1) in
            elim (bind_err (q (t ∷ r)) (λ s after. Ok (f l s, after)) rest j.1) [
              | inl i ↦ let g = Q.refusal (t ∷ r) rest i in
                  (u ++ g.0, ap (λ z. u ++ z) g.1 ∙ sym (append_assoc u g.0 rest), inr (l, u, g.0, refl, low.0, h, low.1, g.2))
              | inr two ↦ ok_err two.3
            ]
        | inr j ↦ ok_err j.1
      ]

  suffix_refusal : (ts rest : List T) → read ts ≡ Err rest → (u : List T) × (ts ≡ u ++ rest) × Front u
  suffix_refusal ts rest h = elim (bind_err (p ts) one rest h) [
    | inl k ↦ let s = R.refusal ts rest k in (s.0, s.1, inl s.2)
    | inr two ↦
        let s = R.sound ts two.0 two.1 two.2 in
        let g = one_refusal two.0 s.0 two.1 rest s.2 two.3 in
        (g.0, s.1 ∙ g.1, g.2)
  ]

  one_end : (x : A) (rest : List T) → NextNot (suffix_cont x) rest → one x rest ≡ Ok (x, rest)
  one_end x [] off = refl
  one_end x (t ∷ r) off = if_false (first2 t && fits x) (and_then (q (t ∷ r)) (λ s after. Ok (f x s, after))) (Ok (x, t ∷ r))
      (λ k. let two = and_split (first2 t) (fits x) k in off (inr (inr ((fits_is x two.1).0, two.0))))

  begin : (l : A) (u : List T) (t : T) (w v : List T) → W l u → ok l ≡ true → d l ≤ b → first2 t ≡ true → read (u ++ ((t ∷ w) ++ v)) ≡ and_then (q ((t ∷ w) ++ v)) (λ s after. Ok (f l s, after))
  begin l u t w v h k le here =
      ap (λ r. and_then r one) (stops l u t (w ++ v) h (omega (arith, le)) k here)
      ∙ if_true (first2 t && fits l) (and_then (q (t ∷ (w ++ v))) (λ s after. Ok (f l s, after))) (Ok (l, t ∷ (w ++ v))) (and_both (first2 t) (fits l) here (fits_if l k le))

  suffix_complete : (x : A) (u rest : List T) → Whole x u → d x ≤ B → NextNot (suffix_cont x) rest → read (u ++ rest) ≡ Ok (x, rest)
  suffix_complete x u rest (inl h) le off = ap (λ r. and_then r one) (R.complete x u rest h le (off_less (λ t k. inl k) rest off)) ∙ one_end x rest off
  suffix_complete x u rest (inr (l, s, v, [], e1, e2, k, h, g)) le off = absurd (true≢false (sym (Q.empty s g)))
  suffix_complete x u rest (inr (l, s, v, t ∷ w, e1, e2, k, h, g)) le off =
      let deep : d x ≡ levels + max (d l) (e s) = ap d e1 ∙ over l s (t ∷ w) k g in
      let le2 : e s ≤ b = omega (arith, deep, le) in
      let again : u ++ rest ≡ v ++ ((t ∷ w) ++ rest) = ap (λ z. z ++ rest) e2 ∙ append_assoc v (t ∷ w) rest in
      ap read again ∙ begin l v t w rest h k (omega (arith, deep, le)) (Q.starts t w (Q.holds s (t ∷ w) g le2))
      ∙ ap (λ r. and_then r (λ s after. Ok (f l s, after))) (Q.complete s (t ∷ w) rest g le2 (off_less (λ t i. inr (inl (l, s, e1, k, i))) rest off)) ∙ ap (λ z. Ok (z, rest)) (sym e1)

  then_same : (l : A) (o : Result (S × List T) (List T)) → remaining (and_then o (λ s after. Ok (f l s, after))) ≡ remaining o
  then_same l (Ok y) = refl
  then_same l (Err y) = refl

  one_short : (l : A) (ts : List T) → remaining (one l ts) ≤ length ts
  one_short l [] = le_refl _
  one_short l (t ∷ r) = by (first2 t && fits l)
    where
      by : (c : Bool) → remaining (if c then and_then (q (t ∷ r)) (λ s after. Ok (f l s, after)) else Ok (l, t ∷ r)) ≤ length (t ∷ r)
      by true = le_trans (le_of_eq (then_same l (q (t ∷ r)))) (Q.reach [] (t ∷ r) Q.nothing)
      by false = le_refl _

  to_one : (o : Result (A × List T) (List T)) → remaining (and_then o one) ≤ remaining o
  to_one (Ok y) = one_short y.0 y.1
  to_one (Err y) = le_refl _

  suffix_reach : (u v : List T) → Front u → remaining (read (u ++ v)) ≤ length v
  suffix_reach u v (inl h) = le_trans (to_one (p (u ++ v))) (R.reach u v h)
  suffix_reach u v (inr (l, x, [], e1, k, h, le, g)) =
      le_trans (to_one (p (u ++ v))) (R.reach u v (subst F (sym (e1 ∙ append-nil x)) (R.holds l x h (omega (arith, le)))))
  suffix_reach u v (inr (l, x, t ∷ w, e1, k, h, le, g)) =
      let again : u ++ v ≡ x ++ ((t ∷ w) ++ v) = ap (λ z. z ++ v) e1 ∙ append_assoc x (t ∷ w) v in
      le_trans (le_of_eq (ap remaining (ap read again ∙ begin l x t w v h k le (Q.starts t w g)) ∙ then_same l (q ((t ∷ w) ++ v)))) (Q.reach (t ∷ w) v g)

  suffix_starts : (t : T) (u : List T) → Front (t ∷ u) → first1 t ≡ true
  suffix_starts t u (inl h) = R.starts t u h
  suffix_starts t u (inr (l, [], w, e1, k, h, le, g)) = absurd (true≢false (sym (R.empty l h)))
  suffix_starts t u (inr (l, t' ∷ x, w, e1, k, h, le, g)) = subst (λ z. first1 z ≡ true) (sym (heads e1)) (R.starts t' x (R.holds l (t' ∷ x) h (omega (arith, le))))

  suffix_holds : (x : A) (u : List T) → Whole x u → d x ≤ B → Front u
  suffix_holds x u (inl h) le = inl (R.holds x u h le)
  suffix_holds x u (inr (l, s, v, w, e1, e2, k, h, g)) le =
      let deep : d x ≡ levels + max (d l) (e s) = ap d e1 ∙ over l s w k g in
      inr (l, v, w, e2, k, h, omega (arith, deep, le), Q.holds s w g (omega (arith, deep, le)))

  suffix_closed : (u v : List T) → Front (u ++ v) → Front u
  suffix_closed u v (inl h) = inl (R.closed u v h)
  suffix_closed u v (inr (l, x, w, e1, k, h, le, g)) = elim (cut u v x w e1) [
    | inl i ↦ inr (l, x, i.0, i.1, k, h, le, Q.closed i.0 v (subst G i.2 g))
    | inr i ↦ inl (R.closed u i.0 (subst F i.1 (R.holds l x h (omega (arith, le)))))
  ]

  suffix_empty : (x : A) → Whole x [] → false ≡ true
  suffix_empty x (inl h) = R.empty x h
  suffix_empty x (inr (l, s, v, w, e1, e2, k, h, g)) = R.empty l (subst (W l) ((append_empty v w e2).0) h)

  pub suffix_reads : Reads (SuffixSpells W ok V f) Front d B first1 suffix_cont false (read_suffix first2 fits f p q)
  suffix_reads = record { sound = suffix_sound; refusal = suffix_refusal; complete = suffix_complete; reach = suffix_reach; starts = suffix_starts; holds = suffix_holds; closed = suffix_closed; nothing = inl R.nothing; empty = suffix_empty }
