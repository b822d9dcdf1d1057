-- A rule with parts behind it.
use Rattle.std.proofs.Common.{◌≡◌, ℕ, zero, suc, ◌+◌, ◌≤◌, max, Bool, true, false, ◌&&◌, List, [], ◌∷◌, ◌++◌, length, Result, Ok, Err, ◌⊎◌, inl, inr, refl, sym, ap, ◌∙◌, subst, append_assoc, append-nil, length-append, arith, le_refl, le_trans, true≢false}
use Rattle.std.specs.Prelude.{if◌then◌else◌}
use Rattle.grammar.specs.Forms.{ChainSpells, SuffixesSpell, BehindSuffixes}
use Rattle.grammar.specs.FormReaders.{NextNot, NextNotIn, remaining, Reads, and_then, read_more_suffixes, read_suffixes}
use Rattle.grammar.proofs.Lists.{ok_err, ok_inj, heads, bind_ok, bind_err, cut, append_empty, and_split, and_both, cases_if, if_true, if_false, le_of_eq, off_less}

module _ {T A S : Type 0} {W : A → List T → Type 0} {F : List T → Type 0} {d : A → ℕ} {V : S → List T → Type 0} {G : List T → Type 0} {e : S → ℕ} {b : ℕ} (B levels : ℕ) (lv : B ≡ levels + b)
    {first1 first2 : T → Bool} {cont1 : A → T → Type 0} {cont2 : S → T → Type 0} {p : List T → Result (A × List T) (List T)} {q : List T → Result (S × List T) (List T)}
    (f : A → S → A) (fits : A → Bool)
    (R : Reads W F d B first1 cont1 false p) (Q : Reads V G e b first2 cont2 false q)
    (apart1 : (l : A) (t : T) → cont1 l t → first2 t ≡ true → ⊥) (apart2 : (s : S) (t : T) → cont2 s t → first2 t ≡ true → ⊥)
    (fits_is : (l : A) → fits l ≡ true → d l ≤ b) (fits_if : (l : A) → d l ≤ b → fits l ≡ true)
    (over : (l : A) (s : S) → d (f l s) ≡ levels + max (d l) (e s)) where
  abbrev pub suffixes_cont : A → T → Type 0
  suffixes_cont x t = cont1 x t ⊎ (((l : A) × (s : S) × (x ≡ f l s) × cont2 s t) ⊎ (first2 t ≡ true))

  -- what goes on with the rule, or with the last part behind it
  abbrev behind_last : A → T → Type 0
  behind_last x t = cont1 x t ⊎ ((l : A) × (s : S) × (x ≡ f l s) × cont2 s t)

  apart_last : (x : A) (t : T) → behind_last x t → first2 t ≡ true → ⊥
  apart_last x t (inl h) here = apart1 x t h here
  apart_last x t (inr (l, s, e1, h)) here = apart2 s t h here

  abbrev loop : ℕ → A → List T → Result (A × List T) (List T)
  loop = read_more_suffixes first2 fits f q

  abbrev read : List T → Result (A × List T) (List T)
  read = read_suffixes first2 fits f p q

  abbrev Whole : A → List T → Type 0
  Whole = SuffixesSpell W V f

  abbrev pub Front : List T → Type 0
  Front u = F u ⊎ BehindSuffixes W V f d b G u

  -- what the loop gets behind a whole that was read
  abbrev Got : List T → List T → A → List T → Type 0
  Got u0 ts x rest = (w : List T) × (ts ≡ w ++ rest) × Whole x (u0 ++ w) × (d x ≤ B)

  stop : (u0 ts : List T) (l x : A) (rest : List T) → Whole l u0 → d l ≤ B → (l ≡ x) → (ts ≡ rest) → Got u0 ts x rest
  stop u0 ts l x rest h le e1 e2 = ([], e2, subst (λ z. Whole z (u0 ++ [])) e1 (subst (Whole l) (sym (append-nil u0)) h), subst (λ z. d z ≤ B) e1 le)

  loop_sound : (n : ℕ) (l : A) (u0 ts : List T) (x : A) (rest : List T) → Whole l u0 → d l ≤ B → loop n l ts ≡ Ok (x, rest) → Got u0 ts x rest
  loop_sound zero l u0 ts x rest h le k = stop u0 ts l x rest h le (ap (λ z. z.0) (ok_inj k)) (ap (λ z. z.1) (ok_inj k))
  loop_sound (suc n) l u0 [] x rest h le k = stop u0 [] l x rest h le (ap (λ z. z.0) (ok_inj k)) (ap (λ z. z.1) (ok_inj k))
  loop_sound (suc n) l u0 (t ∷ r) x rest h le k =
      elim (cases_if (first2 t && fits l) (and_then (q (t ∷ r)) (λ s after. loop n (f l s) after)) (Ok (l, t ∷ r)) (Ok (x, rest)) k) [
        | inl j ↦
            let one = bind_ok (q (t ∷ r)) (λ s after. loop n (f l s) after) (x, rest) j.1 in
            let g = Q.sound (t ∷ r) one.0 one.1 one.2 in
            let low = fits_is l ((and_split (first2 t) (fits l) j.0).1) in
            let more : Whole (f l one.0) (u0 ++ g.0) = (suc h.0, (l, one.0, u0, g.0, refl, refl, h.1, g.2)) in
            let deep : d (f l one.0) ≤ B = omega (arith, over l one.0, low, g.3) in
            let (w', e1, m, le2) = loop_sound n (f l one.0) (u0 ++ g.0) one.1 x rest more deep one.3 in
            (g.0 ++ w', g.1 ∙ ap (λ z. g.0 ++ z) e1 ∙ sym (append_assoc g.0 w' rest), subst (Whole x) (append_assoc u0 g.0 w') m, le2)
        | inr j ↦ stop u0 (t ∷ r) l x rest h le (ap (λ z. z.0) (ok_inj j.1)) (ap (λ z. z.1) (ok_inj j.1))
      ]

  loop_refusal : (n : ℕ) (l : A) (u0 ts : List T) (rest : List T) → Whole l u0 → loop n l ts ≡ Err rest → (w : List T) × (ts ≡ w ++ rest) × Front (u0 ++ w)
  loop_refusal zero l u0 ts rest h k = ok_err k
  loop_refusal (suc n) l u0 [] rest h k = ok_err k
  loop_refusal (suc n) l u0 (t ∷ r) rest h k =
      elim (cases_if (first2 t && fits l) (and_then (q (t ∷ r)) (λ s after. loop n (f l s) after)) (Ok (l, t ∷ r)) (Err rest) k) [
        | inl j ↦
            let low = fits_is l ((and_split (first2 t) (fits l) j.0).1) in
            elim (bind_err (q (t ∷ r)) (λ s after. loop n (f l s) after) rest j.1) [
              | inl i ↦ let g = Q.refusal (t ∷ r) rest i in (g.0, g.1, inr (l, u0, g.0, refl, h, low, g.2))
              | inr one ↦
                  let g = Q.sound (t ∷ r) one.0 one.1 one.2 in
                  let more : Whole (f l one.0) (u0 ++ g.0) = (suc h.0, (l, one.0, u0, g.0, refl, refl, h.1, g.2)) in
                  let (w, e1, m) = loop_refusal n (f l one.0) (u0 ++ g.0) one.1 rest more one.3 in
                  (g.0 ++ w, g.1 ∙ ap (λ z. g.0 ++ z) e1 ∙ sym (append_assoc g.0 w rest), subst Front (append_assoc u0 g.0 w) m)
            ]
        | inr j ↦ ok_err j.1
      ]

  suffixes_sound : (ts : List T) (x : A) (rest : List T) → read ts ≡ Ok (x, rest) → (u : List T) × (ts ≡ u ++ rest) × Whole x u × (d x ≤ B)
  suffixes_sound ts x rest h =
      let one = bind_ok (p ts) (λ l r. loop (length r) l r) (x, rest) h in
      let s = R.sound ts one.0 one.1 one.2 in
      let (w, e1, m, le) = loop_sound (length one.1) one.0 s.0 one.1 x rest (0, s.2) s.3 one.3 in
      (s.0 ++ w, s.1 ∙ ap (λ z. s.0 ++ z) e1 ∙ sym (append_assoc s.0 w rest), m, le)

  suffixes_refusal : (ts rest : List T) → read ts ≡ Err rest → (u : List T) × (ts ≡ u ++ rest) × Front u
  suffixes_refusal ts rest h = elim (bind_err (p ts) (λ l r. loop (length r) l r) rest h) [
    | inl k ↦ let s = R.refusal ts rest k in (s.0, s.1, inl s.2)
    | inr one ↦
        let s = R.sound ts one.0 one.1 one.2 in
        let (w, e1, m) = loop_refusal (length one.1) one.0 s.0 one.1 rest (0, s.2) one.3 in
        (s.0 ++ w, s.1 ∙ ap (λ z. s.0 ++ z) e1 ∙ sym (append_assoc s.0 w rest), m)
  ]

  -- The reader comes to the loop with each whole that stands before such a token.
  run : (k : ℕ) (x : A) (u rest : List T) → ChainSpells W V f k x u → d x ≤ B → NextNot (behind_last x) rest → (m : ℕ) × (length rest ≤ m) × (read (u ++ rest) ≡ loop m x rest)
  run zero x u rest h le off = (length rest, le_refl _, ap (λ r. and_then r (λ l r. loop (length r) l r)) (R.complete x u rest h le (off_less (λ t i. inl i) rest off)))
  run (suc k) x u rest (l, s, v, [], e1, e2, h, g) le off = absurd (true≢false (sym (Q.empty s g)))
  run (suc k) x u rest (l, s, v, t ∷ w, e1, e2, h, g) le off =
      let deep : d x ≡ levels + max (d l) (e s) = ap d e1 ∙ over l s in
      let le1 : d l ≤ b = omega (arith, deep, le) in
      let le2 : e s ≤ b = omega (arith, deep, le) in
      let here = Q.starts t w (Q.holds s (t ∷ w) g le2) in
      let (m, len, same) = run k l v ((t ∷ w) ++ rest) h (omega (arith, le1)) (λ i. apart_last l t i here) in
      let again : u ++ rest ≡ v ++ ((t ∷ w) ++ rest) = ap (λ z. z ++ rest) e2 ∙ append_assoc v (t ∷ w) rest in
      onward m len (ap read again ∙ same) here le1 le2
    where
      onward : (m : ℕ) → length ((t ∷ w) ++ rest) ≤ m → read (u ++ rest) ≡ loop m l ((t ∷ w) ++ rest) → first2 t ≡ true → d l ≤ b → e s ≤ b → (m : ℕ) × (length rest ≤ m) × (read (u ++ rest) ≡ loop m x rest)
      onward zero len same here le1 le2 = let never : ⊥ = omega (arith, len) in absurd never
      onward (suc m) len same here le1 le2 = (
        m,
        omega (arith, len, length-append w rest),
        same
            ∙ if_true (first2 t && fits l) (and_then (q (t ∷ (w ++ rest))) (λ s after. loop m (f l s) after)) (Ok (l, t ∷ (w ++ rest))) (and_both (first2 t) (fits l) here (fits_if l le1))
            ∙ ap (λ r. and_then r (λ s after. loop m (f l s) after)) (Q.complete s (t ∷ w) rest g le2 (off_less (λ t i. inr (l, s, e1, i)) rest off))
            ∙ ap (λ z. loop m z rest) (sym e1),
      )

  loop_end : (m : ℕ) (x : A) (rest : List T) → NextNotIn first2 rest → loop m x rest ≡ Ok (x, rest)
  loop_end zero x rest off = refl
  loop_end (suc m) x [] off = refl
  loop_end (suc m) x (t ∷ r) off = if_false (first2 t && fits x) (and_then (q (t ∷ r)) (λ s after. loop m (f x s) after)) (Ok (x, t ∷ r)) (λ k. off ((and_split (first2 t) (fits x) k).0))

  last_goes_on : (x : A) (t : T) → behind_last x t → suffixes_cont x t
  last_goes_on x t (inl h) = inl h
  last_goes_on x t (inr h) = inr (inl h)

  suffixes_complete : (x : A) (u rest : List T) → Whole x u → d x ≤ B → NextNot (suffixes_cont x) rest → read (u ++ rest) ≡ Ok (x, rest)
  suffixes_complete x u rest h le off =
      let (m, len, same) = run h.0 x u rest h.1 le (off_less (last_goes_on x) rest off) in
      same ∙ loop_end m x rest (off_less (λ t i. inr (inr i)) rest off)

  -- the loop moves on only
  loop_short : (n : ℕ) (l : A) (ts : List T) → remaining (loop n l ts) ≤ length ts
  loop_short zero l ts = le_refl _
  loop_short (suc n) l [] = le_refl _
  loop_short (suc n) l (t ∷ r) = by (λ s y. loop_short n (f l s) y) (first2 t && fits l)
    where
      turn : ((s : S) (y : List T) → remaining (loop n (f l s) y) ≤ length y) → (o : Result (S × List T) (List T)) → remaining (and_then o (λ s after. loop n (f l s) after)) ≤ remaining o
      turn short (Ok y) = short y.0 y.1
      turn short (Err y) = le_refl _

      by : ((s : S) (y : List T) → remaining (loop n (f l s) y) ≤ length y) → (c : Bool) → remaining (if c then and_then (q (t ∷ r)) (λ s after. loop n (f l s) after) else Ok (l, t ∷ r)) ≤ length (t ∷ r)
      by short true = le_trans (turn short (q (t ∷ r))) (Q.reach [] (t ∷ r) Q.nothing)
      by short false = le_refl _

  to_loop : (o : Result (A × List T) (List T)) → remaining (and_then o (λ l r. loop (length r) l r)) ≤ remaining o
  to_loop (Ok y) = loop_short (length y.1) y.0 y.1
  to_loop (Err y) = le_refl _

  in_loop : (n : ℕ) (l : A) (o : Result (S × List T) (List T)) → remaining (and_then o (λ s after. loop n (f l s) after)) ≤ remaining o
  in_loop n l (Ok y) = loop_short n (f l y.0) y.1
  in_loop n l (Err y) = le_refl _

  behind : (l : A) (x : List T) (t : T) (w v : List T) → Whole l x → d l ≤ b → G (t ∷ w) → remaining (read (x ++ ((t ∷ w) ++ v))) ≤ length v
  behind l x t w v h le g =
      let here = Q.starts t w g in
      let (m, len, same) = run h.0 l x ((t ∷ w) ++ v) h.1 (omega (arith, le)) (λ i. apart_last l t i here) in
      onward m len same here
    where
      onward : (m : ℕ) → length ((t ∷ w) ++ v) ≤ m → read (x ++ ((t ∷ w) ++ v)) ≡ loop m l ((t ∷ w) ++ v) → first2 t ≡ true → remaining (read (x ++ ((t ∷ w) ++ v))) ≤ length v
      onward zero len same here = let never : ⊥ = omega (arith, len) in absurd never
      onward (suc m) len same here =
          le_trans (le_of_eq (ap remaining (same
          ∙ if_true (first2 t && fits l) (and_then (q (t ∷ (w ++ v))) (λ s after. loop m (f l s) after)) (Ok (l, t ∷ (w ++ v))) (and_both (first2 t) (fits l) here (fits_if l le)))))
          (le_trans (in_loop m l (q (t ∷ (w ++ v)))) (Q.reach (t ∷ w) v g))

  base_reach : (u v : List T) → F u → remaining (read (u ++ v)) ≤ length v
  base_reach u v h = le_trans (to_loop (p (u ++ v))) (R.reach u v h)

  whole_reach : (k : ℕ) (x : A) (u v : List T) → ChainSpells W V f k x u → d x ≤ B → remaining (read (u ++ v)) ≤ length v
  whole_reach zero x u v h le = base_reach u v (R.holds x u h le)
  whole_reach (suc k) x u v (l, s, y, [], e1, e2, h, g) le = absurd (true≢false (sym (Q.empty s g)))
  whole_reach (suc k) x u v (l, s, y, t ∷ w, e1, e2, h, g) le =
      let deep : d x ≡ levels + max (d l) (e s) = ap d e1 ∙ over l s in
      let again : u ++ v ≡ y ++ ((t ∷ w) ++ v) = ap (λ z. z ++ v) e2 ∙ append_assoc y (t ∷ w) v in
      subst (λ z. remaining (read z) ≤ length v) (sym again) (behind l y t w v (k, h) (omega (arith, deep, le)) (Q.holds s (t ∷ w) g (omega (arith, deep, le))))

  suffixes_reach : (u v : List T) → Front u → remaining (read (u ++ v)) ≤ length v
  suffixes_reach u v (inl h) = base_reach u v h
  suffixes_reach u v (inr (l, x, [], e1, h, le, g)) =
      subst (λ z. remaining (read (z ++ v)) ≤ length v) (sym (e1 ∙ append-nil x)) (whole_reach h.0 l x v h.1 (omega (arith, le)))
  suffixes_reach u v (inr (l, x, t ∷ w, e1, h, le, g)) =
      let again : u ++ v ≡ x ++ ((t ∷ w) ++ v) = ap (λ z. z ++ v) e1 ∙ append_assoc x (t ∷ w) v in
      subst (λ z. remaining (read z) ≤ length v) (sym again) (behind l x t w v h le g)

  -- no whole is without a token
  some_token : (k : ℕ) (x : A) → ChainSpells W V f k x [] → ⊥
  some_token zero x h = true≢false (sym (R.empty x h))
  some_token (suc k) x (l, s, v, w, e1, e2, h, g) = true≢false (sym (Q.empty s (subst (V s) ((append_empty v w e2).1) g)))

  chain_starts : (k : ℕ) (x : A) (t : T) (u : List T) → ChainSpells W V f k x (t ∷ u) → d x ≤ B → first1 t ≡ true
  chain_starts zero x t u h le = R.starts t u (R.holds x (t ∷ u) h le)
  chain_starts (suc k) x t u (l, s, [], w, e1, e2, h, g) le = absurd (some_token k l h)
  chain_starts (suc k) x t u (l, s, t' ∷ v, w, e1, e2, h, g) le =
      let deep : d x ≡ levels + max (d l) (e s) = ap d e1 ∙ over l s in
      subst (λ z. first1 z ≡ true) (sym (heads e2)) (chain_starts k l t' v h (omega (arith, deep, le)))

  suffixes_starts : (t : T) (u : List T) → Front (t ∷ u) → first1 t ≡ true
  suffixes_starts t u (inl h) = R.starts t u h
  suffixes_starts t u (inr (l, [], w, e1, h, le, g)) = absurd (some_token h.0 l h.1)
  suffixes_starts t u (inr (l, t' ∷ x, w, e1, h, le, g)) = subst (λ z. first1 z ≡ true) (sym (heads e1)) (chain_starts h.0 l t' x h.1 (omega (arith, le)))

  chain_closed : (k : ℕ) (x : A) (u m : List T) → ChainSpells W V f k x (u ++ m) → d x ≤ B → Front u
  chain_closed zero x u m h le = inl (R.closed u m (R.holds x (u ++ m) h le))
  chain_closed (suc k) x u m (l, s, v, w, e1, e2, h, g) le =
      let deep : d x ≡ levels + max (d l) (e s) = ap d e1 ∙ over l s in
      elim (cut u m v w e2) [
        | inl i ↦ inr (l, v, i.0, i.1, (k, h), omega (arith, deep, le), Q.closed i.0 m (subst G i.2 (Q.holds s w g (omega (arith, deep, le)))))
        | inr i ↦ chain_closed k l u i.0 (subst (ChainSpells W V f k l) i.1 h) (omega (arith, deep, le))
      ]

  suffixes_closed : (u v : List T) → Front (u ++ v) → Front u
  suffixes_closed u v (inl h) = inl (R.closed u v h)
  suffixes_closed u v (inr (l, x, w, e1, h, le, g)) = elim (cut u v x w e1) [
    | inl i ↦ inr (l, x, i.0, i.1, h, le, Q.closed i.0 v (subst G i.2 g))
    | inr i ↦ chain_closed h.0 l u i.0 (subst (ChainSpells W V f h.0 l) i.1 h.1) (omega (arith, le))
  ]

  suffixes_holds : (k : ℕ) (x : A) (u : List T) → ChainSpells W V f k x u → d x ≤ B → Front u
  suffixes_holds zero x u h le = inl (R.holds x u h le)
  suffixes_holds (suc k) x u (l, s, v, w, e1, e2, h, g) le =
      let deep : d x ≡ levels + max (d l) (e s) = ap d e1 ∙ over l s in
      inr (l, v, w, e2, (k, h), omega (arith, deep, le), Q.holds s w g (omega (arith, deep, le)))

  pub suffixes_reads : Reads (SuffixesSpell W V f) Front d B first1 suffixes_cont false (read_suffixes first2 fits f p q)
  suffixes_reads = record {
    sound = suffixes_sound;
    refusal = suffixes_refusal;
    complete = suffixes_complete;
    reach = suffixes_reach;
    starts = suffixes_starts;
    holds = λ x u h le. suffixes_holds h.0 x u h.1 le;
    closed = suffixes_closed;
    nothing = inl R.nothing;
    empty = λ x h. absurd (some_token h.0 x h.1);
  }
