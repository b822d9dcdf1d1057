-- Any number of times.
use Rattle.std.proofs.Common.{◌≡◌, ℕ, zero, suc, ◌≤◌, Bool, true, false, ◌||◌, List, [], ◌∷◌, ◌++◌, length, Result, Ok, Err, inl, inr, refl, sym, ap, ◌∙◌, subst, append_assoc, append-nil, length-append, arith, le_refl, le_trans, true≢false}
use Rattle.std.specs.Prelude.{if◌then◌else◌}
use Rattle.grammar.specs.Forms.{ManySpells, deepest, ManyFront}
use Rattle.grammar.specs.FormReaders.{NextNotIn, By, Apart, remaining, Reads, and_then, read_many}
use Rattle.grammar.proofs.Lists.{ok_err, ok_inj, cons_nil, heads, bind_ok, bind_err, cut, or_left, or_right, cases_if, if_true, if_false, le_of_eq}

module _ {T A : Type 0} {W : A → List T → Type 0} {F : List T → Type 0} {d : A → ℕ} {b : ℕ} {first continues : T → Bool} {p : List T → Result (A × List T) (List T)}
    (R : Reads W F d b first (By continues) false p) (apart : Apart continues first) where
  abbrev pub many_cont : T → Bool
  many_cont t = continues t || first t

  abbrev Got : List T → List A → List T → Type 0
  Got ts xs rest = (u : List T) × (ts ≡ u ++ rest) × ManySpells W xs u × (deepest d xs ≤ b)

  many_sound : (n : ℕ) (ts : List T) (xs : List A) (rest : List T) → read_many first p n ts ≡ Ok (xs, rest) → Got ts xs rest
  many_sound zero ts xs rest h = let same = ok_inj h in
      ([], ap (λ z. z.1) same, subst (λ z. ManySpells W z []) (ap (λ z. z.0) same) refl, subst (λ z. deepest d z ≤ b) (ap (λ z. z.0) same) (omega arith))
  many_sound (suc n) [] xs rest h = let same = ok_inj h in
      ([], ap (λ z. z.1) same, subst (λ z. ManySpells W z []) (ap (λ z. z.0) same) refl, subst (λ z. deepest d z ≤ b) (ap (λ z. z.0) same) (omega arith))
  many_sound (suc n) (t ∷ r) xs rest h =
      elim (cases_if (first t) (and_then (p (t ∷ r)) (λ a r1. and_then (read_many first p n r1) (λ ys r2. Ok (a ∷ ys, r2)))) (Ok ([], t ∷ r)) (Ok (xs, rest)) h) [
        | inl k ↦
            let one = bind_ok (p (t ∷ r)) (λ a r1. and_then (read_many first p n r1) (λ ys r2. Ok (a ∷ ys, r2))) (xs, rest) k.1 in
            let two = bind_ok (read_many first p n one.1) (λ ys r2. Ok (one.0 ∷ ys, r2)) (xs, rest) one.3 in
            let s1 = R.sound (t ∷ r) one.0 one.1 one.2 in
            let s2 = many_sound n one.1 two.0 two.1 two.2 in
            let same = ok_inj two.3 in
            let e1 : one.0 ∷ two.0 ≡ xs = ap (λ z. z.0) same in
            let e2 : two.1 ≡ rest = ap (λ z. z.1) same in
            let all : Got (t ∷ r) (one.0 ∷ two.0) two.1 = (s1.0 ++ s2.0, s1.1 ∙ ap (λ l. s1.0 ++ l) s2.1 ∙ sym (append_assoc s1.0 s2.0 two.1), (s1.0, s2.0, refl, s1.2, s2.2), omega (arith, s1.3, s2.3)) in
            subst (λ z. Got (t ∷ r) z rest) e1 (subst (λ z. Got (t ∷ r) (one.0 ∷ two.0) z) e2 all)
        | inr k ↦ let same = ok_inj k.1 in
            ([], ap (λ z. z.1) same, subst (λ z. ManySpells W z []) (ap (λ z. z.0) same) refl, subst (λ z. deepest d z ≤ b) (ap (λ z. z.0) same) (omega arith))
      ]

  many_refusal : (n : ℕ) (ts rest : List T) → read_many first p n ts ≡ Err rest → (u : List T) × (ts ≡ u ++ rest) × ManyFront W d b F u
  many_refusal zero ts rest h = ok_err h
  many_refusal (suc n) [] rest h = ok_err h
  many_refusal (suc n) (t ∷ r) rest h =
      elim (cases_if (first t) (and_then (p (t ∷ r)) (λ a r1. and_then (read_many first p n r1) (λ ys r2. Ok (a ∷ ys, r2)))) (Ok ([], t ∷ r)) (Err rest) h) [
        | inl k ↦ elim (bind_err (p (t ∷ r)) (λ a r1. and_then (read_many first p n r1) (λ ys r2. Ok (a ∷ ys, r2))) rest k.1) [
          | inl j ↦ let s = R.refusal (t ∷ r) rest j in (s.0, s.1, ([], [], s.0, refl, refl, omega arith, s.2))
          | inr one ↦ elim (bind_err (read_many first p n one.1) (λ ys r2. Ok (one.0 ∷ ys, r2)) rest one.3) [
            | inl j ↦
                let s1 = R.sound (t ∷ r) one.0 one.1 one.2 in
                let s2 = many_refusal n one.1 rest j in
                let (xs, v, w, e, m, le, g) = s2.2 in (
                  s1.0 ++ s2.0,
                  s1.1 ∙ ap (λ l. s1.0 ++ l) s2.1 ∙ sym (append_assoc s1.0 s2.0 rest),
                  (one.0 ∷ xs, s1.0 ++ v, w, ap (λ l. s1.0 ++ l) e ∙ sym (append_assoc s1.0 v w), (s1.0, v, refl, s1.2, m), omega (arith, le, s1.3), g),
                )
            | inr two ↦ ok_err two.3
          ]
        ]
        | inr k ↦ ok_err k.1
      ]

  -- a list that is not empty begins as its first item does
  many_starts : (xs : List A) (t : T) (u : List T) → ManySpells W xs (t ∷ u) → deepest d xs ≤ b → first t ≡ true
  many_starts [] t u h le = cons_nil h
  many_starts (a ∷ xs) t u ([], w, e, h, m) le = absurd (true≢false (sym (R.empty a h)))
  many_starts (a ∷ xs) t u (s ∷ v, w, e, h, m) le = subst (λ z. first z ≡ true) (sym (heads e)) (R.starts s v (R.holds a (s ∷ v) h (omega (arith, le))))

  off_item : (xs : List A) (w rest : List T) → ManySpells W xs w → deepest d xs ≤ b → NextNotIn many_cont rest → NextNotIn continues (w ++ rest)
  off_item xs [] [] h le off = tt
  off_item xs [] (t ∷ r) h le off = λ k. off (or_left (continues t) _ k)
  off_item xs (t ∷ w) rest h le off = λ k. apart t k (many_starts xs t w h le)

  many_end : (n : ℕ) (rest : List T) → NextNotIn many_cont rest → read_many first p n rest ≡ Ok ([], rest)
  many_end zero rest off = refl
  many_end (suc n) [] off = refl
  many_end (suc n) (t ∷ r) off = if_false (first t) (and_then (p (t ∷ r)) (λ a r1. and_then (read_many first p n r1) (λ ys r2. Ok (a ∷ ys, r2)))) (Ok ([], t ∷ r)) (λ k. off (or_right (continues t) _ k))

  -- one turn
  turn : (n : ℕ) (a : A) (t : T) (v w : List T) → W a (t ∷ v) → d a ≤ b → NextNotIn continues w →
      read_many first p (suc n) (t ∷ (v ++ w)) ≡ and_then (read_many first p n w) (λ ys r2. Ok (a ∷ ys, r2))
  turn n a t v w h le off =
      if_true (first t) (and_then (p (t ∷ (v ++ w))) (λ a r1. and_then (read_many first p n r1) (λ ys r2. Ok (a ∷ ys, r2)))) (Ok ([], t ∷ (v ++ w))) (R.starts t v (R.holds a (t ∷ v) h le))
      ∙ ap (λ r. and_then r (λ a r1. and_then (read_many first p n r1) (λ ys r2. Ok (a ∷ ys, r2)))) (R.complete a (t ∷ v) w h le off)

  many_complete : (n : ℕ) (xs : List A) (u rest : List T) → length (u ++ rest) ≤ n → ManySpells W xs u → deepest d xs ≤ b → NextNotIn many_cont rest → read_many first p n (u ++ rest) ≡ Ok (xs, rest)
  many_complete n [] u rest len h le off = ap (λ l. read_many first p n (l ++ rest)) h ∙ many_end n rest off
  many_complete n (a ∷ xs) u rest len ([], w, e, h, m) le off = absurd (true≢false (sym (R.empty a h)))
  many_complete zero (a ∷ xs) u rest len (t ∷ v, w, e, h, m) le off =
      let never : ⊥ = omega (arith, len, ap (λ l. length (l ++ rest)) e) in absurd never
  many_complete (suc n) (a ∷ xs) u rest len (t ∷ v, w, e, h, m) le off =
      let again : u ++ rest ≡ t ∷ (v ++ (w ++ rest)) = ap (λ l. l ++ rest) e ∙ append_assoc (t ∷ v) w rest in
      let short : length (w ++ rest) ≤ n = omega (arith, len, ap length again, length-append v (w ++ rest)) in
      let le1 : d a ≤ b = omega (arith, le) in
      let le2 : deepest d xs ≤ b = omega (arith, le) in
      ap (read_many first p (suc n)) again ∙ turn n a t v (w ++ rest) h le1 (off_item xs w rest m le2 off)
      ∙ ap (λ r. and_then r (λ ys r2. Ok (a ∷ ys, r2))) (many_complete n xs w rest short m le2 off)

  then_same : (a : A) (o : Result (List A × List T) (List T)) → remaining {A = List A} (and_then o (λ ys r2. Ok (a ∷ ys, r2))) ≡ remaining o
  then_same a (Ok y) = refl
  then_same a (Err y) = refl

  in_turn : (n : ℕ) → ((r : List T) → remaining (read_many first p n r) ≤ length r) → (o : Result (A × List T) (List T)) → remaining {A = List A} (and_then o (λ a r1. and_then (read_many first p n r1) (λ ys r2. Ok (a ∷ ys, r2)))) ≤ remaining o
  in_turn n short (Ok y) = le_trans (le_of_eq (then_same y.0 (read_many first p n y.1))) (short y.1)
  in_turn n short (Err y) = le_refl _

  by_turn : (n : ℕ) (t : T) (r : List T) → ((r : List T) → remaining (read_many first p n r) ≤ length r) → (c : Bool) → remaining {A = List A} (if c then and_then (p (t ∷ r)) (λ a r1. and_then (read_many first p n r1) (λ ys r2. Ok (a ∷ ys, r2))) else Ok ([], t ∷ r)) ≤ length (t ∷ r)
  by_turn n t r short true = le_trans (in_turn n short (p (t ∷ r))) (R.reach [] (t ∷ r) R.nothing)
  by_turn n t r short false = le_refl _

  many_short : (n : ℕ) (ts : List T) → remaining (read_many first p n ts) ≤ length ts
  many_short zero ts = le_refl _
  many_short (suc n) [] = le_refl _
  many_short (suc n) (t ∷ r) = by_turn n t r (λ x. many_short n x) (first t)

  -- a front of an item comes next
  last_reach : (n : ℕ) (w v : List T) → length (w ++ v) ≤ n → F w → remaining (read_many first p n (w ++ v)) ≤ length v
  last_reach n [] v len g = many_short n v
  last_reach zero (t ∷ w) v len g = let never : ⊥ = omega (arith, len) in absurd never
  last_reach (suc n) (t ∷ w) v len g =
      le_trans (le_of_eq (ap remaining (if_true (first t) (and_then (p (t ∷ (w ++ v))) (λ a r1. and_then (read_many first p n r1) (λ ys r2. Ok (a ∷ ys, r2)))) (Ok ([], t ∷ (w ++ v))) (R.starts t w g))))
      (le_trans (in_turn n (many_short n) (p (t ∷ (w ++ v)))) (R.reach (t ∷ w) v g))

  off_front : (xs : List A) (x w v : List T) → ManySpells W xs x → deepest d xs ≤ b → (t : T) (w' : List T) → w ≡ t ∷ w' → F w → NextNotIn continues (x ++ (w ++ v))
  off_front xs [] w v h le t w' e g = subst (λ l. NextNotIn continues (l ++ v)) (sym e) (λ k. apart t k (R.starts t w' (subst F e g)))
  off_front xs (s ∷ x) w v h le t w' e g = λ k. apart s k (many_starts xs s x h le)

  many_reach : (n : ℕ) (xs : List A) (x w v : List T) → length (x ++ (w ++ v)) ≤ n → ManySpells W xs x → deepest d xs ≤ b → F w → remaining (read_many first p n (x ++ (w ++ v))) ≤ length v
  many_reach n [] x w v len h le g =
      subst (λ l. remaining (read_many first p n (l ++ (w ++ v))) ≤ length v) (sym h) (last_reach n w v (le_trans (le_of_eq (ap (λ l. length (l ++ (w ++ v))) (sym h))) len) g)
  many_reach n (a ∷ xs) x [] v len h le g = whole n (a ∷ xs) x v len h le
    where
      -- a whole list is a whole list but its last item, and a front
      whole : (n : ℕ) (xs : List A) (x v : List T) → length (x ++ v) ≤ n → ManySpells W xs x → deepest d xs ≤ b → remaining (read_many first p n (x ++ v)) ≤ length v
      whole n [] x v len h le = subst (λ l. remaining (read_many first p n (l ++ v)) ≤ length v) (sym h) (many_short n v)
      whole n (a ∷ xs) x v len ([], y, e, h, m) le = absurd (true≢false (sym (R.empty a h)))
      whole zero (a ∷ xs) x v len (t ∷ z, y, e, h, m) le = let never : ⊥ = omega (arith, len, ap (λ l. length (l ++ v)) e) in absurd never
      whole (suc n) (a ∷ xs) x v len (t ∷ z, [], e, h, m) le =
          let again : x ≡ t ∷ z = e ∙ append-nil (t ∷ z) in
          subst (λ l. remaining (read_many first p (suc n) (l ++ v)) ≤ length v) (sym again)
          (last_reach (suc n) (t ∷ z) v (le_trans (le_of_eq (ap (λ l. length (l ++ v)) (sym again))) len) (R.holds a (t ∷ z) h (omega (arith, le))))
      whole (suc n) (a ∷ xs) x v len (t ∷ z, s ∷ y, e, h, m) le =
          let again : x ++ v ≡ t ∷ (z ++ ((s ∷ y) ++ v)) = ap (λ l. l ++ v) e ∙ append_assoc (t ∷ z) (s ∷ y) v in
          let short : length ((s ∷ y) ++ v) ≤ n = omega (arith, len, ap length again, length-append z ((s ∷ y) ++ v)) in
          let off : NextNotIn continues ((s ∷ y) ++ v) = λ k. apart s k (many_starts xs s y m (omega (arith, le))) in
          let one = ap (read_many first p (suc n)) again ∙ turn n a t z ((s ∷ y) ++ v) h (omega (arith, le)) off in
          le_trans (le_of_eq (ap remaining one ∙ then_same a (read_many first p n ((s ∷ y) ++ v)))) (whole n xs (s ∷ y) v short m (omega (arith, le)))
  many_reach n (a ∷ xs) x (s ∷ w) v len ([], y, e, h, m) le g = absurd (true≢false (sym (R.empty a h)))
  many_reach zero (a ∷ xs) x (s ∷ w) v len (t ∷ z, y, e, h, m) le g = let never : ⊥ = omega (arith, len, ap (λ l. length (l ++ ((s ∷ w) ++ v))) e) in absurd never
  many_reach (suc n) (a ∷ xs) x (s ∷ w) v len (t ∷ z, y, e, h, m) le g =
      let rest = (s ∷ w) ++ v in
      let again : x ++ rest ≡ t ∷ (z ++ (y ++ rest)) = ap (λ l. l ++ rest) e ∙ append_assoc (t ∷ z) y rest in
      let short : length (y ++ rest) ≤ n = omega (arith, len, ap length again, length-append z (y ++ rest)) in
      let off = off_front xs y (s ∷ w) v m (omega (arith, le)) s w refl g in
      let one = ap (read_many first p (suc n)) again ∙ turn n a t z (y ++ rest) h (omega (arith, le)) off in
      le_trans (le_of_eq (ap remaining one ∙ then_same a (read_many first p n (y ++ rest)))) (many_reach n xs y (s ∷ w) v short m (omega (arith, le)) g)

  many_closed : (xs : List A) (x w u v : List T) → u ++ v ≡ x ++ w → ManySpells W xs x → deepest d xs ≤ b → F w → ManyFront W d b F u
  many_closed [] x w u v e h le g =
      let e1 : u ++ v ≡ w = e ∙ ap (λ l. l ++ w) h in
      ([], [], u, refl, refl, omega arith, R.closed u v (subst F (sym e1) g))
  many_closed (a ∷ xs) x w u v e (y, z, e1, h, m) le g =
      elim (cut u v y (z ++ w) (e ∙ ap (λ l. l ++ w) e1 ∙ append_assoc y z w)) [
        | inl k ↦
            let (ys, x', w', e2, m', le', g') = many_closed xs z w k.0 v (sym k.2) m (omega (arith, le)) g in
            (a ∷ ys, y ++ x', w', k.1 ∙ ap (λ l. y ++ l) e2 ∙ sym (append_assoc y x' w'), (y, x', refl, h, m'), omega (arith, le, le'), g')
        | inr k ↦ ([], [], u, refl, refl, omega arith, R.closed u k.0 (subst F k.1 (R.holds a y h (omega (arith, le)))))
      ]

  front_starts : (t : T) (u : List T) → ManyFront W d b F (t ∷ u) → first t ≡ true
  front_starts t u (xs, [], w, e, m, le, g) = R.starts t u (subst F (sym e) g)
  front_starts t u (xs, s ∷ v, w, e, m, le, g) = subst (λ z. first z ≡ true) (sym (heads e)) (many_starts xs s v m le)

  pub many_reads : Reads (ManySpells W) (ManyFront W d b F) (deepest d) b first (By many_cont) true (λ ts. read_many first p (length ts) ts)
  many_reads = record {
    sound = λ ts xs rest h. many_sound (length ts) ts xs rest h;
    refusal = λ ts rest h. many_refusal (length ts) ts rest h;
    complete = λ xs u rest h le off. many_complete (length (u ++ rest)) xs u rest (le_refl _) h le off;
    reach = λ u v h. let (xs, x, w, e, m, le, g) = h in
        let again : u ++ v ≡ x ++ (w ++ v) = ap (λ l. l ++ v) e ∙ append_assoc x w v in
        subst (λ l. remaining (read_many first p (length l) l) ≤ length v) (sym again) (many_reach (length (x ++ (w ++ v))) xs x w v (le_refl _) m le g);
    starts = front_starts;
    holds = λ xs u h le. (xs, u, [], sym (append-nil u), h, le, R.nothing);
    closed = λ u v h. let (xs, x, w, e, m, le, g) = h in many_closed xs x w u v e m le g;
    nothing = ([], [], [], refl, refl, omega arith, R.nothing);
    empty = λ xs h. refl;
  }
