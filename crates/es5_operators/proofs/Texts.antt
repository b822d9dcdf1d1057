-- The order of texts, unit by unit.
use Rattle.std.proofs.Common.{◌≡◌, ℕ, suc, ◌+◌, ◌-◌, ◌<◌, ◌≤◌, Bool, true, false, if◌then◌else◌, nat_lt, List, [], ◌∷◌, length, drop, slice_index_or, refl, sym, ap, ◌∙◌, arith, drop-cons, ⊎_elim, lt-ltb, le-ltb}
use Rattle.std.proofs.lemmas.Bool.{cases_lt}
use Rattle.es5_objects.proofs.Loops.{past_end}
use Rattle.es5_evaluation.specs.Values.{text_before}

same_first : (x y : ℕ) (s t : List ℕ) → x ≡ y → text_before (x ∷ s) (y ∷ t) ≡ text_before s t
unfolding text_before
same_first x y s t e = rw (le-ltb x y (omega (arith, e)), le-ltb y x (omega (arith, e))) refl

other_first : (x y : ℕ) (s t : List ℕ) → (x ≡ y → ⊥) → text_before (x ∷ s) (y ∷ t) ≡ nat_lt x y
unfolding text_before
other_first x y s t h =
    ⊎_elim
    (λ (l : x < y). rw (lt-ltb x y l) refl)
    (λ (l : y ≤ x). rw (le-ltb x y l, lt-ltb y x (omega (arith, l, h))) refl)
    (cases_lt x y)

none_right : (s : List ℕ) → text_before s [] ≡ false
unfolding text_before
none_right [] = refl
none_right (x ∷ s) = refl

none_left : (t : List ℕ) → text_before [] t ≡ nat_lt 0 (length t)
unfolding text_before
none_left [] = refl
none_left (y ∷ t) = sym (lt-ltb 0 (suc (length t)) (omega arith))

at_index : (s : List ℕ) (i : ℕ) → i < length s → drop i s ≡ slice_index_or s i 0 ∷ drop (i + 1) s
at_index s i h = drop-cons s i 0 h ∙ ap (λ n. slice_index_or s i 0 ∷ drop n s) {x = suc i} {y = i + 1} (omega arith)

-- behind the same unit
pub before_same : (s t : List ℕ) (i : ℕ) → i < length s → i < length t → slice_index_or s i 0 ≡ slice_index_or t i 0 → text_before (drop i s) (drop i t) ≡ text_before (drop (i + 1) s) (drop (i + 1) t)
before_same s t i h k e = rw (at_index s i h, at_index t i k) (same_first _ _ _ _ e)

-- another unit decides
pub before_other : (s t : List ℕ) (i : ℕ) → i < length s → i < length t → (slice_index_or s i 0 ≡ slice_index_or t i 0 → ⊥) → text_before (drop i s) (drop i t) ≡ nat_lt (slice_index_or s i 0) (slice_index_or t i 0)
before_other s t i h k e = rw (at_index s i h, at_index t i k) (other_first _ _ _ _ e)

-- the second text is over first
pub before_less : (s t : List ℕ) (i : ℕ) → i < length s → length t ≤ i → text_before (drop i s) (drop i t) ≡ false
before_less s t i h k = rw (past_end t i k) (none_right (drop i s))

-- the first text is over
pub before_end : (s t : List ℕ) (i : ℕ) → i ≡ length s → text_before (drop i s) (drop i t) ≡ nat_lt (length s) (length t)
before_end s t i h =
    rw (past_end s i (omega (arith, h)))
    (⊎_elim
    (λ (l : length s < length t). rw (at_index t i (omega (arith, h, l)), lt-ltb (length s) (length t) l) (none_left _ ∙ lt-ltb 0 _ (omega arith)))
    (λ (l : length t ≤ length s). rw (past_end t i (omega (arith, h, l)), le-ltb (length s) (length t) l) (none_left []))
    (cases_lt (length s) (length t)))
