-- That floor division doesn't leave the range of numbers on its way, where both numbers are within it.
use Rattle.std.specs.Prelude.{◌≡◌, ℤ, true, false, not, pos, ◌-ℤ◌, int_div, int_rem, int_lt}
use Rattle.std.specs.Ordering.{int_eq}
use Rattle.es5_evaluation.specs.Values.{is_zero}
use Rattle.es5_executor.specs.Sums.{fits, truth_eq}

-- the rest is within the range, the dividend without it is a multiple, and so is the quotient; where the rest has another sign than
-- the divisor, the quotient less one is within the range too
abbrev pub FloorFacts : Type 0
FloorFacts = (a b : ℤ) → fits a ≡ true → fits b ≡ true → is_zero b ≡ false →
    (fits (int_rem a b) ≡ true) × (fits (a -ℤ int_rem a b) ≡ true) × (is_zero (int_rem (a -ℤ int_rem a b) b) ≡ true) × (fits (int_div (a -ℤ int_rem a b) b) ≡ true)
    × (not (truth_eq (int_lt (int_rem a b) (pos 0)) (int_lt b (pos 0))) ≡ true → not (int_eq (int_rem a b) (pos 0)) ≡ true → fits (int_div (a -ℤ int_rem a b) b -ℤ pos 1) ≡ true)
