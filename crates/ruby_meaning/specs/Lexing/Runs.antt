-- Runs: as many members of a class as stand one after the other.
use Rattle.std.specs.Prelude.{ℕ, zero, suc, ◌||◌, if◌then◌else◌, ◌==◌, List, [], ◌∷◌, slice_index}
use Rattle.ruby_meaning.specs.declared.form.Class.{Class}
use Rattle.ruby_meaning.specs.declared.form.Class.TheVariants as class
use Rattle.ruby_meaning.specs.declared.table.TheConstants.{BLOCK_END}
use Rattle.ruby_meaning.specs.Lexing.Characters.{begins, newline_len, is_digit, is_hex, blank_len, line_len, goes_on_name, code_len, separator_len, char_len}

-- how many units the first member of a run has, or 0
abbrev pub step : Class → List ℕ → ℕ
step class.Blank z = blank_len z
step class.Name z = if goes_on_name z then code_len z else 0
step class.Digit z = if is_digit (slice_index z 0) || slice_index z 0 == 95 then 1 else 0
step class.Hex z = if is_hex (slice_index z 0) || slice_index z 0 == 95 then 1 else 0
step class.Line z = if newline_len z 0 == 0 then 1 else 0
step class.Block z = if begins BLOCK_END.now z then 0 else line_len z
step class.Separator z = separator_len z 0
step (class.Char s) z = char_len s z

-- The units of the longest run at the front. `left` counts the units that are left of a member.
abbrev pub turn : ℕ → (ℕ → ℕ) → ℕ
turn zero k = 0
turn (suc n) k = k n

abbrev pub run_from : (List ℕ → ℕ) → ℕ → List ℕ → ℕ
run_from f left [] = 0
run_from f (suc left) (u ∷ us) = suc (run_from f left us)
run_from f zero (u ∷ us) = turn (f (u ∷ us)) (λ n. suc (run_from f n us))

abbrev pub run : Class → List ℕ → ℕ
run c z = run_from (step c) 0 z
