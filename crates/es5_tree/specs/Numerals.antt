-- Decimal numerals (ECMA-262 5.1, 7.8.3), whole ones up to 2^53-1.
use Rattle.std.specs.Prelude.{ℕ, ◌+◌, ◌-◌, ◌*◌, ◌==◌, ◌||◌, nat_lt, Bool, true, false, if◌then◌else◌, List, [], ◌∷◌, Option, Some, None}
use Rattle.es5_tree.specs.Characters.{is_letter, begins}

-- the value of digits behind those of value `high`
abbrev pub value : ℕ → List ℕ → ℕ
value high [] = high
value high (digit ∷ digits) = value (high * 10 + (digit - 48)) digits

-- no digit, or a zero before another digit
abbrev pub is_no_numeral : List ℕ → Bool
is_no_numeral [] = true
is_no_numeral (digit ∷ []) = false
is_no_numeral (digit ∷ next ∷ digits) = digit == 48

-- the number that a run of digits spells
unfoldable pub numeral : List ℕ → Option ℕ
numeral digits = if is_no_numeral digits || nat_lt 9007199254740991 (value 0 digits) then None else Some (value 0 digits)

-- a letter, `$`, `_` or a point: none of them stands directly behind a numeral
abbrev pub goes_on : List ℕ → Bool
goes_on = begins (λ byte. is_letter byte || (byte == 46))
