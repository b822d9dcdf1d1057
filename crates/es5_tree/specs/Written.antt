-- What a writer spells is read back: the laws `decimal_numerals` and `written_tokens`.
use Rattle.std.specs.Prelude.{◌≡◌, ℕ, ◌<◌, ◌^◌, true, false, List, ◌∷◌, ◌++◌, Some}
use Rattle.std.specs.Fmt.{decimal}
use Rattle.std.specs.List.{list_all, AllByRecursion}
use Rattle.es5_tree.specs.Characters.{is_letter, is_digit, is_name_part, begins}
use Rattle.es5_tree.specs.Numerals.{numeral, goes_on}
use Rattle.es5_tree.specs.Text.{literal}
use Rattle.es5_tree.specs.Tokens.{Word, Num, Str, Stands}

-- the decimal digits of a number up to 2^53-1 are its numeral
abbrev pub DigitsRead : Type 0
DigitsRead = (n : ℕ) → n < 2 ^ 53 → numeral (decimal n) ≡ Some n

-- and it has no other one
abbrev pub DigitsWritten : Type 0
DigitsWritten = (digits : List ℕ) (n : ℕ) → list_all is_digit digits ≡ true → numeral digits ≡ Some n → (digits ≡ decimal n) × (n < 2 ^ 53)

-- a number by its decimal digits
abbrev pub NumberStands : Type 0
NumberStands = (n : ℕ) (rest : List ℕ) → n < 2 ^ 53 → begins is_digit rest ≡ false → goes_on rest ≡ false → Stands (Num n) (decimal n ++ rest) rest

-- a name or reserved word by its characters
abbrev pub WordStands : Type 0
WordStands = (first : ℕ) (more rest : List ℕ) → is_letter first ≡ true → list_all is_name_part more ≡ true → begins is_name_part rest ≡ false → Stands (Word (first ∷ more)) ((first ∷ more) ++ rest) rest

-- a text as a string literal
abbrev pub TextStands : Type 0
TextStands = (text rest : List ℕ) → AllByRecursion (λ unit. unit < 2 ^ 16) text → Stands (Str text) (literal text ++ rest) rest
