-- The text of a string literal (ECMA-262 5.1, 7.8.4).
use Rattle.std.specs.Prelude.{ℕ, ◌/◌, ◌%◌, ◌==◌, ◌||◌, nat_lt, List, [], ◌∷◌, ◌++◌, if◌then◌else◌}
use Rattle.std.specs.Char.{digit_char}
use Rattle.std.specs.List.{flat_map}

-- a unit as four lower-case hexadecimal digits
abbrev pub hex_digits : ℕ → List ℕ
hex_digits unit = digit_char (unit / 4096) ∷ digit_char (unit / 256 % 16) ∷ digit_char (unit / 16 % 16) ∷ digit_char (unit % 16) ∷ []

-- a unit in a string literal (7.8.4)
abbrev pub escaped : ℕ → List ℕ
escaped unit =
    if unit == 34 then 92 ∷ 34 ∷ []
    else (if unit == 92 then 92 ∷ 92 ∷ []
    else (if unit == 10 then 92 ∷ 110 ∷ []
    else (if unit == 13 then 92 ∷ 114 ∷ []
    else (if unit == 9 then 92 ∷ 116 ∷ []
    else (if nat_lt unit 32 || nat_lt 126 unit then 92 ∷ 117 ∷ hex_digits unit
    else unit ∷ [])))))

-- a text as a string literal
abbrev pub literal : List ℕ → List ℕ
literal text = 34 ∷ flat_map escaped text ++ 34 ∷ []
