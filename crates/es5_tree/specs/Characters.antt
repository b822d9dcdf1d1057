-- Bytes by what they may begin (ECMA-262 5.1, 7.2, 7.3 and 7.6).
use Rattle.std.specs.Prelude.{ℕ, ◌==◌, ◌&&◌, ◌||◌, nat_le, Bool, false, if◌then◌else◌, List, [], ◌∷◌}
use Rattle.es5_tree.specs.declared.lexing.Class.{Class}
use Rattle.es5_tree.specs.declared.lexing.Class.TheVariants.{Blank, Letter, Digit, Quote, Other}

-- white space and line terminators (7.2, 7.3)
abbrev pub is_blank : ℕ → Bool
is_blank byte = nat_le 9 byte && nat_le byte 13 || (byte == 32)

-- line feed and carriage return (7.3)
abbrev pub ends_line : ℕ → Bool
ends_line byte = (byte == 10) || (byte == 13)

-- a to z, A to Z, `$` and `_` (7.6)
abbrev pub is_letter : ℕ → Bool
is_letter byte = nat_le 97 byte && nat_le byte 122 || (nat_le 65 byte && nat_le byte 90) || (byte == 36) || (byte == 95)

abbrev pub is_digit : ℕ → Bool
is_digit byte = nat_le 48 byte && nat_le byte 57

abbrev pub is_name_part : ℕ → Bool
is_name_part byte = is_letter byte || is_digit byte

abbrev pub is_quote : ℕ → Bool
is_quote byte = (byte == 34) || (byte == 39)

-- the first byte passes the test
abbrev pub begins : (ℕ → Bool) → List ℕ → Bool
begins test [] = false
begins test (byte ∷ bytes) = test byte

-- what a byte may begin
abbrev pub class_of : ℕ → Class
class_of byte =
    if is_blank byte then Blank
    else (if is_letter byte then Letter
    else (if is_digit byte then Digit
    else (if is_quote byte then Quote else Other)))
