-- Names of properties: texts, and among them the array indices (ECMA-262 5.1, sections 8.10 and 15.4).
use Rattle.std.specs.Prelude.{ℕ, zero, suc, ◌+◌, ◌-◌, Bool, ◌&&◌, if◌then◌else◌, nat_lt, [], ◌∷◌, map, Option, Some, None, bytes_eq, codes}
use Rattle.std.specs.Int.Digits.{digits_of, number_from_digits}
use Rattle.es5_tree.specs.Values.{Text}

-- a number in decimal digits, without a leading zero (9.8.1)
unfoldable pub decimal : ℕ → Text
decimal zero = 48 ∷ []
decimal (suc n) = map (λ d. 48 + d) (digits_of 10 (suc n))

-- the number that a text of digits stands for (9.3.1); another text stands for some number too
unfoldable pub number_of : Text → ℕ
number_of name = number_from_digits 10 (map (λ u. u - 48) name)

-- 2^32-1: each array index is below it
abbrev pub index_end : ℕ
index_end = 4294967295

-- The array index that a name is: the number below 2^32-1 of which it is the decimal spelling (15.4).
unfoldable pub index_of : Text → Option ℕ
index_of name = if bytes_eq name (decimal (number_of name)) && nat_lt (number_of name) index_end then Some (number_of name) else None

abbrev pub length_name : Text
length_name = codes "length"

abbrev pub is_length : Text → Bool
is_length name = bytes_eq name length_name
