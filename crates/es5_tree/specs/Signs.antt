-- Signs (ECMA-262 5.1, 7.7): at a place stands the longest of the table.
use Rattle.std.specs.Prelude.{◌≡◌, ◌⊎◌, ℕ, ◌≤◌, if◌then◌else◌, nat_eq, List, [], ◌∷◌, ◌++◌, length, map, take, Option, Some, None}
use Rattle.std.specs.List.{starts_with}
use Rattle.es5_tree.specs.declared.sign.Sign.{Sign}
use Rattle.es5_tree.specs.declared.sign.TheConstants.{SIGNS}

-- the first entry whose sign begins the bytes, with the number of its bytes
abbrev pub first_of : List (List ℕ × Sign) → List ℕ → Option (Sign × ℕ)
first_of [] bytes = None
first_of (entry ∷ entries) bytes = if starts_with nat_eq bytes entry.0 then Some (entry.1, length entry.0) else first_of entries bytes

abbrev pub signs : List (List ℕ × Sign)
signs = map (λ entry. (entry.0.now, entry.1)) SIGNS

unfoldable pub sign_at : List ℕ → Option (Sign × ℕ)
sign_at = first_of signs

-- ---- what the table says: the law `longest_sign`

abbrev pub IsEntry : List (List ℕ × Sign) → List ℕ → Sign → Type 0
IsEntry [] word sign = ⊥
IsEntry (entry ∷ entries) word sign = ((entry.0 ≡ word) × (entry.1 ≡ sign)) ⊎ IsEntry entries word sign

-- The sign at a place is an entry that begins the bytes, and no longer entry does.
abbrev pub LongestSign : Type 0
LongestSign = (bytes : List ℕ) (sign : Sign) (n : ℕ) → sign_at bytes ≡ Some (sign, n)
    → IsEntry signs (take n bytes) sign × ((word rest : List ℕ) (other : Sign) → IsEntry signs word other → bytes ≡ word ++ rest → length word ≤ n)

-- Where no sign stands, no entry begins the bytes.
abbrev pub NoSign : Type 0
NoSign = (bytes word rest : List ℕ) (sign : Sign) → sign_at bytes ≡ None → IsEntry signs word sign → bytes ≡ word ++ rest → ⊥
