-- Comments and string literals (ECMA-262 5.1, 7.4 and 7.8.4), of ASCII characters alone.
use Rattle.std.specs.Prelude.{◌≡◌, ℕ, zero, suc, ◌+◌, ◌-◌, ◌*◌, ◌==◌, ◌&&◌, ◌||◌, nat_le, nat_lt, Bool, if◌then◌else◌, List, [], ◌∷◌, drop, Option, None, Some}
use Rattle.std.specs.Option.{option_map, option_and_then}
use Rattle.es5_tree.specs.Characters.{ends_line, is_digit, begins}

-- ---- comments (7.4)

abbrev pub is_star : ℕ → Bool
is_star byte = byte == 42

abbrev pub begins_with_slash : List ℕ → Bool
begins_with_slash = begins (λ byte. byte == 47)

-- Where the line is over, before its terminator or at the end; n bytes are counted already.
abbrev pub line_end : ℕ → List ℕ → Option ℕ
line_end n [] = Some n
line_end n (byte ∷ bytes) =
    if ends_line byte then Some n
    else (if nat_lt 127 byte then None else line_end (n + 1) bytes)

-- where the next `*` and `/` are over
abbrev pub block_end : ℕ → List ℕ → Option ℕ
block_end n [] = None
block_end n (byte ∷ bytes) =
    if is_star byte && begins_with_slash bytes then Some (n + 2)
    else (if nat_lt 127 byte then None else block_end (n + 1) bytes)

-- how many bytes a comment has behind its first slash
unfoldable pub comment_size : List ℕ → Option ℕ
comment_size [] = None
comment_size (byte ∷ bytes) =
    if byte == 47 then line_end 1 bytes
    else (if is_star byte then block_end 1 bytes else None)

-- no whole comment stands there
abbrev pub NoComment : List ℕ → Type 0
NoComment bytes = (more : List ℕ) (n : ℕ) → bytes ≡ 47 ∷ more → comment_size more ≡ Some n → ⊥

-- ---- string literals (7.8.4)

abbrev pub hex_value : ℕ → Option ℕ
hex_value byte =
    if is_digit byte then Some (byte - 48)
    else (if nat_le 97 byte && nat_le byte 102 then Some (byte - 87)
    else (if nat_le 65 byte && nat_le byte 70 then Some (byte - 55) else None))

-- the number that the next digits spell, behind those that spelled `high`
abbrev pub hex_number : ℕ → ℕ → List ℕ → Option ℕ
hex_number high zero bytes = Some high
hex_number high (suc n) [] = None
hex_number high (suc n) (byte ∷ bytes) = option_and_then (λ d. hex_number (high * 16 + d) n bytes) (hex_value byte)

-- the unit that a single character behind a backslash stands for
abbrev pub single_escape : ℕ → Option ℕ
single_escape byte =
    if byte == 98 then Some 8
    else (if byte == 116 then Some 9
    else (if byte == 110 then Some 10
    else (if byte == 118 then Some 11
    else (if byte == 102 then Some 12
    else (if byte == 114 then Some 13
    else (if (byte == 92) || (byte == 39) || (byte == 34) then Some byte else None))))))

abbrev pub begins_with_digit : List ℕ → Bool
begins_with_digit = begins is_digit

-- the unit of an escape, and how many bytes spell it with its backslash
abbrev pub escape : List ℕ → Option (ℕ × ℕ)
escape [] = None
escape (byte ∷ bytes) =
    if byte == 117 then option_map (λ unit. (unit, 6)) (hex_number 0 4 bytes)
    else (if byte == 120 then option_map (λ unit. (unit, 4)) (hex_number 0 2 bytes)
    else (if byte == 48 then (if begins_with_digit bytes then None else Some (0, 2))
    else option_map (λ unit. (unit, 2)) (single_escape byte)))

-- The unit of the first character of a string literal's text, and how many bytes spell it; none at the closing quote.
unfoldable pub character : ℕ → List ℕ → Option (ℕ × ℕ)
character quote [] = None
character quote (byte ∷ bytes) =
    if byte == 92 then escape bytes
    else (if (byte == quote) || ends_line byte || nat_lt 127 byte then None else Some (byte, 1))

-- the characters at the front of the bytes stand for the text, and behind the closing quote is the rest
abbrev pub Characters : ℕ → List ℕ → List ℕ → List ℕ → Type 0
Characters quote [] bytes rest = bytes ≡ quote ∷ rest
Characters quote (unit ∷ text) bytes rest = (n : ℕ) × (character quote bytes ≡ Some (unit, n)) × Characters quote text (drop n bytes) rest

-- no text of a literal with its closing quote stands there
abbrev pub Unquoted : ℕ → List ℕ → Type 0
Unquoted quote bytes = (text rest : List ℕ) → Characters quote text bytes rest → ⊥
