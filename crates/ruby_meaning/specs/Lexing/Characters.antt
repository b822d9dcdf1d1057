-- Single characters of a text. A text reads as 0 past its end.
use Rattle.std.specs.Prelude.{ℕ, zero, suc, ◌+◌, ◌-◌, ◌*◌, Bool, true, false, not, ◌&&◌, ◌||◌, if◌then◌else◌, ◌==◌, nat_le, nat_lt, List, [], ◌∷◌, length, take, drop, slice_index, Option, Some, None, is_some}
use Rattle.ruby_meaning.specs.declared.form.Bracket.{Bracket}
use Rattle.ruby_meaning.specs.declared.form.Bracket.TheVariants as bracket
use Rattle.ruby_meaning.specs.declared.form.Spelling.{Spelling}
use Rattle.ruby_meaning.specs.declared.form.Spelling.TheVariants as spelling
use Rattle.unicode_ident.specs.Ident.{is_xid_start, is_xid_continue}

-- the text begins with the word
abbrev pub begins : List ℕ → List ℕ → Bool
begins [] z = true
begins (k ∷ ks) [] = false
begins (k ∷ ks) (u ∷ us) = (k == u) && begins ks us

-- how many units the newline at an offset has, or 0: CR LF is one newline
unfoldable pub newline_len : List ℕ → ℕ → ℕ
newline_len z at = if slice_index z at == 10 then 1 else (if slice_index z at == 13 && slice_index z (at + 1) == 10 then 2 else 0)

abbrev pub is_digit : ℕ → Bool
is_digit u = nat_le 48 u && nat_le u 57

abbrev pub is_hex : ℕ → Bool
is_hex u = is_digit u || (nat_le 65 u && nat_le u 70) || (nat_le 97 u && nat_le u 102)

abbrev pub is_letter : ℕ → Bool
is_letter u = (nat_le 65 u && nat_le u 90) || (nat_le 97 u && nat_le u 122)

-- a space, a tab, or a backslash and a newline
abbrev pub blank_len : List ℕ → ℕ
blank_len z =
    let u = slice_index z 0 in
    if u == 32 || u == 9 then 1 else (if u == 92 && not (newline_len z 1 == 0) then 1 + newline_len z 1 else 0)

-- the units of the first line, with its line feed
abbrev pub line_len : List ℕ → ℕ
line_len [] = 0
line_len (u ∷ us) = if u == 10 then 1 else suc (line_len us)

-- ---- names

abbrev pub is_high : ℕ → Bool
is_high u = nat_le 0xD800 u && nat_lt u 0xDC00

abbrev pub is_low : ℕ → Bool
is_low u = nat_le 0xDC00 u && nat_lt u 0xE000

abbrev pub is_pair : List ℕ → Bool
is_pair z = is_high (slice_index z 0) && is_low (slice_index z 1)

-- the character at the front: a pair of surrogates, or one unit
abbrev pub code : List ℕ → ℕ
code z = if is_pair z then 0x10000 + (slice_index z 0 - 0xD800) * 0x400 + (slice_index z 1 - 0xDC00) else slice_index z 0

abbrev pub code_len : List ℕ → ℕ
code_len z = if is_pair z then 2 else 1

abbrev pub is_scalar : ℕ → Bool
is_scalar c = nat_lt c 0xD800 || nat_le 0xE000 c

-- an XID start character or `_`; of ASCII these are the letters and `_`
unfoldable pub starts_name : List ℕ → Bool
starts_name z =
    let u = slice_index z 0 in
    if nat_lt u 128 then is_letter u || u == 95 else (is_scalar (code z) && is_xid_start (code z))

-- an XID continue character; of ASCII these are the letters, the digits and `_`
unfoldable pub goes_on_name : List ℕ → Bool
goes_on_name z =
    let u = slice_index z 0 in
    if nat_lt u 128 then is_letter u || is_digit u || u == 95 else (is_scalar (code z) && is_xid_continue (code z))

-- ---- escapes of a text in double quotes, each with its backslash; 0 where there is none

-- \n \t \r \0 \s \e \a \b \v \f
abbrev pub is_simple_escape : ℕ → Bool
is_simple_escape u = u == 110 || u == 116 || u == 114 || u == 48 || u == 115 || u == 101 || u == 97 || u == 98 || u == 118 || u == 102

-- the value of a hexadecimal digit, and 16 for another unit
abbrev pub hex_value : ℕ → ℕ
hex_value u = if is_digit u then u - 48 else (if nat_le 97 u && nat_le u 102 then u - 87 else (if nat_le 65 u && nat_le u 70 then u - 55 else 16))

unfoldable pub two_hex : List ℕ → ℕ → Bool
two_hex z at = is_hex (slice_index z at) && is_hex (slice_index z (at + 1))

-- the hexadecimal digits at the front
abbrev pub hex_count : List ℕ → ℕ
hex_count [] = 0
hex_count (u ∷ us) = if is_hex u then suc (hex_count us) else 0

-- the number of hexadecimal digits behind a value, up to 10ffff
abbrev pub scalar_from : ℕ → List ℕ → Option ℕ
scalar_from v [] = Some v
scalar_from v (u ∷ us) = if nat_le (v * 16 + hex_value u) 0x10FFFF then scalar_from (v * 16 + hex_value u) us else None

-- the number of the hexadecimal digits at the front
unfoldable pub scalar : List ℕ → Option ℕ
scalar z = scalar_from 0 (take (hex_count z) z)

-- \u{X} with one to six digits
unfoldable pub braced_len : List ℕ → ℕ
braced_len z =
    let n = hex_count (drop 3 z) in
    if nat_le 1 n && nat_le n 6 && slice_index z (n + 3) == 125 && is_some (scalar (drop 3 z)) then n + 4 else 0

-- \uXXXX or \u{X}
unfoldable pub unicode_len : List ℕ → ℕ
unicode_len z = if slice_index z 2 == 123 then braced_len z else (if two_hex z 2 && two_hex z 4 then 6 else 0)

-- one that is a letter or digit, or no ASCII character, is none of the others
unfoldable pub escape_len : List ℕ → ℕ
escape_len z =
    let u = slice_index z 1 in
    if is_simple_escape u then 2
    else (if u == 117 then unicode_len z
    else (if u == 120 then (if two_hex z 2 && nat_le (slice_index z 2) 55 then 4 else 0)
    else (if not (newline_len z 1 == 0) then 1 + newline_len z 1
    else (if (u == 0 && nat_le (length z) 1) || nat_le 128 u || is_digit u || is_letter u then 0 else 2))))

-- `{`, `@` and `$`, before which a `#` is no plain character
abbrev pub is_after_sharp : ℕ → Bool
is_after_sharp u = u == 123 || u == 64 || u == 36

-- one character or escape of a text in double quotes; 0 at its end, at `#{` and where none stands
unfoldable pub double_len : List ℕ → ℕ
double_len z =
    let u = slice_index z 0 in
    if u == 34 || (u == 35 && is_after_sharp (slice_index z 1)) then 0
    else (if u == 92 then escape_len z else (if newline_len z 0 == 0 then 1 else newline_len z 0))

-- ---- texts in single quotes

-- a backslash or a quote behind a backslash
unfoldable pub is_single_escape : List ℕ → Bool
is_single_escape z = slice_index z 0 == 92 && (slice_index z 1 == 92 || slice_index z 1 == 39)

-- one character or escape; 0 at the end of the text
unfoldable pub single_len : List ℕ → ℕ
single_len z =
    if is_single_escape z then 2
    else (if slice_index z 0 == 39 then 0 else (if newline_len z 0 == 0 then 1 else newline_len z 0))

-- ---- lists of words

abbrev pub opening : Bracket → ℕ
opening bracket.Round = 40
opening bracket.Square = 91

abbrev pub closing : Bracket → ℕ
closing bracket.Round = 41
closing bracket.Square = 93

-- how many units the space, tab or newline at an offset has, or 0
unfoldable pub separator_len : List ℕ → ℕ → ℕ
separator_len z at = if slice_index z at == 32 || slice_index z at == 9 then 1 else newline_len z at

-- how many units a backslash and what it gives have, or 0 where it stands for itself
unfoldable pub escaped_len : Bracket → List ℕ → ℕ
escaped_len b z =
    let u = slice_index z 1 in
    if not (slice_index z 0 == 92) then 0
    else (if u == 92 || u == opening b || u == closing b then 2
    else (if not (separator_len z 1 == 0) then 1 + separator_len z 1 else 0))

-- one character of a word
unfoldable pub word_char_len : Bracket → List ℕ → ℕ
word_char_len b z = if not (escaped_len b z == 0) then escaped_len b z else (if not (separator_len z 0 == 0) then 0 else 1)

-- Where the first closing bracket without a partner stands. `left` counts the units that are left of an escape,
-- `deep` the brackets that wait for their partner, and `at` the units before.
abbrev pub inside_from : Bracket → ℕ → ℕ → ℕ → List ℕ → Option ℕ
inside_from b deep left at [] = None
inside_from b deep (suc left) at (u ∷ us) = inside_from b deep left (at + 1) us
inside_from b deep zero at (u ∷ us) =
    if not (escaped_len b (u ∷ us) == 0) then inside_from b deep (escaped_len b (u ∷ us) - 1) (at + 1) us
    else (if u == opening b then inside_from b (deep + 1) 0 (at + 1) us
    else (if u == closing b then (if deep == 0 then Some at else inside_from b (deep - 1) 0 (at + 1) us)
    else inside_from b deep 0 (at + 1) us))

unfoldable pub inside : Bracket → List ℕ → Option ℕ
inside b z = inside_from b 0 0 0 z

-- ---- each spelling

-- how many units the first character has, or 0
abbrev pub char_len : Spelling → List ℕ → ℕ
char_len spelling.Double z = double_len z
char_len spelling.Single z = single_len z
char_len (spelling.Word b) z = word_char_len b z
