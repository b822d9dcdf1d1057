-- Integers.
use Rattle.std.specs.Prelude.{ℕ, ◌+◌, ◌-◌, ◌*◌, ◌^◌, Bool, true, false, not, ◌&&◌, ◌||◌, if◌then◌else◌, ◌==◌, nat_lt, List, [], ◌∷◌, take, drop, slice_index, Option, Some, None}
use Rattle.ruby_meaning.specs.declared.construct.Construct.TheVariants as construct
use Rattle.ruby_meaning.specs.declared.form.Class.TheVariants as class
use Rattle.ruby_meaning.specs.declared.form.Form.{Form}
use Rattle.ruby_meaning.specs.declared.form.Form.TheVariants as form
use Rattle.ruby_meaning.specs.declared.form.Stand.{Stand}
use Rattle.ruby_meaning.specs.declared.form.Stand.TheVariants as stand
use Rattle.ruby_meaning.specs.Lexing.Before.{wants_value}
use Rattle.ruby_meaning.specs.Lexing.Characters.{is_digit, hex_value}
use Rattle.ruby_meaning.specs.Lexing.Runs.{run}

-- the radix of the digits at an offset: `0x`, `0b`, `0o`, and `0` before another digit or `_`, or decimal
unfoldable pub radix : List ℕ → ℕ → ℕ
radix z at =
    let v = slice_index z (at + 1) in
    if not (slice_index z at == 48) then 10
    else (if v == 120 then 16 else (if v == 98 then 2 else (if v == 111 || v == 95 || is_digit v then 8 else 10)))

-- whether two units, `0x`, `0b` or `0o`, name the radix
unfoldable pub has_prefix : List ℕ → ℕ → Bool
has_prefix z at =
    let v = slice_index z (at + 1) in slice_index z at == 48 && (v == 120 || v == 98 || v == 111)

-- The value of digits with single `_` between them, up to 2^53-1. `gap` says that no digit stands just before.
abbrev pub digits : ℕ → ℕ → Bool → List ℕ → Option ℕ
digits r n true [] = None
digits r n false [] = Some n
digits r n gap (u ∷ us) =
    if u == 95 then (if gap then None else digits r n true us)
    else (if nat_lt (hex_value u) r && nat_lt (n * r + hex_value u) (2 ^ 53) then digits r (n * r + hex_value u) false us else None)

abbrev pub number_start : List ℕ → ℕ → ℕ
number_start z at = if has_prefix z at then at + 2 else at

-- behind the digits, of hexadecimal ones or decimal ones, and `_`
abbrev pub number_end : List ℕ → ℕ → ℕ
number_end z at =
    let start = number_start z at in
    start + (if radix z at == 16 then run class.Hex (drop start z) else run class.Digit (drop start z))

-- None where a digit is wrong, a `_` doesn't stand between two digits, or the value passes 2^53-1
unfoldable pub number_value : List ℕ → ℕ → Option ℕ
number_value z at = digits (radix z at) 0 true (take (number_end z at - number_start z at) (drop (number_start z at) z))

abbrev pub of_value : Option ℕ → ℕ → Stand
of_value None end = stand.Refused construct.NumberLiteral 0
of_value (Some n) end = stand.Form form.Int end

-- an integer whose digits begin at `at`
unfoldable pub number : List ℕ → ℕ → Stand
number z at =
    let end = number_end z at in
    let next = slice_index z end in
    if (next == 46 && is_digit (slice_index z (end + 1))) || next == 101 then stand.Refused construct.Float 0
    else (if next == 114 || next == 105 then stand.Refused construct.RationalOrComplex 0
    else of_value (number_value z at) end)

-- `**` begins the text after blanks
unfoldable pub starts_power : List ℕ → Bool
starts_power z = let n = run class.Blank z in slice_index z n == 42 && slice_index z (n + 1) == 42

-- a `-` that belongs to an integer
unfoldable pub is_negative : Form → List ℕ → Bool
is_negative last z =
    wants_value last && slice_index z 0 == 45 && is_digit (slice_index z 1) && not (starts_power (drop (number_end z 1) z))
