-- Texts in quotes and lists of words: where they end, and what they stand for.
use Rattle.std.specs.Prelude.{ℕ, zero, suc, ◌+◌, ◌-◌, ◌*◌, ◌/◌, ◌%◌, Bool, not, ◌&&◌, ◌||◌, if◌then◌else◌, ◌==◌, nat_lt, List, [], ◌∷◌, ◌++◌, length, take, drop, slice_index, Option, Some, None, unwrap_or}
use Rattle.ruby_meaning.specs.declared.construct.Construct.TheVariants as construct
use Rattle.ruby_meaning.specs.declared.form.Bracket.{Bracket}
use Rattle.ruby_meaning.specs.declared.form.Bracket.TheVariants as bracket
use Rattle.ruby_meaning.specs.declared.form.Class.TheVariants as class
use Rattle.ruby_meaning.specs.declared.form.Ending.{Ending}
use Rattle.ruby_meaning.specs.declared.form.Ending.TheVariants as ending_
use Rattle.ruby_meaning.specs.declared.form.Form.{Form}
use Rattle.ruby_meaning.specs.declared.form.Form.TheVariants as form
use Rattle.ruby_meaning.specs.declared.form.Spelling.{Spelling}
use Rattle.ruby_meaning.specs.declared.form.Spelling.TheVariants as spelling
use Rattle.ruby_meaning.specs.declared.form.Stand.{Stand}
use Rattle.ruby_meaning.specs.declared.form.Stand.TheVariants as stand
use Rattle.ruby_meaning.specs.Lexing.Characters.{newline_len, is_simple_escape, hex_value, scalar, is_single_escape, escaped_len, char_len, inside}
use Rattle.ruby_meaning.specs.Lexing.Runs.{run}

-- ---- what characters stand for

abbrev pub simple_escape : ℕ → ℕ
simple_escape u =
    if u == 110 then 10 else (if u == 116 then 9 else (if u == 114 then 13 else (if u == 48 then 0 else (if u == 115 then 32
    else (if u == 101 then 27 else (if u == 97 then 7 else (if u == 98 then 8 else (if u == 118 then 11 else 12))))))))

-- the number of two hexadecimal digits
unfoldable pub two_hex_value : List ℕ → ℕ → ℕ
two_hex_value z at = hex_value (slice_index z at) * 16 + hex_value (slice_index z (at + 1))

-- the units of a character in UTF-16
abbrev pub units_of : ℕ → List ℕ
units_of c =
    if nat_lt c 0x10000 then c ∷ [] else ((0xD800 + (c - 0x10000) / 0x400) ∷ (0xDC00 + (c - 0x10000) % 0x400) ∷ [])

unfoldable pub unicode_escape : List ℕ → List ℕ
unicode_escape z =
    if slice_index z 2 == 123 then units_of (unwrap_or (scalar (drop 3 z)) 0)
    else (two_hex_value z 2 * 256 + two_hex_value z 4) ∷ []

-- an escape of a text in double quotes, with its backslash
unfoldable pub escape : List ℕ → List ℕ
escape z =
    let u = slice_index z 1 in
    if is_simple_escape u then simple_escape u ∷ []
    else (if u == 117 then unicode_escape z
    else (if u == 120 then two_hex_value z 2 ∷ []
    else (if not (newline_len z 1 == 0) then [] else u ∷ [])))

-- a character that no backslash changes: CR LF is read as LF
unfoldable pub plain : List ℕ → ℕ → List ℕ
plain z at = (if newline_len z at == 0 then slice_index z at else 10) ∷ []

-- one character
unfoldable pub means : Spelling → List ℕ → List ℕ
means spelling.Double z = if slice_index z 0 == 92 then escape z else plain z 0
means spelling.Single z = plain z (if is_single_escape z then 1 else 0)
means (spelling.Word b) z = plain z (if escaped_len b z == 0 then 0 else 1)

-- The characters of a run, one after the other: `f` is the length of the first and `g` what it stands for.
-- `left` counts the units that are left of one.
abbrev pub with_rest : List ℕ → ℕ → (ℕ → List ℕ) → List ℕ
with_rest front zero k = []
with_rest front (suc n) k = front ++ k n

abbrev pub content_from : (List ℕ → ℕ) → (List ℕ → List ℕ) → ℕ → List ℕ → List ℕ
content_from f g left [] = []
content_from f g (suc left) (u ∷ us) = content_from f g left us
content_from f g zero (u ∷ us) = with_rest (g (u ∷ us)) (f (u ∷ us)) (λ n. content_from f g n us)

-- what the characters at the front stand for
abbrev pub content : Spelling → List ℕ → List ℕ
content s z = content_from (char_len s) (means s) 0 z

-- ---- texts in double quotes

-- the text ends before a character or escape is whole
abbrev pub is_cut : List ℕ → Bool
is_cut z = (length z == 0) || (slice_index z 0 == 92 && length z == 1)

-- where a run of a text's characters ends
unfoldable pub ending : List ℕ → Ending
ending z =
    let u = slice_index z 0 in
    if u == 34 then ending_.Quote
    else (if u == 35 && slice_index z 1 == 123 then ending_.Part
    else (if is_cut z then ending_.Cut else ending_.Bad))

-- what stands inside a text, where no character does
abbrev pub at_ending : Ending → Stand
at_ending ending_.Quote = stand.Form form.TextEnd 1
at_ending ending_.Part = stand.Form form.PartBegin 2
at_ending ending_.Cut = stand.Cut
at_ending ending_.Bad = stand.Refused construct.BadCharacter 0

-- inside a text
unfoldable pub in_text : List ℕ → Stand
in_text z =
    let n = run (class.Char spelling.Double) z in
    if n == 0 then at_ending (ending z) else stand.Form form.Chunk n

abbrev pub of_quoted : Form → ℕ → Ending → ℕ → Stand
of_quoted whole at ending_.Quote n = stand.Form whole (n + (at + 2))
of_quoted whole at ending_.Part n = stand.Form form.TextBegin (at + 1)
of_quoted whole at ending_.Cut n = stand.Endless
of_quoted whole at ending_.Bad n = stand.Refused construct.BadCharacter (n + (at + 1))

-- a text whose quote stands `at` units on: whole, where it has no embedded part
unfoldable pub quoted : Form → ℕ → List ℕ → Stand
quoted whole at z =
    let n = run (class.Char spelling.Double) (drop (at + 1) z) in
    of_quoted whole at (ending (drop (n + (at + 1)) z)) n

-- a slice without its two quotes
abbrev pub unquoted : List ℕ → List ℕ
unquoted slice = take (length slice - 2) (drop 1 slice)

-- ---- texts in single quotes

unfoldable pub raw_text : List ℕ → Stand
raw_text z =
    let n = run (class.Char spelling.Single) (drop 1 z) in
    if slice_index z (n + 1) == 39 then stand.Form form.RawText (n + 2) else stand.Endless

-- ---- lists of words

-- whether one begins: `%w[`, `%w(`, `%i[` or `%i(`
unfoldable pub opens_list : List ℕ → Bool
opens_list z =
    let v = slice_index z 1 in
    let b = slice_index z 2 in
    slice_index z 0 == 37 && (v == 119 || v == 105) && (b == 40 || b == 91)

abbrev pub list_bracket : List ℕ → Bracket
list_bracket z = if slice_index z 2 == 40 then bracket.Round else bracket.Square

abbrev pub list_form : List ℕ → Bracket → ℕ → Form
list_form z b n = if slice_index z 1 == 119 then form.WordsBegin b n else form.SymbolsBegin b n

abbrev pub of_inside : List ℕ → Bracket → Option ℕ → Stand
of_inside z b None = stand.Endless
of_inside z b (Some n) = stand.Form (list_form z b n) 3

-- a list at its opening
unfoldable pub list : List ℕ → Stand
list z = of_inside z (list_bracket z) (inside (list_bracket z) (drop 3 z))

-- among the words of a list, so many units before its closing bracket
unfoldable pub in_list : Bracket → ℕ → List ℕ → Stand
in_list b left z =
    let words = take left z in
    let separators = run class.Separator words in
    let n = run (class.Char (spelling.Word b)) words in
    if length words == 0 then (if length z == 0 then stand.Cut else stand.Form (form.ListEnd b) 1)
    else (if not (separators == 0) then stand.Form form.Separator separators
    else (if n == 0 then stand.Cut else stand.Form (form.ListWord b) n))
