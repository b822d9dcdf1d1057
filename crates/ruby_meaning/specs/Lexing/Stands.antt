-- The form that stands at the front of a text, at a place.
use Rattle.std.specs.Prelude.{ℕ, ◌+◌, Bool, not, ◌&&◌, ◌||◌, if◌then◌else◌, ◌==◌, List, length, drop, slice_index, Option, Some, None}
use Rattle.ruby_meaning.specs.declared.form.Class.TheVariants as class
use Rattle.ruby_meaning.specs.declared.form.Form.{Form}
use Rattle.ruby_meaning.specs.declared.form.Form.TheVariants as form
use Rattle.ruby_meaning.specs.declared.form.MethodPlace.{MethodPlace}
use Rattle.ruby_meaning.specs.declared.form.Mode.{Mode}
use Rattle.ruby_meaning.specs.declared.form.Mode.TheVariants as mode
use Rattle.ruby_meaning.specs.declared.form.Place.{Place}
use Rattle.ruby_meaning.specs.declared.form.Stand.{Stand}
use Rattle.ruby_meaning.specs.declared.form.Stand.TheVariants as stand
use Rattle.ruby_meaning.specs.declared.table.TheConstants.{END_LINE, BLOCK_BEGIN}
use Rattle.ruby_meaning.specs.Lexing.Before.{method_place, joins, begins_symbol, begins_list}
use Rattle.ruby_meaning.specs.Lexing.Characters.{begins, newline_len, is_digit, line_len, starts_name}
use Rattle.ruby_meaning.specs.Lexing.Runs.{run}
use Rattle.ruby_meaning.specs.Lexing.Numbers.{number, is_negative}
use Rattle.ruby_meaning.specs.Lexing.Texts.{quoted, raw_text, in_text, opens_list, list, in_list}
use Rattle.ruby_meaning.specs.Lexing.Words.{word, ivar, gvar}
use Rattle.ruby_meaning.specs.Lexing.Signs.{signed, method_signed, symbol}

-- the first line is exactly `__END__`
unfoldable pub is_end_line : List ℕ → Bool
is_end_line z = begins END_LINE.now z && (length z == 7 || not (newline_len z 7 == 0))

-- no more text stands there, or a line that ends it
abbrev pub is_over : List ℕ → Bool
is_over z = (length z == 0) || is_end_line z

-- ---- newlines and comments

-- after blanks a `.` begins the text, and no second one
unfoldable pub starts_dot : List ℕ → Bool
starts_dot z = let n = run class.Blank z in slice_index z n == 46 && not (slice_index z (n + 1) == 46)

-- a newline, behind the token `last`
unfoldable pub newline : Form → List ℕ → Stand
newline last z =
    let n = newline_len z 0 in
    stand.Form (if joins last || starts_dot (drop n z) then form.Joint else form.Newline) n

-- whole lines, from one that begins with `=begin` to one that begins with `=end`
unfoldable pub block : List ℕ → Stand
block z =
    let n = run class.Block z in
    if length (drop n z) == 0 then stand.Endless else stand.Form form.Block (n + line_len (drop n z))

-- ---- tokens

-- a literal or a sign, where the name of no method stands
unfoldable pub literal : Place → List ℕ → Stand
literal p z =
    let u = slice_index z 0 in
    if u == 34 then quoted form.Text 0 z
    else (if u == 39 then raw_text z
    else (if is_digit u then number z 0
    else (if is_negative p.last z then number z 1
    else (if begins_list p && opens_list z then list z
    else (if begins_symbol p && u == 58 then symbol p z
    else signed p z)))))

abbrev pub of_method_place : Option MethodPlace → Place → List ℕ → Stand
of_method_place (Some place) p z = method_signed place p z
of_method_place None p z = literal p z

unfoldable pub token : Place → List ℕ → Stand
token p z =
    let u = slice_index z 0 in
    if starts_name z then word p.last z
    else (if u == 64 then ivar z
    else (if u == 36 then gvar z
    else of_method_place (method_place p.last) p z))

-- ---- every piece

-- blanks, newlines and comments, and then tokens
unfoldable pub piece : Place → List ℕ → Stand
piece p z =
    let blanks = run class.Blank z in
    if not (blanks == 0) then stand.Form form.Blank blanks
    else (if not (newline_len z 0 == 0) then newline p.last z
    else (if slice_index z 0 == 35 then stand.Form form.Comment (run class.Line z)
    else token p z))

-- what stands at the start of the text and at the start of a line comes first
unfoldable pub in_code : Place → List ℕ → Stand
in_code p z =
    if length z == 0 || (p.line_start && is_end_line z) then stand.End
    else (if p.text_start && slice_index z 0 == 0xFEFF then stand.Form form.Bom 1
    else (if p.line_start && begins BLOCK_BEGIN.now z then block z
    else piece p z))

abbrev pub in_mode : Mode → Place → List ℕ → Stand
in_mode mode.Code p z = in_code p z
in_mode mode.Text p z = in_text z
in_mode (mode.List b left) p z = in_list b left z

-- what stands at the front of a text, at a place
unfoldable pub stands : Place → List ℕ → Stand
stands p z = in_mode p.mode p z
