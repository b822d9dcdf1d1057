-- Operators, brackets and other signs, and the symbols that are made of them.
use Rattle.std.specs.Prelude.{ℕ, ◌+◌, Bool, true, false, not, ◌&&◌, ◌||◌, if◌then◌else◌, ◌==◌, List, [], ◌∷◌, length, map, drop, slice_index, Option, Some, None}
use Rattle.ruby_meaning.specs.declared.construct.Construct.{Construct}
use Rattle.ruby_meaning.specs.declared.construct.Construct.TheVariants as construct
use Rattle.ruby_meaning.specs.declared.form.Form.{Form}
use Rattle.ruby_meaning.specs.declared.form.Form.TheVariants as form
use Rattle.ruby_meaning.specs.declared.form.MethodPlace.{MethodPlace}
use Rattle.ruby_meaning.specs.declared.form.MethodPlace.TheVariants as method
use Rattle.ruby_meaning.specs.declared.form.Place.{Place}
use Rattle.ruby_meaning.specs.declared.form.Stand.{Stand}
use Rattle.ruby_meaning.specs.declared.form.Stand.TheVariants as stand
use Rattle.ruby_meaning.specs.declared.table.TheConstants.{MARKS, METHOD_MARKS}
use Rattle.ruby_meaning.specs.declared.token.Mark.{Mark}
use Rattle.ruby_meaning.specs.declared.token.Mark.TheVariants as mark
use Rattle.ruby_meaning.specs.declared.token.Word.TheVariants as word_
use Rattle.ruby_meaning.specs.Lexing.Before.{wants_value, takes_argument, is_constant}
use Rattle.ruby_meaning.specs.Lexing.Characters.{begins, blank_len, starts_name}
use Rattle.ruby_meaning.specs.Lexing.Texts.{quoted}
use Rattle.ruby_meaning.specs.Lexing.Words.{word_end}

-- ---- the tables

-- the first entry whose word begins the text, with its length
abbrev pub first_of_table : List (List ℕ × Mark) → List ℕ → Option (Mark × ℕ)
first_of_table [] z = None
first_of_table (e ∷ es) z = if begins e.0 z then Some (e.1, length e.0) else first_of_table es z

-- no entry has an empty word
abbrev pub each_some : List (List ℕ × Mark) → Bool
each_some [] = true
each_some (e ∷ es) = not (length e.0 == 0) && each_some es

abbrev pub signs : List (List ℕ × Mark)
signs = map (λ e. (e.0.now, e.1)) MARKS

unfoldable pub sign : List ℕ → Option (Mark × ℕ)
sign = first_of_table signs

abbrev pub method_signs : List (List ℕ × Mark)
method_signs = map (λ e. (e.0.now, e.1)) METHOD_MARKS

unfoldable pub method_sign : List ℕ → Option (Mark × ℕ)
method_sign = first_of_table method_signs

-- ---- signs that begin an argument of a call without brackets

abbrev pub begins_argument : Mark → Bool
begins_argument mark.Minus = true
begins_argument mark.BracketOpen = true
begins_argument mark.Star = true
begins_argument mark.Ampersand = true
begins_argument mark.ParenOpen = true
begins_argument mark.ColonColon = true
begins_argument _ = false

-- those that are refused there
abbrev pub begins_refused : Mark → Bool
begins_refused mark.Slash = true
begins_refused mark.ShiftLeft = true
begins_refused mark.Question = true
begins_refused mark.Power = true
begins_refused mark.Percent = true
begins_refused _ = false

-- whether the sign can be read in two ways behind a name or a constant
unfoldable pub is_ambiguous : Form → Mark → Bool
is_ambiguous last m = (takes_argument last && begins_refused m) || (is_constant last && (begins_argument m || begins_refused m))

-- ---- the form of a sign, by what stands before it

-- the receiver or the name in a `def`
unfoldable pub is_def_name : Form → Bool
is_def_name (form.MethodName method.Def) = true
is_def_name (form.MethodConst method.Def) = true
is_def_name _ = false

-- a name in an `undef`
unfoldable pub is_undef_name : Form → Bool
is_undef_name (form.MethodName method.Undef) = true
is_undef_name (form.MethodConst method.Undef) = true
is_undef_name (form.MethodOp method.Undef m) = true
is_undef_name (form.MethodSet method.Undef) = true
is_undef_name _ = false

unfoldable pub opens_block : Form → Bool
opens_block (form.Op mark.BraceOpen) = true
opens_block (form.Keyword word_.Do) = true
opens_block _ = false

abbrev pub set_form : MethodPlace → Form
set_form method.Call = form.Op mark.Assign
set_form place = form.MethodSet place

-- a `=` directly behind the name that a `def`, an `alias` or an `undef` gives is a part of it
unfoldable pub assign_form : Form → Form
assign_form (form.MethodName place) = set_form place
assign_form (form.MethodConst place) = set_form place
assign_form _ = form.Op mark.Assign

unfoldable pub role : Place → Mark → Form
role p mark.BraceClose = if p.closes then form.PartEnd else form.Op mark.BraceClose
role p mark.Dot = if is_def_name p.last then form.DefDot else form.Op mark.Dot
role p mark.Comma = if is_undef_name p.last then form.UndefComma else form.Op mark.Comma
role p mark.Pipe = if opens_block p.last then form.PipeOpen else form.Op mark.Pipe
role p mark.Assign = if p.blank then form.Op mark.Assign else assign_form p.last
role p m = form.Op m

-- ---- signs that begin a literal outside the profile

abbrev pub percent_literal : ℕ → Option Construct
percent_literal v = if v == 114 then Some construct.Regexp else (if v == 120 then Some construct.XString else None)

-- in value position, by the unit behind the first one
unfoldable pub refused_literal : Mark → ℕ → Option Construct
refused_literal mark.Slash v = Some construct.Regexp
refused_literal mark.SlashSet v = Some construct.Regexp
refused_literal mark.Percent v = percent_literal v
refused_literal _ v = None

abbrev pub of_literal : Option Construct → Place → Mark × ℕ → Stand
of_literal (Some c) p e = stand.Refused c 0
of_literal None p e = stand.Form (role p e.0) e.1

-- ---- what stands

-- a sign may begin an argument where a blank stands before it and none behind
abbrev pub of_sign : Place → Option (Mark × ℕ) → List ℕ → Stand
of_sign p None z = stand.Refused construct.BadCharacter 0
of_sign p (Some e) z =
    if p.blank && blank_len (drop e.1 z) == 0 && is_ambiguous p.last e.0 then stand.Refused construct.AmbiguousArgument 0
    else of_literal (if wants_value p.last then refused_literal e.0 (slice_index z 1) else None) p e

-- `=~` or `!~`
unfoldable pub is_match : List ℕ → Bool
is_match z = (slice_index z 0 == 61 || slice_index z 0 == 33) && slice_index z 1 == 126

unfoldable pub signed : Place → List ℕ → Stand
signed p z =
    if is_match z then stand.Refused construct.Regexp 0
    else (if slice_index z 0 == 96 then stand.Refused construct.XString 0
    else of_sign p (sign z) z)

abbrev pub of_method_sign : MethodPlace → Place → Option (Mark × ℕ) → List ℕ → Stand
of_method_sign place p (Some e) z = stand.Form (form.MethodOp place e.0) e.1
of_method_sign place p None z = signed p z

-- the operator that names a method, or else the sign
unfoldable pub method_signed : MethodPlace → Place → List ℕ → Stand
method_signed place p z = of_method_sign place p (method_sign z) z

-- ---- symbols

abbrev pub of_symbol_sign : Place → Option (Mark × ℕ) → List ℕ → Stand
of_symbol_sign p (Some e) z = stand.Form form.Symbol (1 + e.1)
of_symbol_sign p None z = signed p z

-- a `:` where a symbol may begin: with a name, a text in double quotes or an operator that can be defined
unfoldable pub symbol : Place → List ℕ → Stand
symbol p z =
    let behind = drop 1 z in
    if starts_name behind then stand.Form form.Symbol (1 + word_end behind)
    else (if slice_index z 1 == 34 then quoted form.QuotedSymbol 1 z
    else of_symbol_sign p (method_sign behind) z)
