-- What the last token says of a place.
use Rattle.std.specs.Prelude.{Bool, true, false, not, ◌&&◌, ◌||◌, Option, Some, None, is_some}
use Rattle.ruby_meaning.specs.declared.token.Word.{Word}
use Rattle.ruby_meaning.specs.declared.token.Word.TheVariants as word
use Rattle.ruby_meaning.specs.declared.token.Mark.{Mark}
use Rattle.ruby_meaning.specs.declared.token.Mark.TheVariants as mark
use Rattle.ruby_meaning.specs.declared.form.Form.{Form}
use Rattle.ruby_meaning.specs.declared.form.Form.TheVariants as form
use Rattle.ruby_meaning.specs.declared.form.MethodPlace.{MethodPlace}
use Rattle.ruby_meaning.specs.declared.form.MethodPlace.TheVariants as method
use Rattle.ruby_meaning.specs.declared.form.Place.{Place}

-- ---- where the name of a method stands

-- Behind `.`, `def` and the `.` of its receiver, `undef` and a comma between its names, and for the two names of an
-- `alias`, a word and an operator are the name of a method, and no literal begins.
unfoldable pub method_place : Form → Option MethodPlace
method_place (form.Op mark.Dot) = Some method.Call
method_place form.DefDot = Some method.Def
method_place (form.Keyword word.Def) = Some method.Def
method_place (form.Keyword word.Alias) = Some method.New
method_place (form.MethodName method.New) = Some method.Old
method_place (form.MethodConst method.New) = Some method.Old
method_place (form.MethodOp method.New m) = Some method.Old
method_place (form.MethodSet method.New) = Some method.Old
method_place (form.Keyword word.Undef) = Some method.Undef
method_place form.UndefComma = Some method.Undef
method_place _ = None

unfoldable pub wants_name : Form → Bool
wants_name last = is_some (method_place last)

-- ---- where a value begins

abbrev pub is_closing : Mark → Bool
is_closing mark.ParenClose = true
is_closing mark.BracketClose = true
is_closing mark.BraceClose = true
is_closing _ = false

-- a keyword after which a value is over, or that takes arguments as a name does
abbrev pub ends_value : Word → Bool
ends_value word.End = true
ends_value word.Self_ = true
ends_value word.True = true
ends_value word.False = true
ends_value word.Nil = true
ends_value word.Yield = true
ends_value word.Super = true
ends_value _ = false

-- a value may begin behind the token, unless the name of a method stands there
unfoldable pub begins_value : Form → Bool
begins_value form.Newline = true
begins_value form.PartBegin = true
begins_value form.Label = true
begins_value form.PipeOpen = true
begins_value (form.MethodOp p m) = true
begins_value (form.MethodSet p) = true
begins_value (form.Op m) = not (is_closing m)
begins_value (form.Keyword w) = not (ends_value w)
begins_value _ = false

unfoldable pub wants_value : Form → Bool
wants_value last = begins_value last && not (wants_name last)

-- ---- newlines

-- a newline behind it ends nothing
abbrev pub is_joint_mark : Mark → Bool
is_joint_mark mark.ParenClose = false
is_joint_mark mark.BracketClose = false
is_joint_mark mark.BraceClose = false
is_joint_mark mark.Semicolon = false
is_joint_mark mark.Pipe = false
is_joint_mark _ = true

unfoldable pub joins : Form → Bool
joins (form.Op m) = is_joint_mark m
joins form.DefDot = true
joins form.UndefComma = true
joins form.PipeOpen = true
joins _ = false

-- ---- labels

abbrev pub is_label_mark : Mark → Bool
is_label_mark mark.ParenOpen = true
is_label_mark mark.BracketOpen = true
is_label_mark mark.BraceOpen = true
is_label_mark mark.Pipe = true
is_label_mark mark.Comma = true
is_label_mark _ = false

abbrev pub is_label_word : Word → Bool
is_label_word word.Super = true
is_label_word word.Yield = true
is_label_word word.Return = true
is_label_word word.Break = true
is_label_word word.Next = true
is_label_word _ = false

-- a label may stand behind a name, a comma, an opening bracket and the keywords that take arguments
unfoldable pub allows_label : Form → Bool
allows_label form.Name = true
allows_label (form.MethodName p) = true
allows_label form.PipeOpen = true
allows_label form.UndefComma = true
allows_label (form.Op m) = is_label_mark m
allows_label (form.Keyword w) = is_label_word w
allows_label _ = false

-- ---- arguments without brackets

abbrev pub is_def : MethodPlace → Bool
is_def method.Def = true
is_def _ = false

-- a name or a keyword that takes arguments as a name does
unfoldable pub is_name : Form → Bool
is_name form.Name = true
is_name (form.MethodName p) = true
is_name (form.Keyword word.Yield) = true
is_name (form.Keyword word.Super) = true
is_name _ = false

-- one that a token can follow as its argument: not the name that a `def` gives
unfoldable pub takes_argument : Form → Bool
takes_argument (form.MethodName p) = not (is_def p)
takes_argument last = is_name last

unfoldable pub is_constant : Form → Bool
is_constant form.Const = true
is_constant (form.MethodConst p) = not (is_def p)
is_constant _ = false

-- a symbol may begin
unfoldable pub begins_symbol : Place → Bool
begins_symbol p = not (wants_name p.last) && (begins_value p.last || (p.blank && is_name p.last))

-- a list of words may begin
unfoldable pub begins_list : Place → Bool
begins_list p = wants_value p.last || (p.blank && takes_argument p.last)
