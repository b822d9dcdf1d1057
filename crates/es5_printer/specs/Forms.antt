-- The pieces of each form, from those of its parts (ECMA-262 5.1, sections 11 to 13).
use Rattle.std.specs.Prelude.{ℕ, Bool, true, false, ◌&&◌, nat_eq, nat_le, List, [], ◌∷◌, ◌++◌, map, Option, None, Some, if◌then◌else◌, codes}
use Rattle.std.specs.Fmt.{signed_decimal}
use Rattle.std.specs.List.{flat_map}
use Rattle.opal_base.specs.Text.{utf8_of}
use Rattle.es5_tree.specs.declared.tree.EsExpr.{EsExpr}
use Rattle.es5_tree.specs.declared.tree.EsKind.TheOpen.{Catch-F, EsExpr-F, EsKind-F, EsStmt-F}
use Rattle.es5_tree.specs.declared.tree.Operator.{Operator}
use Rattle.es5_tree.specs.declared.tree.Operator.TheVariants as operator
use Rattle.es5_tree.specs.Text.{literal}
use Rattle.es5_printer.specs.declared.level.Level.{Level}
use Rattle.es5_printer.specs.declared.level.Level.TheVariants as level
use Rattle.es5_printer.specs.Levels.{tightness, of_operator, of_right}
use Rattle.es5_printer.specs.Pieces.{Piece, text, plain, marked, listed}

-- an expression: its level, whether it begins with `{` or `function`, and its pieces
abbrev pub Part : Type 0
Part = Level × (Bool × List Piece)

-- the same of a form, whose pieces depend on the site that it comes from
abbrev pub Form : Type 0
Form = Level × (Bool × (Option ℕ → List Piece))

abbrev pub pieces : Part → List Piece
pieces part = part.1.1

abbrev pub is_tight : Level → Part → Bool
is_tight wanted part = nat_le (tightness wanted) (tightness part.0)

abbrev pub bracketed : List Piece → List Piece
bracketed inner = text (codes "(") ∷ (inner ++ plain (codes ")"))

-- an expression where one of a level is wanted: in brackets where it binds less tightly
abbrev pub at_level : Level → Part → List Piece
at_level wanted part = if is_tight wanted part then part.1.1 else bracketed (part.1.1)

-- whether it begins with `{` or `function` there
abbrev pub opens_at : Level → Part → Bool
opens_at wanted part = is_tight wanted part && part.1.0

-- ---- expressions

abbrev pub of_one_token : Level → List ℕ → Form
of_one_token tight token = (tight, (false, λ origin. marked origin ++ plain token))

-- the keyword or sign of an operator with one operand; no `-` stands directly before another
abbrev pub minus_before : Part → List ℕ
minus_before value = if nat_eq (tightness value.0) (tightness level.Negation) then codes "- " else codes "-"

abbrev pub unary : Option ℕ → List ℕ → Level → Part → List Piece
unary origin sign wanted value = marked origin ++ text sign ∷ at_level wanted value

abbrev pub prefixed : Level → List ℕ → Level → Part → Form
prefixed tight sign wanted value = (tight, (false, λ origin. unary origin sign wanted value))

abbrev pub sign_of : Operator → List ℕ
sign_of operator.Same = codes " === "
sign_of operator.Different = codes " !== "
sign_of operator.Less = codes " < "
sign_of operator.Greater = codes " > "
sign_of operator.LessOrEqual = codes " <= "
sign_of operator.GreaterOrEqual = codes " >= "
sign_of operator.Add = codes " + "
sign_of operator.Subtract = codes " - "
sign_of operator.Multiply = codes " * "
sign_of operator.Divide = codes " / "
sign_of operator.Remainder = codes " % "

abbrev pub operand_behind : List ℕ → Level → Part → List Piece
operand_behind sign wanted right = text sign ∷ at_level wanted right

abbrev pub value_behind : List ℕ → Part → List Piece
value_behind sign value = text sign ∷ pieces value

-- an operator between two operands, with the level of each side
abbrev pub infixed : Level → Level → Part → List ℕ → Level → Part → Form
infixed tight on_left left sign on_right right = (tight, (opens_at on_left left, λ origin. marked origin ++ (at_level on_left left ++ operand_behind sign on_right right)))

-- a question mark between blanks, by their codes
abbrev pub question_sign : List ℕ
question_sign = 32 ∷ 63 ∷ 32 ∷ []

abbrev pub conditional : Part → Part → Part → List Piece
conditional test first second = at_level level.Or test ++ (value_behind question_sign first ++ value_behind (codes " : ") second)

-- the site of a member is where its name is, that of an index where its key is
abbrev pub member : Part → List ℕ → Option ℕ → List Piece
member base name origin = at_level level.Call base ++ text (codes ".") ∷ (marked origin ++ plain (utf8_of name))

abbrev pub key_behind : Part → Option ℕ → List Piece
key_behind key origin = text (codes "[") ∷ (marked origin ++ (pieces key ++ plain (codes "]")))

abbrev pub index : Part → Part → Option ℕ → List Piece
index base key origin = at_level level.Numeral base ++ key_behind key origin

abbrev pub arguments : List Part → List Piece
arguments args = text (codes "(") ∷ (listed (map pieces args) ++ plain (codes ")"))

abbrev pub call : Part → List Part → List Piece
call callee args = at_level level.Numeral callee ++ arguments args

abbrev pub array : List Part → List Piece
array items = text (codes "[") ∷ (listed (map pieces items) ++ plain (codes "]"))

abbrev pub pair : List ℕ → Part → List Piece
pair key value = text (utf8_of key) ∷ text (codes ": ") ∷ pieces value

abbrev pub pairs : List (List ℕ) → List Part → List (List Piece)
pairs [] values = []
pairs (key ∷ keys) [] = []
pairs (key ∷ keys) (value ∷ values) = pair key value ∷ pairs keys values

abbrev pub object : List (List ℕ) → List Part → List Piece
object keys values = text (codes "{") ∷ (listed (pairs keys values) ++ plain (codes "}"))

-- statements, each on a line of its own
abbrev pub lines : List (List Piece) → List Piece
lines statements = flat_map (λ statement. statement ++ plain (codes "\n")) statements

abbrev pub block : List (List Piece) → List Piece
block statements = text (codes "{\n") ∷ (lines statements ++ plain (codes "}"))

abbrev pub name_if : Option (List ℕ) → List Piece
name_if None = []
name_if (Some name) = text (codes " ") ∷ plain (utf8_of name)

abbrev pub param : List ℕ → List Piece
param name = plain (utf8_of name)

abbrev pub function : Option (List ℕ) → List (List ℕ) → List (List Piece) → List Piece
function name params body = text (codes "function") ∷ (name_if name ++ text (codes "(") ∷ (listed (map param params) ++ text (codes ") ") ∷ block body))

abbrev pub of_kind : EsKind-F Form (List Piece) (List Piece) Part → Form
of_kind (EsKind-F.Num value) = of_one_token level.Numeral (signed_decimal value)
of_kind (EsKind-F.Str value) = of_one_token level.Primary (literal value)
of_kind EsKind-F.True = of_one_token level.Primary (codes "true")
of_kind EsKind-F.False = of_one_token level.Primary (codes "false")
of_kind EsKind-F.Null = of_one_token level.Primary (codes "null")
of_kind EsKind-F.This = of_one_token level.Primary (codes "this")
of_kind (EsKind-F.Name name) = of_one_token level.Primary (utf8_of name)
of_kind (EsKind-F.Array items) = (level.Primary, (false, λ origin. marked origin ++ array items))
of_kind (EsKind-F.Object keys values) = (level.Primary, (true, λ origin. marked origin ++ object keys values))
of_kind (EsKind-F.Function name params body) = (level.Primary, (true, λ origin. marked origin ++ function name params body))
of_kind (EsKind-F.Member base name mark) = (level.Call, (opens_at level.Call base, λ origin. member base name origin))
of_kind (EsKind-F.Index base key mark) = (level.Call, (opens_at level.Numeral base, λ origin. index base key origin))
of_kind (EsKind-F.Call callee args) = (level.Call, (opens_at level.Numeral callee, λ origin. marked origin ++ call callee args))
of_kind (EsKind-F.Not value) = prefixed level.Unary (codes "!") level.Unary value
of_kind (EsKind-F.Neg value) = prefixed level.Negation (minus_before value) level.Unary value
of_kind (EsKind-F.Typeof value) = prefixed level.Unary (codes "typeof ") level.Unary value
of_kind (EsKind-F.Delete value) = prefixed level.Unary (codes "delete ") level.Call value
of_kind (EsKind-F.Binary op left right) = infixed (of_operator op) (of_operator op) left (sign_of op) (of_right op) right
of_kind (EsKind-F.And left right) = infixed level.And level.And left (codes " && ") level.Equality right
of_kind (EsKind-F.Or left right) = infixed level.Or level.Or left (codes " || ") level.And right
of_kind (EsKind-F.Cond test first second) =
    (level.Conditional, (opens_at level.Or test, λ origin. marked origin ++ conditional test first second))
of_kind (EsKind-F.Assign target value) = infixed level.Assignment level.Call target (codes " = ") level.Assignment value

abbrev pub of_expr : EsExpr-F Form (List Piece) (List Piece) Part → Part
of_expr e = (e.kind.0, (e.kind.1.0, e.kind.1.1 e.origin))

-- ---- statements

abbrev pub ended : List Piece → List Piece
ended inner = inner ++ plain (codes ";")

-- an expression statement begins with neither `{` nor `function` (12.4)
abbrev pub of_expression : Part → List Piece
of_expression value = if value.1.0 then bracketed (pieces value) else pieces value

abbrev pub var_statement : List ℕ → Option Part → List Piece
var_statement name None = text (codes "var ") ∷ text (utf8_of name) ∷ plain (codes ";")
var_statement name (Some value) = text (codes "var ") ∷ text (utf8_of name) ∷ ended (value_behind (codes " = ") value)

abbrev pub return_statement : Option Part → List Piece
return_statement None = text (codes "return") ∷ plain (codes ";")
return_statement (Some value) = text (codes "return") ∷ ended (value_behind (codes " ") value)

abbrev pub throw_statement : Part → List Piece
throw_statement value = ended (value_behind (codes "throw ") value)

-- a keyword with its bracket, and what is tested
abbrev pub test : List ℕ → Part → List Piece
test keyword value = text keyword ∷ (pieces value ++ plain (codes ") "))

abbrev pub otherwise : Option (List Piece) → List Piece
otherwise None = []
otherwise (Some statement) = text (codes " else ") ∷ statement

abbrev pub if_statement : Part → List Piece → Option (List Piece) → List Piece
if_statement value first second = test (codes "if (") value ++ (first ++ otherwise second)

abbrev pub block_behind : List ℕ → List (List Piece) → List Piece
block_behind keyword body = text keyword ∷ block body

abbrev pub of_catch_if : Option (List Piece) → List Piece
of_catch_if None = []
of_catch_if (Some catch) = catch

abbrev pub of_finally : Option (List (List Piece)) → List Piece
of_finally None = []
of_finally (Some body) = block_behind (codes " finally ") body

abbrev pub try_statement : List (List Piece) → Option (List Piece) → Option (List (List Piece)) → List Piece
try_statement body catch finally = block_behind (codes "try ") body ++ (of_catch_if catch ++ of_finally finally)

abbrev pub of_stmt : EsStmt-F Form (List Piece) (List Piece) Part → List Piece
of_stmt (EsStmt-F.Var name value) = var_statement name value
of_stmt (EsStmt-F.Expr value) = ended (of_expression value)
of_stmt (EsStmt-F.Block body) = block body
of_stmt (EsStmt-F.If value first second) = if_statement value first second
of_stmt (EsStmt-F.While value body) = test (codes "while (") value ++ body
of_stmt (EsStmt-F.Return value) = return_statement value
of_stmt EsStmt-F.Break = plain (codes "break;")
of_stmt EsStmt-F.Continue = plain (codes "continue;")
of_stmt (EsStmt-F.Throw value) = throw_statement value
of_stmt (EsStmt-F.Try body catch finally) = try_statement body catch finally
of_stmt EsStmt-F.Empty = plain (codes ";")

abbrev pub of_catch : Catch-F Form (List Piece) (List Piece) Part → List Piece
of_catch catch = text (codes " catch (") ∷ text (utf8_of catch.name) ∷ text (codes ") ") ∷ block catch.body
