-- Whether a script is spellable, as a test: a fold over its tree. Contracts inside this crate cite it; what it has to do with
-- spellable scripts is the contract of `is_spellable`.
use Rattle.std.specs.Prelude.{ℕ, ℤ, pos, negsuc, Bool, true, false, not, ◌&&◌, ◌||◌, nat_eq, nat_le, List, length, map, Option, Some, None, codes, bytes_eq, is_some}
use Rattle.std.specs.List.{list_all}
use Rattle.es5_tree.specs.declared.tree.Catch.{Catch}
use Rattle.es5_tree.specs.declared.tree.EsExpr.{EsExpr}
use Rattle.es5_tree.specs.declared.tree.EsKind.{EsKind}
use Rattle.es5_tree.specs.declared.tree.EsKind.TheFolds.{fold-Catch, fold-EsExpr, fold-EsKind, fold-EsStmt}
use Rattle.es5_tree.specs.declared.tree.EsKind.TheOpen.{Catch-F, EsExpr-F, EsKind-F, EsStmt-F}
use Rattle.es5_tree.specs.declared.tree.EsStmt.{EsStmt}
use Rattle.es5_tree.specs.declared.tree.Script.{Script}
use Rattle.es5_spelling.specs.Spellable.{is_binding, is_identifier, none_twice}

-- from 0 to 2^53-1
abbrev pub is_numeral : ℤ → Bool
is_numeral (pos n) = nat_le n 9007199254740991
is_numeral (negsuc n) = false

-- of 16-bit units
abbrev pub is_text : List ℕ → Bool
is_text text = list_all (λ unit. nat_le unit 65535) text

abbrev pub is_binding_if : Option (List ℕ) → Bool
is_binding_if None = true
is_binding_if (Some name) = is_binding name

abbrev pub are_keys : List (List ℕ) → Bool
are_keys names = list_all is_identifier names && none_twice names

abbrev pub are_params : List (List ℕ) → Bool
are_params names = list_all is_binding names && none_twice names

-- an expression: whether it is spellable, whether it is a member or an index, and whether it can stand before a `=`
abbrev pub Tested : Type 0
Tested = Bool × (Bool × Bool)

-- a statement: whether it ends with an `if` without an `else`, and whether it is spellable in a function or outside, in a loop or
-- outside
abbrev pub Sentence : Type 0
Sentence = Bool × (Bool → Bool → Bool)

abbrev pub Handler : Type 0
Handler = Bool → Bool → Bool

abbrev pub plain : Bool → Tested
plain ok = (ok, (false, false))

abbrev pub all : List Tested → Bool
all es = list_all (λ e. e.0) es

abbrev pub all_statements : List Sentence → Bool → Bool → Bool
all_statements ss in_function in_loop = list_all (λ s. s.1 in_function in_loop) ss

abbrev pub optional : Option Tested → Bool
optional None = true
optional (Some e) = e.0

abbrev pub of_kind : EsKind-F Tested Sentence Handler Tested → Tested
of_kind (EsKind-F.Num value) = plain (is_numeral value)
of_kind (EsKind-F.Str text) = plain (is_text text)
of_kind EsKind-F.True = plain true
of_kind EsKind-F.False = plain true
of_kind EsKind-F.Null = plain true
of_kind EsKind-F.This = plain true
of_kind (EsKind-F.Name name) = (is_identifier name, (false, not (bytes_eq (codes "arguments") name)))
of_kind (EsKind-F.Array items) = plain (all items)
of_kind (EsKind-F.Object keys values) = plain (are_keys keys && nat_eq (length keys) (length values) && all values)
of_kind (EsKind-F.Function name params body) = plain (is_binding_if name && are_params params && all_statements body true false)
of_kind (EsKind-F.Member base name mark) = (base.0 && is_identifier name, (true, true))
of_kind (EsKind-F.Index base key mark) = (base.0 && key.0, (true, true))
of_kind (EsKind-F.Call callee args) = plain (callee.0 && all args)
of_kind (EsKind-F.Not value) = plain value.0
of_kind (EsKind-F.Neg value) = plain value.0
of_kind (EsKind-F.Typeof value) = plain value.0
of_kind (EsKind-F.Delete value) = plain (value.1.0 && value.0)
of_kind (EsKind-F.Binary operator left right) = plain (left.0 && right.0)
of_kind (EsKind-F.And left right) = plain (left.0 && right.0)
of_kind (EsKind-F.Or left right) = plain (left.0 && right.0)
of_kind (EsKind-F.Cond test first second) = plain (test.0 && first.0 && second.0)
of_kind (EsKind-F.Assign target value) = plain (target.1.1 && target.0 && value.0)

abbrev pub of_expr : EsExpr-F Tested Sentence Handler Tested → Tested
of_expr e = e.kind

-- whether the second part of an `if` is spellable behind the first
abbrev pub otherwise : Sentence → Option Sentence → Bool → Bool → Bool
otherwise first None in_function in_loop = true
otherwise first (Some second) in_function in_loop = not first.0 && second.1 in_function in_loop

abbrev pub is_short : Option Sentence → Bool
is_short None = true
is_short (Some second) = second.0

abbrev pub caught_if : Option Handler → Bool → Bool → Bool
caught_if None in_function in_loop = true
caught_if (Some catch) in_function in_loop = catch in_function in_loop

abbrev pub last_if : Option (List Sentence) → Bool → Bool → Bool
last_if None in_function in_loop = true
last_if (Some last) in_function in_loop = all_statements last in_function in_loop

abbrev pub of_stmt : EsStmt-F Tested Sentence Handler Tested → Sentence
of_stmt (EsStmt-F.Var name value) = (false, λ in_function in_loop. is_binding name && optional value)
of_stmt (EsStmt-F.Expr value) = (false, λ in_function in_loop. value.0)
of_stmt (EsStmt-F.Block body) = (false, λ in_function in_loop. all_statements body in_function in_loop)
of_stmt (EsStmt-F.If test first second) = (is_short second, λ in_function in_loop. test.0 && first.1 in_function in_loop && otherwise first second in_function in_loop)
of_stmt (EsStmt-F.While test body) = (body.0, λ in_function in_loop. test.0 && body.1 in_function true)
of_stmt (EsStmt-F.Return value) = (false, λ in_function in_loop. in_function && optional value)
of_stmt EsStmt-F.Break = (false, λ in_function in_loop. in_loop)
of_stmt EsStmt-F.Continue = (false, λ in_function in_loop. in_loop)
of_stmt (EsStmt-F.Throw value) = (false, λ in_function in_loop. value.0)
of_stmt (EsStmt-F.Try body catch finally) = (false, λ in_function in_loop. (is_some catch || is_some finally) && all_statements body in_function in_loop && caught_if catch in_function in_loop && last_if finally in_function in_loop)
of_stmt EsStmt-F.Empty = (false, λ in_function in_loop. true)

abbrev pub of_catch : Catch-F Tested Sentence Handler Tested → Handler
of_catch catch in_function in_loop = is_binding catch.name && all_statements catch.body in_function in_loop

unfoldable pub form : EsKind → Tested
form = fold-EsKind Tested Sentence Handler Tested of_kind of_stmt of_catch of_expr

-- The same fold at the other types of the tree:
unfoldable pub expression : EsExpr → Tested
expression = fold-EsExpr Tested Sentence Handler Tested of_kind of_stmt of_catch of_expr

unfoldable pub statement : EsStmt → Sentence
statement = fold-EsStmt Tested Sentence Handler Tested of_kind of_stmt of_catch of_expr

unfoldable pub caught : Catch → Handler
caught = fold-Catch Tested Sentence Handler Tested of_kind of_stmt of_catch of_expr

abbrev pub script : Script → Bool
script s = all_statements (map statement s.body) false false
