-- The names that the code of a function or of a script declares, and whether it names `arguments` (ECMA-262 5.1, section 10.5). The functions in it have code of their own.
use Rattle.std.specs.Prelude.{Bool, false, ◌||◌, if◌then◌else◌, List, [], ◌∷◌, ◌++◌, map, Option, None, Some, bytes_eq, codes}
use Rattle.std.specs.List.{list_any}
use Rattle.es5_tree.specs.declared.tree.EsKind.TheOpen.{Catch-F, EsKind-F, EsStmt-F}
use Rattle.es5_tree.specs.declared.tree.EsKind.TheFolds.{fold-Catch, fold-EsExpr, fold-EsKind, fold-EsStmt}
use Rattle.es5_tree.specs.declared.tree.Catch.{Catch}
use Rattle.es5_tree.specs.declared.tree.EsExpr.{EsExpr}
use Rattle.es5_tree.specs.declared.tree.EsKind.{EsKind}
use Rattle.es5_tree.specs.declared.tree.EsStmt.{EsStmt}
use Rattle.es5_tree.specs.Values.{Text}

-- the names of its `var` statements in their order, and whether `arguments` is named
pub record OwnCode : Type 0 where
  pub names : List Text
  pub arguments : Bool

abbrev pub nothing : OwnCode
nothing = record { names = []; arguments = false }

abbrev pub both : OwnCode → OwnCode → OwnCode
both a b = record { names = a.names ++ b.names; arguments = a.arguments || b.arguments }

abbrev pub each : List OwnCode → OwnCode
each [] = nothing
each (a ∷ more) = both a (each more)

abbrev pub optional : Option OwnCode → OwnCode
optional None = nothing
optional (Some a) = a

abbrev pub optional_list : Option (List OwnCode) → OwnCode
optional_list None = nothing
optional_list (Some parts) = each parts

abbrev pub arguments_name : Text
arguments_name = codes "arguments"

abbrev pub of_kind : EsKind-F OwnCode OwnCode OwnCode OwnCode → OwnCode
of_kind (EsKind-F.Num value) = nothing
of_kind (EsKind-F.Str text) = nothing
of_kind EsKind-F.True = nothing
of_kind EsKind-F.False = nothing
of_kind EsKind-F.Null = nothing
of_kind EsKind-F.This = nothing
of_kind (EsKind-F.Name name) = record { names = []; arguments = bytes_eq name arguments_name }
of_kind (EsKind-F.Array items) = each items
of_kind (EsKind-F.Object keys values) = each values
of_kind (EsKind-F.Function name params body) = nothing
of_kind (EsKind-F.Member base name mark) = base
of_kind (EsKind-F.Index base key mark) = both base key
of_kind (EsKind-F.Call callee args) = both callee (each args)
of_kind (EsKind-F.Not value) = value
of_kind (EsKind-F.Neg value) = value
of_kind (EsKind-F.Typeof value) = value
of_kind (EsKind-F.Delete value) = value
of_kind (EsKind-F.Binary operator left right) = both left right
of_kind (EsKind-F.And left right) = both left right
of_kind (EsKind-F.Or left right) = both left right
of_kind (EsKind-F.Cond test first second) = both test (both first second)
of_kind (EsKind-F.Assign target value) = both target value

abbrev pub of_stmt : EsStmt-F OwnCode OwnCode OwnCode OwnCode → OwnCode
of_stmt (EsStmt-F.Var name value) = both (record { names = name ∷ []; arguments = false }) (optional value)
of_stmt (EsStmt-F.Expr value) = value
of_stmt (EsStmt-F.Block body) = each body
of_stmt (EsStmt-F.If test first second) = both test (both first (optional second))
of_stmt (EsStmt-F.While test body) = both test body
of_stmt (EsStmt-F.Return value) = optional value
of_stmt EsStmt-F.Break = nothing
of_stmt EsStmt-F.Continue = nothing
of_stmt (EsStmt-F.Throw value) = value
of_stmt (EsStmt-F.Try body catch finally) = both (each body) (both (optional catch) (optional_list finally))
of_stmt EsStmt-F.Empty = nothing

-- the name that a `catch` takes is no variable of the code
abbrev pub of_catch : Catch-F OwnCode OwnCode OwnCode OwnCode → OwnCode
of_catch catch = each catch.body

unfoldable pub expr_code : EsExpr → OwnCode
expr_code = fold-EsExpr OwnCode OwnCode OwnCode OwnCode of_kind of_stmt of_catch (λ e. e.kind)

-- The same fold at the other types of the tree:
unfoldable pub kind_code : EsKind → OwnCode
kind_code = fold-EsKind OwnCode OwnCode OwnCode OwnCode of_kind of_stmt of_catch (λ e. e.kind)

unfoldable pub stmt_code : EsStmt → OwnCode
stmt_code = fold-EsStmt OwnCode OwnCode OwnCode OwnCode of_kind of_stmt of_catch (λ e. e.kind)

unfoldable pub catch_code : Catch → OwnCode
catch_code = fold-Catch OwnCode OwnCode OwnCode OwnCode of_kind of_stmt of_catch (λ e. e.kind)

unfoldable pub own_code : List EsStmt → OwnCode
own_code body = each (map stmt_code body)

-- these names without those that are known or stood before
unfoldable pub new_names : List Text → List Text → List Text
new_names known [] = []
new_names known (name ∷ names) = if list_any (bytes_eq name) known then new_names known names else name ∷ new_names (name ∷ known) names

-- the variables that code with these parameters declares beside them
abbrev pub locals : List Text → List EsStmt → List Text
locals params body = new_names params (own_code body).names
