-- How many statements and expressions a script has.
use Rattle.std.specs.Prelude.{ℕ, suc, ◌+◌, List, [], ◌∷◌, map, Option, None, Some}
use Rattle.es5_tree.specs.declared.tree.Catch.{Catch}
use Rattle.es5_tree.specs.declared.tree.EsExpr.{EsExpr}
use Rattle.es5_tree.specs.declared.tree.EsKind.{EsKind}
use Rattle.es5_tree.specs.declared.tree.EsKind.TheFolds.{fold-Catch, fold-EsExpr, fold-EsKind, fold-EsStmt}
use Rattle.es5_tree.specs.declared.tree.EsKind.TheOpen.{Catch-F, EsKind-F, EsStmt-F}
use Rattle.es5_tree.specs.declared.tree.EsStmt.{EsStmt}
use Rattle.es5_tree.specs.declared.tree.Script.{Script}

abbrev pub total : List ℕ → ℕ
total [] = 0
total (n ∷ ns) = n + total ns

abbrev pub optional : Option ℕ → ℕ
optional None = 0
optional (Some n) = n

abbrev pub total_of : Option (List ℕ) → ℕ
total_of None = 0
total_of (Some ns) = total ns

-- the parts of a form, each with its number in its place
abbrev pub of_kind : EsKind-F ℕ ℕ ℕ ℕ → ℕ
of_kind (EsKind-F.Num value) = 0
of_kind (EsKind-F.Str text) = 0
of_kind EsKind-F.True = 0
of_kind EsKind-F.False = 0
of_kind EsKind-F.Null = 0
of_kind EsKind-F.This = 0
of_kind (EsKind-F.Name name) = 0
of_kind (EsKind-F.Array items) = total items
of_kind (EsKind-F.Object keys values) = total values
of_kind (EsKind-F.Function name params body) = total body
of_kind (EsKind-F.Member base name mark) = base
of_kind (EsKind-F.Index base key mark) = base + key
of_kind (EsKind-F.Call callee args) = callee + total args
of_kind (EsKind-F.Not value) = value
of_kind (EsKind-F.Neg value) = value
of_kind (EsKind-F.Typeof value) = value
of_kind (EsKind-F.Delete value) = value
of_kind (EsKind-F.Binary operator left right) = left + right
of_kind (EsKind-F.And left right) = left + right
of_kind (EsKind-F.Or left right) = left + right
of_kind (EsKind-F.Cond test first second) = test + (first + second)
of_kind (EsKind-F.Assign target value) = target + value

-- the parts of a statement
abbrev pub parts_of : EsStmt-F ℕ ℕ ℕ ℕ → ℕ
parts_of (EsStmt-F.Var name value) = optional value
parts_of (EsStmt-F.Expr value) = value
parts_of (EsStmt-F.Block body) = total body
parts_of (EsStmt-F.If test first second) = test + (first + optional second)
parts_of (EsStmt-F.While test body) = test + body
parts_of (EsStmt-F.Return value) = optional value
parts_of EsStmt-F.Break = 0
parts_of EsStmt-F.Continue = 0
parts_of (EsStmt-F.Throw value) = value
parts_of (EsStmt-F.Try body catch finally) = total body + (optional catch + total_of finally)
parts_of EsStmt-F.Empty = 0

-- A statement and an expression are one more than their parts, and the part of a `try` that takes what was thrown is no node.
abbrev pub of_stmt : EsStmt-F ℕ ℕ ℕ ℕ → ℕ
of_stmt statement = suc (parts_of statement)

abbrev pub of_catch : Catch-F ℕ ℕ ℕ ℕ → ℕ
of_catch catch = total catch.body

unfoldable pub expr_nodes : EsExpr → ℕ
expr_nodes = fold-EsExpr ℕ ℕ ℕ ℕ of_kind of_stmt of_catch (λ e. suc e.kind)

-- The same fold at the other types of the tree:
unfoldable pub form_nodes : EsKind → ℕ
form_nodes = fold-EsKind ℕ ℕ ℕ ℕ of_kind of_stmt of_catch (λ e. suc e.kind)

unfoldable pub stmt_nodes : EsStmt → ℕ
stmt_nodes = fold-EsStmt ℕ ℕ ℕ ℕ of_kind of_stmt of_catch (λ e. suc e.kind)

unfoldable pub catch_nodes : Catch → ℕ
catch_nodes = fold-Catch ℕ ℕ ℕ ℕ of_kind of_stmt of_catch (λ e. suc e.kind)

abbrev pub script_nodes : Script → ℕ
script_nodes script = total (map stmt_nodes script.body)
