-- The layer of each form of expression and statement.
use Rattle.std.proofs.Common.{◌≡◌, ℤ, List, Option, sym, ap, ◌∙◌}
use Rattle.opal_base.specs.declared.place.Pos.{Pos}
use Rattle.es5_tree.specs.declared.tree.Catch.{Catch, Catch-F, out-Catch, roll-Catch, out-roll-Catch}
use Rattle.es5_tree.specs.declared.tree.EsExpr.{EsExpr}
use Rattle.es5_tree.specs.declared.tree.EsKind.{EsKind, EsKind-F, out-EsKind, roll-EsKind, out-roll-EsKind}
use Rattle.es5_tree.specs.declared.tree.EsKind.TheVariants as kind
use Rattle.es5_tree.specs.declared.tree.EsStmt.{EsStmt, EsStmt-F, out-EsStmt, roll-EsStmt, out-roll-EsStmt}
use Rattle.es5_tree.specs.declared.tree.EsStmt.TheVariants as stmt
use Rattle.es5_tree.specs.declared.tree.Operator.{Operator}
use Rattle.es5_tree.specs.Values.{Text}
use Rattle.es5_evaluation.specs.Evaluate.{Layer, Statement}

-- a form is known by the layer that it was rolled from
pub kind_of : (l : Layer) {k : EsKind} → roll-EsKind l ≡ k → out-EsKind k ≡ l
kind_of l e = ap out-EsKind (sym e) ∙ out-roll-EsKind l

pub stmt_of : (l : Statement) {t : EsStmt} → roll-EsStmt l ≡ t → out-EsStmt t ≡ l
stmt_of l e = ap out-EsStmt (sym e) ∙ out-roll-EsStmt l

pub out_catch : (l : Catch-F EsKind EsStmt Catch EsExpr) → out-Catch (roll-Catch l) ≡ l
out_catch l = out-roll-Catch l

-- ---- expressions

pub out_num : (n : ℤ) → out-EsKind (kind.Num n) ≡ EsKind-F.Num n
out_num n = kind_of (EsKind-F.Num n) (kind.rolls-Num n)

pub out_str : (text : Text) → out-EsKind (kind.Str text) ≡ EsKind-F.Str text
out_str text = kind_of (EsKind-F.Str text) (kind.rolls-Str text)

pub out_true_ : out-EsKind kind.True ≡ EsKind-F.True
out_true_ = kind_of EsKind-F.True kind.rolls-True

pub out_false_ : out-EsKind kind.False ≡ EsKind-F.False
out_false_ = kind_of EsKind-F.False kind.rolls-False

pub out_null : out-EsKind kind.Null ≡ EsKind-F.Null
out_null = kind_of EsKind-F.Null kind.rolls-Null

pub out_this : out-EsKind kind.This ≡ EsKind-F.This
out_this = kind_of EsKind-F.This kind.rolls-This

pub out_name : (name : Text) → out-EsKind (kind.Name name) ≡ EsKind-F.Name name
out_name name = kind_of (EsKind-F.Name name) (kind.rolls-Name name)

pub out_array : (items : List EsExpr) → out-EsKind (kind.Array items) ≡ EsKind-F.Array items
out_array items = kind_of (EsKind-F.Array items) (kind.rolls-Array items)

pub out_object : (keys : List Text) (values : List EsExpr) → out-EsKind (kind.Object keys values) ≡ EsKind-F.Object keys values
out_object keys values = kind_of (EsKind-F.Object keys values) (kind.rolls-Object keys values)

pub out_function : (name : Option Text) (params : List Text) (body : List EsStmt) → out-EsKind (kind.Function name params body) ≡ EsKind-F.Function name params body
out_function name params body = kind_of (EsKind-F.Function name params body) (kind.rolls-Function name params body)

pub out_member : (base : EsExpr) (name : Text) (mark : Pos) → out-EsKind (kind.Member base name mark) ≡ EsKind-F.Member base name mark
out_member base name mark = kind_of (EsKind-F.Member base name mark) (kind.rolls-Member base name mark)

pub out_index : (base key : EsExpr) (mark : Pos) → out-EsKind (kind.Index base key mark) ≡ EsKind-F.Index base key mark
out_index base key mark = kind_of (EsKind-F.Index base key mark) (kind.rolls-Index base key mark)

pub out_call : (callee : EsExpr) (args : List EsExpr) → out-EsKind (kind.Call callee args) ≡ EsKind-F.Call callee args
out_call callee args = kind_of (EsKind-F.Call callee args) (kind.rolls-Call callee args)

pub out_not_ : (a : EsExpr) → out-EsKind (kind.Not a) ≡ EsKind-F.Not a
out_not_ a = kind_of (EsKind-F.Not a) (kind.rolls-Not a)

pub out_neg : (a : EsExpr) → out-EsKind (kind.Neg a) ≡ EsKind-F.Neg a
out_neg a = kind_of (EsKind-F.Neg a) (kind.rolls-Neg a)

pub out_typeof : (a : EsExpr) → out-EsKind (kind.Typeof a) ≡ EsKind-F.Typeof a
out_typeof a = kind_of (EsKind-F.Typeof a) (kind.rolls-Typeof a)

pub out_delete : (a : EsExpr) → out-EsKind (kind.Delete a) ≡ EsKind-F.Delete a
out_delete a = kind_of (EsKind-F.Delete a) (kind.rolls-Delete a)

pub out_binary : (operator : Operator) (a b : EsExpr) → out-EsKind (kind.Binary operator a b) ≡ EsKind-F.Binary operator a b
out_binary operator a b = kind_of (EsKind-F.Binary operator a b) (kind.rolls-Binary operator a b)

pub out_and : (a b : EsExpr) → out-EsKind (kind.And a b) ≡ EsKind-F.And a b
out_and a b = kind_of (EsKind-F.And a b) (kind.rolls-And a b)

pub out_or : (a b : EsExpr) → out-EsKind (kind.Or a b) ≡ EsKind-F.Or a b
out_or a b = kind_of (EsKind-F.Or a b) (kind.rolls-Or a b)

pub out_cond : (test a b : EsExpr) → out-EsKind (kind.Cond test a b) ≡ EsKind-F.Cond test a b
out_cond test a b = kind_of (EsKind-F.Cond test a b) (kind.rolls-Cond test a b)

pub out_assign : (target a : EsExpr) → out-EsKind (kind.Assign target a) ≡ EsKind-F.Assign target a
out_assign target a = kind_of (EsKind-F.Assign target a) (kind.rolls-Assign target a)

-- ---- statements

pub out_var : (name : Text) (value : Option EsExpr) → out-EsStmt (stmt.Var name value) ≡ EsStmt-F.Var name value
out_var name value = stmt_of (EsStmt-F.Var name value) (stmt.rolls-Var name value)

pub out_expr : (e : EsExpr) → out-EsStmt (stmt.Expr e) ≡ EsStmt-F.Expr e
out_expr e = stmt_of (EsStmt-F.Expr e) (stmt.rolls-Expr e)

pub out_block : (body : List EsStmt) → out-EsStmt (stmt.Block body) ≡ EsStmt-F.Block body
out_block body = stmt_of (EsStmt-F.Block body) (stmt.rolls-Block body)

pub out_if_ : (test : EsExpr) (first : EsStmt) (second : Option EsStmt) → out-EsStmt (stmt.If test first second) ≡ EsStmt-F.If test first second
out_if_ test first second = stmt_of (EsStmt-F.If test first second) (stmt.rolls-If test first second)

pub out_while : (test : EsExpr) (body : EsStmt) → out-EsStmt (stmt.While test body) ≡ EsStmt-F.While test body
out_while test body = stmt_of (EsStmt-F.While test body) (stmt.rolls-While test body)

pub out_return : (value : Option EsExpr) → out-EsStmt (stmt.Return value) ≡ EsStmt-F.Return value
out_return value = stmt_of (EsStmt-F.Return value) (stmt.rolls-Return value)

pub out_break : out-EsStmt stmt.Break ≡ EsStmt-F.Break
out_break = stmt_of EsStmt-F.Break stmt.rolls-Break

pub out_continue : out-EsStmt stmt.Continue ≡ EsStmt-F.Continue
out_continue = stmt_of EsStmt-F.Continue stmt.rolls-Continue

pub out_throw : (e : EsExpr) → out-EsStmt (stmt.Throw e) ≡ EsStmt-F.Throw e
out_throw e = stmt_of (EsStmt-F.Throw e) (stmt.rolls-Throw e)

pub out_try : (body : List EsStmt) (catch : Option Catch) (finally : Option (List EsStmt)) → out-EsStmt (stmt.Try body catch finally) ≡ EsStmt-F.Try body catch finally
out_try body catch finally = stmt_of (EsStmt-F.Try body catch finally) (stmt.rolls-Try body catch finally)

pub out_empty : out-EsStmt stmt.Empty ≡ EsStmt-F.Empty
out_empty = stmt_of EsStmt-F.Empty stmt.rolls-Empty
