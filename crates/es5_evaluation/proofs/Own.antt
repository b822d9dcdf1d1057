-- What each form of expression and statement declares and names, from its parts.
use Rattle.std.proofs.Common.{◌≡◌, ℤ, false, List, [], ◌∷◌, map, bytes_eq, Option, Some, None, refl, sym, ap, ◌∙◌}
use Rattle.std.specs.Option.{option_map}
use Rattle.opal_base.specs.declared.place.Pos.{Pos}
use Rattle.es5_tree.specs.declared.tree.Catch.{Catch, Catch-F, out-Catch, roll-Catch, roll-out-Catch, map-Catch, fold-roll-Catch}
use Rattle.es5_tree.specs.declared.tree.EsExpr.{EsExpr, fold-roll-EsExpr}
use Rattle.es5_tree.specs.declared.tree.EsKind.{EsKind, EsKind-F, roll-EsKind, map-EsKind, fold-roll-EsKind}
use Rattle.es5_tree.specs.declared.tree.EsKind.TheVariants as kind
use Rattle.es5_tree.specs.declared.tree.EsStmt.{EsStmt, EsStmt-F, roll-EsStmt, map-EsStmt, fold-roll-EsStmt}
use Rattle.es5_tree.specs.declared.tree.EsStmt.TheVariants as stmt
use Rattle.es5_tree.specs.declared.tree.Operator.{Operator}
use Rattle.es5_tree.specs.Values.{Text}
use Rattle.es5_evaluation.specs.Declared.{OwnCode, arguments_name, both, catch_code, each, expr_code, kind_code, nothing, of_catch, of_kind, of_stmt, optional, optional_list, own_code, stmt_code}
use Rattle.es5_evaluation.specs.Evaluate.{Layer, Statement}

-- ---- by a layer

pub expr_to : (e : EsExpr) → expr_code e ≡ kind_code e.kind
unfolding expr_code kind_code
expr_to e = fold-roll-EsExpr OwnCode OwnCode OwnCode OwnCode of_kind of_stmt of_catch (λ e. e.kind) (record { kind = e.kind; origin = e.origin; pos = e.pos })

pub kind_to : (k : EsKind) (l : Layer) → roll-EsKind l ≡ k → kind_code k ≡ of_kind (map-EsKind EsKind EsStmt Catch EsExpr OwnCode OwnCode OwnCode OwnCode kind_code stmt_code catch_code expr_code l)
unfolding expr_code kind_code stmt_code catch_code
kind_to k l e = ap kind_code (sym e) ∙ fold-roll-EsKind OwnCode OwnCode OwnCode OwnCode of_kind of_stmt of_catch (λ e. e.kind) l

pub stmt_to : (t : EsStmt) (l : Statement) → roll-EsStmt l ≡ t → stmt_code t ≡ of_stmt (map-EsStmt EsKind EsStmt Catch EsExpr OwnCode OwnCode OwnCode OwnCode kind_code stmt_code catch_code expr_code l)
unfolding expr_code kind_code stmt_code catch_code
stmt_to t l e = ap stmt_code (sym e) ∙ fold-roll-EsStmt OwnCode OwnCode OwnCode OwnCode of_kind of_stmt of_catch (λ e. e.kind) l

catch_layer : (l : Catch-F EsKind EsStmt Catch EsExpr) → catch_code (roll-Catch l) ≡ of_catch (map-Catch EsKind EsStmt Catch EsExpr OwnCode OwnCode OwnCode OwnCode kind_code stmt_code catch_code expr_code l)
unfolding expr_code kind_code stmt_code catch_code
catch_layer l = fold-roll-Catch OwnCode OwnCode OwnCode OwnCode of_kind of_stmt of_catch (λ e. e.kind) l

pub catch_to : (c : Catch) → catch_code c ≡ each (map stmt_code c.body)
catch_to c = ap catch_code (sym (roll-out-Catch c)) ∙ catch_layer (out-Catch c)

-- ---- code

pub own_none : own_code [] ≡ nothing
unfolding own_code
own_none = refl

pub own_first : (t : EsStmt) (ts : List EsStmt) → own_code (t ∷ ts) ≡ both (stmt_code t) (own_code ts)
unfolding own_code
own_first t ts = refl

-- ---- expressions

pub of_num : (n : ℤ) → kind_code (kind.Num n) ≡ nothing
of_num n = kind_to _ (EsKind-F.Num n) (kind.rolls-Num n)

pub of_str : (text : Text) → kind_code (kind.Str text) ≡ nothing
of_str text = kind_to _ (EsKind-F.Str text) (kind.rolls-Str text)

pub of_true_ : kind_code kind.True ≡ nothing
of_true_ = kind_to _ EsKind-F.True kind.rolls-True

pub of_false_ : kind_code kind.False ≡ nothing
of_false_ = kind_to _ EsKind-F.False kind.rolls-False

pub of_null : kind_code kind.Null ≡ nothing
of_null = kind_to _ EsKind-F.Null kind.rolls-Null

pub of_this : kind_code kind.This ≡ nothing
of_this = kind_to _ EsKind-F.This kind.rolls-This

pub of_name : (name : Text) → kind_code (kind.Name name) ≡ record { names = []; arguments = bytes_eq name arguments_name }
of_name name = kind_to _ (EsKind-F.Name name) (kind.rolls-Name name)

pub of_array : (items : List EsExpr) → kind_code (kind.Array items) ≡ each (map expr_code items)
of_array items = kind_to _ (EsKind-F.Array items) (kind.rolls-Array items)

pub of_object : (keys : List Text) (values : List EsExpr) → kind_code (kind.Object keys values) ≡ each (map expr_code values)
of_object keys values = kind_to _ (EsKind-F.Object keys values) (kind.rolls-Object keys values)

pub of_function : (name : Option Text) (params : List Text) (body : List EsStmt) → kind_code (kind.Function name params body) ≡ nothing
of_function name params body = kind_to _ (EsKind-F.Function name params body) (kind.rolls-Function name params body)

pub of_member : (base : EsExpr) (name : Text) (mark : Pos) → kind_code (kind.Member base name mark) ≡ expr_code base
of_member base name mark = kind_to _ (EsKind-F.Member base name mark) (kind.rolls-Member base name mark)

pub of_index : (base key : EsExpr) (mark : Pos) → kind_code (kind.Index base key mark) ≡ both (expr_code base) (expr_code key)
of_index base key mark = kind_to _ (EsKind-F.Index base key mark) (kind.rolls-Index base key mark)

pub of_call : (callee : EsExpr) (args : List EsExpr) → kind_code (kind.Call callee args) ≡ both (expr_code callee) (each (map expr_code args))
of_call callee args = kind_to _ (EsKind-F.Call callee args) (kind.rolls-Call callee args)

pub of_not_ : (a : EsExpr) → kind_code (kind.Not a) ≡ expr_code a
of_not_ a = kind_to _ (EsKind-F.Not a) (kind.rolls-Not a)

pub of_neg : (a : EsExpr) → kind_code (kind.Neg a) ≡ expr_code a
of_neg a = kind_to _ (EsKind-F.Neg a) (kind.rolls-Neg a)

pub of_typeof : (a : EsExpr) → kind_code (kind.Typeof a) ≡ expr_code a
of_typeof a = kind_to _ (EsKind-F.Typeof a) (kind.rolls-Typeof a)

pub of_delete : (a : EsExpr) → kind_code (kind.Delete a) ≡ expr_code a
of_delete a = kind_to _ (EsKind-F.Delete a) (kind.rolls-Delete a)

pub of_binary : (operator : Operator) (a b : EsExpr) → kind_code (kind.Binary operator a b) ≡ both (expr_code a) (expr_code b)
of_binary operator a b = kind_to _ (EsKind-F.Binary operator a b) (kind.rolls-Binary operator a b)

pub of_and : (a b : EsExpr) → kind_code (kind.And a b) ≡ both (expr_code a) (expr_code b)
of_and a b = kind_to _ (EsKind-F.And a b) (kind.rolls-And a b)

pub of_or : (a b : EsExpr) → kind_code (kind.Or a b) ≡ both (expr_code a) (expr_code b)
of_or a b = kind_to _ (EsKind-F.Or a b) (kind.rolls-Or a b)

pub of_cond : (test a b : EsExpr) → kind_code (kind.Cond test a b) ≡ both (expr_code test) (both (expr_code a) (expr_code b))
of_cond test a b = kind_to _ (EsKind-F.Cond test a b) (kind.rolls-Cond test a b)

pub of_assign : (target a : EsExpr) → kind_code (kind.Assign target a) ≡ both (expr_code target) (expr_code a)
of_assign target a = kind_to _ (EsKind-F.Assign target a) (kind.rolls-Assign target a)

-- ---- statements

pub of_var : (name : Text) (value : Option EsExpr) → stmt_code (stmt.Var name value) ≡ both (record { names = name ∷ []; arguments = false }) (optional (option_map expr_code value))
of_var name None = stmt_to _ (EsStmt-F.Var name None) (stmt.rolls-Var name None)
of_var name (Some e) = stmt_to _ (EsStmt-F.Var name (Some e)) (stmt.rolls-Var name (Some e))

pub of_expr : (e : EsExpr) → stmt_code (stmt.Expr e) ≡ expr_code e
of_expr e = stmt_to _ (EsStmt-F.Expr e) (stmt.rolls-Expr e)

pub of_block : (body : List EsStmt) → stmt_code (stmt.Block body) ≡ each (map stmt_code body)
of_block body = stmt_to _ (EsStmt-F.Block body) (stmt.rolls-Block body)

pub of_if : (test : EsExpr) (first : EsStmt) (second : Option EsStmt) → stmt_code (stmt.If test first second) ≡ both (expr_code test) (both (stmt_code first) (optional (option_map stmt_code second)))
of_if test first None = stmt_to _ (EsStmt-F.If test first None) (stmt.rolls-If test first None)
of_if test first (Some second) = stmt_to _ (EsStmt-F.If test first (Some second)) (stmt.rolls-If test first (Some second))

pub of_while : (test : EsExpr) (body : EsStmt) → stmt_code (stmt.While test body) ≡ both (expr_code test) (stmt_code body)
of_while test body = stmt_to _ (EsStmt-F.While test body) (stmt.rolls-While test body)

pub of_return : (value : Option EsExpr) → stmt_code (stmt.Return value) ≡ optional (option_map expr_code value)
of_return None = stmt_to _ (EsStmt-F.Return None) (stmt.rolls-Return None)
of_return (Some e) = stmt_to _ (EsStmt-F.Return (Some e)) (stmt.rolls-Return (Some e))

pub of_break : stmt_code stmt.Break ≡ nothing
of_break = stmt_to _ EsStmt-F.Break stmt.rolls-Break

pub of_continue : stmt_code stmt.Continue ≡ nothing
of_continue = stmt_to _ EsStmt-F.Continue stmt.rolls-Continue

pub of_throw : (e : EsExpr) → stmt_code (stmt.Throw e) ≡ expr_code e
of_throw e = stmt_to _ (EsStmt-F.Throw e) (stmt.rolls-Throw e)

pub of_try : (body : List EsStmt) (catch : Option Catch) (finally : Option (List EsStmt)) → stmt_code (stmt.Try body catch finally) ≡ both (each (map stmt_code body)) (both (optional (option_map catch_code catch)) (optional_list (option_map (map stmt_code) finally)))
of_try body None None = stmt_to _ (EsStmt-F.Try body None None) (stmt.rolls-Try body None None)
of_try body None (Some last) = stmt_to _ (EsStmt-F.Try body None (Some last)) (stmt.rolls-Try body None (Some last))
of_try body (Some part) None = stmt_to _ (EsStmt-F.Try body (Some part) None) (stmt.rolls-Try body (Some part) None)
of_try body (Some part) (Some last) = stmt_to _ (EsStmt-F.Try body (Some part) (Some last)) (stmt.rolls-Try body (Some part) (Some last))

pub of_empty : stmt_code stmt.Empty ≡ nothing
of_empty = stmt_to _ EsStmt-F.Empty stmt.rolls-Empty
