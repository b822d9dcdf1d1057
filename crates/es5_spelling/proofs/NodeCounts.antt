-- How many nodes each form has, from its parts.
use Rattle.std.proofs.Common.{◌≡◌, ℕ, ℤ, suc, ◌+◌, List, map, Option, None, Some, sym, ap, ◌∙◌}
use Rattle.opal_base.specs.declared.place.Pos.{Pos}
use Rattle.es5_tree.specs.declared.tree.Catch.{Catch, Catch-F, out-Catch, roll-Catch, roll-out-Catch, fold-roll-Catch}
use Rattle.es5_tree.specs.declared.tree.EsExpr.{EsExpr, fold-roll-EsExpr}
use Rattle.es5_tree.specs.declared.tree.EsKind.{EsKind, EsKind-F, roll-EsKind, map-EsKind, fold-roll-EsKind}
use Rattle.es5_tree.specs.declared.tree.EsKind.TheVariants as kind
use Rattle.es5_tree.specs.declared.tree.EsStmt.{EsStmt, EsStmt-F, roll-EsStmt, map-EsStmt, fold-roll-EsStmt}
use Rattle.es5_tree.specs.declared.tree.EsStmt.TheVariants as stmt
use Rattle.es5_tree.specs.declared.tree.Operator.{Operator}
use Rattle.es5_tree.specs.Grammar.Nodes.{expr_at}
use Rattle.es5_spelling.specs.Nodes.{catch_nodes, expr_nodes, form_nodes, of_catch, of_kind, of_stmt, stmt_nodes, total}

expr_layer : (e : EsExpr) → expr_nodes e ≡ suc (form_nodes e.kind)
unfolding expr_nodes form_nodes
expr_layer e = fold-roll-EsExpr ℕ ℕ ℕ ℕ of_kind of_stmt of_catch (λ e. suc e.kind) (record { kind = e.kind; origin = e.origin; pos = e.pos })

kind_layer : (l : EsKind-F EsKind EsStmt Catch EsExpr) → form_nodes (roll-EsKind l) ≡ of_kind (map-EsKind EsKind EsStmt Catch EsExpr ℕ ℕ ℕ ℕ form_nodes stmt_nodes catch_nodes expr_nodes l)
unfolding expr_nodes form_nodes stmt_nodes catch_nodes
kind_layer l = fold-roll-EsKind ℕ ℕ ℕ ℕ of_kind of_stmt of_catch (λ e. suc e.kind) l

stmt_layer : (l : EsStmt-F EsKind EsStmt Catch EsExpr) → stmt_nodes (roll-EsStmt l) ≡ of_stmt (map-EsStmt EsKind EsStmt Catch EsExpr ℕ ℕ ℕ ℕ form_nodes stmt_nodes catch_nodes expr_nodes l)
unfolding expr_nodes form_nodes stmt_nodes catch_nodes
stmt_layer l = fold-roll-EsStmt ℕ ℕ ℕ ℕ of_kind of_stmt of_catch (λ e. suc e.kind) l

catch_layer : (l : Catch-F EsKind EsStmt Catch EsExpr) → catch_nodes (roll-Catch l) ≡ total (map stmt_nodes l.body)
unfolding expr_nodes form_nodes stmt_nodes catch_nodes
catch_layer l = fold-roll-Catch ℕ ℕ ℕ ℕ of_kind of_stmt of_catch (λ e. suc e.kind) l

pub catch_count : (c : Catch) → catch_nodes c ≡ total (map stmt_nodes c.body)
catch_count c = ap catch_nodes (sym (roll-out-Catch c)) ∙ catch_layer (out-Catch c)

made : (p : Pos) (k : EsKind) (l : EsKind-F EsKind EsStmt Catch EsExpr) → roll-EsKind l ≡ k → expr_nodes (expr_at p k) ≡ suc (of_kind (map-EsKind EsKind EsStmt Catch EsExpr ℕ ℕ ℕ ℕ form_nodes stmt_nodes catch_nodes expr_nodes l))
made p k l e = expr_layer (expr_at p k) ∙ ap suc (ap form_nodes (sym e) ∙ kind_layer l)

said : (t : EsStmt) (l : EsStmt-F EsKind EsStmt Catch EsExpr) → roll-EsStmt l ≡ t → stmt_nodes t ≡ of_stmt (map-EsStmt EsKind EsStmt Catch EsExpr ℕ ℕ ℕ ℕ form_nodes stmt_nodes catch_nodes expr_nodes l)
said t l e = ap stmt_nodes (sym e) ∙ stmt_layer l

pub count_num : (p : Pos) (v : ℤ) → expr_nodes (expr_at p (kind.Num v)) ≡ suc 0
count_num p v = made p (kind.Num v) (EsKind-F.Num v) (kind.rolls-Num v)

pub count_str : (p : Pos) (u : List ℕ) → expr_nodes (expr_at p (kind.Str u)) ≡ suc 0
count_str p u = made p (kind.Str u) (EsKind-F.Str u) (kind.rolls-Str u)

pub count_true_ : (p : Pos) → expr_nodes (expr_at p kind.True) ≡ suc 0
count_true_ p = made p kind.True EsKind-F.True kind.rolls-True

pub count_false_ : (p : Pos) → expr_nodes (expr_at p kind.False) ≡ suc 0
count_false_ p = made p kind.False EsKind-F.False kind.rolls-False

pub count_null : (p : Pos) → expr_nodes (expr_at p kind.Null) ≡ suc 0
count_null p = made p kind.Null EsKind-F.Null kind.rolls-Null

pub count_this : (p : Pos) → expr_nodes (expr_at p kind.This) ≡ suc 0
count_this p = made p kind.This EsKind-F.This kind.rolls-This

pub count_name : (p : Pos) (u : List ℕ) → expr_nodes (expr_at p (kind.Name u)) ≡ suc 0
count_name p u = made p (kind.Name u) (EsKind-F.Name u) (kind.rolls-Name u)

pub count_array : (p : Pos) (es : List EsExpr) → expr_nodes (expr_at p (kind.Array es)) ≡ suc (total (map expr_nodes es))
count_array p es = made p (kind.Array es) (EsKind-F.Array es) (kind.rolls-Array es)

pub count_object : (p : Pos) (ks : List (List ℕ)) (es : List EsExpr) → expr_nodes (expr_at p (kind.Object ks es)) ≡ suc (total (map expr_nodes es))
count_object p ks es = made p (kind.Object ks es) (EsKind-F.Object ks es) (kind.rolls-Object ks es)

pub count_function : (p : Pos) (n : Option (List ℕ)) (ps : List (List ℕ)) (b : List EsStmt) → expr_nodes (expr_at p (kind.Function n ps b)) ≡ suc (total (map stmt_nodes b))
count_function p n ps b = made p (kind.Function n ps b) (EsKind-F.Function n ps b) (kind.rolls-Function n ps b)

pub count_member : (p : Pos) (e : EsExpr) (u : List ℕ) (m : Pos) → expr_nodes (expr_at p (kind.Member e u m)) ≡ suc (expr_nodes e)
count_member p e u m = made p (kind.Member e u m) (EsKind-F.Member e u m) (kind.rolls-Member e u m)

pub count_index : (p : Pos) (e k : EsExpr) (m : Pos) → expr_nodes (expr_at p (kind.Index e k m)) ≡ suc (expr_nodes e + expr_nodes k)
count_index p e k m = made p (kind.Index e k m) (EsKind-F.Index e k m) (kind.rolls-Index e k m)

pub count_call : (p : Pos) (e : EsExpr) (es : List EsExpr) → expr_nodes (expr_at p (kind.Call e es)) ≡ suc (expr_nodes e + total (map expr_nodes es))
count_call p e es = made p (kind.Call e es) (EsKind-F.Call e es) (kind.rolls-Call e es)

pub count_not_ : (p : Pos) (e : EsExpr) → expr_nodes (expr_at p (kind.Not e)) ≡ suc (expr_nodes e)
count_not_ p e = made p (kind.Not e) (EsKind-F.Not e) (kind.rolls-Not e)

pub count_neg : (p : Pos) (e : EsExpr) → expr_nodes (expr_at p (kind.Neg e)) ≡ suc (expr_nodes e)
count_neg p e = made p (kind.Neg e) (EsKind-F.Neg e) (kind.rolls-Neg e)

pub count_typeof : (p : Pos) (e : EsExpr) → expr_nodes (expr_at p (kind.Typeof e)) ≡ suc (expr_nodes e)
count_typeof p e = made p (kind.Typeof e) (EsKind-F.Typeof e) (kind.rolls-Typeof e)

pub count_delete : (p : Pos) (e : EsExpr) → expr_nodes (expr_at p (kind.Delete e)) ≡ suc (expr_nodes e)
count_delete p e = made p (kind.Delete e) (EsKind-F.Delete e) (kind.rolls-Delete e)

pub count_binary : (p : Pos) (o : Operator) (l r : EsExpr) → expr_nodes (expr_at p (kind.Binary o l r)) ≡ suc (expr_nodes l + expr_nodes r)
count_binary p o l r = made p (kind.Binary o l r) (EsKind-F.Binary o l r) (kind.rolls-Binary o l r)

pub count_and : (p : Pos) (l r : EsExpr) → expr_nodes (expr_at p (kind.And l r)) ≡ suc (expr_nodes l + expr_nodes r)
count_and p l r = made p (kind.And l r) (EsKind-F.And l r) (kind.rolls-And l r)

pub count_or : (p : Pos) (l r : EsExpr) → expr_nodes (expr_at p (kind.Or l r)) ≡ suc (expr_nodes l + expr_nodes r)
count_or p l r = made p (kind.Or l r) (EsKind-F.Or l r) (kind.rolls-Or l r)

pub count_cond : (p : Pos) (t l r : EsExpr) → expr_nodes (expr_at p (kind.Cond t l r)) ≡ suc (expr_nodes t + (expr_nodes l + expr_nodes r))
count_cond p t l r = made p (kind.Cond t l r) (EsKind-F.Cond t l r) (kind.rolls-Cond t l r)

pub count_assign : (p : Pos) (l r : EsExpr) → expr_nodes (expr_at p (kind.Assign l r)) ≡ suc (expr_nodes l + expr_nodes r)
count_assign p l r = made p (kind.Assign l r) (EsKind-F.Assign l r) (kind.rolls-Assign l r)

pub count_stmt_var : (u : List ℕ) → stmt_nodes (stmt.Var u None) ≡ suc 0
count_stmt_var u = said (stmt.Var u None) (EsStmt-F.Var u None) (stmt.rolls-Var u None)

pub count_stmt_var_set : (u : List ℕ) (e : EsExpr) → stmt_nodes (stmt.Var u (Some e)) ≡ suc (expr_nodes e)
count_stmt_var_set u e = said (stmt.Var u (Some e)) (EsStmt-F.Var u (Some e)) (stmt.rolls-Var u (Some e))

pub count_stmt_expr : (e : EsExpr) → stmt_nodes (stmt.Expr e) ≡ suc (expr_nodes e)
count_stmt_expr e = said (stmt.Expr e) (EsStmt-F.Expr e) (stmt.rolls-Expr e)

pub count_stmt_block : (b : List EsStmt) → stmt_nodes (stmt.Block b) ≡ suc (total (map stmt_nodes b))
count_stmt_block b = said (stmt.Block b) (EsStmt-F.Block b) (stmt.rolls-Block b)

pub count_stmt_if : (e : EsExpr) (a : EsStmt) → stmt_nodes (stmt.If e a None) ≡ suc (expr_nodes e + (stmt_nodes a + 0))
count_stmt_if e a = said (stmt.If e a None) (EsStmt-F.If e a None) (stmt.rolls-If e a None)

pub count_stmt_if_else : (e : EsExpr) (a c : EsStmt) → stmt_nodes (stmt.If e a (Some c)) ≡ suc (expr_nodes e + (stmt_nodes a + stmt_nodes c))
count_stmt_if_else e a c = said (stmt.If e a (Some c)) (EsStmt-F.If e a (Some c)) (stmt.rolls-If e a (Some c))

pub count_stmt_while : (e : EsExpr) (a : EsStmt) → stmt_nodes (stmt.While e a) ≡ suc (expr_nodes e + stmt_nodes a)
count_stmt_while e a = said (stmt.While e a) (EsStmt-F.While e a) (stmt.rolls-While e a)

pub count_stmt_return : stmt_nodes (stmt.Return None) ≡ suc 0
count_stmt_return = said (stmt.Return None) (EsStmt-F.Return None) (stmt.rolls-Return None)

pub count_stmt_return_value : (e : EsExpr) → stmt_nodes (stmt.Return (Some e)) ≡ suc (expr_nodes e)
count_stmt_return_value e = said (stmt.Return (Some e)) (EsStmt-F.Return (Some e)) (stmt.rolls-Return (Some e))

pub count_stmt_break : stmt_nodes stmt.Break ≡ suc 0
count_stmt_break = said stmt.Break EsStmt-F.Break stmt.rolls-Break

pub count_stmt_continue : stmt_nodes stmt.Continue ≡ suc 0
count_stmt_continue = said stmt.Continue EsStmt-F.Continue stmt.rolls-Continue

pub count_stmt_throw : (e : EsExpr) → stmt_nodes (stmt.Throw e) ≡ suc (expr_nodes e)
count_stmt_throw e = said (stmt.Throw e) (EsStmt-F.Throw e) (stmt.rolls-Throw e)

pub count_stmt_try_catch : (b : List EsStmt) (c : Catch) → stmt_nodes (stmt.Try b (Some c) None) ≡ suc (total (map stmt_nodes b) + (catch_nodes c + 0))
count_stmt_try_catch b c = said (stmt.Try b (Some c) None) (EsStmt-F.Try b (Some c) None) (stmt.rolls-Try b (Some c) None)

pub count_stmt_try_finally : (b d : List EsStmt) → stmt_nodes (stmt.Try b None (Some d)) ≡ suc (total (map stmt_nodes b) + (0 + total (map stmt_nodes d)))
count_stmt_try_finally b d = said (stmt.Try b None (Some d)) (EsStmt-F.Try b None (Some d)) (stmt.rolls-Try b None (Some d))

pub count_stmt_try_both : (b : List EsStmt) (c : Catch) (d : List EsStmt) → stmt_nodes (stmt.Try b (Some c) (Some d)) ≡ suc (total (map stmt_nodes b) + (catch_nodes c + total (map stmt_nodes d)))
count_stmt_try_both b c d = said (stmt.Try b (Some c) (Some d)) (EsStmt-F.Try b (Some c) (Some d)) (stmt.rolls-Try b (Some c) (Some d))

pub count_stmt_empty : stmt_nodes stmt.Empty ≡ suc 0
count_stmt_empty = said stmt.Empty EsStmt-F.Empty stmt.rolls-Empty

pub count_stmt_try_none : (b : List EsStmt) → stmt_nodes (stmt.Try b None None) ≡ suc (total (map stmt_nodes b) + (0 + 0))
count_stmt_try_none b = said (stmt.Try b None None) (EsStmt-F.Try b None None) (stmt.rolls-Try b None None)
