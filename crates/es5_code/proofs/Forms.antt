-- What numbering adds, form by form.
use Rattle.std.proofs.Common.{◌≡◌, ℕ, ℤ, ◌<◌, Bool, List, [], ◌∷◌, ◌++◌, length, map, reverse, All, Option, Some, None, IfOk, Result, Ok, Err, option_map, refl, ap, ap₂, ◌∙◌, sym, subst, arith, append_assoc, append-nil}
use Rattle.std.proofs.lemmas.List.{reverse-append}
use Rattle.std.proofs.lemmas.List.Elements.{All-cons}
use Rattle.opal_base.specs.declared.fault.NoMemory.{NoMemory}
use Rattle.opal_base.specs.declared.place.Pos.{Pos}
use Rattle.es5_tree.specs.Values.{Text}
use Rattle.es5_tree.specs.declared.tree.Catch.{Catch, roll-Catch}
use Rattle.es5_tree.specs.declared.tree.EsExpr.{EsExpr}
use Rattle.es5_tree.specs.declared.tree.EsKind.{EsKind, roll-EsKind}
use Rattle.es5_tree.specs.declared.tree.EsKind.TheOpen.{EsKind-F, EsStmt-F}
use Rattle.es5_tree.specs.declared.tree.EsKind.TheVariants as kind
use Rattle.es5_tree.specs.declared.tree.EsStmt.{EsStmt, roll-EsStmt}
use Rattle.es5_tree.specs.declared.tree.EsStmt.TheVariants as tree_stmt
use Rattle.es5_tree.specs.declared.tree.Operator.{Operator}
use Rattle.es5_evaluation.specs.Declared.{own_code, new_names}
use Rattle.es5_code.specs.declared.node.CatchForm.{CatchForm}
use Rattle.es5_code.specs.declared.node.ExprForm.{ExprForm}
use Rattle.es5_code.specs.declared.node.ExprForm.TheVariants as expr
use Rattle.es5_code.specs.declared.node.Node.{Node}
use Rattle.es5_code.specs.declared.node.Node.TheVariants as node
use Rattle.es5_code.specs.declared.node.StmtForm.{StmtForm}
use Rattle.es5_code.specs.declared.node.StmtForm.TheVariants as stmt
use Rattle.es5_code.specs.Numbers.{Added, Catches, FormOf, Numbered, NumberedIf, NumberedLast, StmtFormOf}
use Rattle.es5_code.specs.Sound.{Sound}
use Rattle.es5_code.specs.Trees.{Tree, expr_of, exprs_of, stmt_of, stmts_of, expr_at, stmt_at, stmts_at, tree_at, shape, stmt_shape, node_tree, trees, arguments_if}
use Rattle.es5_code.proofs.Tables.{added_none, added_both, all_more, later, longer, node_added, same_tree}
use Rattle.es5_code.proofs.Nodes.{map_below}

pub f_num : (a : List Node) (v : ℤ) (k : EsKind) → Sound a → k ≡ (kind.Num v) → FormOf a a (expr.Num v) k
unfolding shape
f_num a v k s e = record { added = added_none a s; parts = tt; declares = tt; is = kind.rolls-Num v ∙ sym e }

pub f_true : (a : List Node) (k : EsKind) → Sound a → k ≡ kind.True → FormOf a a expr.True k
unfolding shape
f_true a k s e = record { added = added_none a s; parts = tt; declares = tt; is = kind.rolls-True ∙ sym e }

pub f_false : (a : List Node) (k : EsKind) → Sound a → k ≡ kind.False → FormOf a a expr.False k
unfolding shape
f_false a k s e = record { added = added_none a s; parts = tt; declares = tt; is = kind.rolls-False ∙ sym e }

pub f_null : (a : List Node) (k : EsKind) → Sound a → k ≡ kind.Null → FormOf a a expr.Null k
unfolding shape
f_null a k s e = record { added = added_none a s; parts = tt; declares = tt; is = kind.rolls-Null ∙ sym e }

pub f_this : (a : List Node) (k : EsKind) → Sound a → k ≡ kind.This → FormOf a a expr.This k
unfolding shape
f_this a k s e = record { added = added_none a s; parts = tt; declares = tt; is = kind.rolls-This ∙ sym e }

pub f_str : (a : List Node) (u w : Text) (k : EsKind) → Sound a → w ≡ u → k ≡ kind.Str u → FormOf a a (expr.Str w) k
unfolding shape
f_str a u w k s h e = record { added = added_none a s; parts = tt; declares = tt; is = ap (λ z. roll-EsKind (EsKind-F.Str z)) h ∙ kind.rolls-Str u ∙ sym e }

pub f_name : (a : List Node) (u w : Text) (k : EsKind) → Sound a → w ≡ u → k ≡ kind.Name u → FormOf a a (expr.Name w) k
unfolding shape
f_name a u w k s h e = record { added = added_none a s; parts = tt; declares = tt; is = ap (λ z. roll-EsKind (EsKind-F.Name z)) h ∙ kind.rolls-Name u ∙ sym e }

pub f_not : (a b : List Node) (i : ℕ) (x : EsExpr) (k : EsKind) → Numbered expr_of a b i x → k ≡ kind.Not x → FormOf a b (expr.Not i) k
unfolding shape
f_not a b i x k n e = record { added = n.added; parts = n.within; declares = tt; is = ap (λ z. roll-EsKind (EsKind-F.Not z)) n.is ∙ kind.rolls-Not x ∙ sym e }

pub f_neg : (a b : List Node) (i : ℕ) (x : EsExpr) (k : EsKind) → Numbered expr_of a b i x → k ≡ kind.Neg x → FormOf a b (expr.Neg i) k
unfolding shape
f_neg a b i x k n e = record { added = n.added; parts = n.within; declares = tt; is = ap (λ z. roll-EsKind (EsKind-F.Neg z)) n.is ∙ kind.rolls-Neg x ∙ sym e }

pub f_typeof : (a b : List Node) (i : ℕ) (x : EsExpr) (k : EsKind) → Numbered expr_of a b i x → k ≡ kind.Typeof x → FormOf a b (expr.Typeof i) k
unfolding shape
f_typeof a b i x k n e = record { added = n.added; parts = n.within; declares = tt; is = ap (λ z. roll-EsKind (EsKind-F.Typeof z)) n.is ∙ kind.rolls-Typeof x ∙ sym e }

pub f_delete : (a b : List Node) (i : ℕ) (x : EsExpr) (k : EsKind) → Numbered expr_of a b i x → k ≡ kind.Delete x → FormOf a b (expr.Delete i) k
unfolding shape
f_delete a b i x k n e = record { added = n.added; parts = n.within; declares = tt; is = ap (λ z. roll-EsKind (EsKind-F.Delete z)) n.is ∙ kind.rolls-Delete x ∙ sym e }

pub f_array : (a b : List Node) (i : ℕ) (xs : List EsExpr) (k : EsKind) → Numbered exprs_of a b i xs → k ≡ kind.Array xs → FormOf a b (expr.Array i) k
unfolding shape
f_array a b i xs k n e = record { added = n.added; parts = n.within; declares = tt; is = ap (λ z. roll-EsKind (EsKind-F.Array z)) n.is ∙ kind.rolls-Array xs ∙ sym e }

pub f_object : (a b : List Node) (keys : List Text) (i : ℕ) (xs : List EsExpr) (k : EsKind) → Numbered exprs_of a b i xs → k ≡ kind.Object keys xs → FormOf a b (expr.Object keys i) k
unfolding shape
f_object a b keys i xs k n e = record { added = n.added; parts = n.within; declares = tt; is = ap (λ z. roll-EsKind (EsKind-F.Object keys z)) n.is ∙ kind.rolls-Object keys xs ∙ sym e }

pub f_member : (a b : List Node) (i : ℕ) (x : EsExpr) (u w : Text) (m : Pos) (k : EsKind) → Numbered expr_of a b i x → w ≡ u → k ≡ kind.Member x u m → FormOf a b (expr.Member i w m) k
unfolding shape
f_member a b i x u w m k n h e = record { added = n.added; parts = n.within; declares = tt; is = ap₂ (λ z t. roll-EsKind (EsKind-F.Member z t m)) n.is h ∙ kind.rolls-Member x u m ∙ sym e }

pub f_binary : (a b c : List Node) (o : Operator) (i j : ℕ) (x y : EsExpr) (k : EsKind) → Numbered expr_of a b i x → Numbered expr_of b c j y → k ≡ kind.Binary o x y → FormOf a c (expr.Binary o i j) k
unfolding shape
f_binary a b c o i j x y k n l e = let first = later expr_of a b c i x n l.added in record { added = first.added; parts = (first.within, l.within); declares = tt; is = ap₂ (λ z t. roll-EsKind (EsKind-F.Binary o z t)) first.is l.is ∙ kind.rolls-Binary o x y ∙ sym e }

pub f_and : (a b c : List Node) (i j : ℕ) (x y : EsExpr) (k : EsKind) → Numbered expr_of a b i x → Numbered expr_of b c j y → k ≡ kind.And x y → FormOf a c (expr.And i j) k
unfolding shape
f_and a b c i j x y k n l e = let first = later expr_of a b c i x n l.added in record { added = first.added; parts = (first.within, l.within); declares = tt; is = ap₂ (λ z t. roll-EsKind (EsKind-F.And z t)) first.is l.is ∙ kind.rolls-And x y ∙ sym e }

pub f_or : (a b c : List Node) (i j : ℕ) (x y : EsExpr) (k : EsKind) → Numbered expr_of a b i x → Numbered expr_of b c j y → k ≡ kind.Or x y → FormOf a c (expr.Or i j) k
unfolding shape
f_or a b c i j x y k n l e = let first = later expr_of a b c i x n l.added in record { added = first.added; parts = (first.within, l.within); declares = tt; is = ap₂ (λ z t. roll-EsKind (EsKind-F.Or z t)) first.is l.is ∙ kind.rolls-Or x y ∙ sym e }

pub f_assign : (a b c : List Node) (i j : ℕ) (x y : EsExpr) (k : EsKind) → Numbered expr_of a b i x → Numbered expr_of b c j y → k ≡ kind.Assign x y → FormOf a c (expr.Assign i j) k
unfolding shape
f_assign a b c i j x y k n l e = let first = later expr_of a b c i x n l.added in record { added = first.added; parts = (first.within, l.within); declares = tt; is = ap₂ (λ z t. roll-EsKind (EsKind-F.Assign z t)) first.is l.is ∙ kind.rolls-Assign x y ∙ sym e }

pub f_index : (a b c : List Node) (i j : ℕ) (x y : EsExpr) (m : Pos) (k : EsKind) → Numbered expr_of a b i x → Numbered expr_of b c j y → k ≡ kind.Index x y m → FormOf a c (expr.Index i j m) k
unfolding shape
f_index a b c i j x y m k n l e = let first = later expr_of a b c i x n l.added in record { added = first.added; parts = (first.within, l.within); declares = tt; is = ap₂ (λ z t. roll-EsKind (EsKind-F.Index z t m)) first.is l.is ∙ kind.rolls-Index x y m ∙ sym e }

pub f_call : (a b c : List Node) (i j : ℕ) (x : EsExpr) (ys : List EsExpr) (k : EsKind) → Numbered expr_of a b i x → Numbered exprs_of b c j ys → k ≡ kind.Call x ys → FormOf a c (expr.Call i j) k
unfolding shape
f_call a b c i j x ys k n l e = let first = later expr_of a b c i x n l.added in record { added = first.added; parts = (first.within, l.within); declares = tt; is = ap₂ (λ z t. roll-EsKind (EsKind-F.Call z t)) first.is l.is ∙ kind.rolls-Call x ys ∙ sym e }

pub f_cond : (a b c d : List Node) (i j h : ℕ) (x y z : EsExpr) (k : EsKind) → Numbered expr_of a b i x → Numbered expr_of b c j y → Numbered expr_of c d h z → k ≡ kind.Cond x y z → FormOf a d (expr.Cond i j h) k
unfolding shape
f_cond a b c d i j h x y z k n l p e =
    let first = later expr_of a b d i x n (added_both b c d l.added p.added) in
    let second = later expr_of b c d j y l p.added in
    record { added = first.added; parts = (first.within, second.within, p.within); declares = tt; is = ap₂ (λ u v. roll-EsKind (EsKind-F.Cond u v (expr_at (trees d) h))) first.is second.is ∙ ap (λ v. roll-EsKind (EsKind-F.Cond x y v)) p.is ∙ kind.rolls-Cond x y z ∙ sym e }

pub f_function : (a b : List Node) (name shared : Option Text) (params : List Text) (i : ℕ) (body : List EsStmt) (names own : List Text) (arguments : Bool) (k : EsKind) →
    Numbered stmts_of a b i body → shared ≡ name → own ≡ (own_code body).names → arguments ≡ (own_code body).arguments → names ≡ params ++ arguments_if arguments ++ new_names params own → k ≡ kind.Function name params body →
    FormOf a b (expr.Function (record { name = shared; params = params; body = i; variables = names; names_arguments = arguments })) k
unfolding shape
f_function a b name shared params i body names own arguments k n h p q r e = record {
  added = n.added;
  parts = n.within;
  declares = record {
    variables = r ∙ ap₂ (λ x y. params ++ arguments_if x ++ new_names params y) q p ∙ ap (λ z. params ++ arguments_if (own_code z).arguments ++ new_names params (own_code z).names) (sym n.is);
    arguments = q ∙ ap (λ z. (own_code z).arguments) (sym n.is);
  };
  is = ap₂ (λ x y. roll-EsKind (EsKind-F.Function x params y)) h n.is ∙ kind.rolls-Function name params body ∙ sym e;
}

-- ---- options

pub o_none : {A : Type 0} (of : Tree → A) (a : List Node) (o : Option A) → Sound a → o ≡ None → NumberedIf of a a None o
unfolding shape
o_none of a o s e = record { added = added_none a s; within = tt; is = sym e }

pub o_some : {A : Type 0} (of : Tree → A) (a b : List Node) (i : ℕ) (x y : A) (o : Option A) → Numbered of a b i x → x ≡ y → o ≡ Some y → NumberedIf of a b (Some i) o
unfolding shape
o_some of a b i x y o n h e = record { added = n.added; within = n.within; is = ap Some (n.is ∙ h) ∙ sym e }

pub c_none : (a : List Node) (o : Option Catch) → Sound a → o ≡ None → Catches a a None o
unfolding shape
c_none a o s e = record { added = added_none a s; within = tt; is = sym e }

pub c_some : (a b : List Node) (i : ℕ) (name shared : Text) (body : List EsStmt) (c : Catch) (o : Option Catch) → Numbered stmts_of a b i body → shared ≡ name → roll-Catch (record { name = name; body = body }) ≡ c → o ≡ Some c → Catches a b (Some (record { name = shared; body = i })) o
unfolding shape
c_some a b i name shared body c o n h e g = record { added = n.added; within = n.within; is = ap Some (ap₂ (λ x y. roll-Catch (record { name = x; body = y })) h n.is ∙ e) ∙ sym g }

pub ruleset options = (o_none, o_some, c_none, c_some)

-- ---- statements

pub s_break : (a : List Node) (s : EsStmt) → Sound a → s ≡ tree_stmt.Break → StmtFormOf a a stmt.Break s
unfolding stmt_shape
s_break a s t e = record { added = added_none a t; parts = tt; is = tree_stmt.rolls-Break ∙ sym e }

pub s_continue : (a : List Node) (s : EsStmt) → Sound a → s ≡ tree_stmt.Continue → StmtFormOf a a stmt.Continue s
unfolding stmt_shape
s_continue a s t e = record { added = added_none a t; parts = tt; is = tree_stmt.rolls-Continue ∙ sym e }

pub s_empty : (a : List Node) (s : EsStmt) → Sound a → s ≡ tree_stmt.Empty → StmtFormOf a a stmt.Empty s
unfolding stmt_shape
s_empty a s t e = record { added = added_none a t; parts = tt; is = tree_stmt.rolls-Empty ∙ sym e }

pub s_expr : (a b : List Node) (i : ℕ) (x : EsExpr) (s : EsStmt) → Numbered expr_of a b i x → s ≡ tree_stmt.Expr x → StmtFormOf a b (stmt.Expr i) s
unfolding stmt_shape
s_expr a b i x s n e = record { added = n.added; parts = n.within; is = ap (λ z. roll-EsStmt (EsStmt-F.Expr z)) n.is ∙ tree_stmt.rolls-Expr x ∙ sym e }

pub s_throw : (a b : List Node) (i : ℕ) (x : EsExpr) (s : EsStmt) → Numbered expr_of a b i x → s ≡ tree_stmt.Throw x → StmtFormOf a b (stmt.Throw i) s
unfolding stmt_shape
s_throw a b i x s n e = record { added = n.added; parts = n.within; is = ap (λ z. roll-EsStmt (EsStmt-F.Throw z)) n.is ∙ tree_stmt.rolls-Throw x ∙ sym e }

pub s_block : (a b : List Node) (i : ℕ) (xs : List EsStmt) (s : EsStmt) → Numbered stmts_of a b i xs → s ≡ tree_stmt.Block xs → StmtFormOf a b (stmt.Block i) s
unfolding stmt_shape
s_block a b i xs s n e = record { added = n.added; parts = n.within; is = ap (λ z. roll-EsStmt (EsStmt-F.Block z)) n.is ∙ tree_stmt.rolls-Block xs ∙ sym e }

pub s_var : (a b : List Node) (u w : Text) (i : Option ℕ) (o : Option EsExpr) (s : EsStmt) → NumberedIf expr_of a b i o → w ≡ u → s ≡ tree_stmt.Var u o → StmtFormOf a b (stmt.Var w i) s
unfolding stmt_shape
s_var a b u w i o s n h e = record { added = n.added; parts = n.within; is = ap₂ (λ t z. roll-EsStmt (EsStmt-F.Var t z)) h n.is ∙ tree_stmt.rolls-Var u o ∙ sym e }

pub s_return : (a b : List Node) (i : Option ℕ) (o : Option EsExpr) (s : EsStmt) → NumberedIf expr_of a b i o → s ≡ tree_stmt.Return o → StmtFormOf a b (stmt.Return i) s
unfolding stmt_shape
s_return a b i o s n e = record { added = n.added; parts = n.within; is = ap (λ z. roll-EsStmt (EsStmt-F.Return z)) n.is ∙ tree_stmt.rolls-Return o ∙ sym e }

pub s_while : (a b c : List Node) (i j : ℕ) (x : EsExpr) (t y : EsStmt) (s : EsStmt) → Numbered expr_of a b i x → Numbered stmt_of b c j t → t ≡ y → s ≡ tree_stmt.While x y → StmtFormOf a c (stmt.While i j) s
unfolding stmt_shape
s_while a b c i j x t y s n l h e = let first = later expr_of a b c i x n l.added in record { added = first.added; parts = (first.within, l.within); is = ap₂ (λ z w. roll-EsStmt (EsStmt-F.While z w)) first.is (l.is ∙ h) ∙ tree_stmt.rolls-While x y ∙ sym e }

pub s_if : (a b c d : List Node) (i j : ℕ) (o : Option ℕ) (x : EsExpr) (t y : EsStmt) (z : Option EsStmt) (s : EsStmt) → Numbered expr_of a b i x → Numbered stmt_of b c j t → t ≡ y → NumberedIf stmt_of c d o z → s ≡ tree_stmt.If x y z → StmtFormOf a d (stmt.If i j o) s
unfolding stmt_shape
s_if a b c d i j o x t y z s n l h p e =
    let first = later expr_of a b d i x n (added_both b c d l.added p.added) in
    let second = later stmt_of b c d j t l p.added in
    record { added = first.added; parts = (first.within, second.within, p.within); is = ap₂ (λ u v. roll-EsStmt (EsStmt-F.If u v (option_map (stmt_at (trees d)) o))) first.is (second.is ∙ h) ∙ ap (λ v. roll-EsStmt (EsStmt-F.If x y v)) p.is ∙ tree_stmt.rolls-If x y z ∙ sym e }

catch_later : (a b c : List Node) (f : Option CatchForm) (o : Option Catch) → Catches a b f o → Added b c → Catches a c f o
catch_later a b c None o n y = record { added = added_both a b c n.added y; within = tt; is = n.is }
catch_later a b c (Some f) o n y =
    let m : Numbered stmts_of a c f.body (stmts_at (trees b) f.body) = later stmts_of a b c f.body (stmts_at (trees b) f.body) (record { added = n.added; within = n.within; is = refl }) y in
    record { added = m.added; within = m.within; is = ap (λ z. Some (roll-Catch (record { name = f.name; body = z }))) m.is ∙ n.is }

pub s_try_none : (a b c : List Node) (i : ℕ) (xs : List EsStmt) (f : Option CatchForm) (part : Option Catch) (last : Option (List EsStmt)) (s : EsStmt) → Numbered stmts_of a b i xs → Catches b c f part → last ≡ None → s ≡ tree_stmt.Try xs part last → StmtFormOf a c (stmt.Try i f None) s
unfolding stmt_shape
s_try_none a b c i xs f part last s n p h e =
    let first = later stmts_of a b c i xs n p.added in
    record { added = first.added; parts = (first.within, p.within, tt); is = ap₂ (λ u v. roll-EsStmt (EsStmt-F.Try u v None)) first.is p.is ∙ tree_stmt.rolls-Try xs part None ∙ ap (tree_stmt.Try xs part) (sym h) ∙ sym e }

pub s_try_some : (a b c d : List Node) (i j : ℕ) (xs ys : List EsStmt) (f : Option CatchForm) (part : Option Catch) (last : Option (List EsStmt)) (s : EsStmt) → Numbered stmts_of a b i xs → Catches b c f part → Numbered stmts_of c d j ys → last ≡ Some ys → s ≡ tree_stmt.Try xs part last → StmtFormOf a d (stmt.Try i f (Some j)) s
unfolding stmt_shape
s_try_some a b c d i j xs ys f part last s n p l h e =
    let first = later stmts_of a b d i xs n (added_both b c d p.added l.added) in
    let q = catch_later b c d f part p l.added in
    record { added = first.added; parts = (first.within, q.within, l.within); is = ap₂ (λ u v. roll-EsStmt (EsStmt-F.Try u v (Some (stmts_at (trees d) j)))) first.is q.is ∙ ap (λ w. roll-EsStmt (EsStmt-F.Try xs part (Some w))) l.is ∙ tree_stmt.rolls-Try xs part (Some ys) ∙ ap (tree_stmt.Try xs part) (sym h) ∙ sym e }

-- ---- nodes

pub expr_added : (a b c : List Node) (form : ExprForm) (origin : Option ℕ) (pos : Pos) (r : Result ℕ NoMemory) (k : EsKind) (e : EsExpr) → FormOf a b form k → k ≡ e.kind → origin ≡ e.origin → pos ≡ e.pos →
    IfOk r (λ i. (i ≡ length b) × (c ≡ b ++ node.Expr (record { form = form; origin = origin; pos = pos }) ∷ [])) → IfOk r (λ i. Numbered expr_of a c i e)
unfolding node_tree
expr_added a b c form origin pos (Err x) k e f h g j p = p
expr_added a b c form origin pos (Ok i) k e f h g j p =
    node_added expr_of a b c (node.Expr (record { form = form; origin = origin; pos = pos })) i e f.added p f.parts f.declares
    (λ x. record { kind = (f.is ∙ h) x; origin = g x; pos = j x })

pub stmt_added : (a b c : List Node) (form : StmtForm) (r : Result ℕ NoMemory) (s : EsStmt) → StmtFormOf a b form s →
    IfOk r (λ i. (i ≡ length b) × (c ≡ b ++ node.Stmt form ∷ [])) → IfOk r (λ i. Numbered stmt_of a c i s)
unfolding node_tree
stmt_added a b c form (Err x) s f p = p
stmt_added a b c form (Ok i) s f p = node_added stmt_of a b c (node.Stmt form) i s f.added p f.parts tt f.is

-- ---- lists

pub none_numbered : {A : Type 0} (of : Tree → A) (a : List Node) (ids : List ℕ) (whole : List A) → Sound a → ids ≡ [] → NumberedLast of a a ids whole whole
none_numbered of a ids whole s e = record {
  added = added_none a s;
  within = subst (λ is. All (λ i. i < length a) (reverse is)) (sym e) (λ k d l. absurd (omega (arith, l)));
  is = sym (append-nil whole) ∙ ap (λ is. whole ++ map (λ i. of (tree_at (trees a) i)) (reverse is)) (sym e);
}

pub one_more : {A : Type 0} (of : Tree → A) (a b c : List Node) (ids more : List ℕ) (id : ℕ) (left rest whole : List A) (x : A) →
    NumberedLast of a b ids left whole → Numbered of b c id x → more ≡ ids ++ id ∷ [] → left ≡ rest ++ x ∷ [] → NumberedLast of a c more rest whole
one_more of a b c ids more id left rest whole x l n e g =
    let back : reverse more ≡ id ∷ reverse ids = ap reverse e ∙ reverse-append ids (id ∷ []) in
    record {
      added = added_both a b c l.added n.added;
      within = subst (All (λ i. i < length c)) (sym back) (All-cons (λ i. i < length c) id (reverse ids) n.within (all_more (length b) (length c) (reverse ids) (longer b c n.added) l.within));
      is =
          l.is
          ∙ ap (λ xs. xs ++ map (λ i. of (tree_at (trees b) i)) (reverse ids)) g
          ∙ append_assoc rest (x ∷ []) (map (λ i. of (tree_at (trees b) i)) (reverse ids))
          ∙ ap₂ (λ y ys. rest ++ y ∷ ys) (sym n.is) (sym (map_below (length b) (λ i. of (tree_at (trees c) i)) (λ i. of (tree_at (trees b) i)) (reverse ids) (λ i w. ap of (same_tree b c i n.added w)) l.within))
          ∙ ap (λ is. rest ++ map (λ i. of (tree_at (trees c) i)) is) (sym back);
    }

pub exprs_added : (a b c : List Node) (ids back : List ℕ) (left whole : List EsExpr) (r : Result ℕ NoMemory) → NumberedLast expr_of a b ids left whole → left ≡ [] → back ≡ reverse ids →
    IfOk r (λ i. (i ≡ length b) × (c ≡ b ++ node.Exprs back ∷ [])) → IfOk r (λ i. Numbered exprs_of a c i whole)
unfolding node_tree
exprs_added a b c ids back left whole (Err x) l e g p = p
exprs_added a b c ids back left whole (Ok i) l e g p =
    node_added exprs_of a b c (node.Exprs back) i whole l.added p (subst (All (λ i. i < length b)) (sym g) l.within) tt
    (ap (map (expr_at (trees b))) g ∙ sym (l.is ∙ ap (λ xs. xs ++ map (expr_at (trees b)) (reverse ids)) e))

pub stmts_added : (a b c : List Node) (ids back : List ℕ) (left whole : List EsStmt) (r : Result ℕ NoMemory) → NumberedLast stmt_of a b ids left whole → left ≡ [] → back ≡ reverse ids →
    IfOk r (λ i. (i ≡ length b) × (c ≡ b ++ node.Stmts back ∷ [])) → IfOk r (λ i. Numbered stmts_of a c i whole)
unfolding node_tree
stmts_added a b c ids back left whole (Err x) l e g p = p
stmts_added a b c ids back left whole (Ok i) l e g p =
    node_added stmts_of a b c (node.Stmts back) i whole l.added p (subst (All (λ i. i < length b)) (sym g) l.within) tt
    (ap (map (stmt_at (trees b))) g ∙ sym (l.is ∙ ap (λ xs. xs ++ map (stmt_at (trees b)) (reverse ids)) e))
