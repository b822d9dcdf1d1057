-- Trees that are the same but for sites and places.
use Rattle.std.proofs.Common.{◌≡◌, ℕ, List, map, Option, Some, None, refl, sym, ap, ◌∙◌}
use Rattle.opal_base.specs.declared.place.Pos.{Pos}
use Rattle.es5_tree.specs.declared.tree.Catch.{Catch, roll-Catch}
use Rattle.es5_tree.specs.declared.tree.EsExpr.{EsExpr}
use Rattle.es5_tree.specs.declared.tree.EsKind.{EsKind, EsKind-F, out-EsKind, roll-EsKind}
use Rattle.es5_tree.specs.declared.tree.EsKind.TheVariants as kind
use Rattle.es5_tree.specs.declared.tree.EsStmt.{EsStmt, EsStmt-F, roll-EsStmt}
use Rattle.es5_tree.specs.declared.tree.EsStmt.TheVariants as stmt
use Rattle.es5_tree.specs.declared.tree.Operator.{Operator}
use Rattle.es5_tree.specs.Grammar.Nodes.{is_member_form, is_target_form}
use Rattle.es5_tree.specs.Grammar.Spelling.{bare_kind, bare_stmt, no_place}
use Rattle.es5_tree.proofs.Bare.{KindLayer, StmtLayer, placeless, bare_form, bare_catch, bare_expr, bare_layer, bare_stmt_layer, expr_layer, form_layer, stmt_layer, out_bare, bare_catch_is}

-- ---- the same forms

pub record Same (k m : EsKind) : Type 0 where
  pub is : bare_form k ≡ bare_form m

pub same_refl : (k : EsKind) → Same k k
same_refl k = record { is = refl }

pub same_is : {k m : EsKind} → k ≡ m → Same k m
same_is e = record { is = ap bare_form e }

pub same_expr : (e f : EsExpr) → Same e.kind f.kind → bare_expr e ≡ bare_expr f
same_expr e f h = expr_layer e ∙ (ap (λ k. record { kind = k; origin = None; pos = no_place }) h.is ∙ sym (expr_layer f))

by_layers : (k m : EsKind) (l n : KindLayer) → roll-EsKind l ≡ k → roll-EsKind n ≡ m → bare_kind (bare_layer l) ≡ bare_kind (bare_layer n) → Same k m
by_layers k m l n e f h = record { is = ap bare_form (sym e) ∙ (form_layer l ∙ (h ∙ (sym (form_layer n) ∙ ap bare_form f))) }

pub same_array : (es fs : List EsExpr) → map bare_expr es ≡ map bare_expr fs → Same (kind.Array es) (kind.Array fs)
same_array es fs h = by_layers _ _ (EsKind-F.Array es) (EsKind-F.Array fs) (kind.rolls-Array es) (kind.rolls-Array fs) (ap (λ x. roll-EsKind (EsKind-F.Array x)) h)

pub same_object : (ks : List (List ℕ)) (es fs : List EsExpr) → map bare_expr es ≡ map bare_expr fs → Same (kind.Object ks es) (kind.Object ks fs)
same_object ks es fs h = by_layers _ _ (EsKind-F.Object ks es) (EsKind-F.Object ks fs) (kind.rolls-Object ks es) (kind.rolls-Object ks fs) (ap (λ x. roll-EsKind (EsKind-F.Object ks x)) h)

pub same_function : (n : Option (List ℕ)) (ps : List (List ℕ)) (b d : List EsStmt) → map bare_stmt b ≡ map bare_stmt d → Same (kind.Function n ps b) (kind.Function n ps d)
same_function n ps b d h = by_layers _ _ (EsKind-F.Function n ps b) (EsKind-F.Function n ps d) (kind.rolls-Function n ps b) (kind.rolls-Function n ps d) (ap (λ x. roll-EsKind (EsKind-F.Function n ps x)) h)

pub same_member : (e f : EsExpr) (u : List ℕ) (p q : Pos) → Same e.kind f.kind → Same (kind.Member e u p) (kind.Member f u q)
same_member e f u p q h = by_layers _ _ (EsKind-F.Member e u p) (EsKind-F.Member f u q) (kind.rolls-Member e u p) (kind.rolls-Member f u q) (ap (λ x. kind.Member x u no_place) (same_expr e f h))

pub same_index : (e f k l : EsExpr) (p q : Pos) → Same e.kind f.kind → Same k.kind l.kind → Same (kind.Index e k p) (kind.Index f l q)
same_index e f k l p q h i =
    let a : bare_expr e ≡ bare_expr f = same_expr e f h in
    let b : bare_expr k ≡ bare_expr l = same_expr k l i in
    by_layers _ _ (EsKind-F.Index e k p) (EsKind-F.Index f l q) (kind.rolls-Index e k p) (kind.rolls-Index f l q) (ap (λ x. kind.Index x (bare_expr k) no_place) a ∙ ap (λ x. kind.Index (bare_expr f) x no_place) b)

pub same_call : (e f : EsExpr) (es fs : List EsExpr) → Same e.kind f.kind → map bare_expr es ≡ map bare_expr fs → Same (kind.Call e es) (kind.Call f fs)
same_call e f es fs h i =
    by_layers _ _ (EsKind-F.Call e es) (EsKind-F.Call f fs) (kind.rolls-Call e es) (kind.rolls-Call f fs)
    (ap (λ x. roll-EsKind (EsKind-F.Call x (map bare_expr es))) (same_expr e f h) ∙ ap (λ x. roll-EsKind (EsKind-F.Call (bare_expr f) x)) i)

pub same_not : (e f : EsExpr) → Same e.kind f.kind → Same (kind.Not e) (kind.Not f)
same_not e f h = by_layers _ _ (EsKind-F.Not e) (EsKind-F.Not f) (kind.rolls-Not e) (kind.rolls-Not f) (ap (λ x. roll-EsKind (EsKind-F.Not x)) (same_expr e f h))

pub same_neg : (e f : EsExpr) → Same e.kind f.kind → Same (kind.Neg e) (kind.Neg f)
same_neg e f h = by_layers _ _ (EsKind-F.Neg e) (EsKind-F.Neg f) (kind.rolls-Neg e) (kind.rolls-Neg f) (ap (λ x. roll-EsKind (EsKind-F.Neg x)) (same_expr e f h))

pub same_typeof : (e f : EsExpr) → Same e.kind f.kind → Same (kind.Typeof e) (kind.Typeof f)
same_typeof e f h = by_layers _ _ (EsKind-F.Typeof e) (EsKind-F.Typeof f) (kind.rolls-Typeof e) (kind.rolls-Typeof f) (ap (λ x. roll-EsKind (EsKind-F.Typeof x)) (same_expr e f h))

pub same_delete : (e f : EsExpr) → Same e.kind f.kind → Same (kind.Delete e) (kind.Delete f)
same_delete e f h = by_layers _ _ (EsKind-F.Delete e) (EsKind-F.Delete f) (kind.rolls-Delete e) (kind.rolls-Delete f) (ap (λ x. roll-EsKind (EsKind-F.Delete x)) (same_expr e f h))

pub same_binary : (o : Operator) (e f k l : EsExpr) → Same e.kind f.kind → Same k.kind l.kind → Same (kind.Binary o e k) (kind.Binary o f l)
same_binary o e f k l h i =
    by_layers _ _ (EsKind-F.Binary o e k) (EsKind-F.Binary o f l) (kind.rolls-Binary o e k) (kind.rolls-Binary o f l)
    (ap (λ x. roll-EsKind (EsKind-F.Binary o x (bare_expr k))) (same_expr e f h) ∙ ap (λ x. roll-EsKind (EsKind-F.Binary o (bare_expr f) x)) (same_expr k l i))

pub same_and : (e f k l : EsExpr) → Same e.kind f.kind → Same k.kind l.kind → Same (kind.And e k) (kind.And f l)
same_and e f k l h i =
    by_layers _ _ (EsKind-F.And e k) (EsKind-F.And f l) (kind.rolls-And e k) (kind.rolls-And f l)
    (ap (λ x. roll-EsKind (EsKind-F.And x (bare_expr k))) (same_expr e f h) ∙ ap (λ x. roll-EsKind (EsKind-F.And (bare_expr f) x)) (same_expr k l i))

pub same_or : (e f k l : EsExpr) → Same e.kind f.kind → Same k.kind l.kind → Same (kind.Or e k) (kind.Or f l)
same_or e f k l h i =
    by_layers _ _ (EsKind-F.Or e k) (EsKind-F.Or f l) (kind.rolls-Or e k) (kind.rolls-Or f l)
    (ap (λ x. roll-EsKind (EsKind-F.Or x (bare_expr k))) (same_expr e f h) ∙ ap (λ x. roll-EsKind (EsKind-F.Or (bare_expr f) x)) (same_expr k l i))

pub same_cond : (t s e f k l : EsExpr) → Same t.kind s.kind → Same e.kind f.kind → Same k.kind l.kind → Same (kind.Cond t e k) (kind.Cond s f l)
same_cond t s e f k l g h i =
    by_layers _ _ (EsKind-F.Cond t e k) (EsKind-F.Cond s f l) (kind.rolls-Cond t e k) (kind.rolls-Cond s f l)
    (ap (λ x. roll-EsKind (EsKind-F.Cond x (bare_expr e) (bare_expr k))) (same_expr t s g)
    ∙ (ap (λ x. roll-EsKind (EsKind-F.Cond (bare_expr s) x (bare_expr k))) (same_expr e f h) ∙ ap (λ x. roll-EsKind (EsKind-F.Cond (bare_expr s) (bare_expr f) x)) (same_expr k l i)))

pub same_assign : (e f k l : EsExpr) → Same e.kind f.kind → Same k.kind l.kind → Same (kind.Assign e k) (kind.Assign f l)
same_assign e f k l h i =
    by_layers _ _ (EsKind-F.Assign e k) (EsKind-F.Assign f l) (kind.rolls-Assign e k) (kind.rolls-Assign f l)
    (ap (λ x. roll-EsKind (EsKind-F.Assign x (bare_expr k))) (same_expr e f h) ∙ ap (λ x. roll-EsKind (EsKind-F.Assign (bare_expr f) x)) (same_expr k l i))

-- ---- they are members and targets alike

member_layer : (l : KindLayer) → is_member_form (placeless (bare_layer l)) ≡ is_member_form l
member_layer (EsKind-F.Member base name mark) = refl
member_layer (EsKind-F.Index base key mark) = refl
member_layer _ = refl

target_layer : (l : KindLayer) → is_target_form (placeless (bare_layer l)) ≡ is_target_form l
target_layer (EsKind-F.Member base name mark) = refl
target_layer (EsKind-F.Index base key mark) = refl
target_layer _ = refl

pub same_members : (k m : EsKind) → Same k m → is_member_form (out-EsKind k) ≡ is_member_form (out-EsKind m)
same_members k m h =
    sym (member_layer (out-EsKind k))
    ∙ (ap is_member_form (sym (out_bare k) ∙ (ap out-EsKind h.is ∙ out_bare m)) ∙ member_layer (out-EsKind m))

pub same_targets : (k m : EsKind) → Same k m → is_target_form (out-EsKind k) ≡ is_target_form (out-EsKind m)
same_targets k m h =
    sym (target_layer (out-EsKind k))
    ∙ (ap is_target_form (sym (out_bare k) ∙ (ap out-EsKind h.is ∙ out_bare m)) ∙ target_layer (out-EsKind m))

-- ---- the same statements

pub record SameStmt (s t : EsStmt) : Type 0 where
  pub is : bare_stmt s ≡ bare_stmt t

pub stmt_refl : (s : EsStmt) → SameStmt s s
stmt_refl s = record { is = refl }

stmt_by_layers : (s t : EsStmt) (l n : StmtLayer) → roll-EsStmt l ≡ s → roll-EsStmt n ≡ t → bare_stmt_layer l ≡ bare_stmt_layer n → SameStmt s t
stmt_by_layers s t l n e f h = record { is = ap bare_stmt (sym e) ∙ (stmt_layer l ∙ (ap roll-EsStmt h ∙ (sym (stmt_layer n) ∙ ap bare_stmt f))) }

pub same_var : (u : List ℕ) (e f : EsExpr) → Same e.kind f.kind → SameStmt (stmt.Var u (Some e)) (stmt.Var u (Some f))
same_var u e f h = stmt_by_layers _ _ (EsStmt-F.Var u (Some e)) (EsStmt-F.Var u (Some f)) (stmt.rolls-Var u (Some e)) (stmt.rolls-Var u (Some f)) (ap (λ x. EsStmt-F.Var u (Some x)) (same_expr e f h))

pub same_statement : (e f : EsExpr) → Same e.kind f.kind → SameStmt (stmt.Expr e) (stmt.Expr f)
same_statement e f h = stmt_by_layers _ _ (EsStmt-F.Expr e) (EsStmt-F.Expr f) (stmt.rolls-Expr e) (stmt.rolls-Expr f) (ap (λ x. EsStmt-F.Expr x) (same_expr e f h))

pub same_block : (b d : List EsStmt) → map bare_stmt b ≡ map bare_stmt d → SameStmt (stmt.Block b) (stmt.Block d)
same_block b d h = stmt_by_layers _ _ (EsStmt-F.Block b) (EsStmt-F.Block d) (stmt.rolls-Block b) (stmt.rolls-Block d) (ap (λ x. EsStmt-F.Block x) h)

pub same_if : (e f : EsExpr) (a b : EsStmt) → Same e.kind f.kind → SameStmt a b → SameStmt (stmt.If e a None) (stmt.If f b None)
same_if e f a b h i =
    stmt_by_layers _ _ (EsStmt-F.If e a None) (EsStmt-F.If f b None) (stmt.rolls-If e a None) (stmt.rolls-If f b None)
    (ap (λ x. EsStmt-F.If x (bare_stmt a) None) (same_expr e f h) ∙ ap (λ x. EsStmt-F.If (bare_expr f) x None) i.is)

pub same_if_else : (e f : EsExpr) (a b c d : EsStmt) → Same e.kind f.kind → SameStmt a b → SameStmt c d → SameStmt (stmt.If e a (Some c)) (stmt.If f b (Some d))
same_if_else e f a b c d h i j =
    stmt_by_layers _ _ (EsStmt-F.If e a (Some c)) (EsStmt-F.If f b (Some d)) (stmt.rolls-If e a (Some c)) (stmt.rolls-If f b (Some d))
    (ap (λ x. EsStmt-F.If x (bare_stmt a) (Some (bare_stmt c))) (same_expr e f h)
    ∙ (ap (λ x. EsStmt-F.If (bare_expr f) x (Some (bare_stmt c))) i.is ∙ ap (λ x. EsStmt-F.If (bare_expr f) (bare_stmt b) (Some x)) j.is))

pub same_while : (e f : EsExpr) (a b : EsStmt) → Same e.kind f.kind → SameStmt a b → SameStmt (stmt.While e a) (stmt.While f b)
same_while e f a b h i =
    stmt_by_layers _ _ (EsStmt-F.While e a) (EsStmt-F.While f b) (stmt.rolls-While e a) (stmt.rolls-While f b)
    (ap (λ x. EsStmt-F.While x (bare_stmt a)) (same_expr e f h) ∙ ap (λ x. EsStmt-F.While (bare_expr f) x) i.is)

pub same_return : (e f : EsExpr) → Same e.kind f.kind → SameStmt (stmt.Return (Some e)) (stmt.Return (Some f))
same_return e f h = stmt_by_layers _ _ (EsStmt-F.Return (Some e)) (EsStmt-F.Return (Some f)) (stmt.rolls-Return (Some e)) (stmt.rolls-Return (Some f)) (ap (λ x. EsStmt-F.Return (Some x)) (same_expr e f h))

pub same_throw : (e f : EsExpr) → Same e.kind f.kind → SameStmt (stmt.Throw e) (stmt.Throw f)
same_throw e f h = stmt_by_layers _ _ (EsStmt-F.Throw e) (EsStmt-F.Throw f) (stmt.rolls-Throw e) (stmt.rolls-Throw f) (ap (λ x. EsStmt-F.Throw x) (same_expr e f h))

-- what was caught under the same name, with the same statements
pub same_catch : (c d : Catch) → c.name ≡ d.name → map bare_stmt c.body ≡ map bare_stmt d.body → bare_catch c ≡ bare_catch d
same_catch c d e h = bare_catch_is c ∙ (ap (λ n. roll-Catch (record { name = n; body = map bare_stmt c.body })) e ∙ (ap (λ b. roll-Catch (record { name = d.name; body = b })) h ∙ sym (bare_catch_is d)))

pub same_try_catch : (b d : List EsStmt) (c g : Catch) → map bare_stmt b ≡ map bare_stmt d → bare_catch c ≡ bare_catch g → SameStmt (stmt.Try b (Some c) None) (stmt.Try d (Some g) None)
same_try_catch b d c g h i =
    stmt_by_layers _ _ (EsStmt-F.Try b (Some c) None) (EsStmt-F.Try d (Some g) None) (stmt.rolls-Try b (Some c) None) (stmt.rolls-Try d (Some g) None)
    (ap (λ x. EsStmt-F.Try x (Some (bare_catch c)) None) h ∙ ap (λ x. EsStmt-F.Try (map bare_stmt d) (Some x) None) i)

pub same_try_finally : (b d l m : List EsStmt) → map bare_stmt b ≡ map bare_stmt d → map bare_stmt l ≡ map bare_stmt m → SameStmt (stmt.Try b None (Some l)) (stmt.Try d None (Some m))
same_try_finally b d l m h j =
    stmt_by_layers _ _ (EsStmt-F.Try b None (Some l)) (EsStmt-F.Try d None (Some m)) (stmt.rolls-Try b None (Some l)) (stmt.rolls-Try d None (Some m))
    (ap (λ x. EsStmt-F.Try x None (Some (map bare_stmt l))) h ∙ ap (λ x. EsStmt-F.Try (map bare_stmt d) None (Some x)) j)

pub same_try_both : (b d : List EsStmt) (c g : Catch) (l m : List EsStmt) → map bare_stmt b ≡ map bare_stmt d → bare_catch c ≡ bare_catch g → map bare_stmt l ≡ map bare_stmt m → SameStmt (stmt.Try b (Some c) (Some l)) (stmt.Try d (Some g) (Some m))
same_try_both b d c g l m h i j =
    stmt_by_layers _ _ (EsStmt-F.Try b (Some c) (Some l)) (EsStmt-F.Try d (Some g) (Some m)) (stmt.rolls-Try b (Some c) (Some l)) (stmt.rolls-Try d (Some g) (Some m))
    (ap (λ x. EsStmt-F.Try x (Some (bare_catch c)) (Some (map bare_stmt l))) h
    ∙ (ap (λ x. EsStmt-F.Try (map bare_stmt d) (Some x) (Some (map bare_stmt l))) i ∙ ap (λ x. EsStmt-F.Try (map bare_stmt d) (Some (bare_catch g)) (Some x)) j))
