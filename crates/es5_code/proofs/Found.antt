-- What stands at a number of a table.
use Rattle.std.proofs.Common.{◌≡◌, ℕ, zero, suc, List, [], ◌∷◌, map, drop, Option, Some, None, slice_get, refl, ap, ◌∙◌, sym, subst}
use Rattle.std.proofs.Math.Seq.{drop-nil}
use Rattle.std.proofs.lemmas.List.{get_or_past}
use Rattle.std.proofs.lemmas.Option.{get_or_from_slice_get}
use Rattle.es5_tree.specs.declared.tree.EsExpr.{EsExpr}
use Rattle.es5_tree.specs.declared.tree.EsKind.{out-roll-EsKind}
use Rattle.es5_tree.specs.declared.tree.EsStmt.{out-EsStmt, out-roll-EsStmt}
use Rattle.es5_evaluation.specs.Evaluate.{layer}
use Rattle.es5_code.specs.declared.node.Node.{Node}
use Rattle.es5_code.specs.declared.node.Node.TheVariants as node
use Rattle.es5_code.specs.declared.node.ExprNode.{ExprNode}
use Rattle.es5_code.specs.declared.node.ExprForm.{ExprForm}
use Rattle.es5_code.specs.declared.node.ExprForm.TheVariants as expr
use Rattle.es5_code.specs.declared.node.StmtForm.{StmtForm}
use Rattle.es5_code.specs.declared.node.FunctionForm.{FunctionForm}
use Rattle.es5_code.specs.Trees.{expr_of, stmt_of, exprs_of, stmts_of, expr_in, stmt_in, exprs_in, stmts_in, node_tree, trees, shape, stmt_shape, no_expression, no_statement, no_code, code_in, function_node, function_of}
use Rattle.es5_code.specs.Sound.{Sound, DeclaresIn}
use Rattle.es5_code.specs.Sorts as sort
use Rattle.es5_code.specs.At.{IsExprAt, IsStmtAt, IsFunctionAt, IsElement}
use Rattle.es5_code.proofs.Nodes.{tree_of, no_tree, past}

code_at : (ns : List Node) (i : ℕ) (n : Node) → slice_get ns i ≡ Some n → code_in ns i ≡ function_node ns n
unfolding code_in
code_at ns i n g = ap (function_node ns) (get_or_from_slice_get ns i n (node.Exprs []) g)

-- an expression, where the node is one
pub expr_found : (ns : List Node) (i : ℕ) (n : Node) (o : Option ExprNode) → slice_get ns i ≡ Some n → o ≡ sort.expr_of n → Sound ns → IsExprAt ns i o
unfolding node_tree
expr_found ns i (node.Expr e) o g h s = subst (IsExprAt ns i) (sym h) (
    let t = ap expr_of (tree_of ns i (node.Expr e) g (s.parts i (node.Expr e) g)) in
    (ap layer t ∙ out-roll-EsKind (shape (trees ns) e.form), ap (λ (x : EsExpr). x.pos) t, code_at ns i (node.Expr e) g)
    )
expr_found ns i (node.Stmt f) o g h s = subst (IsExprAt ns i) (sym h) (ap expr_of (tree_of ns i (node.Stmt f) g (s.parts i (node.Stmt f) g)))
expr_found ns i (node.Exprs ids) o g h s = subst (IsExprAt ns i) (sym h) (ap expr_of (tree_of ns i (node.Exprs ids) g (s.parts i (node.Exprs ids) g)))
expr_found ns i (node.Stmts ids) o g h s = subst (IsExprAt ns i) (sym h) (ap expr_of (tree_of ns i (node.Stmts ids) g (s.parts i (node.Stmts ids) g)))

pub no_expr : (ns : List Node) (i : ℕ) → slice_get ns i ≡ None → expr_in ns i ≡ no_expression
no_expr ns i g = ap expr_of (no_tree ns i g)

pub stmt_found : (ns : List Node) (i : ℕ) (n : Node) (o : Option StmtForm) → slice_get ns i ≡ Some n → o ≡ sort.stmt_of n → Sound ns → IsStmtAt ns i o
unfolding node_tree
stmt_found ns i (node.Expr e) o g h s = subst (IsStmtAt ns i) (sym h) (ap stmt_of (tree_of ns i (node.Expr e) g (s.parts i (node.Expr e) g)))
stmt_found ns i (node.Stmt f) o g h s = subst (IsStmtAt ns i) (sym h) (ap (λ x. out-EsStmt (stmt_of x)) (tree_of ns i (node.Stmt f) g (s.parts i (node.Stmt f) g)) ∙ out-roll-EsStmt (stmt_shape (trees ns) f))
stmt_found ns i (node.Exprs ids) o g h s = subst (IsStmtAt ns i) (sym h) (ap stmt_of (tree_of ns i (node.Exprs ids) g (s.parts i (node.Exprs ids) g)))
stmt_found ns i (node.Stmts ids) o g h s = subst (IsStmtAt ns i) (sym h) (ap stmt_of (tree_of ns i (node.Stmts ids) g (s.parts i (node.Stmts ids) g)))

pub no_stmt : (ns : List Node) (i : ℕ) → slice_get ns i ≡ None → stmt_in ns i ≡ no_statement
no_stmt ns i g = ap stmt_of (no_tree ns i g)

form_function : (ns : List Node) (i : ℕ) (f : ExprForm) → code_in ns i ≡ function_of ns f → DeclaresIn ns f → IsFunctionAt ns i (sort.function_of f)
form_function ns i (expr.Num z) e d = e
form_function ns i (expr.Str text) e d = e
form_function ns i expr.True e d = e
form_function ns i expr.False e d = e
form_function ns i expr.Null e d = e
form_function ns i expr.This e d = e
form_function ns i (expr.Name name) e d = e
form_function ns i (expr.Array x) e d = e
form_function ns i (expr.Object keys x) e d = e
form_function ns i (expr.Function f) e d = (e, d)
form_function ns i (expr.Member x name mark) e d = e
form_function ns i (expr.Index x y mark) e d = e
form_function ns i (expr.Call x y) e d = e
form_function ns i (expr.Not x) e d = e
form_function ns i (expr.Neg x) e d = e
form_function ns i (expr.Typeof x) e d = e
form_function ns i (expr.Delete x) e d = e
form_function ns i (expr.Binary operator x y) e d = e
form_function ns i (expr.And x y) e d = e
form_function ns i (expr.Or x y) e d = e
form_function ns i (expr.Cond x y z) e d = e
form_function ns i (expr.Assign x y) e d = e

pub function_found : (ns : List Node) (i : ℕ) (n : Node) (o : Option FunctionForm) → slice_get ns i ≡ Some n → o ≡ sort.function_node n → Sound ns → IsFunctionAt ns i o
function_found ns i (node.Expr e) o g h s = subst (IsFunctionAt ns i) (sym h) (form_function ns i e.form (code_at ns i (node.Expr e) g) (s.declares i (node.Expr e) g))
function_found ns i (node.Stmt f) o g h s = subst (IsFunctionAt ns i) (sym h) (code_at ns i (node.Stmt f) g)
function_found ns i (node.Exprs ids) o g h s = subst (IsFunctionAt ns i) (sym h) (code_at ns i (node.Exprs ids) g)
function_found ns i (node.Stmts ids) o g h s = subst (IsFunctionAt ns i) (sym h) (code_at ns i (node.Stmts ids) g)

pub no_function : (ns : List Node) (i : ℕ) → slice_get ns i ≡ None → code_in ns i ≡ no_code
unfolding code_in
no_function ns i g = ap (function_node ns) (get_or_past ns i (node.Exprs []) (past ns i g))

-- ---- elements of lists

further : {A : Type 0} (a : A) (xs : List A) (f : ℕ → A) (k : ℕ) (o : Option ℕ) → IsElement xs f k o → IsElement (a ∷ xs) f (suc k) o
further a xs f k None e = e
further a xs f k (Some i) e = e

-- the element of a list of numbers at a place, under a map of them
mapped : {A : Type 0} (f : ℕ → A) (ids : List ℕ) (k : ℕ) → IsElement (map f ids) f k (slice_get ids k)
mapped f [] k = drop-nil k
mapped f (i ∷ ids) zero = refl
mapped f (i ∷ ids) (suc k) = further (f i) (map f ids) f k (slice_get ids k) (mapped f ids k)

pub expr_element : (ns : List Node) (i k : ℕ) (n : Node) (o : Option ℕ) → slice_get ns i ≡ Some n → o ≡ sort.expr_id n k → Sound ns → IsElement (exprs_in ns i) (expr_in ns) k o
unfolding node_tree
expr_element ns i k (node.Expr e) o g h s = subst (IsElement (exprs_in ns i) (expr_in ns) k) (sym h) (rw (tree_of ns i (node.Expr e) g (s.parts i (node.Expr e) g)) (drop-nil k))
expr_element ns i k (node.Stmt f) o g h s = subst (IsElement (exprs_in ns i) (expr_in ns) k) (sym h) (rw (tree_of ns i (node.Stmt f) g (s.parts i (node.Stmt f) g)) (drop-nil k))
expr_element ns i k (node.Exprs ids) o g h s = subst (IsElement (exprs_in ns i) (expr_in ns) k) (sym h) (subst (λ x. IsElement x (expr_in ns) k (slice_get ids k)) (sym (ap exprs_of (tree_of ns i (node.Exprs ids) g (s.parts i (node.Exprs ids) g)))) (mapped (expr_in ns) ids k))
expr_element ns i k (node.Stmts ids) o g h s = subst (IsElement (exprs_in ns i) (expr_in ns) k) (sym h) (rw (tree_of ns i (node.Stmts ids) g (s.parts i (node.Stmts ids) g)) (drop-nil k))

pub no_expr_element : (ns : List Node) (i k : ℕ) → slice_get ns i ≡ None → drop k (exprs_in ns i) ≡ []
no_expr_element ns i k g = rw (no_tree ns i g) (drop-nil k)

pub stmt_element : (ns : List Node) (i k : ℕ) (n : Node) (o : Option ℕ) → slice_get ns i ≡ Some n → o ≡ sort.stmt_id n k → Sound ns → IsElement (stmts_in ns i) (stmt_in ns) k o
unfolding node_tree
stmt_element ns i k (node.Expr e) o g h s = subst (IsElement (stmts_in ns i) (stmt_in ns) k) (sym h) (rw (tree_of ns i (node.Expr e) g (s.parts i (node.Expr e) g)) (drop-nil k))
stmt_element ns i k (node.Stmt f) o g h s = subst (IsElement (stmts_in ns i) (stmt_in ns) k) (sym h) (rw (tree_of ns i (node.Stmt f) g (s.parts i (node.Stmt f) g)) (drop-nil k))
stmt_element ns i k (node.Exprs ids) o g h s = subst (IsElement (stmts_in ns i) (stmt_in ns) k) (sym h) (rw (tree_of ns i (node.Exprs ids) g (s.parts i (node.Exprs ids) g)) (drop-nil k))
stmt_element ns i k (node.Stmts ids) o g h s = subst (IsElement (stmts_in ns i) (stmt_in ns) k) (sym h) (subst (λ x. IsElement x (stmt_in ns) k (slice_get ids k)) (sym (ap stmts_of (tree_of ns i (node.Stmts ids) g (s.parts i (node.Stmts ids) g)))) (mapped (stmt_in ns) ids k))

pub no_stmt_element : (ns : List Node) (i k : ℕ) → slice_get ns i ≡ None → drop k (stmts_in ns i) ≡ []
no_stmt_element ns i k g = rw (no_tree ns i g) (drop-nil k)
