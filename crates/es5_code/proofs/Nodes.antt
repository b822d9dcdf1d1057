-- The trees of a table, node by node.
use Rattle.std.proofs.Common.{◌≡◌, ℕ, zero, suc, ◌+◌, ◌<◌, ◌≤◌, List, [], ◌∷◌, ◌++◌, length, map, All, Option, Some, None, IfSome, option_map, slice_get, refl, ap, ap₂, ◌∙◌, sym, arith, length-append}
use Rattle.std.proofs.Math.ListN.{get_or-append}
use Rattle.std.proofs.Math.Seq.{get_or-append_seam}
use Rattle.std.proofs.lemmas.Option.{same_Some}
use Rattle.std.proofs.lemmas.List.{get_or_past}
use Rattle.es5_code.specs.declared.node.Node.{Node}
use Rattle.es5_code.specs.declared.node.Node.TheVariants as node
use Rattle.es5_code.specs.declared.node.ExprForm.{ExprForm}
use Rattle.es5_code.specs.declared.node.ExprForm.TheVariants as expr
use Rattle.es5_code.specs.declared.node.StmtForm.{StmtForm}
use Rattle.es5_code.specs.declared.node.StmtForm.TheVariants as stmt
use Rattle.es5_code.specs.Trees.{Tree, expressions, statements, tree_at, expr_at, stmt_at, stmts_at, catch_shape, shape, stmt_shape, node_tree, grown, trees}
use Rattle.es5_tree.specs.declared.tree.EsKind.TheOpen.{EsStmt-F}
use Rattle.es5_code.specs.declared.node.CatchForm.{CatchForm}
use Rattle.es5_code.specs.Sound.{PartsOfExpr, PartsOfStmt, Parts, IfBelow}

-- two lists of trees have the same trees below a number
pub record Agree (n : ℕ) (ts us : List Tree) : Type 0 where
  pub same : (i : ℕ) → i < n → tree_at ts i ≡ tree_at us i

-- ---- a node has the same tree over lists that agree

expr_shapes : (n : ℕ) (ts us : List Tree) (f : ExprForm) → Agree n ts us → PartsOfExpr n f → shape ts f ≡ shape us f
unfolding shape
expr_shapes n ts us (expr.Num z) a p = refl
expr_shapes n ts us (expr.Str text) a p = refl
expr_shapes n ts us expr.True a p = refl
expr_shapes n ts us expr.False a p = refl
expr_shapes n ts us expr.Null a p = refl
expr_shapes n ts us expr.This a p = refl
expr_shapes n ts us (expr.Name name) a p = refl
expr_shapes n ts us (expr.Array x) a p = rw (a.same x p) refl
expr_shapes n ts us (expr.Object keys x) a p = rw (a.same x p) refl
expr_shapes n ts us (expr.Function f) a p = rw (a.same f.body p) refl
expr_shapes n ts us (expr.Member x name mark) a p = rw (a.same x p) refl
expr_shapes n ts us (expr.Index x y mark) a (p, q) = rw (a.same x p, a.same y q) refl
expr_shapes n ts us (expr.Call x y) a (p, q) = rw (a.same x p, a.same y q) refl
expr_shapes n ts us (expr.Not x) a p = rw (a.same x p) refl
expr_shapes n ts us (expr.Neg x) a p = rw (a.same x p) refl
expr_shapes n ts us (expr.Typeof x) a p = rw (a.same x p) refl
expr_shapes n ts us (expr.Delete x) a p = rw (a.same x p) refl
expr_shapes n ts us (expr.Binary operator x y) a (p, q) = rw (a.same x p, a.same y q) refl
expr_shapes n ts us (expr.And x y) a (p, q) = rw (a.same x p, a.same y q) refl
expr_shapes n ts us (expr.Or x y) a (p, q) = rw (a.same x p, a.same y q) refl
expr_shapes n ts us (expr.Cond x y z) a (p, q, r) = rw (a.same x p, a.same y q, a.same z r) refl
expr_shapes n ts us (expr.Assign x y) a (p, q) = rw (a.same x p, a.same y q) refl

expr_options : (n : ℕ) (ts us : List Tree) (o : Option ℕ) → Agree n ts us → IfBelow n o → option_map (expr_at ts) o ≡ option_map (expr_at us) o
expr_options n ts us None a p = refl
expr_options n ts us (Some x) a p = rw (a.same x p) refl

stmt_options : (n : ℕ) (ts us : List Tree) (o : Option ℕ) → Agree n ts us → IfBelow n o → option_map (stmt_at ts) o ≡ option_map (stmt_at us) o
stmt_options n ts us None a p = refl
stmt_options n ts us (Some x) a p = rw (a.same x p) refl

stmts_options : (n : ℕ) (ts us : List Tree) (o : Option ℕ) → Agree n ts us → IfBelow n o → option_map (stmts_at ts) o ≡ option_map (stmts_at us) o
stmts_options n ts us None a p = refl
stmts_options n ts us (Some x) a p = rw (a.same x p) refl

catch_options : (n : ℕ) (ts us : List Tree) (o : Option CatchForm) → Agree n ts us → IfSome o (λ c. c.body < n) → option_map (catch_shape ts) o ≡ option_map (catch_shape us) o
catch_options n ts us None a p = refl
catch_options n ts us (Some c) a p = rw (a.same c.body p) refl

stmt_shapes : (n : ℕ) (ts us : List Tree) (f : StmtForm) → Agree n ts us → PartsOfStmt n f → stmt_shape ts f ≡ stmt_shape us f
unfolding stmt_shape
stmt_shapes n ts us (stmt.Var name o) a p = ap (EsStmt-F.Var name) (expr_options n ts us o a p)
stmt_shapes n ts us (stmt.Expr x) a p = rw (a.same x p) refl
stmt_shapes n ts us (stmt.Block x) a p = rw (a.same x p) refl
stmt_shapes n ts us (stmt.If x y o) a (p, q, r) = rw (a.same x p, a.same y q) (ap (λ z. EsStmt-F.If (expr_at us x) (stmt_at us y) z) (stmt_options n ts us o a r))
stmt_shapes n ts us (stmt.While x y) a (p, q) = rw (a.same x p, a.same y q) refl
stmt_shapes n ts us (stmt.Return o) a p = ap EsStmt-F.Return (expr_options n ts us o a p)
stmt_shapes n ts us stmt.Break a p = refl
stmt_shapes n ts us stmt.Continue a p = refl
stmt_shapes n ts us (stmt.Throw x) a p = rw (a.same x p) refl
stmt_shapes n ts us (stmt.Try x c o) a (p, q, r) = rw (a.same x p, catch_options n ts us c a q, stmts_options n ts us o a r) refl
stmt_shapes n ts us stmt.Empty a p = refl

pub map_below : {A : Type 0} (n : ℕ) (f g : ℕ → A) (ids : List ℕ) → ((i : ℕ) → i < n → f i ≡ g i) → All (λ i. i < n) ids → map f ids ≡ map g ids
map_below n f g [] e p = refl
map_below n f g (i ∷ ids) e p = ap₂ (λ x xs. x ∷ xs) (e i (p zero i (omega arith))) (map_below n f g ids e (λ k d l. p (suc k) d (omega (arith, l))))

pub node_trees : (n : ℕ) (ts us : List Tree) (m : Node) → Agree n ts us → Parts n m → node_tree ts m ≡ node_tree us m
unfolding node_tree
node_trees n ts us (node.Expr e) a p = rw (expr_shapes n ts us e.form a p) refl
node_trees n ts us (node.Stmt f) a p = rw (stmt_shapes n ts us f a p) refl
node_trees n ts us (node.Exprs ids) a p = ap expressions (map_below n (expr_at ts) (expr_at us) ids (λ i l. rw (a.same i l) refl) p)
node_trees n ts us (node.Stmts ids) a p = ap statements (map_below n (stmt_at ts) (stmt_at us) ids (λ i l. rw (a.same i l) refl) p)

-- ---- the lists of trees

pub grown_length : (ts : List Tree) (ns : List Node) → length (grown ts ns) ≡ length ts + length ns
unfolding grown
grown_length ts [] = omega arith
grown_length ts (n ∷ ns) = let e = grown_length (ts ++ node_tree ts n ∷ []) ns in let f = length-append ts (node_tree ts n ∷ []) in omega (arith, e, f)

pub front_agrees : (ts us : List Tree) → Agree (length ts) ts (ts ++ us)
unfolding tree_at
front_agrees ts us = record { same = λ i l. sym (get_or-append ts us (expressions []) i l) }

pub grown_agrees : (ts : List Tree) (ns : List Node) (i : ℕ) → i < length ts → tree_at ts i ≡ tree_at (grown ts ns) i
unfolding grown
grown_agrees ts [] i l = refl
grown_agrees ts (n ∷ ns) i l = (front_agrees ts (node_tree ts n ∷ [])).same i l ∙ grown_agrees (ts ++ node_tree ts n ∷ []) ns i (let f = length-append ts (node_tree ts n ∷ []) in omega (arith, f, l))

pub last_tree : (ts : List Tree) (t : Tree) (k : ℕ) → k ≡ length ts → tree_at (ts ++ t ∷ []) k ≡ t
unfolding tree_at
last_tree ts t k e = rw e (get_or-append_seam ts t [] (expressions []))

grown_at : (ts : List Tree) (ns : List Node) (i k : ℕ) (n : Node) → k ≡ length ts + i → slice_get ns i ≡ Some n → Parts k n → tree_at (grown ts ns) k ≡ node_tree (grown ts ns) n
unfolding grown
grown_at ts [] i k n e g p = absurd (cc)
grown_at ts (m ∷ ns) zero k n e g p =
    let f = length-append ts (node_tree ts m ∷ []) in
    sym (grown_agrees (ts ++ node_tree ts m ∷ []) ns k (omega (arith, f, e)))
    ∙ last_tree ts (node_tree ts m) k (omega (arith, e))
    ∙ ap (node_tree ts) (same_Some m n g)
    ∙ node_trees k ts (grown ts (m ∷ ns)) n (record { same = λ j l. grown_agrees ts (m ∷ ns) j (omega (arith, l, e)) }) p
grown_at ts (m ∷ ns) (suc i) k n e g p = grown_at (ts ++ node_tree ts m ∷ []) ns i k n (let f = length-append ts (node_tree ts m ∷ []) in omega (arith, f, e)) g p

-- the tree of a node whose parts stand before it, over all trees
pub tree_of : (ns : List Node) (i : ℕ) (n : Node) → slice_get ns i ≡ Some n → Parts i n → tree_at (trees ns) i ≡ node_tree (trees ns) n
unfolding trees
tree_of ns i n g p = grown_at [] ns i i n (omega arith) g p

pub past : (ns : List Node) (i : ℕ) → slice_get ns i ≡ None → length ns ≤ i
past [] i g = omega arith
past (n ∷ ns) zero g = absurd (cc)
past (n ∷ ns) (suc i) g = let e = past ns i g in omega (arith, e)

-- none is there
pub no_tree : (ns : List Node) (i : ℕ) → slice_get ns i ≡ None → tree_at (trees ns) i ≡ expressions []
unfolding trees tree_at
no_tree ns i g = get_or_past (grown [] ns) i (expressions []) (let e = grown_length [] ns in let l = past ns i g in omega (arith, e, l))
