-- Tables that grow.
use Rattle.std.proofs.Common.{◌≡◌, ℕ, zero, suc, ◌<◌, ◌≤◌, List, [], ◌∷◌, ◌++◌, length, All, Option, Some, None, IfSome, slice_get, inl, inr, ◌⊎◌, refl, ap, ◌∙◌, sym, subst, arith, append_assoc, append-nil, length-append}
use Rattle.std.proofs.lemmas.Option.{same_Some, slice_get_within}
use Rattle.es5_evaluation.specs.Declared.{own_code}
use Rattle.es5_code.specs.declared.node.CatchForm.{CatchForm}
use Rattle.es5_code.specs.declared.node.ExprForm.{ExprForm}
use Rattle.es5_code.specs.declared.node.ExprForm.TheVariants as expr
use Rattle.es5_code.specs.declared.node.FunctionForm.{FunctionForm}
use Rattle.es5_code.specs.declared.node.Node.{Node}
use Rattle.es5_code.specs.declared.node.Node.TheVariants as node
use Rattle.es5_code.specs.declared.node.StmtForm.{StmtForm}
use Rattle.es5_code.specs.declared.node.StmtForm.TheVariants as stmt
use Rattle.es5_code.specs.Numbers.{Added, Numbered}
use Rattle.es5_code.specs.Sound.{DeclaresIn, IfBelow, NodeDeclares, Parts, PartsOfExpr, PartsOfStmt, Sound}
use Rattle.es5_code.specs.Trees.{Tree, tree_at, node_tree, grown, trees, code_of, variables_of}
use Rattle.es5_code.proofs.Nodes.{grown_agrees, grown_length, last_tree}

-- ---- tables that grow

grown_append : (ts : List Tree) (ns more : List Node) → grown ts (ns ++ more) ≡ grown (grown ts ns) more
unfolding grown
grown_append ts [] more = refl
grown_append ts (n ∷ ns) more = grown_append (ts ++ node_tree ts n ∷ []) ns more

trees_length : (ns : List Node) → length (trees ns) ≡ length ns
unfolding trees
trees_length ns = let e = grown_length [] ns in omega (arith, e)

stays : (ns more : List Node) (i : ℕ) → i < length ns → tree_at (trees (ns ++ more)) i ≡ tree_at (trees ns) i
unfolding trees
stays ns more i l = ap (λ ts. tree_at ts i) (grown_append [] ns more) ∙ sym (grown_agrees (grown [] ns) more i (let e = trees_length ns in omega (arith, e, l)))

newest : (ns : List Node) (n : Node) → tree_at (trees (ns ++ n ∷ [])) (length ns) ≡ node_tree (trees ns) n
unfolding trees grown
newest ns n = ap (λ ts. tree_at ts (length ns)) (grown_append [] ns (n ∷ [])) ∙ last_tree (grown [] ns) (node_tree (grown [] ns) n) (length ns) (sym (trees_length ns))

same_code : (ns more : List Node) (f : FunctionForm) → f.body < length ns → code_of (ns ++ more) f ≡ code_of ns f
same_code ns more f l = rw (stays ns more f.body l) refl

declares_later : (ns more : List Node) (f : ExprForm) → PartsOfExpr (length ns) f → DeclaresIn ns f → DeclaresIn (ns ++ more) f
declares_later ns more (expr.Function f) p d = record {
  variables = d.variables ∙ ap variables_of (sym (same_code ns more f p));
  arguments = d.arguments ∙ ap (λ c. (own_code c.body).arguments) (sym (same_code ns more f p));
}
declares_later ns more f p d = d

node_declares_later : (ns more : List Node) (n : Node) → Parts (length ns) n → NodeDeclares ns n → NodeDeclares (ns ++ more) n
node_declares_later ns more (node.Expr e) p d = declares_later ns more e.form p d
node_declares_later ns more (node.Stmt f) p d = d
node_declares_later ns more (node.Exprs ids) p d = d
node_declares_later ns more (node.Stmts ids) p d = d

pub all_more : (m n : ℕ) (ids : List ℕ) → m ≤ n → All (λ i. i < m) ids → All (λ i. i < n) ids
all_more m n ids l p = λ k d w. omega (arith, l, p k d w)

if_more : (m n : ℕ) (o : Option ℕ) → m ≤ n → IfBelow m o → IfBelow n o
if_more m n None l p = p
if_more m n (Some i) l p = omega (arith, l, p)

catch_more : (m n : ℕ) (o : Option CatchForm) → m ≤ n → IfSome o (λ c. c.body < m) → IfSome o (λ c. c.body < n)
catch_more m n None l p = p
catch_more m n (Some c) l p = omega (arith, l, p)

expr_more : (m n : ℕ) (f : ExprForm) → m ≤ n → PartsOfExpr m f → PartsOfExpr n f
expr_more m n (expr.Num z) l p = p
expr_more m n (expr.Str text) l p = p
expr_more m n expr.True l p = p
expr_more m n expr.False l p = p
expr_more m n expr.Null l p = p
expr_more m n expr.This l p = p
expr_more m n (expr.Name name) l p = p
expr_more m n (expr.Array x) l p = omega (arith, l, p)
expr_more m n (expr.Object keys x) l p = omega (arith, l, p)
expr_more m n (expr.Function f) l p = omega (arith, l, p)
expr_more m n (expr.Member x name mark) l p = omega (arith, l, p)
expr_more m n (expr.Index x y mark) l (p, q) = (omega (arith, l, p), omega (arith, l, q))
expr_more m n (expr.Call x y) l (p, q) = (omega (arith, l, p), omega (arith, l, q))
expr_more m n (expr.Not x) l p = omega (arith, l, p)
expr_more m n (expr.Neg x) l p = omega (arith, l, p)
expr_more m n (expr.Typeof x) l p = omega (arith, l, p)
expr_more m n (expr.Delete x) l p = omega (arith, l, p)
expr_more m n (expr.Binary operator x y) l (p, q) = (omega (arith, l, p), omega (arith, l, q))
expr_more m n (expr.And x y) l (p, q) = (omega (arith, l, p), omega (arith, l, q))
expr_more m n (expr.Or x y) l (p, q) = (omega (arith, l, p), omega (arith, l, q))
expr_more m n (expr.Cond x y z) l (p, q, r) = (omega (arith, l, p), omega (arith, l, q), omega (arith, l, r))
expr_more m n (expr.Assign x y) l (p, q) = (omega (arith, l, p), omega (arith, l, q))

stmt_more : (m n : ℕ) (f : StmtForm) → m ≤ n → PartsOfStmt m f → PartsOfStmt n f
stmt_more m n (stmt.Var name o) l p = if_more m n o l p
stmt_more m n (stmt.Expr x) l p = omega (arith, l, p)
stmt_more m n (stmt.Block x) l p = omega (arith, l, p)
stmt_more m n (stmt.If x y o) l (p, q, r) = (omega (arith, l, p), omega (arith, l, q), if_more m n o l r)
stmt_more m n (stmt.While x y) l (p, q) = (omega (arith, l, p), omega (arith, l, q))
stmt_more m n (stmt.Return o) l p = if_more m n o l p
stmt_more m n stmt.Break l p = p
stmt_more m n stmt.Continue l p = p
stmt_more m n (stmt.Throw x) l p = omega (arith, l, p)
stmt_more m n (stmt.Try x c o) l (p, q, r) = (omega (arith, l, p), catch_more m n c l q, if_more m n o l r)
stmt_more m n stmt.Empty l p = p

parts_more : (m n : ℕ) (x : Node) → m ≤ n → Parts m x → Parts n x
parts_more m n (node.Expr e) l p = expr_more m n e.form l p
parts_more m n (node.Stmt f) l p = stmt_more m n f l p
parts_more m n (node.Exprs ids) l p = all_more m n ids l p
parts_more m n (node.Stmts ids) l p = all_more m n ids l p

old_or_new : (ns : List Node) (n : Node) (i : ℕ) (m : Node) → slice_get (ns ++ n ∷ []) i ≡ Some m → (slice_get ns i ≡ Some m) ⊎ ((i ≡ length ns) × (n ≡ m))
old_or_new [] n zero m e = inr (refl, same_Some n m e)
old_or_new [] n (suc i) m e = absurd cc
old_or_new (x ∷ ns) n zero m e = inl e
old_or_new (x ∷ ns) n (suc i) m e = elim (old_or_new ns n i m e) [ inl g ↦ inl g | inr g ↦ inr ((let h = g.0 in ap (λ k. suc k) h), g.1) ]

sound_more : (ns : List Node) (n : Node) → Sound ns → Parts (length ns) n → NodeDeclares ns n → Sound (ns ++ n ∷ [])
sound_more ns n s p d = record {
  parts = λ i m e. elim (old_or_new ns n i m e) [ inl g ↦ s.parts i m g | inr g ↦ subst (λ k. Parts k m) (sym g.0) (subst (Parts (length ns)) g.1 p) ];
  declares = λ i m e. elim (old_or_new ns n i m e) [
    | inl g ↦ node_declares_later ns (n ∷ []) m (parts_more i (length ns) m (let l = slice_get_within ns i m g in omega (arith, l)) (s.parts i m g)) (s.declares i m g)
    | inr g ↦ subst (NodeDeclares (ns ++ n ∷ [])) g.1 (node_declares_later ns (n ∷ []) n p d)
  ];
}

-- ---- what was numbered stays so

pub added_none : (a : List Node) → Sound a → Added a a
added_none a s = record { more = []; grows = sym (append-nil a); sound = s }

pub added_both : (a b c : List Node) → Added a b → Added b c → Added a c
added_both a b c x y = record { more = x.more ++ y.more; grows = y.grows ∙ ap (λ ns. ns ++ y.more) x.grows ∙ append_assoc a x.more y.more; sound = y.sound }

pub longer : (a b : List Node) → Added a b → length a ≤ length b
longer a b x = let e = ap length x.grows ∙ length-append a x.more in omega (arith, e)

pub same_tree : (a b : List Node) (i : ℕ) → Added a b → i < length a → tree_at (trees b) i ≡ tree_at (trees a) i
same_tree a b i x l = ap (λ ns. tree_at (trees ns) i) x.grows ∙ stays a x.more i l

pub later : {A : Type 0} (of : Tree → A) (a b c : List Node) (i : ℕ) (x : A) → Numbered of a b i x → Added b c → Numbered of a c i x
later of a b c i x n y = record {
  added = added_both a b c n.added y;
  within = (let l = longer b c y in omega (arith, l, n.within));
  is = ap of (same_tree b c i y n.within) ∙ n.is;
}

pub behind : {A : Type 0} (of : Tree → A) (a b c : List Node) (i : ℕ) (x : A) → Added a b → Numbered of b c i x → Numbered of a c i x
behind of a b c i x y n = record { added = added_both a b c y n.added; within = n.within; is = n.is }

-- a node whose parts are there
pub node_added : {A : Type 0} (of : Tree → A) (a b c : List Node) (n : Node) (i : ℕ) (x : A) → Added a b → (i ≡ length b) × (c ≡ b ++ n ∷ []) → Parts (length b) n → NodeDeclares b n → of (node_tree (trees b) n) ≡ x → Numbered of a c i x
node_added of a b c n i x y (e, g) p d h = subst (λ z. Numbered of a z i x) (sym g) (subst (λ k. Numbered of a (b ++ n ∷ []) k x) (sym e) (record {
  added = added_both a b (b ++ n ∷ []) y (record { more = n ∷ []; grows = refl; sound = sound_more b n y.sound p d });
  within = (let l = length-append b (n ∷ []) in omega (arith, l));
  is = ap of (newest b n) ∙ h;
}))
