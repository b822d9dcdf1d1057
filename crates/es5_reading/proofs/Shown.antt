-- What stands behind a value, as the parser holds it.
use Rattle.std.proofs.Common.{◌≡◌, List, [], ◌∷◌, ◌++◌, map, refl, ap, ◌∙◌}
use Rattle.es5_tree.specs.declared.token.EsToken.{EsToken}
use Rattle.es5_tree.specs.declared.tree.EsExpr.{EsExpr}
use Rattle.es5_tree.specs.declared.tree.EsKind.TheVariants as kind
use Rattle.es5_tree.specs.declared.tree.EsStmt.{EsStmt}
use Rattle.es5_tree.specs.Grammar.Nodes.{statement, expression, expr_of, stmt_of, exprs, stmts, access}

pub exprs_back : (es : List EsExpr) → exprs (map expression es) ≡ es
unfolding expr_of
exprs_back [] = refl
exprs_back (e ∷ es) = ap (λ l. e ∷ l) (exprs_back es)

pub stmts_back : (ss : List EsStmt) → stmts (map statement ss) ≡ ss
unfolding stmt_of
stmts_back [] = refl
stmts_back (s ∷ ss) = ap (λ l. s ∷ l) (stmts_back ss)

call : (e : EsExpr) (t : EsToken) (args : List EsExpr) → access e t args 2 ≡ kind.Call e args
unfolding access
call e t [] = refl
call e t (key ∷ []) = refl
call e t (key ∷ other ∷ args) = refl

pub call_is : (e : EsExpr) (t : EsToken) (args : List EsExpr) → access e t (exprs (map expression args)) 2 ≡ kind.Call e args
call_is e t args = ap (λ l. access e t l 2) (exprs_back args) ∙ call e t args

-- one more at the end
pub expr_more : (es : List EsExpr) (e : EsExpr) → map expression (es ++ e ∷ []) ≡ map expression es ++ expression e ∷ []
expr_more [] e = refl
expr_more (x ∷ es) e = ap (λ l. expression x ∷ l) (expr_more es e)

pub stmt_more : (ss : List EsStmt) (s : EsStmt) → map statement (ss ++ s ∷ []) ≡ map statement ss ++ statement s ∷ []
stmt_more [] s = refl
stmt_more (x ∷ ss) s = ap (λ l. statement x ∷ l) (stmt_more ss s)
