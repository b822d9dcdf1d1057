-- Nodes that aren't in the table.
use Rattle.std.proofs.Common.{◌≡◌, List, refl, ap, ◌∙◌}
use Rattle.es5_tree.specs.Values.{Null}
use Rattle.es5_tree.specs.Tree.{start}
use Rattle.es5_tree.specs.declared.tree.EsExpr.{EsExpr}
use Rattle.es5_tree.specs.declared.tree.EsKind.{out-roll-EsKind}
use Rattle.es5_tree.specs.declared.tree.EsKind.TheOpen.{EsKind-F, EsStmt-F}
use Rattle.es5_tree.specs.declared.tree.EsStmt.{EsStmt, out-EsStmt, out-roll-EsStmt}
use Rattle.es5_evaluation.specs.Task.{Scope, Done}
use Rattle.es5_evaluation.specs.Evaluate.{gives, nothing, layer, eval_node, refer_node, exec_node}
use Rattle.es5_code.specs.Trees.{no_expression, no_statement}

pub no_value : (e : EsExpr) → e ≡ no_expression → (ρ : Scope) → eval_node (layer e) e.pos ρ ≡ gives Null
unfolding eval_node
no_value e h ρ = ap (λ (x : EsExpr). eval_node (layer x) x.pos ρ) h ∙ ap (λ l. eval_node l start ρ) (out-roll-EsKind EsKind-F.Null)

pub no_place : (e : EsExpr) → e ≡ no_expression → (ρ : Scope) → refer_node (layer e) e.pos ρ ≡ gives Null
unfolding eval_node refer_node
no_place e h ρ = ap (λ (x : EsExpr). refer_node (layer x) x.pos ρ) h ∙ ap (λ l. refer_node l start ρ) (out-roll-EsKind EsKind-F.Null)

pub no_effect : (t : EsStmt) → t ≡ no_statement → (ρ : Scope) → exec_node (out-EsStmt t) ρ ≡ Done nothing
unfolding exec_node
no_effect t h ρ = ap (λ x. exec_node (out-EsStmt x) ρ) h ∙ ap (λ l. exec_node l ρ) (out-roll-EsStmt EsStmt-F.Empty)
