-- The sorts of nodes.
use Rattle.std.specs.Prelude.{ℕ, Option, None, Some, slice_get}
use Rattle.es5_code.specs.declared.node.Node.{Node}
use Rattle.es5_code.specs.declared.node.Node.TheVariants as node
use Rattle.es5_code.specs.declared.node.ExprNode.{ExprNode}
use Rattle.es5_code.specs.declared.node.ExprForm.{ExprForm}
use Rattle.es5_code.specs.declared.node.ExprForm.TheVariants as expr
use Rattle.es5_code.specs.declared.node.StmtForm.{StmtForm}
use Rattle.es5_code.specs.declared.node.FunctionForm.{FunctionForm}

abbrev pub expr_of : Node → Option ExprNode
expr_of (node.Expr e) = Some e
expr_of _ = None

abbrev pub stmt_of : Node → Option StmtForm
stmt_of (node.Stmt form) = Some form
stmt_of _ = None

abbrev pub function_of : ExprForm → Option FunctionForm
function_of (expr.Function f) = Some f
function_of _ = None

abbrev pub function_node : Node → Option FunctionForm
function_node (node.Expr e) = function_of e.form
function_node _ = None

-- the element of a list of expressions, or of statements, at a place
abbrev pub expr_id : Node → ℕ → Option ℕ
expr_id (node.Exprs ids) k = slice_get ids k
expr_id _ k = None

abbrev pub stmt_id : Node → ℕ → Option ℕ
stmt_id (node.Stmts ids) k = slice_get ids k
stmt_id _ k = None
