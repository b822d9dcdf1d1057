-- What a table says of the node at a number.
use Rattle.std.specs.Prelude.{◌≡◌, ℕ, suc, List, [], ◌∷◌, drop, Option, None, Some}
use Rattle.es5_tree.specs.declared.tree.EsStmt.{out-EsStmt}
use Rattle.es5_tree.specs.Values.{Text}
use Rattle.es5_evaluation.specs.Evaluate.{layer}
use Rattle.es5_code.specs.declared.node.Node.{Node}
use Rattle.es5_code.specs.declared.node.ExprNode.{ExprNode}
use Rattle.es5_code.specs.declared.node.StmtForm.{StmtForm}
use Rattle.es5_code.specs.declared.node.FunctionForm.{FunctionForm}
use Rattle.es5_code.specs.Trees.{trees, shape, stmt_shape, expr_in, stmt_in, code_in, code_of, function_of, no_expression, no_statement, no_code}
use Rattle.es5_code.specs.Sound.{Declares}

-- A table: its nodes, the number of the list of the script's statements, and the names of the script's variables.
pub record Table : Type 0 where
  pub nodes : List Node
  pub body : ℕ
  pub variables : List Text

-- the expression at a number has this form, over the trees of its parts; where it is a function it has this code
abbrev pub IsExprAt : List Node → ℕ → Option ExprNode → Type 0
IsExprAt nodes i (Some e) = (layer (expr_in nodes i) ≡ shape (trees nodes) e.form) × ((expr_in nodes i).pos ≡ e.pos) × (code_in nodes i ≡ function_of nodes e.form)
IsExprAt nodes i None = expr_in nodes i ≡ no_expression

abbrev pub IsStmtAt : List Node → ℕ → Option StmtForm → Type 0
IsStmtAt nodes i (Some form) = out-EsStmt (stmt_in nodes i) ≡ stmt_shape (trees nodes) form
IsStmtAt nodes i None = stmt_in nodes i ≡ no_statement

-- the node at a number is this function
abbrev pub IsFunctionAt : List Node → ℕ → Option FunctionForm → Type 0
IsFunctionAt nodes i (Some f) = (code_in nodes i ≡ code_of nodes f) × Declares nodes f
IsFunctionAt nodes i None = code_in nodes i ≡ no_code

-- the element of a list at a place, and those behind it; or none is left
abbrev pub IsElement : {A : Type 0} → List A → (ℕ → A) → ℕ → Option ℕ → Type 0
IsElement elements at k (Some i) = drop k elements ≡ at i ∷ drop (suc k) elements
IsElement elements at k None = drop k elements ≡ []
