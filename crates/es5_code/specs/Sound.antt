-- Tables in which the parts of each node stand before it, and each function has the names that its code declares.
use Rattle.std.specs.Prelude.{◌≡◌, ℕ, ◌<◌, List, All, slice_get, Option, Some, IfSome, ⊤}
use Rattle.es5_evaluation.specs.Declared.{own_code}
use Rattle.es5_code.specs.declared.node.Node.{Node}
use Rattle.es5_code.specs.declared.node.Node.TheVariants as node
use Rattle.es5_code.specs.declared.node.ExprForm.{ExprForm}
use Rattle.es5_code.specs.declared.node.ExprForm.TheVariants as expr
use Rattle.es5_code.specs.declared.node.StmtForm.{StmtForm}
use Rattle.es5_code.specs.declared.node.StmtForm.TheVariants as stmt
use Rattle.es5_code.specs.declared.node.FunctionForm.{FunctionForm}
use Rattle.es5_code.specs.Trees.{code_of, variables_of}

-- the parts of a form have numbers below n
abbrev pub PartsOfExpr : ℕ → ExprForm → Type 0
PartsOfExpr n (expr.Num z) = ⊤
PartsOfExpr n (expr.Str text) = ⊤
PartsOfExpr n expr.True = ⊤
PartsOfExpr n expr.False = ⊤
PartsOfExpr n expr.Null = ⊤
PartsOfExpr n expr.This = ⊤
PartsOfExpr n (expr.Name name) = ⊤
PartsOfExpr n (expr.Array items) = items < n
PartsOfExpr n (expr.Object keys values) = values < n
PartsOfExpr n (expr.Function f) = f.body < n
PartsOfExpr n (expr.Member base name mark) = base < n
PartsOfExpr n (expr.Index base key mark) = (base < n) × (key < n)
PartsOfExpr n (expr.Call callee args) = (callee < n) × (args < n)
PartsOfExpr n (expr.Not e) = e < n
PartsOfExpr n (expr.Neg e) = e < n
PartsOfExpr n (expr.Typeof e) = e < n
PartsOfExpr n (expr.Delete e) = e < n
PartsOfExpr n (expr.Binary operator a b) = (a < n) × (b < n)
PartsOfExpr n (expr.And a b) = (a < n) × (b < n)
PartsOfExpr n (expr.Or a b) = (a < n) × (b < n)
PartsOfExpr n (expr.Cond test a b) = (test < n) × (a < n) × (b < n)
PartsOfExpr n (expr.Assign target e) = (target < n) × (e < n)

abbrev pub IfBelow : ℕ → Option ℕ → Type 0
IfBelow n o = IfSome o (λ i. i < n)

abbrev pub PartsOfStmt : ℕ → StmtForm → Type 0
PartsOfStmt n (stmt.Var name value) = IfBelow n value
PartsOfStmt n (stmt.Expr e) = e < n
PartsOfStmt n (stmt.Block body) = body < n
PartsOfStmt n (stmt.If test first second) = (test < n) × (first < n) × IfBelow n second
PartsOfStmt n (stmt.While test body) = (test < n) × (body < n)
PartsOfStmt n (stmt.Return value) = IfBelow n value
PartsOfStmt n stmt.Break = ⊤
PartsOfStmt n stmt.Continue = ⊤
PartsOfStmt n (stmt.Throw e) = e < n
PartsOfStmt n (stmt.Try body catch finally) = (body < n) × IfSome catch (λ c. c.body < n) × IfBelow n finally
PartsOfStmt n stmt.Empty = ⊤

abbrev pub Parts : ℕ → Node → Type 0
Parts n (node.Expr e) = PartsOfExpr n e.form
Parts n (node.Stmt form) = PartsOfStmt n form
Parts n (node.Exprs ids) = All (λ i. i < n) ids
Parts n (node.Stmts ids) = All (λ i. i < n) ids

-- a function lists the variables of its calls, and knows whether it names `arguments`
pub record Declares (nodes : List Node) (f : FunctionForm) : Type 0 where
  pub variables : f.variables ≡ variables_of (code_of nodes f)
  pub arguments : f.names_arguments ≡ (own_code (code_of nodes f).body).arguments

abbrev pub DeclaresIn : List Node → ExprForm → Type 0
DeclaresIn nodes (expr.Function f) = Declares nodes f
DeclaresIn nodes _ = ⊤

abbrev pub NodeDeclares : List Node → Node → Type 0
NodeDeclares nodes (node.Expr e) = DeclaresIn nodes e.form
NodeDeclares nodes _ = ⊤

pub record Sound (nodes : List Node) : Type 0 where
  pub parts : (i : ℕ) (n : Node) → slice_get nodes i ≡ Some n → Parts i n
  pub declares : (i : ℕ) (n : Node) → slice_get nodes i ≡ Some n → NodeDeclares nodes n
