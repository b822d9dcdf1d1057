-- The trees that the nodes of a table stand for.
use Rattle.std.specs.Prelude.{ℕ, Bool, true, false, List, [], ◌∷◌, ◌++◌, map, slice_index_or, option_map, None}
use Rattle.es5_tree.specs.Tree.{start}
use Rattle.es5_tree.specs.declared.tree.Catch.{Catch, roll-Catch}
use Rattle.es5_tree.specs.declared.tree.EsExpr.{EsExpr}
use Rattle.es5_tree.specs.declared.tree.EsKind.{roll-EsKind}
use Rattle.es5_tree.specs.declared.tree.EsKind.TheOpen.{EsKind-F, EsStmt-F}
use Rattle.es5_tree.specs.declared.tree.EsStmt.{EsStmt, roll-EsStmt}
use Rattle.es5_tree.specs.Values.{Text}
use Rattle.es5_evaluation.specs.State.{Code}
use Rattle.es5_evaluation.specs.Evaluate.{Layer, Statement}
use Rattle.es5_evaluation.specs.Declared.{arguments_name, locals, own_code}
use Rattle.es5_code.specs.declared.node.Node.{Node}
use Rattle.es5_code.specs.declared.node.Node.TheVariants as node
use Rattle.es5_code.specs.declared.node.ExprForm.{ExprForm}
use Rattle.es5_code.specs.declared.node.ExprForm.TheVariants as expr
use Rattle.es5_code.specs.declared.node.StmtForm.{StmtForm}
use Rattle.es5_code.specs.declared.node.StmtForm.TheVariants as stmt
use Rattle.es5_code.specs.declared.node.FunctionForm.{FunctionForm}
use Rattle.es5_code.specs.declared.node.CatchForm.{CatchForm}

pub data Tree : Type 0 where
  expression : EsExpr → Tree
  statement : EsStmt → Tree
  expressions : List EsExpr → Tree
  statements : List EsStmt → Tree

-- what stands for a part that isn't there
abbrev pub no_expression : EsExpr
no_expression = record { kind = roll-EsKind EsKind-F.Null; origin = None; pos = start }

abbrev pub no_statement : EsStmt
no_statement = roll-EsStmt EsStmt-F.Empty

abbrev pub expr_of : Tree → EsExpr
expr_of (expression e) = e
expr_of (statement s) = no_expression
expr_of (expressions es) = no_expression
expr_of (statements ss) = no_expression

abbrev pub stmt_of : Tree → EsStmt
stmt_of (expression e) = no_statement
stmt_of (statement s) = s
stmt_of (expressions es) = no_statement
stmt_of (statements ss) = no_statement

abbrev pub exprs_of : Tree → List EsExpr
exprs_of (expression e) = []
exprs_of (statement s) = []
exprs_of (expressions es) = es
exprs_of (statements ss) = []

abbrev pub stmts_of : Tree → List EsStmt
stmts_of (expression e) = []
stmts_of (statement s) = []
stmts_of (expressions es) = []
stmts_of (statements ss) = ss

unfoldable pub tree_at : List Tree → ℕ → Tree
tree_at trees i = slice_index_or trees i (expressions [])

abbrev pub expr_at : List Tree → ℕ → EsExpr
expr_at trees i = expr_of (tree_at trees i)

abbrev pub stmt_at : List Tree → ℕ → EsStmt
stmt_at trees i = stmt_of (tree_at trees i)

abbrev pub exprs_at : List Tree → ℕ → List EsExpr
exprs_at trees i = exprs_of (tree_at trees i)

abbrev pub stmts_at : List Tree → ℕ → List EsStmt
stmts_at trees i = stmts_of (tree_at trees i)

-- ---- one layer over the trees of the parts

unfoldable pub shape : List Tree → ExprForm → Layer
shape trees (expr.Num n) = EsKind-F.Num n
shape trees (expr.Str text) = EsKind-F.Str text
shape trees expr.True = EsKind-F.True
shape trees expr.False = EsKind-F.False
shape trees expr.Null = EsKind-F.Null
shape trees expr.This = EsKind-F.This
shape trees (expr.Name name) = EsKind-F.Name name
shape trees (expr.Array items) = EsKind-F.Array (exprs_at trees items)
shape trees (expr.Object keys values) = EsKind-F.Object keys (exprs_at trees values)
shape trees (expr.Function f) = EsKind-F.Function f.name f.params (stmts_at trees f.body)
shape trees (expr.Member base name mark) = EsKind-F.Member (expr_at trees base) name mark
shape trees (expr.Index base key mark) = EsKind-F.Index (expr_at trees base) (expr_at trees key) mark
shape trees (expr.Call callee args) = EsKind-F.Call (expr_at trees callee) (exprs_at trees args)
shape trees (expr.Not e) = EsKind-F.Not (expr_at trees e)
shape trees (expr.Neg e) = EsKind-F.Neg (expr_at trees e)
shape trees (expr.Typeof e) = EsKind-F.Typeof (expr_at trees e)
shape trees (expr.Delete e) = EsKind-F.Delete (expr_at trees e)
shape trees (expr.Binary operator a b) = EsKind-F.Binary operator (expr_at trees a) (expr_at trees b)
shape trees (expr.And a b) = EsKind-F.And (expr_at trees a) (expr_at trees b)
shape trees (expr.Or a b) = EsKind-F.Or (expr_at trees a) (expr_at trees b)
shape trees (expr.Cond test a b) = EsKind-F.Cond (expr_at trees test) (expr_at trees a) (expr_at trees b)
shape trees (expr.Assign target e) = EsKind-F.Assign (expr_at trees target) (expr_at trees e)

abbrev pub catch_shape : List Tree → CatchForm → Catch
catch_shape trees c = roll-Catch (record { name = c.name; body = stmts_at trees c.body })

unfoldable pub stmt_shape : List Tree → StmtForm → Statement
stmt_shape trees (stmt.Var name value) = EsStmt-F.Var name (option_map (expr_at trees) value)
stmt_shape trees (stmt.Expr e) = EsStmt-F.Expr (expr_at trees e)
stmt_shape trees (stmt.Block body) = EsStmt-F.Block (stmts_at trees body)
stmt_shape trees (stmt.If test first second) = EsStmt-F.If (expr_at trees test) (stmt_at trees first) (option_map (stmt_at trees) second)
stmt_shape trees (stmt.While test body) = EsStmt-F.While (expr_at trees test) (stmt_at trees body)
stmt_shape trees (stmt.Return value) = EsStmt-F.Return (option_map (expr_at trees) value)
stmt_shape trees stmt.Break = EsStmt-F.Break
stmt_shape trees stmt.Continue = EsStmt-F.Continue
stmt_shape trees (stmt.Throw e) = EsStmt-F.Throw (expr_at trees e)
stmt_shape trees (stmt.Try body catch finally) = EsStmt-F.Try (stmts_at trees body) (option_map (catch_shape trees) catch) (option_map (stmts_at trees) finally)
stmt_shape trees stmt.Empty = EsStmt-F.Empty

-- the tree of a node
unfoldable pub node_tree : List Tree → Node → Tree
node_tree trees (node.Expr e) = expression (record { kind = roll-EsKind (shape trees e.form); origin = e.origin; pos = e.pos })
node_tree trees (node.Stmt form) = statement (roll-EsStmt (stmt_shape trees form))
node_tree trees (node.Exprs ids) = expressions (map (expr_at trees) ids)
node_tree trees (node.Stmts ids) = statements (map (stmt_at trees) ids)

-- ---- the trees of a table, in which the parts of a node stand before it

unfoldable pub grown : List Tree → List Node → List Tree
grown trees [] = trees
grown trees (n ∷ ns) = grown (trees ++ node_tree trees n ∷ []) ns

unfoldable pub trees : List Node → List Tree
trees nodes = grown [] nodes

abbrev pub expr_in : List Node → ℕ → EsExpr
expr_in nodes i = expr_at (trees nodes) i

abbrev pub stmt_in : List Node → ℕ → EsStmt
stmt_in nodes i = stmt_at (trees nodes) i

abbrev pub exprs_in : List Node → ℕ → List EsExpr
exprs_in nodes i = exprs_at (trees nodes) i

abbrev pub stmts_in : List Node → ℕ → List EsStmt
stmts_in nodes i = stmts_at (trees nodes) i

-- ---- functions

abbrev pub code_of : List Node → FunctionForm → Code
code_of nodes f = record { name = f.name; params = f.params; body = stmts_in nodes f.body }

abbrev pub no_code : Code
no_code = record { name = None; params = []; body = [] }

abbrev pub function_of : List Node → ExprForm → Code
function_of nodes (expr.Function f) = code_of nodes f
function_of nodes _ = no_code

abbrev pub function_node : List Node → Node → Code
function_node nodes (node.Expr e) = function_of nodes e.form
function_node nodes _ = no_code

-- the code of the function that a node is
unfoldable pub code_in : List Node → ℕ → Code
code_in nodes i = function_node nodes (slice_index_or nodes i (node.Exprs []))

abbrev pub arguments_if : Bool → List Text
arguments_if true = arguments_name ∷ []
arguments_if false = []

-- the names of the variables of a call's record
abbrev pub variables_of : Code → List Text
variables_of c = c.params ++ arguments_if (own_code c.body).arguments ++ locals c.params c.body
