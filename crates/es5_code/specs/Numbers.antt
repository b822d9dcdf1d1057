-- What numbering adds to a table.
use Rattle.std.specs.Prelude.{◌≡◌, ℕ, ◌<◌, List, ◌++◌, length, map, reverse, All, option_map, Option, IfSome}
use Rattle.es5_tree.specs.declared.tree.Catch.{Catch}
use Rattle.es5_tree.specs.declared.tree.EsKind.{EsKind, roll-EsKind}
use Rattle.es5_tree.specs.declared.tree.EsStmt.{EsStmt, roll-EsStmt}
use Rattle.es5_code.specs.declared.node.CatchForm.{CatchForm}
use Rattle.es5_code.specs.declared.node.ExprForm.{ExprForm}
use Rattle.es5_code.specs.declared.node.Node.{Node}
use Rattle.es5_code.specs.declared.node.StmtForm.{StmtForm}
use Rattle.es5_code.specs.Trees.{Tree, tree_at, trees, shape, stmt_shape, catch_shape}
use Rattle.es5_code.specs.Sound.{DeclaresIn, IfBelow, PartsOfExpr, PartsOfStmt, Sound}

-- the old nodes are the first ones, and the new table is sound
pub record Added (old new : List Node) : Type 0 where
  pub more : List Node
  pub grows : new ≡ old ++ more
  pub sound : Sound new

-- this stands at a number of the new table
pub record Numbered {A : Type 0} (of : Tree → A) (old new : List Node) (i : ℕ) (a : A) : Type 0 where
  pub added : Added old new
  pub within : i < length new
  pub is : of (tree_at (trees new) i) ≡ a

-- the new table has the parts of a form
pub record FormOf (old new : List Node) (form : ExprForm) (kind : EsKind) : Type 0 where
  pub added : Added old new
  pub parts : PartsOfExpr (length new) form
  pub declares : DeclaresIn new form
  pub is : roll-EsKind (shape (trees new) form) ≡ kind

pub record StmtFormOf (old new : List Node) (form : StmtForm) (stmt : EsStmt) : Type 0 where
  pub added : Added old new
  pub parts : PartsOfStmt (length new) form
  pub is : roll-EsStmt (stmt_shape (trees new) form) ≡ stmt

-- or nothing stands for nothing
pub record NumberedIf {A : Type 0} (of : Tree → A) (old new : List Node) (i : Option ℕ) (a : Option A) : Type 0 where
  pub added : Added old new
  pub within : IfBelow (length new) i
  pub is : option_map (λ i. of (tree_at (trees new) i)) i ≡ a

pub record Catches (old new : List Node) (form : Option CatchForm) (part : Option Catch) : Type 0 where
  pub added : Added old new
  pub within : IfSome form (λ c. c.body < length new)
  pub is : option_map (catch_shape (trees new)) form ≡ part

-- the last ones of a list are numbered, the numbers from the last one on
pub record NumberedLast {A : Type 0} (of : Tree → A) (old new : List Node) (ids : List ℕ) (left whole : List A) : Type 0 where
  pub added : Added old new
  pub within : All (λ i. i < length new) (reverse ids)
  pub is : whole ≡ left ++ map (λ i. of (tree_at (trees new) i)) (reverse ids)
