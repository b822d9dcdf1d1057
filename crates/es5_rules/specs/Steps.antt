-- A task becomes another one.
use Rattle.std.specs.Prelude.{◌≡◌, ℕ, ◌+◌, List, ◌++◌}
use Rattle.opal_base.specs.declared.place.Pos.{Pos}
use Rattle.es5_tree.specs.declared.tree.EsExpr.{EsExpr}
use Rattle.es5_tree.specs.declared.tree.EsStmt.{EsStmt}
use Rattle.es5_tree.specs.Values.{Val}
use Rattle.es5_evaluation.specs.State.{State}
use Rattle.es5_evaluation.specs.Task.{Completion, Normal, Refers, Throw, Place, Scope, Evaluate, Refer, Execute, Task, Ask, ◌>>=◌}
use Rattle.es5_evaluation.specs.Evaluate.{all, gather, invoke}
use Rattle.es5_evaluation.specs.Run.{run}
use Rattle.es5_rules.specs.Moments.{moments}

-- Task t in state s becomes u in z by m units, and the host is called in these states, whatever is left over.
pub record Steps (t : Task) (s : State) (m : ℕ) (u : Task) (z : State) (vs : List State) : Type 0 where
  pub runs : (g k : ℕ) → g ≡ m + k → run g t s ≡ run k u z
  pub sees : (g k : ℕ) → g ≡ m + k → moments g t s ≡ vs ++ moments k u z

-- an expression has a value
pub record Gives (e : EsExpr) (ρ : Scope) (s : State) (m : ℕ) (v : Val) (z : State) (vs : List State) : Type 0 where
  pub by : (k : Completion → Task) → Steps (Ask (Evaluate e ρ) k) s m (k (Normal v)) z vs

-- an expression has a place
pub record Places (e : EsExpr) (ρ : Scope) (s : State) (m : ℕ) (place : Place) (z : State) (vs : List State) : Type 0 where
  pub by : (k : Completion → Task) → Steps (Ask (Refer e ρ) k) s m (k (Refers place)) z vs

-- a statement ends
pub record Does (t : EsStmt) (ρ : Scope) (s : State) (m : ℕ) (c : Completion) (z : State) (vs : List State) : Type 0 where
  pub by : (k : Completion → Task) → Steps (Ask (Execute t ρ) k) s m (k c) z vs

-- and a list of them
pub record DoesAll (ts : List EsStmt) (ρ : Scope) (s : State) (m : ℕ) (c : Completion) (z : State) (vs : List State) : Type 0 where
  pub by : (k : Completion → Task) → Steps (all ts ρ >>= k) s m (k c) z vs

-- an expression throws a value
pub record Raises (e : EsExpr) (ρ : Scope) (s : State) (m : ℕ) (v : Val) (z : State) (vs : List State) : Type 0 where
  pub by : (k : Completion → Task) → Steps (Ask (Evaluate e ρ) k) s m (k (Throw v)) z vs

-- expressions have values, from left to right
pub record Gathers (es : List EsExpr) (ρ : Scope) (s : State) (m : ℕ) (us : List Val) (z : State) (vs : List State) : Type 0 where
  pub by : (before : List Val) (f : List Val → Task) (k : Completion → Task) → Steps (gather es ρ before f >>= k) s m (f (before ++ us) >>= k) z vs

-- the call of a value with a `this` and arguments ends
pub record Invoked (p : Pos) (f this : Val) (us : List Val) (s : State) (m : ℕ) (c : Completion) (z : State) (vs : List State) : Type 0 where
  pub by : (k : Completion → Task) → Steps (invoke p f this us >>= k) s m (k c) z vs
