-- What the definition of runs comes to.
use Rattle.std.specs.Prelude.{◌≡◌, ℕ, ◌+◌, ◌≤◌, List, ◌++◌}
use Rattle.opal_base.specs.Shown.{Ended, Shows}
use Rattle.es5_tree.specs.declared.tree.Script.{Script}
use Rattle.es5_tree.specs.Values.{Text}
use Rattle.es5_tree.specs.Ends.{EsEnd}
use Rattle.es5_evaluation.specs.State.{State}
use Rattle.es5_evaluation.specs.Task.{Completion, Task, ◌>>=◌}
use Rattle.es5_evaluation.specs.Run.{es_run, cells_at, run, behind, run_on}

-- once a run has ended, more units change nothing
abbrev pub MoreUnits : Type 0
MoreUnits = (script : Script) (input : Text) (n k : ℕ) (output : List ℕ) (end : EsEnd) → es_run script input n ≡ Ended output end → es_run script input (n + k) ≡ Ended output end

-- a run has one end
abbrev pub OneEnd : Type 0
OneEnd = (script : Script) (input : Text) (n m : ℕ) (output other : List ℕ) (end last : EsEnd) → es_run script input n ≡ Ended output end → es_run script input m ≡ Ended other last → (output ≡ other) × (end ≡ last)

-- with more units the output only grows
abbrev pub OutputGrows : Type 0
OutputGrows = (script : Script) (input : Text) (n k : ℕ) (output : List ℕ) → Shows (es_run script input n) output → (more : List ℕ) × Shows (es_run script input (n + k)) (output ++ more)

-- with more units no fewer cells are made
abbrev pub CellsGrow : Type 0
CellsGrow = (script : Script) (input : Text) (n k : ℕ) → cells_at script input n ≤ cells_at script input (n + k)

-- a run of one task after another is a run of the first, and then of the second with the units that are left
abbrev pub TasksInTurn : Type 0
TasksInTurn = (g : ℕ) (t : Task) (k : Completion → Task) (s : State) → run g (t >>= k) s ≡ behind (run g t s) (run_on k)
