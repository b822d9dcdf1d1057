-- One call in a state that is written out: the premises of the theorem on the sum can be met.
use Rattle.std.specs.Prelude.{◌≡◌, [], ◌∷◌, None, codes, pos}
use Rattle.es5_tree.specs.Tree.{start}
use Rattle.es5_tree.specs.Values.{Undefined, Num, Obj}
use Rattle.es5_tree.specs.Objects.Cells.{Function, new_cell}
use Rattle.es5_evaluation.specs.State.{State}
use Rattle.es5_evaluation.specs.Task.{Normal, Done, ◌>>=◌, Ended}
use Rattle.es5_evaluation.specs.Evaluate.{invoke}
use Rattle.es5_evaluation.specs.Run.{run}
use Rattle.es5_executor.specs.Memory.{record_of}
use Rattle.es5_executor.specs.Sums.{add_code}

abbrev pub ready : State
ready = record { heap = new_cell (Function 0 0) None ∷ []; codes = add_code ∷ []; records = record { variables = []; constants = []; outer = None } ∷ []; lines = record { input = []; read = 0 }; calls = [] }

abbrev pub TwoAndThree : Type 0
TwoAndThree = run 9 (invoke start (Obj 0) Undefined (Num (pos 2) ∷ Num (pos 3) ∷ []) >>= Done) ready ≡ Ended (Normal (Num (pos 5))) (record ready { records = record { variables = []; constants = []; outer = None } ∷ record_of 0 ((codes "i", Num (pos 2)) ∷ (codes "j", Num (pos 3)) ∷ []) ∷ [] }) 0
