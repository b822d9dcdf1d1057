use Rattle.es5_tree.specs.Intrinsics.Valid.{Valid}
use Rattle.es5_calls.proofs.answers.Given as goal

abbrev pub invariant-loop-line : goal.invariant-loop-line
invariant-loop-line l = Valid l.heap.cells
