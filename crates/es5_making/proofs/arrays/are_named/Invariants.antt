use Rattle.std.proofs.Common.{length, take}
use Rattle.std.specs.List.{All}
use Rattle.es5_tree.specs.Intrinsics.Valid.{Names}
use Rattle.es5_making.proofs.arrays.are_named.Given as goal

abbrev pub invariant-loop-i : goal.invariant-loop-i
invariant-loop-i l = All (Names (length l.fn.heap.cells)) (take l.i l.fn.values)
