use Rattle.std.proofs.Common.{◌≡◌, map}
use Rattle.es5_tree.specs.Intrinsics.Rows.{elements, or_undefined}
use Rattle.es5_host.proofs.function.listed.Given as goal

abbrev pub invariant-loop-i : goal.invariant-loop-i
invariant-loop-i l = l.list ≡ map or_undefined (elements l.heap.cells l.o 0 l.i)
