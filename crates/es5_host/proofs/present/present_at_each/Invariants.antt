use Rattle.std.proofs.Common.{◌≡◌, map}
use Rattle.es5_tree.specs.Intrinsics.Rows.{elements}
use Rattle.es5_host.specs.Items.{element, present}
use Rattle.es5_host.proofs.present.present_at_each.Given as goal

abbrev pub invariant-loop-i : goal.invariant-loop-i
invariant-loop-i l = map element l.items.items ≡ present 0 (elements l.heap.cells l.o l.from l.i)
