use Rattle.std.proofs.Common.{◌≡◌, length, drop, map}
use Rattle.es5_tree.specs.Objects.Links.{cell_at}
use Rattle.es5_tree.specs.Intrinsics.Valid.{Valid}
use Rattle.es5_objects.specs.Heap.{with_cell}
use Rattle.es5_host.specs.Items.{element}
use Rattle.es5_host.specs.Making.{holding}
use Rattle.es5_host.proofs.present.put_all.Given as goal

abbrev pub invariant-loop-i : goal.invariant-loop-i
invariant-loop-i l = record {
  left : holding (cell_at l.heap.cells l.o) (map element (drop l.i l.items)) ≡ holding (cell_at l.initial.heap.cells l.o) (map element l.items);
  other : l.heap ≡ with_cell l.initial.heap l.o (cell_at l.heap.cells l.o);
  valid : Valid l.heap.cells;
  count : length l.heap.cells ≡ length l.initial.heap.cells;
}
