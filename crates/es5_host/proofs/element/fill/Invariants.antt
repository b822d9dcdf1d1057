use Rattle.std.proofs.Common.{◌≡◌, map, drop, length}
use Rattle.es5_tree.specs.Objects.Links.{cell_at}
use Rattle.es5_tree.specs.Intrinsics.Rows.{filled}
use Rattle.es5_tree.specs.Intrinsics.Valid.{Valid}
use Rattle.es5_objects.specs.Heap.{with_cell}
use Rattle.es5_objects.specs.Values.{value_if}
use Rattle.es5_host.proofs.element.fill.Given as goal

abbrev pub invariant-loop-i : goal.invariant-loop-i
invariant-loop-i l = record {
  filled : filled (cell_at l.heap.cells l.o) l.i (map value_if (drop l.i l.items)) ≡ filled (cell_at l.initial.heap.cells l.o) 0 (map value_if l.items);
  other : l.heap ≡ with_cell l.initial.heap l.o (cell_at l.heap.cells l.o);
  valid : Valid l.heap.cells;
  count : length l.heap.cells ≡ length l.initial.heap.cells;
}
