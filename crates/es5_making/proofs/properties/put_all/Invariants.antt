use Rattle.std.proofs.Common.{◌≡◌, drop, length}
use Rattle.es5_tree.specs.Objects.Cells.{Object}
use Rattle.es5_tree.specs.Objects.Links.{cell_at}
use Rattle.es5_tree.specs.Intrinsics.Valid.{Valid}
use Rattle.es5_evaluation.specs.Evaluate.{with_properties}
use Rattle.es5_objects.specs.Heap.{with_cell}
use Rattle.es5_making.proofs.properties.put_all.Given as goal

abbrev pub invariant-loop-i : goal.invariant-loop-i
invariant-loop-i l = record {
  left : with_properties (cell_at l.heap.cells l.o) (drop l.i l.names) (drop l.i l.values) ≡ with_properties (cell_at l.initial.heap.cells l.o) l.names l.values;
  other : l.heap ≡ with_cell l.initial.heap l.o (cell_at l.heap.cells l.o);
  plain : (cell_at l.heap.cells l.o).kind ≡ Object;
  valid : Valid l.heap.cells;
  count : length l.heap.cells ≡ length l.initial.heap.cells;
}
