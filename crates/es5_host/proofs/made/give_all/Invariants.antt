use Rattle.std.proofs.Common.{◌≡◌, length, drop, map}
use Rattle.es5_tree.specs.Objects.Cells.{Object}
use Rattle.es5_tree.specs.Objects.Links.{cell_at}
use Rattle.es5_objects.specs.Heap.{with_cell}
use Rattle.es5_host.specs.Making.{holding, member_of}
use Rattle.es5_host.proofs.made.give_all.Given as goal

abbrev pub invariant-loop-member : goal.invariant-loop-member
invariant-loop-member l = record {
  left : holding (cell_at l.heap.cells l.o) (map (λ m. (m.0.now, member_of m.1)) (drop l.member-index l.members)) ≡ holding (cell_at l.initial.heap.cells l.o) (map (λ m. (m.0.now, member_of m.1)) l.members);
  other : l.heap ≡ with_cell l.initial.heap l.o (cell_at l.heap.cells l.o);
  plain : (cell_at l.heap.cells l.o).kind ≡ Object;
  count : length l.heap.cells ≡ length l.initial.heap.cells;
}
