use Rattle.std.proofs.Common.{◌≡◌, ◌+◌, length, map, Some}
use Rattle.std.specs.List.{range_with_len}
use Rattle.es5_tree.specs.Objects.Cells.{Host, new_cell}
use Rattle.es5_host.specs.Making.{with_more}
use Rattle.es5_host.proofs.made.make_functions.Given as goal

abbrev pub invariant-loop-number : goal.invariant-loop-number
invariant-loop-number l = record {
  made : l.heap ≡ with_more l.initial.heap (map (λ n. new_cell (Host n) (Some 1)) (range_with_len 0 l.number));
  count : length l.heap.cells ≡ length l.initial.heap.cells + l.number;
}
