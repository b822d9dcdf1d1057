use Rattle.std.proofs.Common.{◌≡◌, ◌-◌, ◌<◌, ◌++◌, length, Some}
use Rattle.es5_tree.specs.Objects.Links.{chain, first_of_chain}
use Rattle.es5_objects.specs.Along.{indices_along}
use Rattle.es5_objects.proofs.heap.indices_along.Given as goal

abbrev pub invariant-loop-turn : goal.invariant-loop-turn
invariant-loop-turn l = record {
  object : l.at < length l.cells;
  same : indices_along l.cells (chain l.cells (Some l.o)) ≡ l.found.items ++ indices_along l.cells (first_of_chain (length l.cells - l.turn) l.cells (Some l.at));
}
