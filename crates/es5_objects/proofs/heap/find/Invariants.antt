use Rattle.std.proofs.Common.{◌≡◌, ◌-◌, ◌<◌, length, Some}
use Rattle.es5_tree.specs.Objects.Links.{get, first_own, first_of_chain}
use Rattle.es5_objects.proofs.heap.find.Given as goal

abbrev pub invariant-loop-turn : goal.invariant-loop-turn
invariant-loop-turn l = record {
  object : l.at < length l.cells;
  same : get l.cells l.o l.name ≡ first_own l.cells (first_of_chain (length l.cells - l.turn) l.cells (Some l.at)) l.name;
}
