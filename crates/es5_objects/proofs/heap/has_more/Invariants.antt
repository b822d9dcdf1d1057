use Rattle.std.proofs.Common.{◌≡◌, ◌-◌, ◌<◌, length, nat_lt, Some}
use Rattle.es5_tree.specs.Objects.Links.{chain, first_of_chain}
use Rattle.es5_objects.specs.Along.{count_along}
use Rattle.es5_objects.proofs.heap.has_more.Given as goal

abbrev pub invariant-loop-turn : goal.invariant-loop-turn
invariant-loop-turn l = record {
  object : l.at < length l.cells;
  same : nat_lt l.most (count_along l.cells (chain l.cells (Some l.o))) ≡ nat_lt l.left (count_along l.cells (first_of_chain (length l.cells - l.turn) l.cells (Some l.at)));
}
