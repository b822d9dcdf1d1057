use Rattle.std.proofs.Common.{◌≡◌, ◌-◌, length, eqb}
use Rattle.std.specs.List.{list_any}
use Rattle.es5_tree.specs.Objects.Links.{in_chain, first_of_chain, Within}
use Rattle.es5_objects.proofs.heap.is_in_chain.Given as goal

abbrev pub invariant-loop-step : goal.invariant-loop-step
invariant-loop-step l = record {
  object : Within l.cells l.at;
  same : in_chain l.cells l.o l.fn.start ≡ list_any (eqb l.o) (first_of_chain (length l.cells - l.step) l.cells l.at);
}
