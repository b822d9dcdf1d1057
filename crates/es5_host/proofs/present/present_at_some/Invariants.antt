use Rattle.std.proofs.Common.{◌≡◌, ◌≤◌, ◌++◌, map, drop}
use Rattle.es5_tree.specs.Objects.Names.{decimal}
use Rattle.es5_tree.specs.Objects.Links.{get}
use Rattle.es5_host.specs.Items.{element}
use Rattle.es5_host.proofs.LeftOut.{walk}
use Rattle.es5_host.proofs.present.present_at_some.Given as goal

abbrev pub invariant-loop-index : goal.invariant-loop-index
invariant-loop-index l = record {
  from : l.from ≤ l.at;
  found : map element l.items.items ++ walk (λ i. get l.heap.cells l.o (decimal i)) l.from l.at l.end (drop l.index-index l.indices) ≡ walk (λ i. get l.heap.cells l.o (decimal i)) l.from l.from l.end l.indices;
}
