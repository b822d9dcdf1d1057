use Rattle.std.proofs.Common.{◌≡◌, ◌+◌, ◌-◌, ◌≤◌, length}
use Rattle.opal_base.specs.Outside.{preceded}
use Rattle.opal_base.proofs.source.read_all.Given as goal

abbrev pub invariant-chunks : goal.invariant-chunks
invariant-chunks g l = record {
  read : g.S.Source.left l.initial.source ≡ preceded l.bytes.items (g.S.Source.left l.source);
  bound : length l.bytes.items ≤ l.most + 1;
  later : g.S.Source.faults l.initial.source ≤ g.S.Source.faults l.source;
}

abbrev pub decreases-chunks : goal.decreases-chunks
decreases-chunks g l = l.most + 1 - length l.bytes.items
