use Rattle.std.proofs.Common.{◌≡◌, ◌≤◌, ◌+◌}
use Rattle.opal_base.specs.Place.{place_at}
use Rattle.opal_base.proofs.place.line_col.Given as goal

abbrev pub invariant-loop-unit : goal.invariant-loop-unit
invariant-loop-unit l = record {
  is : l.pos ≡ place_at l.unit-items l.unit-index;
  short : l.pos.line + l.pos.col ≤ l.unit-index;
}
