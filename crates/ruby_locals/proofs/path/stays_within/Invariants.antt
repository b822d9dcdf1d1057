use Rattle.std.proofs.Common.{◌≡◌, ◌≤◌, drop, [], unwrap_or}
use Rattle.ruby_meaning.specs.Scoping.Requires as spec
use Rattle.ruby_locals.proofs.path.stays_within.Given as goal

abbrev pub invariant-loop-unit : goal.invariant-loop-unit
invariant-loop-unit l = record {
  tells : spec.stays_within l.below (spec.segments l.part (drop l.unit-index l.path)) ≡ spec.stays_within l.fn.first (spec.segments [] l.path);
  bound : unwrap_or l.below 0 ≤ l.unit-index;
}
