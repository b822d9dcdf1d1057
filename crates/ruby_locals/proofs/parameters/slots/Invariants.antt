use Rattle.std.proofs.Common.{◌≡◌, drop}
use Rattle.ruby_meaning.specs.Scoping.Walk as spec
use Rattle.ruby_locals.proofs.parameters.slots.Given as goal

abbrev pub invariant-loop-slot : goal.invariant-loop-slot
invariant-loop-slot l = spec.slots l.mark (drop l.slot-index l.slot-items) l.seen ≡ spec.slots l.mark l.slot-items l.fn.seen
