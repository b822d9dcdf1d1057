use Rattle.std.proofs.Common.{◌≡◌, drop}
use Rattle.ruby_meaning.specs.Scoping.Walk as spec
use Rattle.ruby_locals.proofs.parameters.names_from.Given as goal

abbrev pub invariant-loop-i : goal.invariant-loop-i
invariant-loop-i l = spec.names_in_turn l.mark (drop l.i l.names) l.seen ≡ spec.names_in_turn l.mark (drop l.fn.first l.names) l.fn.seen
