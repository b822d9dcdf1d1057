use Rattle.std.proofs.Common.{◌≡◌, drop, false}
use Rattle.ruby_meaning.specs.Scoping.Requires as spec
use Rattle.ruby_locals.proofs.path.has_lone_surrogate.Given as goal

abbrev pub invariant-loop-unit : goal.invariant-loop-unit
invariant-loop-unit l = spec.has_lone_surrogate l.high (drop l.unit-index l.text) ≡ spec.has_lone_surrogate false l.text
