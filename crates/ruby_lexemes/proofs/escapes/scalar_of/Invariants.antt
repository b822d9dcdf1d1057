use Rattle.std.proofs.Common.{◌≡◌, ◌<◌, length}
use Rattle.ruby_meaning.specs.Lexing.Characters.{scalar_from}
use Rattle.ruby_lexemes.proofs.escapes.scalar_of.Given as goal

abbrev pub invariant-loop-digits : goal.invariant-loop-digits
invariant-loop-digits l = (scalar_from l.v l.digits ≡ scalar_from 0 l.initial.digits) × (l.v < 0x110000)

abbrev pub decreases-loop-digits : goal.decreases-loop-digits
decreases-loop-digits l = length l.digits
