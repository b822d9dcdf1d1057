use Rattle.std.proofs.Common.{◌≡◌, ◌<◌, ◌^◌, length, true}
use Rattle.ruby_meaning.specs.Lexing.Numbers.{digits}
use Rattle.ruby_lexemes.proofs.numbers.digits.Given as goal

abbrev pub invariant-loop-z : goal.invariant-loop-z
invariant-loop-z l = (digits l.radix l.n l.gap l.z ≡ digits l.radix 0 true l.initial.z) × (l.n < 2 ^ 53)

abbrev pub decreases-loop-z : goal.decreases-loop-z
decreases-loop-z l = length l.z
