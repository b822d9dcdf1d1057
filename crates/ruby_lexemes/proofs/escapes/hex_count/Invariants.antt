use Rattle.std.proofs.Common.{◌≡◌, ◌+◌, length}
use Rattle.ruby_meaning.specs.Lexing.Characters.{hex_count}
use Rattle.ruby_lexemes.proofs.escapes.hex_count.Given as goal

abbrev pub invariant-loop-z : goal.invariant-loop-z
invariant-loop-z l = (l.n + hex_count l.z ≡ hex_count l.initial.z) × (l.n + length l.z ≡ length l.initial.z)

abbrev pub decreases-loop-z : goal.decreases-loop-z
decreases-loop-z l = length l.z
