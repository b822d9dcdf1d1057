use Rattle.std.proofs.Common.{◌≡◌, ◌+◌, length}
use Rattle.ruby_meaning.specs.Lexing.Characters.{line_len}
use Rattle.ruby_lexemes.proofs.units.line_len.Given as goal

abbrev pub invariant-loop-z : goal.invariant-loop-z
invariant-loop-z l = (l.n + line_len l.z ≡ line_len l.initial.z) × (l.n + length l.z ≡ length l.initial.z)

abbrev pub decreases-loop-z : goal.decreases-loop-z
decreases-loop-z l = length l.z
