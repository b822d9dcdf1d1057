use Rattle.std.proofs.Common.{◌≡◌, ◌+◌, length}
use Rattle.ruby_meaning.specs.Lexing.Characters.{begins}
use Rattle.ruby_lexemes.proofs.units.begins.Given as goal

abbrev pub invariant-loop-word : goal.invariant-loop-word
invariant-loop-word l = (begins l.word l.z ≡ begins l.initial.word l.initial.z) × (length l.word + length l.initial.z ≡ length l.initial.word + length l.z)

abbrev pub decreases-loop-word : goal.decreases-loop-word
decreases-loop-word l = length l.word
