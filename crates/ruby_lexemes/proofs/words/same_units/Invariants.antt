use Rattle.std.proofs.Common.{◌≡◌, length}
use Rattle.ruby_meaning.specs.Lexing.Words.{same_units}
use Rattle.ruby_lexemes.proofs.words.same_units.Given as goal

abbrev pub invariant-loop-word : goal.invariant-loop-word
invariant-loop-word l = same_units l.word l.z ≡ same_units l.initial.word l.initial.z

abbrev pub decreases-loop-word : goal.decreases-loop-word
decreases-loop-word l = length l.word
