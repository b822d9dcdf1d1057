use Rattle.std.proofs.Common.{◌≡◌, ◌++◌, ◌-◌, ◌≤◌, length, drop}
use Rattle.ruby_meaning.specs.Lexing.Texts.{content}
use Rattle.ruby_lexer.proofs.payload.content.Given as goal

abbrev pub invariant-chars : goal.invariant-chars
invariant-chars l = (l.out ++ content l.spelling (drop l.end l.z) ≡ content l.spelling l.z) × (l.end ≤ length l.z)

abbrev pub decreases-chars : goal.decreases-chars
decreases-chars l = length l.z - l.end
