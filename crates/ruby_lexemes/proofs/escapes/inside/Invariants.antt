use Rattle.std.proofs.Common.{◌≡◌, ◌+◌, ◌≤◌, length}
use Rattle.ruby_meaning.specs.Lexing.Characters.{inside_from}
use Rattle.ruby_lexemes.proofs.escapes.inside.Given as goal

abbrev pub invariant-loop-z : goal.invariant-loop-z
invariant-loop-z l =
    (inside_from l.bracket l.deep l.left l.at l.z ≡ inside_from l.bracket 0 0 0 l.initial.z) × (l.at + length l.z ≡ length l.initial.z) × (l.deep ≤ l.at)

abbrev pub decreases-loop-z : goal.decreases-loop-z
decreases-loop-z l = length l.z
