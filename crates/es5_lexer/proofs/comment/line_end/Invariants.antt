use Rattle.std.proofs.Common.{◌≡◌, ◌+◌, length}
use Rattle.es5_tree.specs.Literals.{line_end}
use Rattle.es5_lexer.proofs.comment.line_end.Given as goal

abbrev pub invariant-line : goal.invariant-line
invariant-line l = (line_end l.size l.rest ≡ line_end 1 l.initial.rest) × (l.size + length l.rest ≡ length l.initial.rest + 1)

abbrev pub decreases-line : goal.decreases-line
decreases-line l = length l.rest
