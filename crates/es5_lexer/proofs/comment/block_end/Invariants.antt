use Rattle.std.proofs.Common.{◌≡◌, ◌+◌, length}
use Rattle.es5_tree.specs.Literals.{block_end}
use Rattle.es5_lexer.proofs.comment.block_end.Given as goal

abbrev pub invariant-block : goal.invariant-block
invariant-block l = (block_end l.size l.rest ≡ block_end 1 l.initial.rest) × (l.size + length l.rest ≡ length l.initial.rest + 1)

abbrev pub decreases-block : goal.decreases-block
decreases-block l = length l.rest
