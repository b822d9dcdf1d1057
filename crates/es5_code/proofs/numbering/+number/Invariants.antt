use Rattle.std.proofs.Common.{length}
use Rattle.es5_code.specs.Numbers.{NumberedLast}
use Rattle.es5_code.specs.Trees.{expr_of, stmt_of}
use Rattle.es5_code.proofs.numbering.+number.Given as goal

abbrev pub invariant-expressions-loop-expr : goal.invariant-expressions-loop-expr
invariant-expressions-loop-expr l = NumberedLast expr_of l.fn.nodes l.nodes l.ids.items l.left l.initial.left

abbrev pub decreases-expressions-loop-expr : goal.decreases-expressions-loop-expr
decreases-expressions-loop-expr l = length l.left

abbrev pub invariant-statements-loop-stmt : goal.invariant-statements-loop-stmt
invariant-statements-loop-stmt l = NumberedLast stmt_of l.fn.nodes l.nodes l.ids.items l.left l.initial.left

abbrev pub decreases-statements-loop-stmt : goal.decreases-statements-loop-stmt
decreases-statements-loop-stmt l = length l.left
