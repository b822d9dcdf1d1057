use Rattle.std.proofs.Common.{◌+◌, ◌*◌}
use Rattle.es5_reprints.proofs.generate.Generator.+grow.Given as goal

abbrev pub decreases-expr : goal.decreases-expr
decreases-expr l = 5 * l.depth

abbrev pub decreases-stmt : goal.decreases-stmt
decreases-stmt l = 5 * l.depth

abbrev pub decreases-exprs : goal.decreases-exprs
decreases-exprs l = 5 * l.depth + 1

abbrev pub decreases-stmts : goal.decreases-stmts
decreases-stmts l = 5 * l.depth + 1

abbrev pub decreases-branch : goal.decreases-branch
decreases-branch l = 5 * l.depth + 1

abbrev pub decreases-function : goal.decreases-function
decreases-function l = 5 * l.depth + 2

abbrev pub decreases-attempt : goal.decreases-attempt
decreases-attempt l = 5 * l.depth + 2

abbrev pub decreases-with_list : goal.decreases-with_list
decreases-with_list l = 5 * l.depth + 3

abbrev pub decreases-form : goal.decreases-form
decreases-form l = 5 * l.depth + 4
