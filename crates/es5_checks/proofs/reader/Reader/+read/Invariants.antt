use Rattle.std.proofs.Common.{◌+◌, ◌*◌}
use Rattle.es5_checks.proofs.reader.Reader.+read.Given as goal

abbrev pub decreases-expr : goal.decreases-expr
decreases-expr l = 5 * l.depth

abbrev pub decreases-kind : goal.decreases-kind
decreases-kind l = 5 * l.depth + 4

abbrev pub decreases-exprs : goal.decreases-exprs
decreases-exprs l = 5 * l.depth + 1

abbrev pub decreases-object : goal.decreases-object
decreases-object l = 5 * l.depth + 2

abbrev pub decreases-function : goal.decreases-function
decreases-function l = 5 * l.depth + 2

abbrev pub decreases-access : goal.decreases-access
decreases-access l = 5 * l.depth + 1

abbrev pub decreases-call : goal.decreases-call
decreases-call l = 5 * l.depth + 2

abbrev pub decreases-binary : goal.decreases-binary
decreases-binary l = 5 * l.depth + 1

abbrev pub decreases-pair : goal.decreases-pair
decreases-pair l = 5 * l.depth + 1

abbrev pub decreases-cond : goal.decreases-cond
decreases-cond l = 5 * l.depth + 1

abbrev pub decreases-optional : goal.decreases-optional
decreases-optional l = 5 * l.depth + 1

abbrev pub decreases-stmt : goal.decreases-stmt
decreases-stmt l = 5 * l.depth

abbrev pub decreases-form : goal.decreases-form
decreases-form l = 5 * l.depth + 4

abbrev pub decreases-boxed : goal.decreases-boxed
decreases-boxed l = 5 * l.depth + 1

abbrev pub decreases-stmts : goal.decreases-stmts
decreases-stmts l = 5 * l.depth + 1

abbrev pub decreases-branch : goal.decreases-branch
decreases-branch l = 5 * l.depth + 2

abbrev pub decreases-catch : goal.decreases-catch
decreases-catch l = 5 * l.depth + 2

abbrev pub decreases-attempt : goal.decreases-attempt
decreases-attempt l = 5 * l.depth + 3
