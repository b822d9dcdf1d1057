use Rattle.std.proofs.Common.{◌+◌, ◌*◌}
use Rattle.es5_checks.proofs.shown.+put.Given as goal

abbrev pub decreases-put_expr : goal.decreases-put_expr
decreases-put_expr l = 4 * l.depth

abbrev pub decreases-put_compound : goal.decreases-put_compound
decreases-put_compound l = 4 * l.depth + 3

abbrev pub decreases-put_parts : goal.decreases-put_parts
decreases-put_parts l = 4 * l.depth + 1

abbrev pub decreases-put_exprs : goal.decreases-put_exprs
decreases-put_exprs l = 4 * l.depth + 1

abbrev pub decreases-put_function : goal.decreases-put_function
decreases-put_function l = 4 * l.depth + 2

abbrev pub decreases-put_stmts : goal.decreases-put_stmts
decreases-put_stmts l = 4 * l.depth + 1

abbrev pub decreases-put_stmt : goal.decreases-put_stmt
decreases-put_stmt l = 4 * l.depth

abbrev pub decreases-put_nested : goal.decreases-put_nested
decreases-put_nested l = 4 * l.depth + 3
