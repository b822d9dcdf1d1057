use Rattle.std.proofs.Common.{◌≡◌, drop, map}
use Rattle.es5_spelling.specs.Test as test
use Rattle.es5_spelling.proofs.checker.+spellable.Given as goal

abbrev pub invariant-expressions-loop-expr : goal.invariant-expressions-loop-expr
invariant-expressions-loop-expr l = test.all (map test.expression (drop l.expr-index l.exprs)) ≡ test.all (map test.expression l.exprs)

abbrev pub invariant-statements-loop-stmt : goal.invariant-statements-loop-stmt
invariant-statements-loop-stmt l = test.all_statements (map test.statement (drop l.stmt-index l.stmt-items)) l.in_function l.in_loop ≡ test.all_statements (map test.statement l.stmt-items) l.in_function l.in_loop
