use Rattle.std.proofs.Common.{◌∙◌, sym, arith}
use Rattle.es5_evaluation.specs.Declared.{stmt_code}
use Rattle.es5_code.proofs.Gathering.{first_of, if_parts, none_left, try_is}
use Rattle.es5_code.proofs.own.+in_statements.Goals as goal

pub statement-returns-in_ok-statement-in-If : goal.statement-returns-in_ok-statement-in-If
statement-returns-in_ok-statement-in-If t c = if_parts c.otherwise.result c.args.own.now c.expression-in-If.new.own c.statement.new.own c.otherwise.new.own c.in-If.test c.get.result.now c.in-If.first c.in-If.second c.args.stmt.now c.in-If.is c.expression-in-If.ensures c.get.ensures c.in_ok-statement-in-If.ensures c.otherwise.ensures

pub statement-returns-in-None : goal.statement-returns-in-None
statement-returns-in-None t c = try_is c.args.own.now c.statements-in-Try.new.own c.catch_part.new.own c.as_slice-in-Try.result.now c.in-Try.body c.in-Try.catch c.in-Try.finally c.args.stmt.now c.in-Try.is c.as_slice-in-Try.ensures c.in_ok-statements-in-Try.ensures c.in_ok-catch_part-in-Try.ensures c.in-None.is

pub statements-loop-stmt-preserved : goal.statements-loop-stmt-preserved
statements-loop-stmt-preserved t c = sym (first_of stmt_code c.args.stmts.now c.loop-stmt.stmt-index c.stmt-item.result c.loop-stmt.own c.statement.new.own c.loop-stmt-test.true c.stmt-item.is c.in_ok-statement.ensures) ∙ c.loop-stmt.invariant

pub statements-returns : goal.statements-returns
statements-returns t c = sym (none_left stmt_code c.args.stmts.now c.loop-stmt.stmt-index c.loop-stmt.own (omega (arith, c.loop-stmt-test.false))) ∙ c.loop-stmt.invariant
