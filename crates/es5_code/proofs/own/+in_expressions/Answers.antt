use Rattle.std.proofs.Common.{◌∙◌, sym, arith}
use Rattle.es5_evaluation.specs.Declared.{expr_code}
use Rattle.es5_code.proofs.Gathering.{first_of, none_left}
use Rattle.es5_code.proofs.own.+in_expressions.Goals as goal

pub expressions-loop-expr-preserved : goal.expressions-loop-expr-preserved
expressions-loop-expr-preserved t c = sym (first_of expr_code c.args.exprs.now c.loop-expr.expr-index c.expr-item.result c.loop-expr.own c.expression.new.own c.loop-expr-test.true c.expr-item.is c.expression.ensures) ∙ c.loop-expr.invariant

pub expressions-returns : goal.expressions-returns
expressions-returns t c = sym (none_left expr_code c.args.exprs.now c.loop-expr.expr-index c.loop-expr.own (omega (arith, c.loop-expr-test.false))) ∙ c.loop-expr.invariant
