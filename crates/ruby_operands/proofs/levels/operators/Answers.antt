use Rattle.std.proofs.Common.{rules, arith}
use Rattle.std.proofs.lemmas.Grind.{common_steps}
use Rattle.grammar.proofs.Turns.{one_more}
use Rattle.descent.specs.Sets.{one_of}
use Rattle.ruby_reading.specs.Ahead.{ahead, codes}
use Rattle.ruby_operands.specs.Operators.{operators_from}
use Rattle.ruby_reading.specs.Shown.{written_code}
use Rattle.ruby_operands.proofs.levels.operators.Goals as goal

pub loop-turn-preserved : goal.loop-turn-preserved
loop-turn-preserved g c =
    let e = one_more (λ n. operators_from (one_of (codes c.args.signs.now)) c.args.operand c.args.joint c.args.parser.now.takes_do c.args.parser.now.in_rescue c.args.parser.now.depth n (c.loop-turn.left, written_code c.loop-turn.written) (ahead c.loop-turn.cursor)) _ c.loop-turn._turn c.loop-turn-test.true c.loop-turn.invariant in
    first_of (search rules, grind (arith, common_steps))

pub returns-then-not-sees_one_of : goal.returns-then-not-sees_one_of
returns-then-not-sees_one_of g c =
    let e = one_more (λ n. operators_from (one_of (codes c.args.signs.now)) c.args.operand c.args.joint c.args.parser.now.takes_do c.args.parser.now.in_rescue c.args.parser.now.depth n (c.loop-turn.left, written_code c.loop-turn.written) (ahead c.loop-turn.cursor)) _ c.loop-turn._turn c.loop-turn-test.true c.loop-turn.invariant in
    first_of (search rules, grind (arith, common_steps))

pub returns-in_err-right : goal.returns-in_err-right
returns-in_err-right g c =
    let e = one_more (λ n. operators_from (one_of (codes c.args.signs.now)) c.args.operand c.args.joint c.args.parser.now.takes_do c.args.parser.now.in_rescue c.args.parser.now.depth n (c.loop-turn.left, written_code c.loop-turn.written) (ahead c.loop-turn.cursor)) _ c.loop-turn._turn c.loop-turn-test.true c.loop-turn.invariant in
    first_of (search rules, grind (arith, common_steps))
