use Rattle.std.proofs.Common.{rules, arith}
use Rattle.std.proofs.lemmas.Grind.{common_steps}
use Rattle.grammar.proofs.Turns.{one_more}
use Rattle.ruby_meaning.specs.Grammar.Primaries.{dot_part, scope_part, bracket}
use Rattle.ruby_meaning.specs.Grammar.Table.{table}
use Rattle.ruby_reading.specs.Ahead.{ahead}
use Rattle.ruby_operands.specs.PartsBehind.{parts_from}
use Rattle.ruby_reading.specs.Shown.{written_code}
use Rattle.ruby_operands.proofs.suffixes.parts_behind.Goals as goal

pub loop-turn-preserved : goal.loop-turn-preserved
unfolding table dot_part scope_part bracket
loop-turn-preserved g c =
    let e = one_more (λ n. parts_from c.args.parser.now.in_rescue c.args.parser.now.takes_do c.args.parser.now.depth n (c.loop-turn.left, written_code c.loop-turn.written) (ahead c.loop-turn.cursor)) _ c.loop-turn._turn c.loop-turn-test.true c.loop-turn.invariant in
    first_of (search rules, grind (arith, common_steps))

pub returns-then-not-sees_part : goal.returns-then-not-sees_part
unfolding table dot_part scope_part bracket
returns-then-not-sees_part g c =
    let e = one_more (λ n. parts_from c.args.parser.now.in_rescue c.args.parser.now.takes_do c.args.parser.now.depth n (c.loop-turn.left, written_code c.loop-turn.written) (ahead c.loop-turn.cursor)) _ c.loop-turn._turn c.loop-turn-test.true c.loop-turn.invariant in
    first_of (search rules, grind (arith, common_steps))

pub returns-in_err-part : goal.returns-in_err-part
unfolding table dot_part scope_part bracket
returns-in_err-part g c =
    let e = one_more (λ n. parts_from c.args.parser.now.in_rescue c.args.parser.now.takes_do c.args.parser.now.depth n (c.loop-turn.left, written_code c.loop-turn.written) (ahead c.loop-turn.cursor)) _ c.loop-turn._turn c.loop-turn-test.true c.loop-turn.invariant in
    first_of (search rules, grind (arith, common_steps))
