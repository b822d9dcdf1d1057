use Rattle.std.proofs.Common.{rules, arith}
use Rattle.std.proofs.lemmas.Grind.{common_steps}
use Rattle.grammar.proofs.Turns.{one_more}
use Rattle.ruby_meaning.specs.Grammar.Statements as s
use Rattle.ruby_meaning.specs.Grammar.Table.{table}
use Rattle.ruby_reading.specs.Ahead.{ahead}
use Rattle.ruby_parser.specs.StatementValues.{modifiers_from}
use Rattle.ruby_reading.specs.Shown.{shown_value}
use Rattle.ruby_parser.proofs.statements.modifiers.Goals as goal

pub loop-turn-preserved : goal.loop-turn-preserved
unfolding table s.modifier
loop-turn-preserved g c =
    let e = one_more (λ n. modifiers_from c.args.parser.now.in_rescue c.args.parser.now.depth n (shown_value c.loop-turn.value) (ahead c.loop-turn.cursor)) _ c.loop-turn._turn c.loop-turn-test.true c.loop-turn.invariant in
    first_of (search rules, grind (arith, common_steps))

pub returns-then-not-sees_modifier : goal.returns-then-not-sees_modifier
unfolding table s.modifier
returns-then-not-sees_modifier g c =
    let e = one_more (λ n. modifiers_from c.args.parser.now.in_rescue c.args.parser.now.depth n (shown_value c.loop-turn.value) (ahead c.loop-turn.cursor)) _ c.loop-turn._turn c.loop-turn-test.true c.loop-turn.invariant in
    first_of (search rules, grind (arith, common_steps))

pub returns-in_err-modifier : goal.returns-in_err-modifier
unfolding table s.modifier
returns-in_err-modifier g c =
    let e = one_more (λ n. modifiers_from c.args.parser.now.in_rescue c.args.parser.now.depth n (shown_value c.loop-turn.value) (ahead c.loop-turn.cursor)) _ c.loop-turn._turn c.loop-turn-test.true c.loop-turn.invariant in
    first_of (search rules, grind (arith, common_steps))
