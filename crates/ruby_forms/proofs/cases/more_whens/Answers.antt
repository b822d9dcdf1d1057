use Rattle.std.proofs.Common.{rules, arith}
use Rattle.std.proofs.lemmas.Grind.{common_steps}
use Rattle.grammar.specs.FormReaders.{read_many_from}
use Rattle.grammar.proofs.Turns.{one_more, no_more}
use Rattle.ruby_meaning.specs.Grammar.Table.{table}
use Rattle.ruby_meaning.specs.Grammar.Definitions as g
use Rattle.ruby_reading.specs.Ahead.{ahead}
use Rattle.ruby_forms.specs.Definitions.{whens_from}
use Rattle.ruby_forms.proofs.cases.more_whens.Goals as goal

pub returns-in_err-when_clause : goal.returns-in_err-when_clause
unfolding read_many_from table g.when_clause
returns-in_err-when_clause g c =
    let e = one_more (λ n. whens_from c.args.parser.now.in_rescue c.args.parser.now.depth n c.loop-turn.found (ahead c.loop-turn.cursor)) _ c.loop-turn._turn c.loop-turn-test.true c.loop-turn.invariant in
    first_of (search rules, grind (arith, common_steps))

pub returns-then-not-sees : goal.returns-then-not-sees
unfolding read_many_from table g.when_clause
returns-then-not-sees g c =
    let e = one_more (λ n. whens_from c.args.parser.now.in_rescue c.args.parser.now.depth n c.loop-turn.found (ahead c.loop-turn.cursor)) _ c.loop-turn._turn c.loop-turn-test.true c.loop-turn.invariant in
    first_of (search rules, grind (arith, common_steps))

pub loop-turn-preserved : goal.loop-turn-preserved
unfolding read_many_from table g.when_clause
loop-turn-preserved g c =
    let e = one_more (λ n. whens_from c.args.parser.now.in_rescue c.args.parser.now.depth n c.loop-turn.found (ahead c.loop-turn.cursor)) _ c.loop-turn._turn c.loop-turn-test.true c.loop-turn.invariant in
    first_of (search rules, grind (arith, common_steps))

pub returns : goal.returns
unfolding read_many_from table g.when_clause
returns g c =
    let e = no_more (λ n. whens_from c.args.parser.now.in_rescue c.args.parser.now.depth n c.loop-turn.found (ahead c.loop-turn.cursor)) _ c.loop-turn._turn c.loop-turn-test.false c.loop-turn.invariant in
    first_of (search rules, grind (arith, common_steps))
