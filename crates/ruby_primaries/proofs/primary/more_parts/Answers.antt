use Rattle.std.proofs.Common.{rules, arith}
use Rattle.std.proofs.lemmas.Grind.{common_steps}
use Rattle.grammar.specs.FormReaders.{read_many_from}
use Rattle.grammar.proofs.Turns.{one_more, no_more}
use Rattle.ruby_meaning.specs.Grammar.Primaries.{text, embedded}
use Rattle.ruby_meaning.specs.Grammar.Table.{table}
use Rattle.ruby_reading.specs.Ahead.{ahead}
use Rattle.ruby_primaries.specs.Literals.{parts_from}
use Rattle.ruby_primaries.proofs.primary.more_parts.Goals as goal

pub returns-in_err-text_part : goal.returns-in_err-text_part
unfolding read_many_from table text embedded
returns-in_err-text_part g c =
    let e = one_more (λ n. parts_from c.args.parser.now.in_rescue c.args.parser.now.depth n c.loop-turn.found (ahead c.loop-turn.cursor)) _ c.loop-turn._turn c.loop-turn-test.true c.loop-turn.invariant in
    first_of (search rules, grind (arith, common_steps))

pub returns-then-not-sees_one_of : goal.returns-then-not-sees_one_of
unfolding read_many_from table text embedded
returns-then-not-sees_one_of g c =
    let e = one_more (λ n. parts_from c.args.parser.now.in_rescue c.args.parser.now.depth n c.loop-turn.found (ahead c.loop-turn.cursor)) _ c.loop-turn._turn c.loop-turn-test.true c.loop-turn.invariant in
    first_of (search rules, grind (arith, common_steps))

pub loop-turn-preserved : goal.loop-turn-preserved
unfolding read_many_from table text embedded
loop-turn-preserved g c =
    let e = one_more (λ n. parts_from c.args.parser.now.in_rescue c.args.parser.now.depth n c.loop-turn.found (ahead c.loop-turn.cursor)) _ c.loop-turn._turn c.loop-turn-test.true c.loop-turn.invariant in
    first_of (search rules, grind (arith, common_steps))

pub returns : goal.returns
unfolding read_many_from table text embedded
returns g c =
    let e = no_more (λ n. parts_from c.args.parser.now.in_rescue c.args.parser.now.depth n c.loop-turn.found (ahead c.loop-turn.cursor)) _ c.loop-turn._turn c.loop-turn-test.false c.loop-turn.invariant in
    first_of (search rules, grind (arith, common_steps))
