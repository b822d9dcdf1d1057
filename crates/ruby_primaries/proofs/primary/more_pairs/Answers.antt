use Rattle.std.proofs.Common.{rules, arith}
use Rattle.std.proofs.lemmas.Grind.{common_steps}
use Rattle.grammar.proofs.Turns.{one_more, no_more}
use Rattle.ruby_meaning.specs.Grammar.Primaries.{pair_in_braces}
use Rattle.ruby_meaning.specs.Grammar.Table.{table}
use Rattle.ruby_reading.specs.Ahead.{ahead}
use Rattle.ruby_primaries.specs.Literals.{pairs_from, read_pairs_from}
use Rattle.ruby_primaries.proofs.primary.more_pairs.Goals as goal

pub returns-in_err-next : goal.returns-in_err-next
unfolding read_pairs_from table pair_in_braces
returns-in_err-next g c =
    let e = one_more (λ n. pairs_from c.args.parser.now.in_rescue c.args.parser.now.depth n c.loop-turn.keys c.loop-turn.values (ahead c.loop-turn.cursor)) _ c.loop-turn._turn c.loop-turn-test.true c.loop-turn.invariant in
    first_of (search rules, grind (arith, common_steps))

pub returns-then-not-sees : goal.returns-then-not-sees
unfolding read_pairs_from table pair_in_braces
returns-then-not-sees g c =
    let e = one_more (λ n. pairs_from c.args.parser.now.in_rescue c.args.parser.now.depth n c.loop-turn.keys c.loop-turn.values (ahead c.loop-turn.cursor)) _ c.loop-turn._turn c.loop-turn-test.true c.loop-turn.invariant in
    first_of (search rules, grind (arith, common_steps))

pub loop-turn-preserved : goal.loop-turn-preserved
unfolding read_pairs_from table pair_in_braces
loop-turn-preserved g c =
    let e = one_more (λ n. pairs_from c.args.parser.now.in_rescue c.args.parser.now.depth n c.loop-turn.keys c.loop-turn.values (ahead c.loop-turn.cursor)) _ c.loop-turn._turn c.loop-turn-test.true c.loop-turn.invariant in
    first_of (search rules, grind (arith, common_steps))

pub returns : goal.returns
unfolding read_pairs_from table pair_in_braces
returns g c =
    let e = no_more (λ n. pairs_from c.args.parser.now.in_rescue c.args.parser.now.depth n c.loop-turn.keys c.loop-turn.values (ahead c.loop-turn.cursor)) _ c.loop-turn._turn c.loop-turn-test.false c.loop-turn.invariant in
    first_of (search rules, grind (arith, common_steps))
