use Rattle.std.proofs.Common.{rules, arith}
use Rattle.std.proofs.lemmas.Grind.{common_steps}
use Rattle.grammar.proofs.Turns.{one_more, no_more}
use Rattle.es5_reading.specs.Gives.{ahead}
use Rattle.es5_parser.specs.Lists.{params_from}
use Rattle.es5_parser.proofs.function.names.Goals as goal

pub returns-in_err-name : goal.returns-in_err-name
unfolding params_from
returns-in_err-name c =
    let e = one_more (λ n. params_from n c.loop-turn.found (ahead c.loop-turn.tokens)) _ c.loop-turn._turn c.loop-turn-test.true c.loop-turn.invariant in
    first_of (search rules, grind (arith, common_steps))

pub returns-then-not-sees : goal.returns-then-not-sees
unfolding params_from
returns-then-not-sees c =
    let e = one_more (λ n. params_from n c.loop-turn.found (ahead c.loop-turn.tokens)) _ c.loop-turn._turn c.loop-turn-test.true c.loop-turn.invariant in
    first_of (search rules, grind (arith, common_steps))

pub loop-turn-preserved : goal.loop-turn-preserved
unfolding params_from
loop-turn-preserved c =
    let e = one_more (λ n. params_from n c.loop-turn.found (ahead c.loop-turn.tokens)) _ c.loop-turn._turn c.loop-turn-test.true c.loop-turn.invariant in
    first_of (search rules, grind (arith, common_steps))

pub returns : goal.returns
unfolding params_from
returns c =
    let e = no_more (λ n. params_from n c.loop-turn.found (ahead c.loop-turn.tokens)) _ c.loop-turn._turn c.loop-turn-test.false c.loop-turn.invariant in
    first_of (search rules, grind (arith, common_steps))
