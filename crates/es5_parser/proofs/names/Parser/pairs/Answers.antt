use Rattle.std.proofs.Common.{rules, arith, map}
use Rattle.std.proofs.lemmas.Grind.{common_steps}
use Rattle.grammar.proofs.Turns.{one_more, no_more}
use Rattle.es5_tree.specs.Grammar.Nodes.{expression}
use Rattle.es5_reading.specs.Gives.{ahead}
use Rattle.es5_reading.proofs.Shown.{expr_more}
use Rattle.es5_parser.specs.Lists.{pairs_from}
use Rattle.es5_parser.proofs.names.Parser.pairs.Goals as goal

pub returns-then-not-sees_one_of : goal.returns-then-not-sees_one_of
unfolding pairs_from
returns-then-not-sees_one_of g c =
    let e = one_more (λ n. pairs_from n c.args.self.now.depth c.loop-turn.keys (map expression c.loop-turn.values) (ahead c.loop-turn.tokens)) _ c.loop-turn._turn c.loop-turn-test.true c.loop-turn.invariant in
    first_of (search rules, grind (arith, common_steps, expr_more))

pub returns-in_err-pair : goal.returns-in_err-pair
unfolding pairs_from
returns-in_err-pair g c =
    let e = one_more (λ n. pairs_from n c.args.self.now.depth c.loop-turn.keys (map expression c.loop-turn.values) (ahead c.loop-turn.tokens)) _ c.loop-turn._turn c.loop-turn-test.true c.loop-turn.invariant in
    first_of (search rules, grind (arith, common_steps, expr_more))

pub returns-then-not-sees : goal.returns-then-not-sees
unfolding pairs_from
returns-then-not-sees g c =
    let e = one_more (λ n. pairs_from n c.args.self.now.depth c.loop-turn.keys (map expression c.loop-turn.values) (ahead c.loop-turn.tokens)) _ c.loop-turn._turn c.loop-turn-test.true c.loop-turn.invariant in
    first_of (search rules, grind (arith, common_steps, expr_more))

pub loop-turn-preserved : goal.loop-turn-preserved
unfolding pairs_from
loop-turn-preserved g c =
    let e = one_more (λ n. pairs_from n c.args.self.now.depth c.loop-turn.keys (map expression c.loop-turn.values) (ahead c.loop-turn.tokens)) _ c.loop-turn._turn c.loop-turn-test.true c.loop-turn.invariant in
    first_of (search rules, grind (arith, common_steps, expr_more))

pub returns : goal.returns
unfolding pairs_from
returns g c =
    let e = no_more (λ n. pairs_from n c.args.self.now.depth c.loop-turn.keys (map expression c.loop-turn.values) (ahead c.loop-turn.tokens)) _ c.loop-turn._turn c.loop-turn-test.false c.loop-turn.invariant in
    first_of (search rules, grind (arith, common_steps, expr_more))
