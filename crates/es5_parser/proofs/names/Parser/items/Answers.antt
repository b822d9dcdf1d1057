use Rattle.std.proofs.Common.{rules, arith, map}
use Rattle.std.proofs.lemmas.Grind.{common_steps}
use Rattle.grammar.proofs.Turns.{one_more, no_more}
use Rattle.es5_tree.specs.Grammar.Nodes.{expression}
use Rattle.es5_reading.specs.Gives.{ahead}
use Rattle.es5_reading.specs.Loops.{items_from}
use Rattle.es5_reading.proofs.Shown.{expr_more}
use Rattle.es5_parser.proofs.names.Parser.items.Goals as goal

pub returns-in_err-expr : goal.returns-in_err-expr
unfolding items_from
returns-in_err-expr g c =
    let e = one_more (λ n. items_from n c.args.self.now.depth (map expression c.loop-turn.found) (ahead c.loop-turn.tokens)) _ c.loop-turn._turn c.loop-turn-test.true c.loop-turn.invariant in
    first_of (search rules, grind (arith, common_steps, expr_more))

pub returns-in_err-take : goal.returns-in_err-take
unfolding items_from
returns-in_err-take g c =
    let e = one_more (λ n. items_from n c.args.self.now.depth (map expression c.loop-turn.found) (ahead c.loop-turn.tokens)) _ c.loop-turn._turn c.loop-turn-test.true c.loop-turn.invariant in
    first_of (search rules, grind (arith, common_steps, expr_more))

pub returns-then-not-begins_expression : goal.returns-then-not-begins_expression
unfolding items_from
returns-then-not-begins_expression g c =
    let e = one_more (λ n. items_from n c.args.self.now.depth (map expression c.loop-turn.found) (ahead c.loop-turn.tokens)) _ c.loop-turn._turn c.loop-turn-test.true c.loop-turn.invariant in
    first_of (search rules, grind (arith, common_steps, expr_more))

pub returns-then-not-sees : goal.returns-then-not-sees
unfolding items_from
returns-then-not-sees g c =
    let e = one_more (λ n. items_from n c.args.self.now.depth (map expression c.loop-turn.found) (ahead c.loop-turn.tokens)) _ c.loop-turn._turn c.loop-turn-test.true c.loop-turn.invariant in
    first_of (search rules, grind (arith, common_steps, expr_more))

pub loop-turn-preserved : goal.loop-turn-preserved
unfolding items_from
loop-turn-preserved g c =
    let e = one_more (λ n. items_from n c.args.self.now.depth (map expression c.loop-turn.found) (ahead c.loop-turn.tokens)) _ c.loop-turn._turn c.loop-turn-test.true c.loop-turn.invariant in
    first_of (search rules, grind (arith, common_steps, expr_more))

pub returns : goal.returns
unfolding items_from
returns g c =
    let e = no_more (λ n. items_from n c.args.self.now.depth (map expression c.loop-turn.found) (ahead c.loop-turn.tokens)) _ c.loop-turn._turn c.loop-turn-test.false c.loop-turn.invariant in
    first_of (search rules, grind (arith, common_steps))
