use Rattle.std.proofs.Common.{rules, arith, map}
use Rattle.std.proofs.lemmas.Grind.{common_steps}
use Rattle.grammar.specs.FormReaders.{read_many_from}
use Rattle.grammar.proofs.Turns.{one_more, no_more}
use Rattle.es5_tree.specs.Grammar.Nodes.{expression}
use Rattle.es5_reading.specs.Gives.{ahead}
use Rattle.es5_reading.specs.Loops.{more_arguments}
use Rattle.es5_reading.proofs.Shown.{expr_more}
use Rattle.es5_parser.proofs.names.Parser.more_arguments.Goals as goal

pub returns-in_err-next_argument : goal.returns-in_err-next_argument
unfolding read_many_from
returns-in_err-next_argument g c =
    let e = one_more (λ n. more_arguments n c.args.self.now.depth (map expression c.loop-turn.found) (ahead c.loop-turn.tokens)) _ c.loop-turn._turn c.loop-turn-test.true c.loop-turn.invariant in
    first_of (search rules, grind (arith, common_steps, expr_more))

pub returns-then-not-sees_comma : goal.returns-then-not-sees_comma
unfolding read_many_from
returns-then-not-sees_comma g c =
    let e = one_more (λ n. more_arguments n c.args.self.now.depth (map expression c.loop-turn.found) (ahead c.loop-turn.tokens)) _ c.loop-turn._turn c.loop-turn-test.true c.loop-turn.invariant in
    first_of (search rules, grind (arith, common_steps, expr_more))

pub loop-turn-preserved : goal.loop-turn-preserved
unfolding read_many_from
loop-turn-preserved g c =
    let e = one_more (λ n. more_arguments n c.args.self.now.depth (map expression c.loop-turn.found) (ahead c.loop-turn.tokens)) _ c.loop-turn._turn c.loop-turn-test.true c.loop-turn.invariant in
    first_of (search rules, grind (arith, common_steps, expr_more))

pub returns : goal.returns
unfolding read_many_from
returns g c =
    let e = no_more (λ n. more_arguments n c.args.self.now.depth (map expression c.loop-turn.found) (ahead c.loop-turn.tokens)) _ c.loop-turn._turn c.loop-turn-test.false c.loop-turn.invariant in
    first_of (search rules, grind (arith, common_steps))
