use Rattle.std.proofs.Common.{rules, arith, map}
use Rattle.std.proofs.lemmas.Grind.{common_steps}
use Rattle.grammar.specs.FormReaders.{read_many_from}
use Rattle.grammar.proofs.Turns.{one_more, no_more}
use Rattle.es5_tree.specs.Grammar.Nodes.{statement}
use Rattle.es5_reading.specs.Gives.{ahead}
use Rattle.es5_reading.specs.Loops.{more_statements}
use Rattle.es5_reading.proofs.Shown.{stmt_more}
use Rattle.es5_parser.proofs.names.Parser.more_statements.Goals as goal

pub returns-in_err-one_statement : goal.returns-in_err-one_statement
unfolding read_many_from
returns-in_err-one_statement g c =
    let e = one_more (λ n. more_statements c.args.in_function c.args.in_loop n c.args.self.now.depth (map statement c.loop-turn.found) (ahead c.loop-turn.tokens)) _ c.loop-turn._turn c.loop-turn-test.true c.loop-turn.invariant in
    first_of (search rules, grind (arith, common_steps, stmt_more))

pub returns-then-not-begins_statement : goal.returns-then-not-begins_statement
unfolding read_many_from
returns-then-not-begins_statement g c =
    let e = one_more (λ n. more_statements c.args.in_function c.args.in_loop n c.args.self.now.depth (map statement c.loop-turn.found) (ahead c.loop-turn.tokens)) _ c.loop-turn._turn c.loop-turn-test.true c.loop-turn.invariant in
    first_of (search rules, grind (arith, common_steps, stmt_more))

pub loop-turn-preserved : goal.loop-turn-preserved
unfolding read_many_from
loop-turn-preserved g c =
    let e = one_more (λ n. more_statements c.args.in_function c.args.in_loop n c.args.self.now.depth (map statement c.loop-turn.found) (ahead c.loop-turn.tokens)) _ c.loop-turn._turn c.loop-turn-test.true c.loop-turn.invariant in
    first_of (search rules, grind (arith, common_steps, stmt_more))

pub returns : goal.returns
unfolding read_many_from
returns g c =
    let e = no_more (λ n. more_statements c.args.in_function c.args.in_loop n c.args.self.now.depth (map statement c.loop-turn.found) (ahead c.loop-turn.tokens)) _ c.loop-turn._turn c.loop-turn-test.false c.loop-turn.invariant in
    first_of (search rules, grind (arith, common_steps))
