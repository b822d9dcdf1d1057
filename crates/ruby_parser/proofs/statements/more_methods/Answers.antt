use Rattle.std.proofs.Common.{rules, arith}
use Rattle.std.proofs.lemmas.Grind.{common_steps}
use Rattle.std.proofs.lemmas.List.{map-append}
use Rattle.grammar.specs.FormReaders.{read_many_from}
use Rattle.grammar.proofs.Turns.{one_more, no_more}
use Rattle.ruby_meaning.specs.Grammar.Table.{table}
use Rattle.ruby_meaning.specs.Grammar.Definitions as g
use Rattle.ruby_reading.specs.Ahead.{ahead}
use Rattle.ruby_forms.specs.Definitions.{shown_method}
use Rattle.ruby_parser.specs.StatementValues.{methods_from, shown_methods}
use Rattle.ruby_parser.proofs.statements.more_methods.Goals as goal

pub returns-in_err-next_method : goal.returns-in_err-next_method
unfolding read_many_from table g.method_name
returns-in_err-next_method g c =
    let e = one_more (λ n. methods_from c.args.parser.now.depth n (shown_methods c.loop-turn.found) (ahead c.loop-turn.cursor)) _ c.loop-turn._turn c.loop-turn-test.true c.loop-turn.invariant in
    first_of (search rules, grind (arith, common_steps))

pub returns-then-not-sees : goal.returns-then-not-sees
unfolding read_many_from table g.method_name
returns-then-not-sees g c =
    let e = one_more (λ n. methods_from c.args.parser.now.depth n (shown_methods c.loop-turn.found) (ahead c.loop-turn.cursor)) _ c.loop-turn._turn c.loop-turn-test.true c.loop-turn.invariant in
    first_of (search rules, grind (arith, common_steps))

pub loop-turn-preserved : goal.loop-turn-preserved
unfolding read_many_from table g.method_name
loop-turn-preserved g c =
    let e = one_more (λ n. methods_from c.args.parser.now.depth n (shown_methods c.loop-turn.found) (ahead c.loop-turn.cursor)) _ c.loop-turn._turn c.loop-turn-test.true c.loop-turn.invariant in
    first_of (search rules, grind (arith, common_steps, map-append shown_method))

pub returns : goal.returns
unfolding read_many_from table g.method_name
returns g c =
    let e = no_more (λ n. methods_from c.args.parser.now.depth n (shown_methods c.loop-turn.found) (ahead c.loop-turn.cursor)) _ c.loop-turn._turn c.loop-turn-test.false c.loop-turn.invariant in
    first_of (search rules, grind (arith, common_steps))
