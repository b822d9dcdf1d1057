use Rattle.std.proofs.Common.{rules, arith, sym}
use Rattle.std.proofs.lemmas.Grind.{common_steps}
use Rattle.ruby_meaning.specs.Grammar.Actions as act
use Rattle.ruby_meaning.specs.Grammar.Table.{table}
use Rattle.ruby_reading.specs.Ahead.{ahead}
use Rattle.ruby_parameters.proofs.ParameterTurns.{first_named}
use Rattle.ruby_parameters.proofs.parameters.some_parameters.Goals as goal

pub returns-else-begins_parameters : goal.returns-else-begins_parameters
unfolding table
returns-else-begins_parameters g c = (act.no_parameters, first_of (search rules, grind (arith, common_steps)), sym c.no_parameters.ensures)

pub returns-then-begins_parameters : goal.returns-then-begins_parameters
unfolding table
returns-then-begins_parameters g c =
    let e = first_named c.args.parser.now.in_rescue c.args.brackets c.args.parser.now.depth (ahead c.args.cursor.now) in
    first_of (search rules, grind (arith, common_steps))
