use Rattle.std.specs.Prelude.{suc, length}
use Rattle.ruby_reading.specs.Ahead.{ahead}
use Rattle.ruby_expressions.specs.ArgumentSteps.{shown_first}
use Rattle.ruby_expressions.proofs.ArgumentSteps.{first_lighter}
use Rattle.ruby_expressions.proofs.argument_lists.argument_step.Goals as goal

pub returns-clause-lighter : goal.returns-clause-lighter
returns-clause-lighter g c =
    first_lighter c.args.command c.args.parser.now.takes_do c.args.parser.now.in_rescue (suc c.args.parser.now.depth) (ahead c.args.cursor.now) (shown_first c.in_ok-args.field-0) (ahead c.first_argument.new.cursor)
    c.behind_comma.result (length (ahead c.behind_comma.new.cursor)) c.in_ok-args.ensures c.behind_comma.ensures.lighter
