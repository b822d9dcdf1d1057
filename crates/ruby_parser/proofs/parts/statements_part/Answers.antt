use Rattle.std.proofs.Common.{suc, refl}
use Rattle.ruby_reading.specs.Ahead.{ahead}
use Rattle.ruby_parser.specs.TreeRules.{of_body}
use Rattle.ruby_parser.proofs.PartsRead.{given, statements_part}
use Rattle.ruby_parser.proofs.parts.statements_part.Goals as goal

pub returns : goal.returns
returns g c =
    given c.args.part c.args.part.takes_do c.args.parser.now.in_rescue (suc c.args.parser.now.depth) (ahead c.args.cursor.now) (ahead c.statement_list-statements.new.cursor) (of_body c.statement_list-statements.result) c.of_body.result c.of_body.ensures
    (statements_part c.args.part c.args.part.takes_do c.args.parser.now.in_rescue (suc c.args.parser.now.depth) (ahead c.args.cursor.now) (ahead c.statement_list-statements.new.cursor) c.statement_list-statements.result c.requires.statements refl c.requires.rescue c.statement_list-statements.ensures)
