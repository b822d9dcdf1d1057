use Rattle.es5_reading.specs.Gives.{ahead}
use Rattle.es5_parser.proofs.Openings.{passed_by}
use Rattle.es5_parser.proofs.brackets.take_openings.Goals as goal

pub returns-clause-passed : goal.returns-clause-passed
returns-clause-passed c = passed_by (ahead c.args.tokens.now) c.openings-count.result c.openings-count.ensures
