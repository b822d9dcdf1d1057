use Rattle.std.proofs.Common.{◌≡◌, Err, ap, sym, ◌∙◌}
use Rattle.ruby_reading.specs.Ahead.{ahead}
use Rattle.ruby_parser.proofs.NoLevel.{no_level}
use Rattle.ruby_parser.proofs.read.read_nothing.Goals as goal

pub returns : goal.returns
returns c = no_level c.args.part.takes_do c.args.part.in_rescue (ahead c.args.cursor.now) c.args.part.production c.requires.read ∙ sym (ap Err c.pass_opening.ensures)
