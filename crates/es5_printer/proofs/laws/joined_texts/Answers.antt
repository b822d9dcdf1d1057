use Rattle.es5_printer.proofs.Joined.{joined, of_statements}
use Rattle.es5_printer.proofs.laws.joined_texts.Goals as goal

pub returns : goal.returns
returns c = record { joined = joined; script = of_statements }
