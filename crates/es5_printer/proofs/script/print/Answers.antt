use Rattle.std.proofs.Common.{sym, ◌∙◌}
use Rattle.es5_printer.proofs.Finished.{finished_some}
use Rattle.es5_printer.proofs.script.print.Goals as goal

pub returns-in-Some : goal.returns-in-Some
returns-in-Some c = finished_some c.args.script.now c.in-Ok.page (c.in-Some.bytes, c.in-Some.places) c.in-Ok.ensures (sym c.in-Some.is ∙ c.finish.ensures)
