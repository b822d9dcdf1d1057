-- What printing answers.
use Rattle.std.specs.Prelude.{◌≡◌, ◌<◌, ◌≤◌, length, Result, Ok, Err}
use Rattle.es5_tree.specs.declared.tree.Script.{Script}
use Rattle.es5_printer.specs.declared.script.Printed.{Printed}
use Rattle.es5_printer.specs.declared.script.PrintStop.{PrintStop}
use Rattle.es5_printer.specs.declared.script.PrintStop.TheVariants as stop
use Rattle.es5_printer.specs.Page.{Shown, empty, limit, written}
use Rattle.es5_printer.specs.Text.{places_of, script_pieces, text_of}

abbrev pub page_of : Script → Shown
page_of script = written (script_pieces script) empty

abbrev pub IsPrinted : Script → Result Printed PrintStop → Type 0
IsPrinted script (Ok printed) = (printed.bytes ≡ text_of script) × (printed.places ≡ places_of script) × (length (text_of script) < limit)
IsPrinted script (Err stop.TooLong) = limit ≤ length (text_of script)
IsPrinted script (Err stop.NoMemory) = Unit {0}
