-- The exit statuses.
use Rattle.std.specs.Prelude.{ℕ}
use Rattle.opal_cli.specs.declared.status.Status.{Status}
use Rattle.opal_cli.specs.declared.status.Status.TheVariants as status

abbrev pub code_of : Status → ℕ
code_of status.Done = 0
code_of status.Uncaught = 1
code_of status.Usage = 2
code_of status.Refused = 3
code_of status.Missing = 4
code_of status.ReadFault = 5
code_of status.WriteFault = 6
code_of status.Outside = 7
code_of status.OutOfSteps = 8
code_of status.CellsFull = 9
code_of status.NotScript = 10
code_of status.BadInput = 11
code_of status.NoMemory = 12
code_of status.TooLong = 16
