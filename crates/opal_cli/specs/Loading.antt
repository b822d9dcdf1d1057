-- How it ends where a main file doesn't load, or its script isn't printed.
use Rattle.std.specs.Prelude.{ℕ, List}
use Rattle.require_bundles.specs.declared.bundle.LoadFault.{LoadFault}
use Rattle.require_bundles.specs.declared.bundle.LoadFault.TheVariants as fault
use Rattle.es5_printer.specs.declared.script.PrintStop.{PrintStop}
use Rattle.es5_printer.specs.declared.script.PrintStop.TheVariants as stop
use Rattle.opal_cli.specs.Ends.{End, RefusedAt, MissingFile, ReadFailed, OutOfMemory, TextTooLong}

-- the end that a main file has which doesn't load
abbrev pub end_of_fault : List ℕ → LoadFault → End
end_of_fault main fault.NoMemory = OutOfMemory
end_of_fault main fault.ReadFault = ReadFailed
end_of_fault main fault.Missing = MissingFile main
end_of_fault main (fault.Refused pos construct) = RefusedAt main pos construct

-- the end where the script isn't printed
abbrev pub end_of_stop : PrintStop → End
end_of_stop stop.NoMemory = OutOfMemory
end_of_stop stop.TooLong = TextTooLong
