-- How a call of the program ends: its status, and its line on err.
use Rattle.std.specs.Prelude.{ℕ, ◌+◌, List, [], ◌∷◌, ◌++◌, codes, ⊤}
use Rattle.std.specs.Fmt.{decimal}
use Rattle.opal_base.specs.declared.place.Pos.{Pos}
use Rattle.opal_base.specs.Text.{utf8_of}
use Rattle.ruby_meaning.specs.declared.construct.Construct.{Construct}
use Rattle.ruby_meaning.specs.Constructs.{construct_name}
use Rattle.es5_host.specs.declared.answer.OutKind.{OutKind}
use Rattle.es5_host.specs.declared.answer.OutKind.TheVariants as kind
use Rattle.opal_cli.specs.declared.status.Status.{Status}
use Rattle.opal_cli.specs.declared.status.Status.TheVariants as status
use Rattle.opal_cli.specs.declared.outcome.Outcome.{Outcome}
use Rattle.opal_cli.specs.declared.outcome.Outcome.TheVariants as outcome
use Rattle.opal_cli.specs.declared.report.TheConstants.{USAGE}

-- how a call ends, with what its line on err names
pub data End : Type 0 where
  Wrote : End
  UncaughtBy : List ℕ → List ℕ → End
  Unread : End
  RefusedAt : List ℕ → Pos → Construct → End
  MissingFile : List ℕ → End
  ReadFailed : End
  WriteFailed : End
  OutsideAt : OutKind → Pos → End
  StepsOver : ℕ → End
  CellsOver : ℕ → End
  NoScript : List ℕ → Pos → End
  BadInputAt : ℕ → End
  OutOfMemory : End
  TextTooLong : End

abbrev pub status_of : End → Status
status_of Wrote = status.Done
status_of (UncaughtBy name message) = status.Uncaught
status_of Unread = status.Usage
status_of (RefusedAt file pos construct) = status.Refused
status_of (MissingFile name) = status.Missing
status_of ReadFailed = status.ReadFault
status_of WriteFailed = status.WriteFault
status_of (OutsideAt kind pos) = status.Outside
status_of (StepsOver steps) = status.OutOfSteps
status_of (CellsOver cells) = status.CellsFull
status_of (NoScript file pos) = status.NotScript
status_of (BadInputAt offset) = status.BadInput
status_of OutOfMemory = status.NoMemory
status_of TextTooLong = status.TooLong

abbrev pub kind_name : OutKind → List ℕ
kind_name kind.Number = codes "Number"
kind_name kind.Division = codes "Division"
kind_name kind.Conversion = codes "Conversion"
kind_name kind.Host = codes "Host"

-- a line and a column, printed from 1
abbrev pub printed_place : Pos → List ℕ → List ℕ
printed_place pos behind = decimal (pos.line + 1) ++ 58 ∷ (decimal (pos.col + 1) ++ behind)

-- the line on err
abbrev pub line_of : End → List ℕ
line_of Wrote = []
line_of (UncaughtBy name message) = codes "uncaught: " ++ (utf8_of name ++ (codes ": " ++ (utf8_of message ++ 10 ∷ [])))
line_of Unread = USAGE.now
line_of (RefusedAt file pos construct) = file ++ 58 ∷ printed_place pos (codes ": refused: " ++ (construct_name construct ++ 10 ∷ []))
line_of (MissingFile name) = codes "missing: " ++ (name ++ 10 ∷ [])
line_of ReadFailed = codes "read fault\n"
line_of WriteFailed = codes "write fault\n"
line_of (OutsideAt kind pos) = codes "outside: " ++ (kind_name kind ++ (codes " at " ++ printed_place pos (10 ∷ [])))
line_of (StepsOver steps) = codes "out of steps: " ++ (decimal steps ++ 10 ∷ [])
line_of (CellsOver cells) = codes "cells full: " ++ (decimal cells ++ 10 ∷ [])
line_of (NoScript file pos) = file ++ 58 ∷ printed_place pos (codes ": not a script\n")
line_of (BadInputAt offset) = codes "bad input at " ++ (decimal offset ++ 10 ∷ [])
line_of OutOfMemory = codes "out of memory\n"
line_of TextTooLong = codes "script too long\n"

-- neither a fault nor want of memory
abbrev pub IsAnswer : Status → Type 0
IsAnswer status.ReadFault = ⊥
IsAnswer status.WriteFault = ⊥
IsAnswer status.NoMemory = ⊥
IsAnswer _ = ⊤

-- the statuses after which out is as it was
abbrev pub IsSilent : Status → Type 0
IsSilent status.Usage = ⊤
IsSilent status.Refused = ⊤
IsSilent status.Missing = ⊤
IsSilent status.ReadFault = ⊤
IsSilent status.NotScript = ⊤
IsSilent status.BadInput = ⊤
IsSilent status.TooLong = ⊤
IsSilent _ = ⊥

-- the end that an outcome stands for
abbrev pub end_of : Outcome → End
end_of outcome.Done = Wrote
end_of (outcome.Uncaught name message) = UncaughtBy name message
end_of outcome.Usage = Unread
end_of (outcome.Refused file pos construct) = RefusedAt file.now pos construct
end_of (outcome.Missing file) = MissingFile file.now
end_of outcome.ReadFault = ReadFailed
end_of outcome.WriteFault = WriteFailed
end_of (outcome.Outside kind pos) = OutsideAt kind pos
end_of (outcome.OutOfSteps steps) = StepsOver steps
end_of (outcome.CellsFull cells) = CellsOver cells
end_of (outcome.NotScript file pos) = NoScript file.now pos
end_of (outcome.BadInput offset) = BadInputAt offset
end_of outcome.NoMemory = OutOfMemory
end_of outcome.TooLong = TextTooLong
