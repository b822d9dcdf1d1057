-- What a call of the program answers, and what out and err take of it.
use Rattle.std.specs.Prelude.{◌≡◌, ◌≢◌, ◌⊎◌, ◌≤◌, ◌<◌, ◌^◌, ℕ, List, [], length, take, None, Some, codes, ⊤}
use Rattle.std.specs.declared.option.Option.{Option}
use Rattle.opal_base.specs.Outside.{FileMap, Rose, appended, TookFront}
use Rattle.ruby_meaning.specs.declared.bundle.Bundle.{Bundle}
use Rattle.ruby_meaning.specs.Load.{Loaded, Whole, Missing, Refused, Loads}
use Rattle.es5_printer.specs.Text.{text_of}
use Rattle.opal_cli.specs.declared.status.Status.{Status}
use Rattle.opal_cli.specs.declared.status.Status.TheVariants as status
use Rattle.opal_cli.specs.Words.{Asked, Compile, Check, Run, Exec}
use Rattle.opal_cli.specs.Execution.{IsTooLong, FileAnswers, ExecAnswers, TookFileFront, TookExecFront}
use Rattle.opal_cli.specs.Translation.{script_of}
use Rattle.opal_cli.specs.Headline.{Compiles}
use Rattle.opal_cli.specs.Ends.{End, Wrote, Unread, RefusedAt, MissingFile, TextTooLong, WriteFailed, OutOfMemory, status_of, line_of, IsAnswer}

-- ---- the answer to the words

abbrev pub end_of_load : Loaded → End
end_of_load (Whole bundle) = Wrote
end_of_load (Missing name) = MissingFile name
end_of_load (Refused file pos construct) = RefusedAt file pos construct

-- what is written where loading comes to this, as a bundle says
abbrev pub output_of_load : (Bundle → List ℕ) → Loaded → List ℕ
output_of_load f (Whole bundle) = f bundle
output_of_load f (Missing name) = []
output_of_load f (Refused file pos construct) = []

-- `compile` writes the text of the script
abbrev pub script_text : Bundle → List ℕ
script_text bundle = text_of (script_of bundle)

-- `check` writes a line
abbrev pub ok_line : Bundle → List ℕ
ok_line bundle = codes "ok\n"

-- over these files loading this one ends so, with this output
abbrev pub LoadAnswers : (Bundle → List ℕ) → FileMap → List ℕ → End → List ℕ → Type 0
LoadAnswers f files file end output = (loaded : Loaded) × Loads files file loaded × (end ≡ end_of_load loaded) × (output ≡ output_of_load f loaded)

abbrev pub LoadWith : (Bundle → List ℕ) → FileMap → List ℕ → End → Option (List ℕ) → Option (List ℕ) → Type 0
LoadWith f files file end old new = (output : List ℕ) × LoadAnswers f files file end output × (new ≡ appended old output)

-- Over these files compiling this one ends so, with this output. The text of the script has fewer than 2^31 bytes, or isn't written.
abbrev pub CompileAnswers : FileMap → List ℕ → End → List ℕ → Type 0
CompileAnswers files file Wrote output = (bundle : Bundle) × Loads files file (Whole bundle) × (length output < 2 ^ 31) × (output ≡ script_text bundle)
CompileAnswers files file (MissingFile name) output = Loads files file (Missing name) × (output ≡ [])
CompileAnswers files file (RefusedAt name pos construct) output = Loads files file (Refused name pos construct) × (output ≡ [])
CompileAnswers files file TextTooLong output = ((bundle : Bundle) × Loads files file (Whole bundle) × IsTooLong bundle) × (output ≡ [])
CompileAnswers files file _ output = ⊥

abbrev pub CompileWith : FileMap → List ℕ → End → Option (List ℕ) → Option (List ℕ) → Type 0
CompileWith files file end old new = (output : List ℕ) × CompileAnswers files file end output × (new ≡ appended old output)

-- over these files and this input the words are answered so, with this output
abbrev pub Answers : FileMap → Option (List ℕ) → Option Asked → End → List ℕ → Type 0
Answers files input None end output = (end ≡ Unread) × (output ≡ [])
Answers files input (Some (Compile file)) end output = CompileAnswers files file end output
Answers files input (Some (Check file)) end output = LoadAnswers ok_line files file end output
Answers files input (Some (Run file budget)) end output = FileAnswers files input file budget end output
Answers files input (Some (Exec file budget)) end output = ExecAnswers files input file budget end output

-- this is the answer, and out took its output
abbrev pub AnswersWith : FileMap → Option (List ℕ) → Option Asked → End → Option (List ℕ) → Option (List ℕ) → Type 0
AnswersWith files input words end old new = (output : List ℕ) × Answers files input words end output × (new ≡ appended old output)

-- the words are answered with this status
abbrev pub AnswersAs : FileMap → Option (List ℕ) → Option Asked → Status → Option (List ℕ) → Option (List ℕ) → Type 0
AnswersAs files input words answer old new = (end : End) × AnswersWith files input words end old new × (answer ≡ status_of end)

-- out took a front of what is written where this file loads
abbrev pub TookLoadFront : (Bundle → List ℕ) → FileMap → List ℕ → Option (List ℕ) → Option (List ℕ) → Type 0
TookLoadFront f files file old new = (loaded : Loaded) → Loads files file loaded → TookFront old new (output_of_load f loaded)

-- out took a front of what the answer to the words writes
abbrev pub TookAnswerFront : FileMap → Option (List ℕ) → Option Asked → Option (List ℕ) → Option (List ℕ) → Type 0
TookAnswerFront files input None old new = new ≡ old
TookAnswerFront files input (Some (Compile file)) old new = TookLoadFront script_text files file old new
TookAnswerFront files input (Some (Check file)) old new = TookLoadFront ok_line files file old new
TookAnswerFront files input (Some (Run file budget)) old new = TookFileFront files input file budget old new
TookAnswerFront files input (Some (Exec file budget)) old new = TookExecFront files input file budget old new

-- the file loads to a bundle, and out took the line that says so
pub record Checks (files : FileMap) (file : List ℕ) (old new : Option (List ℕ)) : Type 0 where
  pub bundle : Bundle
  pub loads : Loads files file (Whole bundle)
  pub written : new ≡ appended old (codes "ok\n")

-- out took all that the words ask for
abbrev pub TookJob : FileMap → Option Asked → Option (List ℕ) → Option (List ℕ) → Type 0
TookJob files None old new = ⊥
TookJob files (Some (Compile file)) old new = Compiles files file old new
TookJob files (Some (Check file)) old new = Checks files file old new
TookJob files (Some (Run file budget)) old new = ⊤
TookJob files (Some (Exec file budget)) old new = ⊤

-- ---- the input

-- the words ask for a run
abbrev pub AsksForRun : Option Asked → Type 0
AsksForRun None = ⊥
AsksForRun (Some (Compile file)) = ⊥
AsksForRun (Some (Check file)) = ⊥
AsksForRun (Some (Run file budget)) = ⊤
AsksForRun (Some (Exec file budget)) = ⊤

-- the statuses of a run that began
abbrev pub IsRun : Status → Type 0
IsRun status.Done = ⊤
IsRun status.Uncaught = ⊤
IsRun status.Outside = ⊤
IsRun status.OutOfSteps = ⊤
IsRun status.CellsFull = ⊤
IsRun _ = ⊥

-- ---- the line on err

-- a front of one text, and a front of another behind it
abbrev pub TookFronts : Option (List ℕ) → Option (List ℕ) → List ℕ → List ℕ → Type 0
TookFronts old new first second = (m : ℕ) × (n : ℕ) × (m ≤ length first) × (n ≤ length second) × (new ≡ appended (appended old (take m first)) (take n second))

-- err took the line of this end, and the status is its status
pub record SaidLine (old new : Option (List ℕ)) (end : End) (answer : Status) : Type 0 where
  pub is : answer ≡ status_of end
  pub line : new ≡ appended old (line_of end)
  pub not_cut : answer ≢ status.WriteFault

-- the line of this end couldn't be written, and the line of that fault was tried once
pub record CutLine (old new : Option (List ℕ)) (before now : ℕ) (end : End) (answer : Status) : Type 0 where
  pub is : answer ≡ status.WriteFault
  pub cut : TookFronts old new (line_of end) (line_of WriteFailed)
  pub cause : (status_of end ≡ status.WriteFault) ⊎ Rose before now

-- the line of this end, or of want of memory for it, was told or cut
pub record Reported (old new : Option (List ℕ)) (before now : ℕ) (end : End) (answer : Status) : Type 0 where
  pub said : End
  pub from : (said ≡ end) ⊎ (said ≡ OutOfMemory)
  pub told : SaidLine old new said answer ⊎ CutLine old new before now said answer

-- an end names what the told files answer to the words, and a missing file is the one that the files keep
pub record IsNamed (files : Option FileMap) (input : Option (List ℕ)) (words : Option Asked) (missed : List ℕ) (end : End) : Type 0 where
  pub answer : (map : FileMap) → files ≡ Some map → IsAnswer (status_of end) → (output : List ℕ) × Answers map input words end output
  pub missing : (name : List ℕ) → end ≡ MissingFile name → missed ≡ name

-- err took exactly the line of the status
pub record Says (files : Option FileMap) (input : Option (List ℕ)) (words : Option Asked) (missed : List ℕ) (old new : Option (List ℕ)) (answer : Status) : Type 0 where
  pub end : End
  pub is : answer ≡ status_of end
  pub names : IsNamed files input words missed end
  pub line : new ≡ appended old (line_of end)

-- err took a front of the line that the call would have had, and then a front of the line of the fault
pub record SaysCut (files : Option FileMap) (input : Option (List ℕ)) (words : Option Asked) (missed : List ℕ) (old new : Option (List ℕ)) : Type 0 where
  pub end : End
  pub names : IsNamed files input words missed end
  pub cut : TookFronts old new (line_of end) (line_of WriteFailed)
