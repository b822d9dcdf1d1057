-- What the calls that load a bundle answer.
use Rattle.std.specs.Prelude.{ℕ, List, ⊤, Result, Ok, Err}
use Rattle.opal_base.specs.Outside.{FileMap}
use Rattle.ruby_meaning.specs.declared.bundle.Bundle.{Bundle}
use Rattle.ruby_meaning.specs.declared.construct.Stop.{Stop}
use Rattle.ruby_meaning.specs.declared.construct.Stop.TheVariants as stop
use Rattle.ruby_meaning.specs.Load.{Loads, Whole, Missing, Refused, TextRefused, IsProgram, IsRefused}
use Rattle.require_bundles.specs.declared.bundle.LoadFault.{LoadFault}
use Rattle.require_bundles.specs.declared.bundle.LoadFault.TheVariants as fault

-- no memory was found, or the refusal is the text's
abbrev pub TextStops : List ℕ → Stop → Type 0
TextStops text stop.NoMemory = ⊤
TextStops text (stop.Refused pos c) = TextRefused text pos c

abbrev pub FailsToRead : List ℕ → LoadFault → Type 0
FailsToRead bytes fault.NoMemory = ⊤
FailsToRead bytes fault.ReadFault = ⊥
FailsToRead bytes fault.Missing = ⊥
FailsToRead bytes (fault.Refused pos c) = IsRefused bytes pos c

-- the content of a file is read so
abbrev pub ReadsTo : List ℕ → Result Bundle LoadFault → Type 0
ReadsTo bytes (Ok bundle) = IsProgram bytes bundle.main
ReadsTo bytes (Err f) = FailsToRead bytes f

abbrev pub FailsToLoad : FileMap → List ℕ → LoadFault → Type 0
FailsToLoad map main fault.NoMemory = ⊤
FailsToLoad map main fault.ReadFault = ⊤
FailsToLoad map main fault.Missing = Loads map main (Missing main)
FailsToLoad map main (fault.Refused pos c) = Loads map main (Refused main pos c)

-- loading the main file from the files answers so
abbrev pub LoadsTo : FileMap → List ℕ → Result Bundle LoadFault → Type 0
LoadsTo map main (Ok bundle) = Loads map main (Whole bundle)
LoadsTo map main (Err f) = FailsToLoad map main f
