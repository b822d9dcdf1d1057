-- Laws of the definitions.
use Rattle.std.specs.Prelude.{◌≡◌, ℕ, List, Some}
use Rattle.std.specs.declared.option.Option.{Option}
use Rattle.opal_base.specs.Outside.{FileMap}
use Rattle.ruby_meaning.specs.declared.bundle.Bundle.{Bundle}
use Rattle.ruby_meaning.specs.Load.{IsSound}
use Rattle.opal_cli.specs.Agree.{Agree}
use Rattle.opal_cli.specs.Translation.{script_of}
use Rattle.opal_cli.specs.Words.{Asked}
use Rattle.opal_cli.specs.Ends.{End}
use Rattle.opal_cli.specs.Answers.{Answers}

-- a sound bundle and its script agree
abbrev pub Agreement : Type 0
Agreement = (bundle : Bundle) → IsSound bundle → Agree bundle (script_of bundle)

-- words are answered in one way: over the same files and the same input there is one end
abbrev pub OneAnswer : Type 0
OneAnswer = (files : FileMap) (input : List ℕ) (words : Option Asked) (end other : End) (output more : List ℕ) → Answers files (Some input) words end output → Answers files (Some input) words other more → end ≡ other
