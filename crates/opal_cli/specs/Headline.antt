-- What the program is for: the bytes that `compile` writes are a script that does what the Ruby program does.
use Rattle.std.specs.Prelude.{◌≡◌, ℕ, List}
use Rattle.std.specs.declared.option.Option.{Option}
use Rattle.opal_base.specs.Outside.{FileMap, appended}
use Rattle.ruby_meaning.specs.declared.bundle.Bundle.{Bundle}
use Rattle.ruby_meaning.specs.Load.{Loads, Whole}
use Rattle.es5_tree.specs.Grammar.Spelling.{EsSpells}
use Rattle.es5_printer.specs.Text.{text_of}
use Rattle.opal_cli.specs.Agree.{Agree}
use Rattle.opal_cli.specs.Translation.{script_of}

-- The sink took the text of the script of the bundle that the file loads to; the text spells that script; and the script
-- ends, for every input, with an output and an end exactly when the bundle's evaluation does, showing the same outputs on the way.
pub record Compiles (files : FileMap) (file : List ℕ) (old new : Option (List ℕ)) : Type 0 where
  pub bundle : Bundle
  pub loads : Loads files file (Whole bundle)
  pub written : new ≡ appended old (text_of (script_of bundle))
  pub spells : EsSpells (script_of bundle) (text_of (script_of bundle))
  pub agrees : Agree bundle (script_of bundle)
