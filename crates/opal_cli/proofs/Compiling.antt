-- What out took of a compiled script.
use Rattle.std.proofs.Common.{◌≡◌, ◌<◌, ◌^◌, ℕ, List, length, [], refl, sym, ap, ◌∙◌, subst, arith}
use Rattle.std.specs.declared.option.Option.{Option}
use Rattle.opal_base.specs.Outside.{FileMap, appended, TookFront}
use Rattle.opal_base.proofs.Took.{appended_none}
use Rattle.ruby_meaning.specs.declared.bundle.Bundle.{Bundle}
use Rattle.ruby_meaning.specs.Load.{Loaded, Loads, Whole, Missing, Refused}
use Rattle.ruby_meaning.specs.Laws.{OneLoad}
use Rattle.es5_tree.specs.Grammar.Spelling.{EsSpells}
use Rattle.es5_printer.specs.Text.{text_of}
use Rattle.es5_printer.specs.declared.script.PrintStop.{PrintStop}
use Rattle.es5_printer.specs.declared.script.PrintStop.TheVariants as stop
use Rattle.opal_cli.specs.Agree.{Agree}
use Rattle.opal_cli.specs.Translation.{script_of}
use Rattle.opal_cli.specs.Ends.{End, Wrote, status_of, IsAnswer}
use Rattle.require_bundles.specs.Loading.{FailsToLoad}
use Rattle.opal_cli.specs.Loading.{end_of_fault, end_of_stop}
use Rattle.require_bundles.specs.declared.bundle.LoadFault.{LoadFault}
use Rattle.require_bundles.specs.declared.bundle.LoadFault.TheVariants as fault
use Rattle.opal_cli.specs.Answers.{LoadWith, CompileWith, output_of_load, script_text}
use Rattle.opal_cli.specs.Execution.{IsTooLong}
use Rattle.opal_cli.specs.Headline.{Compiles}

-- nothing is a front of every text
pub took_none : (told : Option (List ℕ)) (text : List ℕ) → TookFront told told text
took_none told text = (0, omega arith, sym (appended_none told))

-- the whole text of the script was written
pub compiled : (map : FileMap) (file : List ℕ) (bundle : Bundle) (text : List ℕ) (old new : Option (List ℕ)) → Loads map file (Whole bundle) → text ≡ text_of (script_of bundle) → Agree bundle (script_of bundle) → EsSpells (script_of bundle) text → new ≡ appended old text → Compiles map file old new
compiled map file bundle text old new loads is agrees spells took = record {
  bundle = bundle;
  loads = loads;
  written = took ∙ ap (appended old) is;
  spells = subst (EsSpells (script_of bundle)) is spells;
  agrees = agrees;
}

-- a front of what was written for a bundle is one of what the answer writes
pub front_of_load : (f : Bundle → List ℕ) (map : FileMap) (file : List ℕ) (bundle : Bundle) (text : List ℕ) (loaded : Loaded) (old new : Option (List ℕ)) → OneLoad → Loads map file (Whole bundle) → text ≡ f bundle → Loads map file loaded → TookFront old new text → TookFront old new (output_of_load f loaded)
front_of_load f map file bundle text loaded old new one loads is others took = subst (TookFront old new) (is ∙ ap (output_of_load f) (one map file (Whole bundle) loaded loads others)) took

-- the answer where all was written
pub written_answer : (f : Bundle → List ℕ) (map : FileMap) (file : List ℕ) (bundle : Bundle) (text : List ℕ) (old new : Option (List ℕ)) → Loads map file (Whole bundle) → text ≡ f bundle → new ≡ appended old text → LoadWith f map file Wrote old new
written_answer f map file bundle text old new loads is took = (f bundle, (Whole bundle, loads, refl, refl), took ∙ ap (appended old) is)

-- the answer where the main file doesn't load
pub unloaded_answer : (f : Bundle → List ℕ) (map : FileMap) (file : List ℕ) (g : LoadFault) (end : End) (told : Option (List ℕ)) → FailsToLoad map file g → end ≡ end_of_fault file g → IsAnswer (status_of end) → LoadWith f map file end told told
unloaded_answer f map file fault.NoMemory end told loads is answer = absurd (subst (λ e. IsAnswer (status_of e)) is answer)
unloaded_answer f map file fault.ReadFault end told loads is answer = absurd (subst (λ e. IsAnswer (status_of e)) is answer)
unloaded_answer f map file fault.Missing end told loads is answer = ([], (Missing file, loads, is, refl), sym (appended_none told))
unloaded_answer f map file (fault.Refused pos construct) end told loads is answer = ([], (Refused file pos construct, loads, is, refl), sym (appended_none told))

-- ---- the answer of compiling

-- all of the script was written
pub script_written : (map : FileMap) (file : List ℕ) (bundle : Bundle) (text : List ℕ) (old new : Option (List ℕ)) → Loads map file (Whole bundle) → text ≡ script_text bundle → length text < 2 ^ 31 → new ≡ appended old text → CompileWith map file Wrote old new
script_written map file bundle text old new loads is short took = (text, (bundle, loads, short, is), took)

-- the main file doesn't load
pub nothing_compiled : (map : FileMap) (file : List ℕ) (g : LoadFault) (end : End) (told : Option (List ℕ)) → FailsToLoad map file g → end ≡ end_of_fault file g → IsAnswer (status_of end) → CompileWith map file end told told
nothing_compiled map file fault.NoMemory end told loads is answer = absurd (subst (λ e. IsAnswer (status_of e)) is answer)
nothing_compiled map file fault.ReadFault end told loads is answer = absurd (subst (λ e. IsAnswer (status_of e)) is answer)
nothing_compiled map file fault.Missing end told loads is answer = subst (λ e. CompileWith map file e told told) (sym is) ([], (loads, refl), sym (appended_none told))
nothing_compiled map file (fault.Refused pos construct) end told loads is answer = subst (λ e. CompileWith map file e told told) (sym is) ([], (loads, refl), sym (appended_none told))

-- the script isn't printed
pub nothing_printed : (map : FileMap) (file : List ℕ) (bundle : Bundle) (g : PrintStop) (end : End) (told : Option (List ℕ)) → Loads map file (Whole bundle) → (g ≡ stop.TooLong → IsTooLong bundle) → end ≡ end_of_stop g → IsAnswer (status_of end) → CompileWith map file end told told
nothing_printed map file bundle stop.NoMemory end told loads long is answer = absurd (subst (λ e. IsAnswer (status_of e)) is answer)
nothing_printed map file bundle stop.TooLong end told loads long is answer = subst (λ e. CompileWith map file e told told) (sym is) ([], ((bundle, loads, long refl), refl), sym (appended_none told))
