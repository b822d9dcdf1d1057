-- From a run on the input to the answer of the call.
use Rattle.std.proofs.Common.{◌≡◌, ◌⊎◌, ℕ, List, [], Err, refl, sym, subst, Option}
use mathlib.Core.Logic.{inl, inr}
use Rattle.opal_base.specs.Outside.{FileMap}
use Rattle.opal_base.proofs.Took.{appended_none}
use Rattle.es5_tree.specs.declared.tree.Script.{Script}
use Rattle.es5_tree.specs.Values.{Text}
use Rattle.ruby_meaning.specs.declared.bundle.Bundle.{Bundle}
use Rattle.ruby_meaning.specs.Load.{Loads, Whole}
use Rattle.opal_cli.specs.declared.words.Budget.{Budget}
use Rattle.require_bundles.specs.declared.bundle.LoadFault.{LoadFault}
use Rattle.require_bundles.specs.declared.bundle.LoadFault.TheVariants as load_fault
use Rattle.es5_printer.specs.declared.script.PrintStop.{PrintStop}
use Rattle.es5_printer.specs.declared.script.PrintStop.TheVariants as stop
use Rattle.opal_cli.specs.declared.script.ScriptFault.{ScriptFault}
use Rattle.opal_cli.specs.declared.script.ScriptFault.TheVariants as script_fault
use Rattle.opal_cli.specs.Ends.{End, Wrote, UncaughtBy, Unread, RefusedAt, MissingFile, ReadFailed, WriteFailed, OutsideAt, StepsOver, CellsOver, NoScript, BadInputAt, OutOfMemory, TextTooLong, status_of, IsAnswer}
use Rattle.require_bundles.specs.Loading.{FailsToLoad}
use Rattle.opal_cli.specs.Loading.{end_of_fault, end_of_stop}
use Rattle.opal_cli.specs.Execution.{HasScript, HasProgram, IsProgram, RunAnswers, FileAnswers, ExecAnswers, RunWith, FileWith, ExecWith, TookRunFront, TookFileFront, TookExecFront, ScriptIn, end_of_script, EndsOnInput, EndsRun, IsInputOf, RunsTo, RanTo, ReadBack}

-- a run that began on the input is the answer
run_answers : (input : Option (List ℕ)) (script : Script) (text : Text) (budget : Budget) (end : End) (output : List ℕ) → EndsRun end → IsInputOf input text → RunsTo script text budget end output → RunAnswers input script budget end output
run_answers input script text budget Wrote output k i r = (text, i, r)
run_answers input script text budget (UncaughtBy name message) output k i r = (text, i, r)
run_answers input script text budget Unread output k i r = absurd k
run_answers input script text budget (RefusedAt name pos construct) output k i r = absurd k
run_answers input script text budget (MissingFile name) output k i r = absurd k
run_answers input script text budget ReadFailed output k i r = absurd k
run_answers input script text budget WriteFailed output k i r = (text, i, r)
run_answers input script text budget (OutsideAt kind pos) output k i r = (text, i, r)
run_answers input script text budget (StepsOver steps) output k i r = (text, i, r)
run_answers input script text budget (CellsOver cells) output k i r = (text, i, r)
run_answers input script text budget (NoScript name pos) output k i r = absurd k
run_answers input script text budget (BadInputAt offset) output k i r = absurd k
run_answers input script text budget OutOfMemory output k i r = (text, i, r)
run_answers input script text budget TextTooLong output k i r = absurd k

pub run_with : (input : Option (List ℕ)) (script : Script) (text : Text) (budget : Budget) (end : End) (old new : Option (List ℕ)) → EndsRun end → IsInputOf input text → RanTo script text budget end old new → RunWith input script budget end old new
run_with input script text budget end old new k i r = (r.0, run_answers input script text budget end r.0 k i r.1, r.2)

file_answers : (files : FileMap) (input : Option (List ℕ)) (file : List ℕ) (script : Script) (budget : Budget) (end : End) (output : List ℕ) → EndsOnInput end → HasScript files file script → RunAnswers input script budget end output → FileAnswers files input file budget end output
file_answers files input file script budget Wrote output k h r = (script, h, r)
file_answers files input file script budget (UncaughtBy name message) output k h r = (script, h, r)
file_answers files input file script budget Unread output k h r = absurd k
file_answers files input file script budget (RefusedAt name pos construct) output k h r = absurd k
file_answers files input file script budget (MissingFile name) output k h r = absurd k
file_answers files input file script budget ReadFailed output k h r = (script, h, r)
file_answers files input file script budget WriteFailed output k h r = (script, h, r)
file_answers files input file script budget (OutsideAt kind pos) output k h r = (script, h, r)
file_answers files input file script budget (StepsOver steps) output k h r = (script, h, r)
file_answers files input file script budget (CellsOver cells) output k h r = (script, h, r)
file_answers files input file script budget (NoScript name pos) output k h r = absurd k
file_answers files input file script budget (BadInputAt offset) output k h r = (script, h, r)
file_answers files input file script budget OutOfMemory output k h r = (script, h, r)
file_answers files input file script budget TextTooLong output k h r = absurd k

pub file_with : (files : FileMap) (input : Option (List ℕ)) (file : List ℕ) (script : Script) (budget : Budget) (end : End) (old new : Option (List ℕ)) → EndsOnInput end → HasScript files file script → RunWith input script budget end old new → FileWith files input file budget end old new
file_with files input file script budget end old new k h r = (r.0, file_answers files input file script budget end r.0 k h r.1, r.2)

exec_answers : (files : FileMap) (input : Option (List ℕ)) (file : List ℕ) (bundle : Bundle) (script : Script) (budget : Budget) (end : End) (output : List ℕ) → EndsOnInput end → HasProgram files file bundle script → RunAnswers input script budget end output → ExecAnswers files input file budget end output
exec_answers files input file bundle script budget Wrote output k h r = (bundle, script, h, r)
exec_answers files input file bundle script budget (UncaughtBy name message) output k h r = (bundle, script, h, r)
exec_answers files input file bundle script budget Unread output k h r = absurd k
exec_answers files input file bundle script budget (RefusedAt name pos construct) output k h r = absurd k
exec_answers files input file bundle script budget (MissingFile name) output k h r = absurd k
exec_answers files input file bundle script budget ReadFailed output k h r = (bundle, script, h, r)
exec_answers files input file bundle script budget WriteFailed output k h r = (bundle, script, h, r)
exec_answers files input file bundle script budget (OutsideAt kind pos) output k h r = (bundle, script, h, r)
exec_answers files input file bundle script budget (StepsOver steps) output k h r = (bundle, script, h, r)
exec_answers files input file bundle script budget (CellsOver cells) output k h r = (bundle, script, h, r)
exec_answers files input file bundle script budget (NoScript name pos) output k h r = absurd k
exec_answers files input file bundle script budget (BadInputAt offset) output k h r = (bundle, script, h, r)
exec_answers files input file bundle script budget OutOfMemory output k h r = (bundle, script, h, r)
exec_answers files input file bundle script budget TextTooLong output k h r = absurd k

pub exec_with : (files : FileMap) (input : Option (List ℕ)) (file : List ℕ) (bundle : Bundle) (script : Script) (budget : Budget) (end : End) (old new : Option (List ℕ)) → EndsOnInput end → Loads files file (Whole bundle) → IsProgram bundle script → RunWith input script budget end old new → ExecWith files input file budget end old new
exec_with files input file bundle script budget end old new k l p r = (r.0, exec_answers files input file bundle script budget end r.0 k (record { loads = l; program = p }) r.1, r.2)

-- where no script is read, that is the answer
pub no_file : (files : FileMap) (input : Option (List ℕ)) (file : List ℕ) (budget : Budget) (f : ScriptFault) (script_in : ScriptIn files file (Err f)) (end : End) (told : Option (List ℕ)) → end ≡ end_of_script file f → IsAnswer (status_of end) → FileWith files input file budget end told told
no_file files input file budget script_fault.NoMemory i end told e a = absurd (subst (λ x. IsAnswer (status_of x)) e a)
no_file files input file budget script_fault.ReadFault i end told e a = absurd (subst (λ x. IsAnswer (status_of x)) e a)
no_file files input file budget script_fault.Missing i end told e a = subst (λ x. FileWith files input file budget x told told) (sym e) ([], (refl, i, refl), sym (appended_none told))
no_file files input file budget (script_fault.NotScript pos) i end told e a = subst (λ x. FileWith files input file budget x told told) (sym e) ([], (refl, i, refl), sym (appended_none told))

-- where no program is loaded, that is the answer
pub no_program : (files : FileMap) (input : Option (List ℕ)) (file : List ℕ) (budget : Budget) (f : LoadFault) (end : End) (told : Option (List ℕ)) → FailsToLoad files file f → end ≡ end_of_fault file f → IsAnswer (status_of end) → ExecWith files input file budget end told told
no_program files input file budget load_fault.NoMemory end told l e a = absurd (subst (λ x. IsAnswer (status_of x)) e a)
no_program files input file budget load_fault.ReadFault end told l e a = absurd (subst (λ x. IsAnswer (status_of x)) e a)
no_program files input file budget load_fault.Missing end told l e a = subst (λ x. ExecWith files input file budget x told told) (sym e) ([], (l, refl), sym (appended_none told))
no_program files input file budget (load_fault.Refused pos construct) end told l e a = subst (λ x. ExecWith files input file budget x told told) (sym e) ([], (l, refl), sym (appended_none told))

pub file_front : (files : FileMap) (input : Option (List ℕ)) (file : List ℕ) (script : Script) (budget : Budget) (old new : Option (List ℕ)) → HasScript files file script → (new ≡ old) ⊎ TookRunFront input script budget old new → TookFileFront files input file budget old new
file_front files input file script budget old new h (inl e) = inl e
file_front files input file script budget old new h (inr f) = inr (script, h, f)

pub exec_front : (files : FileMap) (input : Option (List ℕ)) (file : List ℕ) (bundle : Bundle) (script : Script) (budget : Budget) (old new : Option (List ℕ)) → Loads files file (Whole bundle) → IsProgram bundle script → (new ≡ old) ⊎ TookRunFront input script budget old new → TookExecFront files input file budget old new
exec_front files input file bundle script budget old new l p (inl e) = inl e
exec_front files input file bundle script budget old new l p (inr f) = inr (bundle, script, record { loads = l; program = p }, f)

-- where the script isn't read back, that is the answer
pub not_back : (files : FileMap) (input : Option (List ℕ)) (file : List ℕ) (bundle : Bundle) (budget : Budget) (f : PrintStop) (end : End) (told : Option (List ℕ)) → Loads files file (Whole bundle) → ReadBack bundle (Err f) → end ≡ end_of_stop f → IsAnswer (status_of end) → ExecWith files input file budget end told told
not_back files input file bundle budget stop.NoMemory end told l b e a = absurd (subst (λ x. IsAnswer (status_of x)) e a)
not_back files input file bundle budget stop.TooLong end told l b e a = subst (λ x. ExecWith files input file budget x told told) (sym e) ([], ((bundle, l, b), refl), sym (appended_none told))
