-- From the run of a script read back to Ruby's evaluation.
use Rattle.std.proofs.Common.{◌≡◌, ℕ, List, Some, refl, sym, ap, ◌∙◌, subst, Option}
use Rattle.opal_base.specs.Outside.{FileMap}
use Rattle.opal_base.specs.Shown.{Shown, Ended, Going, Shows}
use Rattle.ruby_meaning.specs.declared.bundle.Bundle.{Bundle}
use Rattle.ruby_evaluation.specs.Core.{bundled}
use Rattle.ruby_evaluation.specs.Ends.{RubyEnd}
use Rattle.ruby_evaluation.specs.Ends as ruby
use Rattle.ruby_evaluation.specs.Run.{ruby_run}
use Rattle.es5_tree.specs.declared.tree.Script.{Script}
use Rattle.es5_tree.specs.Ends.{EsEnd}
use Rattle.es5_tree.specs.Ends as es
use Rattle.es5_tree.specs.Grammar.Laws.{OneSpelled, ReadSpells}
use Rattle.es5_evaluation.specs.Run.{es_run}
use Rattle.es5_laws.specs.Laws as law
use Rattle.es5_laws.specs.Laws.{SitesDontMatter, SameShown}
use Rattle.es5_tree.specs.Values.{Text}
use Rattle.es5_host.specs.Values.{out_of}
use Rattle.es5_host.specs.declared.answer.OutKind.{OutKind as Kind}
use Rattle.opal_base.specs.declared.place.Pos.{Pos}
use Rattle.opal_cli.specs.declared.words.Budget.{Budget}
use Rattle.opal_cli.specs.declared.status.Status.{Status}
use Rattle.both_meanings.specs.Agree.{AgreeRuns, SameEnd}
use Rattle.opal_cli.specs.Answers.{AnswersAs, IsRun}
use Rattle.opal_cli.specs.Words.{Exec}
use Rattle.opal_cli.specs.Ends.{End, Wrote, UncaughtBy, Unread, RefusedAt, MissingFile, ReadFailed, WriteFailed, OutsideAt, StepsOver, CellsOver, NoScript, BadInputAt, OutOfMemory, TextTooLong, status_of}
use Rattle.opal_cli.specs.Translation.{script_of}
use Rattle.opal_cli.specs.Execution.{IsProgram, HasProgram, ExecAnswers, IsInputOf, RunsTo, RunAnswers, EvaluationShows, RubyShows, Executes}

-- the end of the script that was read back is that of the bundle's script
same_end : (last : RubyEnd) (end other : EsEnd) → law.SameEnd end other → SameEnd last other → SameEnd last end
same_end ruby.Finished es.Finished es.Finished s t = tt
same_end ruby.Finished es.Finished (es.Uncaught c d) s t = absurd s
same_end ruby.Finished es.Finished (es.Outside other there) s t = absurd s
same_end ruby.Finished (es.Uncaught a b) es.Finished s t = absurd s
same_end ruby.Finished (es.Uncaught a b) (es.Uncaught c d) s t = absurd t
same_end ruby.Finished (es.Uncaught a b) (es.Outside other there) s t = absurd s
same_end ruby.Finished (es.Outside kind place) es.Finished s t = absurd s
same_end ruby.Finished (es.Outside kind place) (es.Uncaught c d) s t = absurd s
same_end ruby.Finished (es.Outside kind place) (es.Outside other there) s t = absurd t
same_end (ruby.Uncaught name message) es.Finished es.Finished s t = absurd t
same_end (ruby.Uncaught name message) es.Finished (es.Uncaught c d) s t = absurd s
same_end (ruby.Uncaught name message) es.Finished (es.Outside other there) s t = absurd s
same_end (ruby.Uncaught name message) (es.Uncaught a b) es.Finished s t = absurd s
same_end (ruby.Uncaught name message) (es.Uncaught a b) (es.Uncaught c d) s t = (t.0 ∙ sym s.0, t.1 ∙ sym s.1)
same_end (ruby.Uncaught name message) (es.Uncaught a b) (es.Outside other there) s t = absurd s
same_end (ruby.Uncaught name message) (es.Outside kind place) es.Finished s t = absurd s
same_end (ruby.Uncaught name message) (es.Outside kind place) (es.Uncaught c d) s t = absurd s
same_end (ruby.Uncaught name message) (es.Outside kind place) (es.Outside other there) s t = absurd t
same_end ruby.NumberOutside es.Finished es.Finished s t = absurd t
same_end ruby.NumberOutside es.Finished (es.Uncaught c d) s t = absurd s
same_end ruby.NumberOutside es.Finished (es.Outside other there) s t = absurd s
same_end ruby.NumberOutside (es.Uncaught a b) es.Finished s t = absurd s
same_end ruby.NumberOutside (es.Uncaught a b) (es.Uncaught c d) s t = absurd t
same_end ruby.NumberOutside (es.Uncaught a b) (es.Outside other there) s t = absurd s
same_end ruby.NumberOutside (es.Outside kind place) es.Finished s t = absurd s
same_end ruby.NumberOutside (es.Outside kind place) (es.Uncaught c d) s t = absurd s
same_end ruby.NumberOutside (es.Outside kind place) (es.Outside other there) s t = s ∙ t

-- what an evaluation ends with
abbrev RubyEnds : (ℕ → Shown RubyEnd) → List ℕ → EsEnd → Type 0
RubyEnds f output end = (n : ℕ) × (last : RubyEnd) × (f n ≡ Ended output last) × SameEnd last end

ended_like : (f : ℕ → Shown RubyEnd) (script : Script) (input : Text) (n : ℕ) (output : List ℕ) (end : EsEnd) (other : Shown EsEnd) → AgreeRuns f (es_run script input) → es_run script input n ≡ other → SameShown (Ended output end) other → RubyEnds f output end
ended_like f script input n output end (Ended shown last) agree e s =
    let r = agree.ends_only n shown last e in
    (r.0, r.1, r.2 ∙ ap (λ o. Ended o r.1) (sym s.0), same_end r.1 end last s.1 r.3)
ended_like f script input n output end (Going shown) agree e s = absurd s

goes_like : (f : ℕ → Shown RubyEnd) (script : Script) (input : Text) (n : ℕ) (output : List ℕ) (other : Shown EsEnd) → AgreeRuns f (es_run script input) → es_run script input n ≡ other → SameShown (Going output) other → (k : ℕ) × Shows (f k) output
goes_like f script input n output (Ended shown last) agree e s = absurd s
goes_like f script input n output (Going shown) agree e s =
    let r = agree.goes_only n shown e in
    (r.0, subst (Shows (f r.0)) (sym s) r.1)

same_shown : OneSpelled → ReadSpells → SitesDontMatter → (bundle : Bundle) (script : Script) → IsProgram bundle script → (input : Text) (n : ℕ) → SameShown (es_run script input n) (es_run (script_of bundle) input n)
same_shown one spells sites bundle script p input n = sites script (script_of bundle) (one _ script (script_of bundle) (spells _ script p.reads) p.spells) input n

ruby_ends : OneSpelled → ReadSpells → SitesDontMatter → (bundle : Bundle) (script : Script) → IsProgram bundle script → (f : ℕ → Shown RubyEnd) (input : Text) → AgreeRuns f (es_run (script_of bundle) input) → (n : ℕ) (output : List ℕ) (end : EsEnd) → es_run script input n ≡ Ended output end → RubyEnds f output end
ruby_ends one spells sites bundle script p f input agree n output end e =
    ended_like f (script_of bundle) input n output end _ agree refl (subst (λ s. SameShown s (es_run (script_of bundle) input n)) e (same_shown one spells sites bundle script p input n))

finished : (f : ℕ → Shown RubyEnd) (output : List ℕ) (n : ℕ) (last : RubyEnd) → f n ≡ Ended output last → SameEnd last es.Finished → EvaluationShows f Wrote output
finished f output n ruby.Finished e s = (n, e)
finished f output n (ruby.Uncaught name message) e s = absurd s
finished f output n ruby.NumberOutside e s = absurd s

uncaught : (f : ℕ → Shown RubyEnd) (output name message : List ℕ) (n : ℕ) (last : RubyEnd) → f n ≡ Ended output last → SameEnd last (es.Uncaught name message) → EvaluationShows f (UncaughtBy name message) output
uncaught f output name message n ruby.Finished e s = absurd s
uncaught f output name message n (ruby.Uncaught other text) e s = (n, e ∙ ap (Ended output) (ap (λ x. ruby.Uncaught x text) s.0 ∙ ap (ruby.Uncaught name) s.1))
uncaught f output name message n ruby.NumberOutside e s = absurd s

outside : (f : ℕ → Shown RubyEnd) (output : List ℕ) (kind : Kind) (pos : Pos) (n : ℕ) (last : RubyEnd) → f n ≡ Ended output last → SameEnd last (es.Outside (out_of kind) pos) → EvaluationShows f (OutsideAt kind pos) output
outside f output kind pos n ruby.Finished e s = absurd s
outside f output kind pos n (ruby.Uncaught name message) e s = absurd s
outside f output kind pos n ruby.NumberOutside e s = (n, e)

-- an evaluation that agrees with the bundle's script shows what the run of the script read back shows
evaluation_shows : OneSpelled → ReadSpells → SitesDontMatter → (bundle : Bundle) (script : Script) → IsProgram bundle script → (f : ℕ → Shown RubyEnd) (input : Text) → AgreeRuns f (es_run (script_of bundle) input) → (budget : Budget) (end : End) (output : List ℕ) → RunsTo script input budget end output → EvaluationShows f end output
evaluation_shows one spells sites bundle script p f input agree budget Wrote output r =
    let t = ruby_ends one spells sites bundle script p f input agree budget.steps output es.Finished r.shows in
    finished f output t.0 t.1 t.2 t.3
evaluation_shows one spells sites bundle script p f input agree budget (UncaughtBy name message) output r =
    let t = ruby_ends one spells sites bundle script p f input agree budget.steps output (es.Uncaught name message) r.shows in
    uncaught f output name message t.0 t.1 t.2 t.3
evaluation_shows one spells sites bundle script p f input agree budget (OutsideAt kind pos) output r =
    let t = ruby_ends one spells sites bundle script p f input agree budget.steps output (es.Outside (out_of kind) pos) r.shows in
    outside f output kind pos t.0 t.1 t.2 t.3
evaluation_shows one spells sites bundle script p f input agree budget (StepsOver steps) output r =
    goes_like f (script_of bundle) input budget.steps output _ agree refl (subst (λ s. SameShown s (es_run (script_of bundle) input budget.steps)) r.1.shows (same_shown one spells sites bundle script p input budget.steps))
evaluation_shows one spells sites bundle script p f input agree budget (CellsOver cells) output r = tt
evaluation_shows one spells sites bundle script p f input agree budget Unread output r = absurd r
evaluation_shows one spells sites bundle script p f input agree budget (RefusedAt file pos construct) output r = absurd r
evaluation_shows one spells sites bundle script p f input agree budget (MissingFile name) output r = absurd r
evaluation_shows one spells sites bundle script p f input agree budget ReadFailed output r = absurd r
evaluation_shows one spells sites bundle script p f input agree budget WriteFailed output r = absurd r
evaluation_shows one spells sites bundle script p f input agree budget (NoScript file pos) output r = absurd r
evaluation_shows one spells sites bundle script p f input agree budget (BadInputAt offset) output r = absurd r
evaluation_shows one spells sites bundle script p f input agree budget OutOfMemory output r = absurd r
evaluation_shows one spells sites bundle script p f input agree budget TextTooLong output r = absurd r

pub ruby_shows : OneSpelled → ReadSpells → SitesDontMatter → (bundle : Bundle) (script : Script) → IsProgram bundle script → (input : Text) (budget : Budget) (end : End) (output : List ℕ) → RunsTo script input budget end output → RubyShows bundle input end output
ruby_shows one spells sites bundle script p input budget end output r core is_core =
    evaluation_shows one spells sites bundle script p (ruby_run core (bundled bundle) input) input (p.agrees core is_core input) budget end output r

-- the run on the input of a status of a run that began
on_input : (input : Option (List ℕ)) (script : Script) (budget : Budget) (end : End) (output : List ℕ) → IsRun (status_of end) → RunAnswers input script budget end output → (text : Text) × IsInputOf input text × RunsTo script text budget end output
on_input input script budget Wrote output i r = r
on_input input script budget (UncaughtBy name message) output i r = r
on_input input script budget (OutsideAt kind pos) output i r = r
on_input input script budget (StepsOver steps) output i r = r
on_input input script budget (CellsOver cells) output i r = r
on_input input script budget Unread output i r = absurd i
on_input input script budget (RefusedAt file pos construct) output i r = absurd i
on_input input script budget (MissingFile name) output i r = absurd i
on_input input script budget ReadFailed output i r = absurd i
on_input input script budget WriteFailed output i r = absurd i
on_input input script budget (NoScript file pos) output i r = absurd i
on_input input script budget (BadInputAt offset) output i r = absurd i
on_input input script budget OutOfMemory output i r = absurd i
on_input input script budget TextTooLong output i r = absurd i

with_program : (files : FileMap) (input : Option (List ℕ)) (file : List ℕ) (budget : Budget) (end : End) (output : List ℕ) → IsRun (status_of end) → ExecAnswers files input file budget end output → (bundle : Bundle) × (script : Script) × HasProgram files file bundle script × RunAnswers input script budget end output
with_program files input file budget Wrote output i r = r
with_program files input file budget (UncaughtBy name message) output i r = r
with_program files input file budget (OutsideAt kind pos) output i r = r
with_program files input file budget (StepsOver steps) output i r = r
with_program files input file budget (CellsOver cells) output i r = r
with_program files input file budget Unread output i r = absurd i
with_program files input file budget (RefusedAt name pos construct) output i r = absurd i
with_program files input file budget (MissingFile name) output i r = absurd i
with_program files input file budget ReadFailed output i r = absurd i
with_program files input file budget WriteFailed output i r = absurd i
with_program files input file budget (NoScript name pos) output i r = absurd i
with_program files input file budget (BadInputAt offset) output i r = absurd i
with_program files input file budget OutOfMemory output i r = absurd i
with_program files input file budget TextTooLong output i r = absurd i

-- what the answer says of Ruby
pub executed : OneSpelled → ReadSpells → SitesDontMatter → (files : FileMap) (input : Option (List ℕ)) (file : List ℕ) (budget : Budget) (answer : Status) (old new : Option (List ℕ)) → IsRun answer → AnswersAs files input (Some (Exec file budget)) answer old new → Executes files input file budget answer old new
executed one spells sites files input file budget answer old new i a =
    let end = a.0 in
    let output = a.1.0 in
    let run = subst IsRun a.2 i in
    let p = with_program files input file budget end output run a.1.1 in
    let t = on_input input p.1 budget end output run p.3 in
    record {
      bundle = p.0;
      script = p.1;
      program = p.2;
      text = t.0;
      is_input = t.1;
      end = end;
      is = a.2;
      output = output;
      runs = t.2;
      shows = ruby_shows one spells sites p.0 p.1 p.2.program t.0 budget end output t.2;
      took = a.1.2;
    }
