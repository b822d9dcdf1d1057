-- Words are answered in one way.
use Rattle.std.proofs.Common.{◌≡◌, ℕ, suc, ◌+◌, ◌-◌, ◌<◌, ◌≤◌, ◌^◌, List, length, None, Some, refl, sym, ap, ◌∙◌, subst, arith, Option}
use mathlib.Core.Logic.{inl, inr}
use Rattle.opal_base.specs.Outside.{FileMap}
use Rattle.opal_base.specs.Shown.{Shown, Ended, Going}
use Rattle.opal_base.specs.Laws.{OneText, OneOffset, DecodedOrNot}
use Rattle.opal_base.specs.declared.place.Pos.{Pos}
use Rattle.ruby_meaning.specs.declared.bundle.Bundle.{Bundle}
use Rattle.ruby_meaning.specs.Laws.{OneLoad}
use Rattle.ruby_meaning.specs.Load.{Loaded, Loads, Whole, Missing, Refused}
use Rattle.es5_tree.specs.declared.tree.Script.{Script}
use Rattle.es5_tree.specs.Values.{Text}
use Rattle.es5_tree.specs.Ends.{EsEnd, Finished, Uncaught, Outside}
use Rattle.es5_tree.specs.Grammar.Laws.{OnePlace, NotScriptOrRead, OneRead}
use Rattle.es5_tree.specs.Grammar.Spelling.{Reads}
use Rattle.es5_evaluation.specs.Run.{cells_at}
use Rattle.es5_evaluation.specs.Laws.{CellsGrow}
use Rattle.es5_printer.specs.Text.{text_of}
use Rattle.es5_host.specs.declared.answer.OutKind.{OutKind as Kind}
use Rattle.es5_host.specs.declared.answer.OutKind.TheVariants as kind
use Rattle.es5_host.specs.Values.{out_of}
use Rattle.opal_cli.specs.declared.words.Budget.{Budget}
use Rattle.opal_cli.specs.Words.{Compile, Check, Run, Exec}
use Rattle.opal_cli.specs.Ends.{End, Wrote, UncaughtBy, RefusedAt, MissingFile, OutsideAt, StepsOver, CellsOver, NoScript, BadInputAt, TextTooLong}
use Rattle.opal_cli.specs.Translation.{script_of}
use Rattle.opal_cli.specs.Execution.{Stands, Fills, RunsTo, IsInput, IsBadInput, RunAnswers, IsNoScript, HasScript, FileAnswers, HasProgram, IsTooLong, ExecAnswers}
use Rattle.opal_cli.specs.Answers.{CompileAnswers, end_of_load}
use Rattle.opal_cli.specs.Laws.{OneAnswer}

-- ---- runs

-- the end of the script that an end tells
abbrev EndsLike : End → EsEnd → Type 0
EndsLike Wrote Finished = Unit {0}
EndsLike (UncaughtBy name message) (Uncaught other text) = (name ≡ other) × (message ≡ text)
EndsLike (OutsideAt k pos) (Outside other there) = (out_of k ≡ other) × (pos ≡ there)
EndsLike _ _ = ⊥

same_kind : (k l : Kind) → out_of k ≡ out_of l → k ≡ l
same_kind kind.Number kind.Number e = refl
same_kind kind.Number kind.Division e = cc
same_kind kind.Number kind.Conversion e = cc
same_kind kind.Number kind.Host e = cc
same_kind kind.Division kind.Number e = cc
same_kind kind.Division kind.Division e = refl
same_kind kind.Division kind.Conversion e = cc
same_kind kind.Division kind.Host e = cc
same_kind kind.Conversion kind.Number e = cc
same_kind kind.Conversion kind.Division e = cc
same_kind kind.Conversion kind.Conversion e = refl
same_kind kind.Conversion kind.Host e = cc
same_kind kind.Host kind.Number e = cc
same_kind kind.Host kind.Division e = cc
same_kind kind.Host kind.Conversion e = cc
same_kind kind.Host kind.Host e = refl

like_one : (end other : End) (last : EsEnd) → EndsLike end last → EndsLike other last → end ≡ other
like_one Wrote Wrote Finished a b = refl
like_one Wrote other Finished a b = absurd b
like_one end other Finished a b = absurd a
like_one (UncaughtBy name message) (UncaughtBy other text) (Uncaught n m) a b =
    ap (λ x. UncaughtBy x message) (a.0 ∙ sym b.0) ∙ ap (UncaughtBy other) (a.1 ∙ sym b.1)
like_one (UncaughtBy name message) other (Uncaught n m) a b = absurd b
like_one end other (Uncaught n m) a b = absurd a
like_one (OutsideAt k pos) (OutsideAt l there) (Outside o p) a b =
    ap (λ x. OutsideAt x pos) (same_kind k l (a.0 ∙ sym b.0)) ∙ ap (OutsideAt l) (a.1 ∙ sym b.1)
like_one (OutsideAt k pos) other (Outside o p) a b = absurd b
like_one end other (Outside o p) a b = absurd a

-- a run ends, goes on, or fills its cells
data RunCase (script : Script) (text : Text) (budget : Budget) (end : End) : Type 0 where
  ends : (output : List ℕ) (last : EsEnd) → EndsLike end last → Stands script text budget (Ended output last) → RunCase script text budget end
  goes : (output : List ℕ) → end ≡ StepsOver budget.steps → Stands script text budget (Going output) → RunCase script text budget end
  fills : (output : List ℕ) → end ≡ CellsOver budget.cells → Fills script text budget output → RunCase script text budget end

run_case : (script : Script) (text : Text) (budget : Budget) (end : End) (output : List ℕ) → RunsTo script text budget end output → RunCase script text budget end
run_case script text budget Wrote output r = ends output Finished tt r
run_case script text budget (UncaughtBy name message) output r = ends output (Uncaught name message) (refl, refl) r
run_case script text budget (OutsideAt k pos) output r = ends output (Outside (out_of k) pos) (refl, refl) r
run_case script text budget (StepsOver steps) output r = goes output (ap StepsOver r.0) r.1
run_case script text budget (CellsOver cells) output r = fills output (ap CellsOver r.0) r.1
run_case script text budget end output r = absurd r

-- all steps are within the cells, or one of them passes them
not_both : CellsGrow → (script : Script) (text : Text) (budget : Budget) (shown : Shown EsEnd) (output : List ℕ) → Stands script text budget shown → Fills script text budget output → ⊥
not_both grow script text budget shown output s f =
    let h = grow script text (suc f.before) (budget.steps - suc f.before) in
    let some = f.some in
    let l : cells_at script text (suc f.before) ≤ cells_at script text budget.steps =
    subst (λ n. cells_at script text (suc f.before) ≤ cells_at script text n) {x = suc f.before + (budget.steps - suc f.before)} {y = budget.steps} (omega arith) h in
    omega (arith, l, s.within, f.over)

one_run : CellsGrow → (script : Script) (text : Text) (budget : Budget) (end other : End) → RunCase script text budget end → RunCase script text budget other → end ≡ other
one_run grow script text budget end other (ends o last l s) (ends p more m t) =
    let e : last ≡ more = let q : Ended o last ≡ Ended p more = sym s.shows ∙ t.shows in cc in
    like_one end other more (subst (EndsLike end) e l) m
one_run grow script text budget end other (ends o last l s) (goes p e t) = let q : Ended o last ≡ Going p = sym s.shows ∙ t.shows in cc
one_run grow script text budget end other (ends o last l s) (fills p e f) = absurd (not_both grow script text budget _ _ s f)
one_run grow script text budget end other (goes o d s) (ends p more m t) = let q : Going o ≡ Ended p more = sym s.shows ∙ t.shows in cc
one_run grow script text budget end other (goes o d s) (goes p e t) = d ∙ sym e
one_run grow script text budget end other (goes o d s) (fills p e f) = absurd (not_both grow script text budget _ _ s f)
one_run grow script text budget end other (fills o d g) (ends p more m t) = absurd (not_both grow script text budget _ _ t g)
one_run grow script text budget end other (fills o d g) (goes p e t) = absurd (not_both grow script text budget _ _ t g)
one_run grow script text budget end other (fills o d g) (fills p e f) = d ∙ sym e

-- ---- the input

data InputCase (bytes : List ℕ) (script : Script) (budget : Budget) (end : End) : Type 0 where
  bad : (offset : ℕ) → end ≡ BadInputAt offset → IsBadInput bytes offset → InputCase bytes script budget end
  good : (text : Text) (output : List ℕ) → IsInput bytes text → RunsTo script text budget end output → InputCase bytes script budget end

input_case : (bytes : List ℕ) (script : Script) (budget : Budget) (end : End) (output : List ℕ) → RunAnswers (Some bytes) script budget end output → InputCase bytes script budget end
input_case bytes script budget (BadInputAt offset) output r = bad offset refl r.0
input_case bytes script budget end output r = good r.0 output r.1 r.2

one_bad : OneOffset → (bytes : List ℕ) (offset other : ℕ) → IsBadInput bytes offset → IsBadInput bytes other → offset ≡ other
one_bad one bytes offset other (inl a) (inl b) = one bytes offset other a.1 b.1
one_bad one bytes offset other (inl a) (inr b) = absurd (omega (arith, a.0, b.0))
one_bad one bytes offset other (inr a) (inl b) = absurd (omega (arith, a.0, b.0))
one_bad one bytes offset other (inr a) (inr b) = a.1 ∙ sym b.1

bad_or_good : DecodedOrNot → (bytes : List ℕ) (offset : ℕ) (text : Text) → IsBadInput bytes offset → IsInput bytes text → ⊥
bad_or_good apart bytes offset text (inl a) i = apart bytes offset a.1 text i.decoded
bad_or_good apart bytes offset text (inr a) i = omega (arith, a.0, i.short)

module _ (grow : CellsGrow) (apart : DecodedOrNot) (offsets : OneOffset) (texts : OneText) where
  one_input : (bytes : List ℕ) (script : Script) (budget : Budget) (end other : End) → InputCase bytes script budget end → InputCase bytes script budget other → end ≡ other
  one_input bytes script budget end other (bad o d a) (bad p e b) = d ∙ ap BadInputAt (one_bad offsets bytes o p a b) ∙ sym e
  one_input bytes script budget end other (bad o d a) (good t output i r) = absurd (bad_or_good apart bytes o t a i)
  one_input bytes script budget end other (good t output i r) (bad o d a) = absurd (bad_or_good apart bytes o t a i)
  one_input bytes script budget end other (good t output i r) (good u more j s) =
      let e = texts bytes t u i.decoded j.decoded in
      one_run grow script u budget end other
      (run_case script u budget end output (subst (λ x. RunsTo script x budget end output) e r)) (run_case script u budget other more s)

  one_run_answer : (bytes : List ℕ) (script : Script) (budget : Budget) (end other : End) (output more : List ℕ) → RunAnswers (Some bytes) script budget end output → RunAnswers (Some bytes) script budget other more → end ≡ other
  one_run_answer bytes script budget end other output more a b = one_input bytes script budget end other (input_case bytes script budget end output a) (input_case bytes script budget other more b)

-- ---- a file's script

data FileCase (files : FileMap) (input : List ℕ) (file : List ℕ) (budget : Budget) (end : End) : Type 0 where
  absent : end ≡ MissingFile file → files file ≡ None → FileCase files input file budget end
  none : (pos : Pos) (bytes : List ℕ) → end ≡ NoScript file pos → files file ≡ Some bytes → IsNoScript bytes pos → FileCase files input file budget end
  read : (script : Script) (output : List ℕ) → HasScript files file script → RunAnswers (Some input) script budget end output → FileCase files input file budget end

file_case : (files : FileMap) (input : List ℕ) (file : List ℕ) (budget : Budget) (end : End) (output : List ℕ) → FileAnswers files (Some input) file budget end output → FileCase files input file budget end
file_case files input file budget (MissingFile name) output r = absent (ap MissingFile r.0) r.1
file_case files input file budget (NoScript name pos) output r = none pos r.1.0 (ap (λ n. NoScript n pos) r.0) r.1.1 r.1.2
file_case files input file budget end output r = read r.0 output r.1 r.2

same_bytes : (o : Option (List ℕ)) (a b : List ℕ) → o ≡ Some a → o ≡ Some b → a ≡ b
same_bytes o a b d e = let q : Some a ≡ Some b = sym d ∙ e in cc

none_one : OnePlace → (bytes : List ℕ) (pos other : Pos) → IsNoScript bytes pos → IsNoScript bytes other → pos ≡ other
none_one one bytes pos other (inl a) (inl b) = one bytes pos other a.1 b.1
none_one one bytes pos other (inl a) (inr b) = absurd (omega (arith, a.0, b.0))
none_one one bytes pos other (inr a) (inl b) = absurd (omega (arith, a.0, b.0))
none_one one bytes pos other (inr a) (inr b) = a.1 ∙ sym b.1

none_or_read : NotScriptOrRead → (files : FileMap) (file bytes : List ℕ) (pos : Pos) (script : Script) → files file ≡ Some bytes → IsNoScript bytes pos → HasScript files file script → ⊥
none_or_read never files file bytes pos script e n h = go n
  where
    same : h.bytes ≡ bytes
    same = same_bytes (files file) h.bytes bytes h.content e

    go : IsNoScript bytes pos → ⊥
    go (inl a) = never bytes script pos (subst (λ b. Reads b script) same h.is.reads) h.is.shallow a.1
    go (inr a) = let l = h.is.short in let q = ap length same in omega (arith, a.0, l, q)

module _ (grow : CellsGrow) (apart : DecodedOrNot) (offsets : OneOffset) (texts : OneText) (place : OnePlace) (never : NotScriptOrRead) (reads : OneRead) where
  one_file : (files : FileMap) (input : List ℕ) (file : List ℕ) (budget : Budget) (end other : End) → FileCase files input file budget end → FileCase files input file budget other → end ≡ other
  one_file files input file budget end other (absent d a) (absent e b) = d ∙ sym e
  one_file files input file budget end other (absent d a) (none pos bytes e b n) = let q : None ≡ Some bytes = sym a ∙ b in cc
  one_file files input file budget end other (absent d a) (read script output h r) = let q : None ≡ Some h.bytes = sym a ∙ h.content in cc
  one_file files input file budget end other (none pos bytes e b n) (absent d a) = let q : None ≡ Some bytes = sym a ∙ b in cc
  one_file files input file budget end other (none pos bytes d a n) (none there more e b m) =
      d ∙ ap (NoScript file) (none_one place more pos there (subst (λ x. IsNoScript x pos) (same_bytes (files file) bytes more a b) n) m) ∙ sym e
  one_file files input file budget end other (none pos bytes d a n) (read script output h r) = absurd (none_or_read never files file bytes pos script a n h)
  one_file files input file budget end other (read script output h r) (absent d a) = let q : None ≡ Some h.bytes = sym a ∙ h.content in cc
  one_file files input file budget end other (read script output h r) (none pos bytes d a n) = absurd (none_or_read never files file bytes pos script a n h)
  one_file files input file budget end other (read script output h r) (read again more i s) =
      let e = reads i.bytes script again (subst (λ b. Reads b script) (same_bytes (files file) h.bytes i.bytes h.content i.content) h.is.reads) i.is.reads in
      one_run_answer grow apart offsets texts input again budget end other output more (subst (λ x. RunAnswers (Some input) x budget end output) e r) s

-- ---- a program's script

abbrev IsUnloaded : Loaded → Type 0
IsUnloaded (Whole bundle) = ⊥
IsUnloaded (Missing name) = Unit {0}
IsUnloaded (Refused file pos construct) = Unit {0}

data ExecCase (files : FileMap) (input : List ℕ) (file : List ℕ) (budget : Budget) (end : End) : Type 0 where
  unloaded : (loaded : Loaded) → Loads files file loaded → IsUnloaded loaded → end ≡ end_of_load loaded → ExecCase files input file budget end
  long : (bundle : Bundle) → end ≡ TextTooLong → Loads files file (Whole bundle) → IsTooLong bundle → ExecCase files input file budget end
  ran : (bundle : Bundle) (script : Script) (output : List ℕ) → HasProgram files file bundle script → RunAnswers (Some input) script budget end output → ExecCase files input file budget end

exec_case : (files : FileMap) (input : List ℕ) (file : List ℕ) (budget : Budget) (end : End) (output : List ℕ) → ExecAnswers files (Some input) file budget end output → ExecCase files input file budget end
exec_case files input file budget (MissingFile name) output r = unloaded (Missing name) r.0 tt refl
exec_case files input file budget (RefusedAt name pos construct) output r = unloaded (Refused name pos construct) r.0 tt refl
exec_case files input file budget TextTooLong output r = long r.0.0 refl r.0.1 r.0.2
exec_case files input file budget end output r = ran r.0 r.1 output r.2 r.3

same_bundle : (a b : Bundle) → Whole a ≡ Whole b → a ≡ b
same_bundle a b e = cc

-- what loads to a bundle doesn't fail to load
loaded_or_not : OneLoad → (files : FileMap) (file : List ℕ) (loaded : Loaded) (bundle : Bundle) → Loads files file loaded → IsUnloaded loaded → Loads files file (Whole bundle) → ⊥
loaded_or_not one files file loaded bundle l u w = subst IsUnloaded (one files file loaded (Whole bundle) l w) u

module _ (one : OneLoad) where
  bundle_one : (files : FileMap) (file : List ℕ) (a b : Bundle) → Loads files file (Whole a) → Loads files file (Whole b) → a ≡ b
  bundle_one files file a b l m = same_bundle a b (one files file (Whole a) (Whole b) l m)

  short_or_long : (files : FileMap) (file : List ℕ) (a b : Bundle) → Loads files file (Whole a) → IsTooLong a → Loads files file (Whole b) → length (text_of (script_of b)) < 2 ^ 31 → ⊥
  short_or_long files file a b l t m s = let u : IsTooLong b = subst IsTooLong (bundle_one files file a b l m) t in omega (arith, u, s)

module _ (grow : CellsGrow) (apart : DecodedOrNot) (offsets : OneOffset) (texts : OneText) (reads : OneRead) (one : OneLoad) where
  one_exec : (files : FileMap) (input : List ℕ) (file : List ℕ) (budget : Budget) (end other : End) → ExecCase files input file budget end → ExecCase files input file budget other → end ≡ other
  one_exec files input file budget end other (unloaded a l u d) (unloaded b m v e) = d ∙ ap end_of_load (one files file a b l m) ∙ sym e
  one_exec files input file budget end other (unloaded a l u d) (long bundle e m t) = absurd (loaded_or_not one files file a bundle l u m)
  one_exec files input file budget end other (unloaded a l u d) (ran bundle script output p r) = absurd (loaded_or_not one files file a bundle l u p.loads)
  one_exec files input file budget end other (long bundle e m t) (unloaded a l u d) = absurd (loaded_or_not one files file a bundle l u m)
  one_exec files input file budget end other (long bundle d l t) (long again e m u) = d ∙ sym e
  one_exec files input file budget end other (long bundle d l t) (ran again script output p r) = absurd (short_or_long one files file bundle again l t p.loads p.program.short)
  one_exec files input file budget end other (ran bundle script output p r) (unloaded a l u d) = absurd (loaded_or_not one files file a bundle l u p.loads)
  one_exec files input file budget end other (ran again script output p r) (long bundle d l t) = absurd (short_or_long one files file bundle again l t p.loads p.program.short)
  one_exec files input file budget end other (ran bundle script output p r) (ran again more extra q s) =
      let b = bundle_one one files file bundle again p.loads q.loads in
      let e = reads (text_of (script_of again)) script more (subst (λ x. Reads (text_of (script_of x)) script) b p.program.reads) q.program.reads in
      one_run_answer grow apart offsets texts input more budget end other output extra (subst (λ x. RunAnswers (Some input) x budget end output) e r) s

-- ---- a compiled script

data CompileCase (files : FileMap) (file : List ℕ) (end : End) : Type 0 where
  failed : (loaded : Loaded) → Loads files file loaded → IsUnloaded loaded → end ≡ end_of_load loaded → CompileCase files file end
  over : (bundle : Bundle) → end ≡ TextTooLong → Loads files file (Whole bundle) → IsTooLong bundle → CompileCase files file end
  wrote : (bundle : Bundle) → end ≡ Wrote → Loads files file (Whole bundle) → length (text_of (script_of bundle)) < 2 ^ 31 → CompileCase files file end

compile_case : (files : FileMap) (file : List ℕ) (end : End) (output : List ℕ) → CompileAnswers files file end output → CompileCase files file end
compile_case files file (MissingFile name) output r = failed (Missing name) r.0 tt refl
compile_case files file (RefusedAt name pos construct) output r = failed (Refused name pos construct) r.0 tt refl
compile_case files file TextTooLong output r = over r.0.0 refl r.0.1 r.0.2
compile_case files file Wrote output r = wrote r.0 refl r.1 (subst (λ text. length text < 2 ^ 31) r.3 r.2)
compile_case files file end output r = absurd r

one_compile : OneLoad → (files : FileMap) (file : List ℕ) (end other : End) → CompileCase files file end → CompileCase files file other → end ≡ other
one_compile one files file end other (failed a l u d) (failed b m v e) = d ∙ ap end_of_load (one files file a b l m) ∙ sym e
one_compile one files file end other (failed a l u d) (over bundle e m t) = absurd (loaded_or_not one files file a bundle l u m)
one_compile one files file end other (failed a l u d) (wrote bundle e m s) = absurd (loaded_or_not one files file a bundle l u m)
one_compile one files file end other (over bundle e m t) (failed a l u d) = absurd (loaded_or_not one files file a bundle l u m)
one_compile one files file end other (over bundle d l t) (over again e m u) = d ∙ sym e
one_compile one files file end other (over bundle d l t) (wrote again e m s) = absurd (short_or_long one files file bundle again l t m s)
one_compile one files file end other (wrote bundle e m s) (failed a l u d) = absurd (loaded_or_not one files file a bundle l u m)
one_compile one files file end other (wrote again e m s) (over bundle d l t) = absurd (short_or_long one files file bundle again l t m s)
one_compile one files file end other (wrote bundle d l s) (wrote again e m t) = d ∙ sym e

pub one_answer_is : CellsGrow → DecodedOrNot → OneOffset → OneText → OnePlace → NotScriptOrRead → OneRead → OneLoad → OneAnswer
one_answer_is grow apart offsets texts place never reads one files input None end other output more a b = a.0 ∙ sym b.0
one_answer_is grow apart offsets texts place never reads one files input (Some (Compile file)) end other output more a b =
    one_compile one files file end other (compile_case files file end output a) (compile_case files file other more b)
one_answer_is grow apart offsets texts place never reads one files input (Some (Check file)) end other output more a b =
    a.2 ∙ ap end_of_load (one files file a.0 b.0 a.1 b.1) ∙ sym b.2
one_answer_is grow apart offsets texts place never reads one files input (Some (Run file budget)) end other output more a b =
    one_file grow apart offsets texts place never reads files input file budget end other (file_case files input file budget end output a) (file_case files input file budget other more b)
one_answer_is grow apart offsets texts place never reads one files input (Some (Exec file budget)) end other output more a b =
    one_exec grow apart offsets texts reads one files input file budget end other (exec_case files input file budget end output a) (exec_case files input file budget other more b)
