-- A bundle that some file spells agrees with its script.
use Rattle.std.proofs.Common.{◌≡◌, ℕ, List, map, sym, ap, ◌∙◌, subst, arith, ⊎_elim}
use Rattle.std.specs.List.{flat_map}
use Rattle.std.proofs.lemmas.Bool.{cases_lt}
use Rattle.opal_base.specs.declared.place.Pos.{Pos}
use Rattle.opal_base.specs.Text.{utf8_of}
use Rattle.opal_base.specs.Shown.{Shown, Ended, Going, Shows, ShowsInTurn}
use Rattle.ruby_meaning.specs.Puts.{putting, puts_text}
use Rattle.ruby_meaning.specs.Laws.{OnlyPuts}
use Rattle.ruby_evaluation.specs.Core.{bundled}
use Rattle.ruby_evaluation.specs.Ends.{RubyEnd}
use Rattle.ruby_evaluation.specs.Ends as ruby
use Rattle.ruby_evaluation.specs.Laws.{PutsInTurn}
use Rattle.ruby_evaluation.specs.Run.{ruby_run}
use Rattle.es5_tree.specs.Ends.{EsEnd, OutKind, Number}
use Rattle.es5_tree.specs.Ends as es
use Rattle.es5_evaluation.specs.Run.{es_run}
use Rattle.es5_laws.specs.Laws.{WritesInTurn}
use Rattle.both_meanings.specs.Agree.{SameEnd, AgreeRuns}
use Rattle.opal_cli.specs.Translation.{script_of}
use Rattle.opal_cli.specs.Laws.{Agreement}

-- ---- two runs that show the same in turn

-- such a run ends with all its texts
ended_so : {End : Type 0} (run : ℕ → Shown End) (texts : List (List ℕ)) (end last : End) (n : ℕ) (output : List ℕ) → ShowsInTurn run texts end → run n ≡ Ended output last → (output ≡ flat_map utf8_of texts) × (last ≡ end)
ended_so run texts end last n output s e = ⊎_elim
    (λ fewer. let g = s.goes n fewer in let h = g.2 in cc)
    (λ enough. let h = s.ends n enough in (cc, cc))
    (cases_lt n s.enough)

-- what such a run shows while it goes on, another one that writes the same texts shows too
shown_too : {End Last : Type 0} (run : ℕ → Shown End) (other : ℕ → Shown Last) (texts : List (List ℕ)) (end : End) (last : Last) (n : ℕ) (output : List ℕ) → ShowsInTurn run texts end → ShowsInTurn other texts last → run n ≡ Going output → (m : ℕ) × Shows (other m) output
shown_too run other texts end last n output s t e = ⊎_elim
    (λ fewer. let g = s.goes n fewer in let h = g.2 in
    let same : output ≡ _ = cc in
    let there = t.shows g.0 g.1 in
    (there.0, subst (Shows (other there.0)) (sym same) there.1))
    (λ enough. let h = s.ends n enough in cc)
    (cases_lt n s.enough)

ends_too : {Last : Type 0} (other : ℕ → Shown Last) (texts : List (List ℕ)) (last : Last) (output : List ℕ) → ShowsInTurn other texts last → output ≡ flat_map utf8_of texts → (m : ℕ) × (other m ≡ Ended output last)
ends_too other texts last output t e = (t.enough, t.ends t.enough (omega arith) ∙ ap (λ o. Ended o last) (sym e))

only_number : (output other : List ℕ) (kind : OutKind) (place : Pos) → Ended output es.Finished ≡ Ended other (es.Outside kind place) → kind ≡ Number
only_number output other kind place e = cc

in_turn : (f : ℕ → Shown RubyEnd) (g : ℕ → Shown EsEnd) (texts : List (List ℕ)) → ShowsInTurn f texts ruby.Finished → ShowsInTurn g texts es.Finished → AgreeRuns f g
in_turn f g texts s t = record {
  ends = λ n output end e.
      let a = ended_so f texts ruby.Finished end n output s e in
      let b = ends_too g texts es.Finished output t a.0 in
      (b.0, es.Finished, b.1, subst (λ x. SameEnd x es.Finished) (sym a.1) tt);
  ends_only = λ m output other e.
      let a = ended_so g texts es.Finished other m output t e in
      let b = ends_too f texts ruby.Finished output s a.0 in
      (b.0, ruby.Finished, b.1, subst (SameEnd ruby.Finished) (sym a.1) tt);
  goes = λ n output e. shown_too f g texts ruby.Finished es.Finished n output s t e;
  goes_only = λ m output e. shown_too g f texts es.Finished ruby.Finished m output t s e;
  outside = λ m output kind place e.
      let a = ended_so g texts es.Finished (es.Outside kind place) m output t e in
      let b = a.1 in cc;
}

-- ---- the law

pub agreement_by : OnlyPuts → PutsInTurn → WritesInTurn → Agreement
agreement_by only turn es_turn bundle sound core is_core input =
    let texts = map puts_text (putting bundle.main.program.body).texts in
    in_turn (ruby_run core (bundled bundle) input) (es_run (script_of bundle) input) texts (turn core bundle input is_core (only bundle sound)) (es_turn texts input)
