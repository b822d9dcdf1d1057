use Rattle.std.proofs.Common.{subst, ap, ◌∙◌}
use Rattle.opal_cli.specs.Ends.{status_of}
use Rattle.opal_cli.specs.Words.{asked_by}
use Rattle.opal_cli.specs.Answers.{TookJob, Answers, AnswersAs}
use Rattle.opal_cli.proofs.Executed.{executed}
use Rattle.opal_cli.proofs.Reports.{done_was, answers_as, is_answer, says, says_cut}
use Rattle.opal_cli.proofs.call.opal.Goals as goal

pub returns-clause-headline : goal.returns-clause-headline
returns-clause-headline g c map file told asked done =
    subst (λ words. TookJob map words (g.O.Sink.told c.args.out.now) (g.O.Sink.told c.work-outcome.new.out)) asked
    (c.work-outcome.ensures.done map told (done_was _ _ _ _ _ _ c.report.ensures.told done))

pub returns-clause-check : goal.returns-clause-check
returns-clause-check g c map file told asked done =
    subst (λ words. TookJob map words (g.O.Sink.told c.args.out.now) (g.O.Sink.told c.work-outcome.new.out)) asked
    (c.work-outcome.ensures.done map told (done_was _ _ _ _ _ _ c.report.ensures.told done))

pub returns-clause-exec : goal.returns-clause-exec
returns-clause-exec g c map file budget told asked ran =
    executed c.bytes_spell_one.ensures.one_spelled c.bytes_spell_one.ensures.spells c.sites_dont_matter.ensures.shown map _ file budget _ _ _ ran
    (subst (λ words. AnswersAs map (g.I.Source.left c.args.input.now) words c.report.result (g.O.Sink.told c.args.out.now) (g.O.Sink.told c.work-outcome.new.out)) asked
    (answers_as _ _ _ _ _ _ _ _ _ _ _ c.report.ensures.told (is_answer c.report.result ran) (c.work-outcome.ensures.answer map told)))

pub returns-clause-line : goal.returns-clause-line
returns-clause-line g c not_cut =
    says _ _ _ _ _ _ _ _ _ _ _ _ _ _ c.report.ensures.told c.work-outcome.ensures.answer c.work-outcome.ensures.missing not_cut

pub returns-clause-cut : goal.returns-clause-cut
returns-clause-cut g c cut =
    says_cut _ _ _ _ _ _ _ _ _ _ _ _ _ _ c.report.ensures.told c.work-outcome.ensures.answer c.work-outcome.ensures.missing cut

pub returns-clause-exactly : goal.returns-clause-exactly
returns-clause-exactly g c map bytes end output told input is_answer answer =
    let words = asked_by c.args.words.now.items in
    let mine = answers_as map (g.I.Source.left c.args.input.now) words (g.O.Sink.told c.args.out.now) (g.O.Sink.told c.work-outcome.new.out) _ _ _ _ _ c.report.result
    c.report.ensures.told is_answer (c.work-outcome.ensures.answer map told) in
    let ours = subst (λ i. Answers map i words mine.0 mine.1.0) input mine.1.1 in
    mine.2 ∙ ap status_of (c.one_answer.ensures map bytes words mine.0 end mine.1.0 output ours answer)
