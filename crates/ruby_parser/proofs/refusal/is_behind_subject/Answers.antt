use Rattle.std.proofs.Common.{◌≡◌, None, ap, map, sym, ◌∙◌}
use Rattle.std.specs.Prelude.{not}
use Rattle.ruby_reading.specs.Ahead.{see}
use Rattle.ruby_parser.proofs.Signs.{case_is}
use Rattle.ruby_parser.proofs.Told.{subject_told}
use Rattle.ruby_parser.proofs.refusal.is_behind_subject.Goals as goal

pub returns : goal.returns
returns c =
    let uncased = c.not-uncased.ensures ∙ ap not (c.is_behind_case-case.ensures ∙ sym (case_is None (map see c.args.front.now))) in
    subject_told (map see c.args.front.now) c.in_ok-when.when c.in_ok-end.end c.not-unended.result c.not-uncased.result c.both-others.result c.both-told.result
    c.not-unended.ensures uncased c.both-others.ensures c.both-told.ensures c.in_ok-when.ensures c.in_ok-end.ensures
