use Rattle.std.proofs.Common.{◌≡◌, ap, map, ◌∙◌}
use Rattle.ruby_meaning.specs.Grammar.Refusals.{is_jump, last_seen}
use Rattle.ruby_reading.specs.Ahead.{see}
use Rattle.ruby_parser.specs.Refusing.{holds}
use Rattle.ruby_parser.proofs.Signs.{sign_test}
use Rattle.ruby_parser.proofs.Told.{starts_told}
use Rattle.ruby_parser.proofs.refusal.argument_may_start.Goals as goal

pub returns : goal.returns
returns c =
    let jump = c.is_jump-jump.ensures ∙ ap (holds is_jump) c.last_sign-last.ensures ∙ sign_test is_jump (last_seen (map see c.args.front.now)) in
    starts_told (map see c.args.front.now) c.in_ok-block.block c.in_ok-splat.splat c.in_ok-label.label c.is_jump-jump.result c.both-another.result c.either-other.result c.either-told.result
    c.both-another.ensures c.either-other.ensures c.either-told.ensures jump c.in_ok-block.ensures c.in_ok-splat.ensures c.in_ok-label.ensures
