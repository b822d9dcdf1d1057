use Rattle.std.proofs.Common.{arith, ◌∙◌, sym, ap, length}
use Rattle.descent.specs.Sets.{one_of}
use Rattle.ruby_reading.specs.Ahead.{ahead, codes}
use Rattle.ruby_parameters.specs.Parameters.{behind_those}
use Rattle.ruby_parameters.proofs.Skipped.{many_all_skipped, none_skipped, one_skipped, one_fewer, nothing_left}
use Rattle.ruby_parameters.proofs.parameters.skip.Goals as goal

pub loop-turn-preserved : goal.loop-turn-preserved
loop-turn-preserved c = record {
  same = c.loop-turn.invariant.same ∙ sym (one_skipped (one_of (codes c.args.signs.now)) (ahead c.loop-turn.cursor)) ∙ ap (behind_those (one_of (codes c.args.signs.now))) (sym c.pass.ensures.left);
  left = omega (arith, ap length c.pass.ensures.left, one_fewer (one_of (codes c.args.signs.now)) (ahead c.loop-turn.cursor) (sym c.pass.ensures.found ∙ c.if-not-pass.false));
}

pub returns : goal.returns
returns c = many_all_skipped (one_of (codes c.args.signs.now)) (ahead c.args.cursor.now) _ (c.loop-turn.invariant.same ∙ nothing_left (one_of (codes c.args.signs.now)) (ahead c.loop-turn.cursor) (omega arith))

pub returns-then-not-pass : goal.returns-then-not-pass
returns-then-not-pass c = many_all_skipped (one_of (codes c.args.signs.now)) (ahead c.args.cursor.now) _ (c.loop-turn.invariant.same ∙ none_skipped (one_of (codes c.args.signs.now)) (ahead c.loop-turn.cursor) (sym c.pass.ensures.found ∙ c.if-not-pass.true) ∙ sym c.pass.ensures.left)
