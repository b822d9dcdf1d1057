use Rattle.std.proofs.Common.{◌≡◌, ◌≤◌, length, arith}
use Rattle.es5_host.proofs.Places.{stands_here, stands_later, stands_last, stands_nowhere}
use Rattle.es5_host.proofs.text.first_place.Goals as goal

pub returns-then-starts_with : goal.returns-then-starts_with
returns-then-starts_with c = stands_here c.args.text.now c.args.part.now c.loop-at.at c.rest_of.result.now c.starts_with.result _ c.loop-at.invariant c.rest_of.ensures c.starts_with.ensures.value c.if-starts_with.true

pub loop-at-preserved : goal.loop-at-preserved
loop-at-preserved c = stands_later c.args.text.now c.args.part.now c.loop-at.at c.rest_of.result.now c.starts_with.result _ c.loop-at.invariant c.loop-at-test.true c.rest_of.ensures c.starts_with.ensures.value c.if-starts_with.false

pub returns-then-part-eq0 : goal.returns-then-part-eq0
returns-then-part-eq0 c =
    let ge : c.loop-at.at ≤ length c.args.text.now = omega arith in
    let e : length c.args.part.now ≡ 0 = omega arith in
    stands_last c.args.text.now c.args.part.now c.loop-at.at _ c.loop-at.invariant c.loop-at-test.false ge e

pub returns-else-part-eq0 : goal.returns-else-part-eq0
returns-else-part-eq0 c =
    let ge : c.loop-at.at ≤ length c.args.text.now = omega arith in
    stands_nowhere c.args.text.now c.args.part.now c.loop-at.at _ c.loop-at.invariant c.loop-at-test.false ge (λ e. absurd (c.if-part-eq0.false e))
