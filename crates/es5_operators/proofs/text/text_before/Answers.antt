use Rattle.std.proofs.Common.{◌≡◌, ◌+◌, ◌<◌, ◌≤◌, length, sym, ◌∙◌, arith}
use Rattle.es5_evaluation.specs.Values.{text_before}
use Rattle.es5_operators.proofs.Texts.{before_same, before_other, before_less, before_end}
use Rattle.es5_operators.proofs.text.text_before.Goals as goal

pub returns-then-t-i : goal.returns-then-t-i
returns-then-t-i c = sym (c.loop-i.invariant ∙ before_less c.args.s.now c.args.t.now c.loop-i.i c.loop-i-test.true c.if-t-i.true)

pub returns-then-s-i : goal.returns-then-s-i
returns-then-s-i c =
    let l = c.if-t-i.false in
    sym (c.loop-i.invariant ∙ before_other c.args.s.now c.args.t.now c.loop-i.i c.loop-i-test.true (omega (arith, l)) c.if-s-i.true)

pub loop-i-preserved : goal.loop-i-preserved
loop-i-preserved c =
    let l = c.if-t-i.false in
    c.loop-i.invariant ∙ before_same c.args.s.now c.args.t.now c.loop-i.i c.loop-i-test.true (omega (arith, l)) c.if-s-i.false

pub returns : goal.returns
returns c =
    let e = c.loop-i-test.false in
    let f = c.loop-i.auto.i-end in
    sym (c.loop-i.invariant ∙ before_end c.args.s.now c.args.t.now c.loop-i.i (omega (arith, e, f)))
