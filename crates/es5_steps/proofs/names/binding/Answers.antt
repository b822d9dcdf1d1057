use Rattle.std.proofs.Common.{◌≡◌, ◌<◌, ◌≤◌, length, sym, ◌∙◌, arith}
use Rattle.es5_steps.proofs.Lookup.{missing_record, found_here, outermost, outwards, nowhere}
use Rattle.es5_steps.proofs.names.binding.Goals as goal

pub returns-then-records-at-clause-binding : goal.returns-then-records-at-clause-binding
returns-then-records-at-clause-binding c = missing_record c.args.records.now c.args.r c.args.name.now c.loop-turn.turn c.loop-turn.at c.loop-turn.invariant c.if-records-at.true

pub returns-then-binds-clause-binding : goal.returns-then-binds-clause-binding
returns-then-binds-clause-binding c =
    let l = c.if-records-at.false in
    found_here c.args.records.now c.args.r c.args.name.now c.loop-turn.turn c.loop-turn.at c.index-records-at.result c.loop-turn-test.true c.loop-turn.invariant (omega (arith, l)) c.index-records-at.is (sym c.if-binds.true ∙ c.binds.ensures)

pub returns-in-None-clause-binding : goal.returns-in-None-clause-binding
returns-in-None-clause-binding c =
    let l = c.if-records-at.false in
    outermost c.args.records.now c.args.r c.args.name.now c.loop-turn.turn c.loop-turn.at c.index-records-at.result c.loop-turn-test.true c.loop-turn.invariant (omega (arith, l)) c.index-records-at.is (sym c.if-binds.false ∙ c.binds.ensures) c.in-None.is

pub loop-turn-preserved : goal.loop-turn-preserved
loop-turn-preserved c =
    let l = c.if-records-at.false in
    outwards c.args.records.now c.args.r c.args.name.now c.loop-turn.turn c.loop-turn.at c.in-Some.outer c.index-records-at.result c.loop-turn-test.true c.loop-turn.invariant (omega (arith, l)) c.index-records-at.is (sym c.if-binds.false ∙ c.binds.ensures) c.in-Some.is

pub returns-clause-binding : goal.returns-clause-binding
returns-clause-binding c =
    let t = c.loop-turn-test.false in
    let e = c.loop-turn.auto.turn-end in
    nowhere c.args.records.now c.args.r c.args.name.now c.loop-turn.turn c.loop-turn.at c.loop-turn.invariant (omega (arith, t, e))
