use Rattle.std.proofs.Common.{◌+◌, refl, ap, arith, subst}
use Rattle.es5_execution.specs.Scopes.{scope_of}
use Rattle.es5_machine.specs.Run.{Ran, IsAgain}
use Rattle.es5_machine.proofs.Whole.{says_over, says_halt, says_open, steps_on, steps_take}
use Rattle.es5_machine.proofs.machine.Machine.run.Goals as goal

pub returns-in-None-clause-says : goal.returns-in-None-clause-says
returns-in-None-clause-says g c e =
    let m = c.loop.self-inside in
    says_over m.table m.input m.cells m.steps m.store (scope_of m.pending.scope) m.pending.stack m.next c.keep.new.slot c.self.inside.steps _ _ _ c.end_of-end.result c.keep.result
    (ap (λ (r : Ran). r.steps) c.self.view_is) c.loop.invariant.holds c.in-None.ensures c.loop.invariant.taken c.end_of-end.ensures c.keep.ensures.same

pub returns-in-None-node_in-clause-says : goal.returns-in-None-node_in-clause-says
returns-in-None-node_in-clause-says g c e =
    let m = c.loop.self-inside in
    says_over m.table m.input m.cells m.steps m.store (scope_of m.pending.scope) m.pending.stack m.next c.keep-in-None-node_in.new.slot c.self.inside.steps _ _ _ c.end_of-end-in-None-node_in.result c.keep-in-None-node_in.result
    (ap (λ (r : Ran). r.steps) c.self.view_is) c.loop.invariant.holds c.in-None-node_in.ensures c.loop.invariant.taken c.end_of-end-in-None-node_in.ensures c.keep-in-None-node_in.ensures.same

pub returns-in-Err-clause-says : goal.returns-in-Err-clause-says
returns-in-Err-clause-says g c e =
    let m = c.loop.self-inside in
    says_halt m.table m.input m.cells m.steps m.store (scope_of m.pending.scope) m.pending.stack m.next c.in-Some-node_in.begins c.in-Err.halt (m.steps + 1) c.keep-in-Err.new.slot c.self.inside.steps _ _ (g.S.Sink.told c.loop.sink) _ c.keep-in-Err.result
    (ap (λ (r : Ran). r.steps) c.self.view_is) refl c.in-Some-node_in.ensures c.loop.invariant.holds c.loop.invariant.taken c.in-Err.ensures.does
    (subst (λ x. IsAgain x c.keep-in-Err.result) c.end_of_halt.ensures c.keep-in-Err.ensures.same)

pub returns-in-Some-node_in-2-clause-says : goal.returns-in-Some-node_in-2-clause-says
returns-in-Some-node_in-2-clause-says g c e =
    let m = c.loop.self-inside in
    says_open m.table m.input m.cells m.steps m.store (scope_of m.pending.scope) m.pending.stack m.next c.in-Some-node_in-2.field-0 m.ended c.self.inside.steps _ _ _
    (ap (λ (r : Ran). r.steps) c.self.view_is) c.in-Some-node_in-2.ensures c.loop.invariant.holds c.loop.invariant.taken

pub loop-preserved : goal.loop-preserved
loop-preserved g c =
    let m = c.loop.self-inside in
    record {
      count = omega (arith, c.loop.invariant.count);
      table = c.loop.invariant.table;
      input = c.loop.invariant.input;
      cells = c.loop.invariant.cells;
      ended = c.loop.invariant.ended;
      later = omega (arith, c.loop.invariant.later, c.in-Ok.ensures.later);
      holds = steps_on m.table m.input m.cells m.steps m.store (scope_of m.pending.scope) m.pending.stack m.next c.in-Some-node_in.begins (m.steps + 1) c.begin.new.store (scope_of c.begin.new.self.scope) c.begin.new.self.stack c.in-Ok.next _ _ refl c.in-Some-node_in.ensures c.loop.invariant.holds c.in-Ok.ensures.sound c.in-Ok.ensures.limit c.in-Ok.ensures.does;
      taken = steps_take m.table m.input m.cells m.steps m.store (scope_of m.pending.scope) m.pending.stack m.next c.in-Some-node_in.begins (m.steps + 1) c.self.inside.steps c.begin.new.store (scope_of c.begin.new.self.scope) c.begin.new.self.stack c.in-Ok.next _ _ _ refl c.in-Some-node_in.ensures c.loop.invariant.holds c.in-Ok.ensures.does c.loop.invariant.taken;
    }
