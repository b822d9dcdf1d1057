use Rattle.std.proofs.Common.{Ok, Err, [], refl}
use Rattle.es5_tree.specs.Values.{Undefined}
use Rattle.es5_tree.specs.Intrinsics.Rows.{row}
use Rattle.es5_evaluation.specs.Task.{Scope}
use Rattle.es5_evaluation.specs.Evaluate.{type_error}
use Rattle.es5_objects.specs.Values.{value_of}
use Rattle.es5_host.specs.declared.answer.HostAnswer.TheVariants as answer
use Rattle.es5_host.specs.Values.{fn_of}
use Rattle.es5_making.proofs.HostSteps.{fault_stopped, left_acted, makes_full, memory_stopped, over_acted, passed_by, quiet_caused, thrown_acted, value_acted}
use Rattle.es5_making.proofs.PlainRows.{read, took}
use Rattle.es5_making.proofs.invocations.call_host.Goals as goal

pub returns-then-is_over-clause-does : goal.returns-then-is_over-clause-does
returns-then-is_over-clause-does g c = λ call T ρ.
    let s = c.args.store.now in
    over_acted (row (fn_of c.args.which) s.heap.cells s.lines (value_of c.args.this.now) c.args.args.now) call c.args.pos T s c.host_call.new.heap (value_of c.in-Value.value) (answer.Value c.in-Value.value) (g.S.Sink.told c.args.sink.now) (g.S.Sink.told c.host_call.new.sink)
    c.requires.sound (c.is_over.ensures.0 c.if-is_over.true) c.in-Value.ensures.answer
    (took (fn_of c.args.which) s.heap.cells s.lines (value_of c.args.this.now) c.args.args.now (answer.Value c.in-Value.value) _ _ c.in-Value.ensures.took)

pub returns-in-Value-clause-does : goal.returns-in-Value-clause-does
returns-in-Value-clause-does g c = λ call T ρ.
    let s = c.args.store.now in
    let new = record s { heap = c.host_call.new.heap; lines = c.host_call.new.input } in
    value_acted (row (fn_of c.args.which) s.heap.cells s.lines (value_of c.args.this.now) c.args.args.now) call c.args.pos T ρ s new c.in-Value.value (g.S.Sink.told c.args.sink.now) (g.S.Sink.told c.host_call.new.sink)
    refl refl c.in-Value.ensures.answer
    (took (fn_of c.args.which) s.heap.cells s.lines (value_of c.args.this.now) c.args.args.now (answer.Value c.in-Value.value) _ _ c.in-Value.ensures.took)
    (read (fn_of c.args.which) s.heap.cells s.lines (value_of c.args.this.now) c.args.args.now (answer.Value c.in-Value.value) _ _ c.in-Value.ensures.read)

pub returns-in-Ok-clause-does : goal.returns-in-Ok-clause-does
returns-in-Ok-clause-does g c = λ call T ρ.
    let s = c.args.store.now in
    let mid = record s { heap = c.host_call.new.heap; lines = c.host_call.new.input } in
    let a = answer.Throw c.in-Throw.name c.in-Throw.message in
    thrown_acted (row (fn_of c.args.which) s.heap.cells s.lines (value_of c.args.this.now) c.args.args.now) call c.args.pos T ρ s mid c.raise.new.store (Ok c.in-Ok.effect) c.in-Throw.name c.in-Throw.message (g.S.Sink.told c.args.sink.now) (g.S.Sink.told c.host_call.new.sink)
    c.in-Throw.ensures.answer.1 c.in-Throw.ensures.answer.2 refl refl refl
    (read (fn_of c.args.which) s.heap.cells s.lines (value_of c.args.this.now) c.args.args.now a _ _ c.in-Throw.ensures.read)
    (took (fn_of c.args.which) s.heap.cells s.lines (value_of c.args.this.now) c.args.args.now a _ _ c.in-Throw.ensures.took)
    (c.in-Ok.ensures.does T ρ)

pub returns-in-Throw-clause-does : goal.returns-in-Throw-clause-does
returns-in-Throw-clause-does g c = λ call T ρ.
    let s = c.args.store.now in
    let mid = record s { heap = c.host_call.new.heap; lines = c.host_call.new.input } in
    let a = answer.Throw c.in-Throw.name c.in-Throw.message in
    thrown_acted (row (fn_of c.args.which) s.heap.cells s.lines (value_of c.args.this.now) c.args.args.now) call c.args.pos T ρ s mid c.raise.new.store (Err c.in-Err.halt) c.in-Throw.name c.in-Throw.message (g.S.Sink.told c.args.sink.now) (g.S.Sink.told c.host_call.new.sink)
    c.in-Throw.ensures.answer.1 c.in-Throw.ensures.answer.2 refl refl refl
    (read (fn_of c.args.which) s.heap.cells s.lines (value_of c.args.this.now) c.args.args.now a _ _ c.in-Throw.ensures.read)
    (took (fn_of c.args.which) s.heap.cells s.lines (value_of c.args.this.now) c.args.args.now a _ _ c.in-Throw.ensures.took)
    (c.in-Err.ensures.does T ρ)

abbrev nowhere : Scope
nowhere = record { this = Undefined; innermost = 0 }

pub returns-in-Throw-clause-cause : goal.returns-in-Throw-clause-cause
returns-in-Throw-clause-cause g c =
    let mid = record c.args.store.now { heap = c.host_call.new.heap; lines = c.host_call.new.input } in
    quiet_caused c.in-Err.halt [] nowhere (type_error c.in-Throw.message) mid c.raise.new.store _ _ (c.in-Err.ensures.does [] nowhere)

pub returns-in-Invoke-clause-does : goal.returns-in-Invoke-clause-does
returns-in-Invoke-clause-does g c = λ call T ρ.
    let s = c.args.store.now in
    let new = record s { heap = c.host_call.new.heap; lines = c.host_call.new.input } in
    let a = answer.Invoke c.in-Invoke.callee c.in-Invoke.this c.in-Invoke.args in
    let done = passed_by (row (fn_of c.args.which) s.heap.cells s.lines (value_of c.args.this.now) c.args.args.now) call c.args.pos T s new c.in-Invoke.callee c.in-Invoke.this c.in-Invoke.args (g.S.Sink.told c.args.sink.now) (g.S.Sink.told c.host_call.new.sink)
    c.in-Invoke.ensures.answer.0 c.in-Invoke.ensures.answer.1 refl refl
    (read (fn_of c.args.which) s.heap.cells s.lines (value_of c.args.this.now) c.args.args.now a _ _ c.in-Invoke.ensures.read)
    (took (fn_of c.args.which) s.heap.cells s.lines (value_of c.args.this.now) c.args.args.now a _ _ c.in-Invoke.ensures.took) in
    (done.0, refl, done.1)

pub returns-in-Outside-clause-does : goal.returns-in-Outside-clause-does
returns-in-Outside-clause-does g c = λ call T ρ.
    let s = c.args.store.now in
    let new = record s { heap = c.host_call.new.heap; lines = c.host_call.new.input } in
    left_acted (row (fn_of c.args.which) s.heap.cells s.lines (value_of c.args.this.now) c.args.args.now) call c.args.pos T ρ s new c.in-Outside.kind (g.S.Sink.told c.args.sink.now) (g.S.Sink.told c.host_call.new.sink)
    c.in-Outside.ensures.answer.0 c.in-Outside.ensures.answer.1 refl refl
    (read (fn_of c.args.which) s.heap.cells s.lines (value_of c.args.this.now) c.args.args.now (answer.Outside c.in-Outside.kind) _ _ c.in-Outside.ensures.read)
    (took (fn_of c.args.which) s.heap.cells s.lines (value_of c.args.this.now) c.args.args.now (answer.Outside c.in-Outside.kind) _ _ c.in-Outside.ensures.took)

pub returns-in-CellsFull-clause-does : goal.returns-in-CellsFull-clause-does
returns-in-CellsFull-clause-does g c = λ call T ρ.
    let s = c.args.store.now in
    makes_full (row (fn_of c.args.which) s.heap.cells s.lines (value_of c.args.this.now) c.args.args.now) call c.args.pos T s answer.CellsFull (g.S.Sink.told c.args.sink.now) (g.S.Sink.told c.host_call.new.sink)
    c.in-CellsFull.ensures.answer.0 c.in-CellsFull.ensures.answer.1 c.requires.sound
    (took (fn_of c.args.which) s.heap.cells s.lines (value_of c.args.this.now) c.args.args.now answer.CellsFull _ _ c.in-CellsFull.ensures.took)

pub returns-in-WriteFault-clause-does : goal.returns-in-WriteFault-clause-does
returns-in-WriteFault-clause-does g c = λ call T ρ.
    let s = c.args.store.now in
    fault_stopped (row (fn_of c.args.which) s.heap.cells s.lines (value_of c.args.this.now) c.args.args.now) call c.args.pos T s (g.S.Sink.told c.args.sink.now) (g.S.Sink.told c.host_call.new.sink)
    c.in-WriteFault.ensures.answer.0
    (took (fn_of c.args.which) s.heap.cells s.lines (value_of c.args.this.now) c.args.args.now answer.WriteFault _ _ c.in-WriteFault.ensures.took)

pub returns-clause-does : goal.returns-clause-does
returns-clause-does g c = λ call T ρ.
    let s = c.args.store.now in
    memory_stopped (row (fn_of c.args.which) s.heap.cells s.lines (value_of c.args.this.now) c.args.args.now) call c.args.pos T s (g.S.Sink.told c.args.sink.now) (g.S.Sink.told c.host_call.new.sink)
    (took (fn_of c.args.which) s.heap.cells s.lines (value_of c.args.this.now) c.args.args.now answer.NoMemory _ _ c.in-NoMemory.ensures.took)
