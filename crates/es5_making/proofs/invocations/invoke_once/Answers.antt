use Rattle.std.proofs.Common.{Ok, Err, sym}
use Rattle.es5_tree.specs.Objects.Cells as kind
use Rattle.es5_objects.specs.Values.{value_of}
use Rattle.es5_making.proofs.HostSteps.{quiet_caused}
use Rattle.es5_making.proofs.InvokeSteps.{entered_by, enter_task, host_by, no_host_by, refused_by, nowhere}
use Rattle.es5_making.proofs.invocations.invoke_once.Goals as goal

pub returns-in-Object-clause-does : goal.returns-in-Object-clause-does
returns-in-Object-clause-does g c = λ call ρ.
    refused_by kind.Object c.refused.result call c.args.pos c.args.table.now.nodes ρ c.args.store.now c.refused.new.store c.args.f (value_of c.args.this) c.args.args.now (g.S.Sink.told c.args.sink.now) (g.S.Sink.told c.args.sink.now)
    (sym c.in-Object.ensures) tt (c.refused.ensures.does call c.args.table.now.nodes ρ (g.S.Sink.told c.args.sink.now))

pub returns-in-Array-clause-does : goal.returns-in-Array-clause-does
returns-in-Array-clause-does g c = λ call ρ.
    refused_by kind.Array c.refused-in-Array.result call c.args.pos c.args.table.now.nodes ρ c.args.store.now c.refused-in-Array.new.store c.args.f (value_of c.args.this) c.args.args.now (g.S.Sink.told c.args.sink.now) (g.S.Sink.told c.args.sink.now)
    (sym c.in-Array.ensures) tt (c.refused-in-Array.ensures.does call c.args.table.now.nodes ρ (g.S.Sink.told c.args.sink.now))

pub returns-in-Arguments-clause-does : goal.returns-in-Arguments-clause-does
returns-in-Arguments-clause-does g c = λ call ρ.
    refused_by kind.Arguments c.refused-in-Arguments.result call c.args.pos c.args.table.now.nodes ρ c.args.store.now c.refused-in-Arguments.new.store c.args.f (value_of c.args.this) c.args.args.now (g.S.Sink.told c.args.sink.now) (g.S.Sink.told c.args.sink.now)
    (sym c.in-Arguments.ensures) tt (c.refused-in-Arguments.ensures.does call c.args.table.now.nodes ρ (g.S.Sink.told c.args.sink.now))

pub returns-in-Record-clause-does : goal.returns-in-Record-clause-does
returns-in-Record-clause-does g c = λ call ρ.
    refused_by (kind.Record c.in-Record.outer) c.refused-in-Record.result call c.args.pos c.args.table.now.nodes ρ c.args.store.now c.refused-in-Record.new.store c.args.f (value_of c.args.this) c.args.args.now (g.S.Sink.told c.args.sink.now) (g.S.Sink.told c.args.sink.now)
    (sym c.in-Record.ensures) tt (c.refused-in-Record.ensures.does call c.args.table.now.nodes ρ (g.S.Sink.told c.args.sink.now))

pub returns-in-Ok-clause-does : goal.returns-in-Ok-clause-does
returns-in-Ok-clause-does g c = λ call ρ.
    entered_by (Ok c.in-Ok.effect) call c.args.pos c.args.table.now.nodes ρ c.args.store.now c.enter.new.store c.args.f c.in-Function.code c.in-Function.scope (value_of c.args.this) c.args.args.now (g.S.Sink.told c.args.sink.now)
    (sym c.in-Function.ensures) (c.in-Ok.ensures.does ρ)

pub returns-in-Function-clause-does : goal.returns-in-Function-clause-does
returns-in-Function-clause-does g c = λ call ρ.
    entered_by (Err c.in-Err.halt) call c.args.pos c.args.table.now.nodes ρ c.args.store.now c.enter.new.store c.args.f c.in-Function.code c.in-Function.scope (value_of c.args.this) c.args.args.now (g.S.Sink.told c.args.sink.now)
    (sym c.in-Function.ensures) (c.in-Err.ensures.does ρ)

pub returns-in-Function-clause-cause : goal.returns-in-Function-clause-cause
returns-in-Function-clause-cause g c =
    quiet_caused c.in-Err.halt c.args.table.now.nodes nowhere (enter_task c.args.table.now.nodes c.args.store.now c.args.f c.in-Function.code c.in-Function.scope (value_of c.args.this) c.args.args.now) c.args.store.now c.enter.new.store _ _ (c.in-Err.ensures.does nowhere)

pub returns-in-Some-clause-does : goal.returns-in-Some-clause-does
returns-in-Some-clause-does g c = λ call ρ.
    host_by c.call_host.result c.host_fn.result c.in-Host.number c.in-Some.which call c.args.pos c.args.table.now.nodes ρ c.args.store.now c.call_host.new.store c.args.f (value_of c.args.this) c.args.args.now (g.S.Sink.told c.args.sink.now) (g.S.Sink.told c.call_host.new.sink)
    (sym c.in-Host.ensures) c.host_fn.ensures c.in-Some.is (c.call_host.ensures.does call c.args.table.now.nodes ρ)

pub returns-clause-does : goal.returns-clause-does
returns-clause-does g c = λ call ρ.
    no_host_by c.refused-in-None.result c.host_fn.result c.in-Host.number call c.args.pos c.args.table.now.nodes ρ c.args.store.now c.refused-in-None.new.store c.args.f (value_of c.args.this) c.args.args.now (g.S.Sink.told c.args.sink.now) (g.S.Sink.told c.args.sink.now)
    (sym c.in-Host.ensures) c.host_fn.ensures c.in-None.is (c.refused-in-None.ensures.does call c.args.table.now.nodes ρ (g.S.Sink.told c.args.sink.now))
