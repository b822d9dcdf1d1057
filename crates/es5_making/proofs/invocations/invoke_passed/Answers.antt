use Rattle.std.proofs.Common.{Err}
use Rattle.es5_objects.specs.Values.{value_of}
use Rattle.es5_making.proofs.InvokeSteps.{done_passed, left_further, no_further, passed_is}
use Rattle.es5_making.proofs.invocations.invoke_passed.Goals as goal

pub returns-in-Ok-Done-clause-does : goal.returns-in-Ok-Done-clause-does
returns-in-Ok-Done-clause-does g c = λ ρ. done_passed c.in-Ok-Done.field-0 c.in-Ok-Done.effect c.args.pos c.args.table.now.nodes ρ c.args.store.now c.invoke_once.new.store c.args.f (value_of c.args.this) c.args.args.now (g.S.Sink.told c.args.sink.now) (g.S.Sink.told c.invoke_once.new.sink) c.in-Ok-Done.field-0-is (c.in-Ok-Done.ensures.does (no_further c.args.pos) ρ)

pub returns-in-Ok-Passed-clause-does : goal.returns-in-Ok-Passed-clause-does
returns-in-Ok-Passed-clause-does g c = λ ρ. left_further c.in-Ok-Passed.field-0 c.in-Ok-Passed.field-0-0 c.in-Ok-Passed.field-0-1 c.in-Ok-Passed.field-0-2 c.args.pos c.args.table.now.nodes ρ c.args.store.now c.invoke_once.new.store c.args.f (value_of c.args.this) c.args.args.now (g.S.Sink.told c.args.sink.now) (g.S.Sink.told c.invoke_once.new.sink) c.in-Ok-Passed.field-0-is (c.in-Ok-Passed.ensures.does (no_further c.args.pos) ρ)

pub returns-clause-does : goal.returns-clause-does
returns-clause-does g c = λ ρ. passed_is (Err c.in-Err.halt) c.args.pos c.args.table.now.nodes ρ c.args.store.now c.invoke_once.new.store c.args.f (value_of c.args.this) c.args.args.now (g.S.Sink.told c.args.sink.now) (g.S.Sink.told c.invoke_once.new.sink) (c.in-Err.ensures.does (no_further c.args.pos) ρ)
