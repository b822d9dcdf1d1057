use Rattle.std.proofs.Common.{Err}
use Rattle.es5_evaluation.specs.Evaluate.{passed}
use Rattle.es5_objects.specs.Values.{value_of}
use Rattle.es5_making.proofs.InvokeSteps.{done_invoked, invoke_is, invoked_further}
use Rattle.es5_making.proofs.invocations.invoke_function.Goals as goal

pub returns-in-Ok-Done-clause-does : goal.returns-in-Ok-Done-clause-does
returns-in-Ok-Done-clause-does g c = λ ρ. done_invoked c.in-Ok-Done.field-0 c.in-Ok-Done.effect c.args.pos c.args.table.now.nodes ρ c.args.store.now c.invoke_once.new.store c.args.f (value_of c.args.this) c.args.args.now (g.S.Sink.told c.args.sink.now) (g.S.Sink.told c.invoke_once.new.sink) c.in-Ok-Done.field-0-is (c.in-Ok-Done.ensures.does (passed c.args.pos) ρ)

pub returns-in-Ok-Passed-clause-does : goal.returns-in-Ok-Passed-clause-does
returns-in-Ok-Passed-clause-does g c = λ ρ.
    invoked_further c.invoke_passed.result c.in-Ok-Passed.field-0 c.in-Ok-Passed.callee c.in-Ok-Passed.this c.in-Ok-Passed.args c.args.pos c.args.table.now.nodes ρ c.args.store.now c.invoke_once.new.store c.invoke_passed.new.store c.args.f (value_of c.args.this) c.args.args.now (g.S.Sink.told c.args.sink.now) (g.S.Sink.told c.invoke_once.new.sink) (g.S.Sink.told c.invoke_passed.new.sink)
    c.in-Ok-Passed.field-0-is (c.in-Ok-Passed.ensures.does (passed c.args.pos) ρ) (c.invoke_passed.ensures.does ρ)

pub returns-in-Err-clause-does : goal.returns-in-Err-clause-does
returns-in-Err-clause-does g c = λ ρ. invoke_is (Err c.in-Err.halt) c.args.pos c.args.table.now.nodes ρ c.args.store.now c.invoke_once.new.store c.args.f (value_of c.args.this) c.args.args.now (g.S.Sink.told c.args.sink.now) (g.S.Sink.told c.invoke_once.new.sink) (c.in-Err.ensures.does (passed c.args.pos) ρ)
