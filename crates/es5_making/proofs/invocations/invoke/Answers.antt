use Rattle.std.proofs.Common.{sym, subst}
use Rattle.es5_objects.specs.Values.{value_of}
use Rattle.es5_making.proofs.InvokeSteps.{IsNoObject, invoked_none}
use Rattle.es5_making.proofs.invocations.invoke.Goals as goal

pub returns-in-Undefined-clause-does : goal.returns-in-Undefined-clause-does
returns-in-Undefined-clause-does g c = λ ρ.
    invoked_none c.no_function.result (value_of c.args.function.now) c.args.pos c.args.table.now.nodes ρ c.args.store.now c.no_function.new.store (value_of c.args.this) c.args.args (g.S.Sink.told c.args.sink.now) (g.S.Sink.told c.args.sink.now)
    (subst (λ v. IsNoObject (value_of v)) (sym c.in-Undefined.is) tt) (c.no_function.ensures.does c.args.table.now.nodes ρ (g.S.Sink.told c.args.sink.now))

pub returns-in-Null-clause-does : goal.returns-in-Null-clause-does
returns-in-Null-clause-does g c = λ ρ.
    invoked_none c.no_function-in-Null.result (value_of c.args.function.now) c.args.pos c.args.table.now.nodes ρ c.args.store.now c.no_function-in-Null.new.store (value_of c.args.this) c.args.args (g.S.Sink.told c.args.sink.now) (g.S.Sink.told c.args.sink.now)
    (subst (λ v. IsNoObject (value_of v)) (sym c.in-Null.is) tt) (c.no_function-in-Null.ensures.does c.args.table.now.nodes ρ (g.S.Sink.told c.args.sink.now))

pub returns-in-Bool-clause-does : goal.returns-in-Bool-clause-does
returns-in-Bool-clause-does g c = λ ρ.
    invoked_none c.no_function-in-Bool.result (value_of c.args.function.now) c.args.pos c.args.table.now.nodes ρ c.args.store.now c.no_function-in-Bool.new.store (value_of c.args.this) c.args.args (g.S.Sink.told c.args.sink.now) (g.S.Sink.told c.args.sink.now)
    (subst (λ v. IsNoObject (value_of v)) (sym c.in-Bool.is) tt) (c.no_function-in-Bool.ensures.does c.args.table.now.nodes ρ (g.S.Sink.told c.args.sink.now))

pub returns-in-Num-clause-does : goal.returns-in-Num-clause-does
returns-in-Num-clause-does g c = λ ρ.
    invoked_none c.no_function-in-Num.result (value_of c.args.function.now) c.args.pos c.args.table.now.nodes ρ c.args.store.now c.no_function-in-Num.new.store (value_of c.args.this) c.args.args (g.S.Sink.told c.args.sink.now) (g.S.Sink.told c.args.sink.now)
    (subst (λ v. IsNoObject (value_of v)) (sym c.in-Num.is) tt) (c.no_function-in-Num.ensures.does c.args.table.now.nodes ρ (g.S.Sink.told c.args.sink.now))

pub returns-in-Str-clause-does : goal.returns-in-Str-clause-does
returns-in-Str-clause-does g c = λ ρ.
    invoked_none c.no_function-in-Str.result (value_of c.args.function.now) c.args.pos c.args.table.now.nodes ρ c.args.store.now c.no_function-in-Str.new.store (value_of c.args.this) c.args.args (g.S.Sink.told c.args.sink.now) (g.S.Sink.told c.args.sink.now)
    (subst (λ v. IsNoObject (value_of v)) (sym c.in-Str.is) tt) (c.no_function-in-Str.ensures.does c.args.table.now.nodes ρ (g.S.Sink.told c.args.sink.now))
