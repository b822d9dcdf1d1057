use Rattle.std.proofs.Common.{◌∙◌, ap, slice_get, sym, true, false}
use Rattle.es5_objects.specs.Values.{value_of}
use Rattle.es5_making.proofs.CallSteps.{enters}
use Rattle.es5_making.proofs.calls.enter.Goals as goal

pub returns-then-function-clause-does : goal.returns-then-function-clause-does
returns-then-function-clause-does c = λ ρ.
    let at = ap (λ xs. slice_get xs c.args.code) (sym c.deref.ensures.value) ∙ (sym c.node_of.ensures ∙ c.in-Some.is) in
    let found = c.in-Some-function.ensures in
    enters c.args.table.now.nodes ρ c.args.store.now c.enter_listed.new.store c.enter_listed.result c.args.store.now.codes.items c.args.code c.in-Some.node c.in-Some-function.function.now true c.args.f c.args.outer (value_of c.args.this) c.args.args.now
    at found.0 found.1 c.if-function.true (c.enter_listed.ensures.does c.args.table.now.nodes ρ found.1)

pub returns-else-function-clause-does : goal.returns-else-function-clause-does
returns-else-function-clause-does c = λ ρ.
    let at = ap (λ xs. slice_get xs c.args.code) (sym c.deref.ensures.value) ∙ (sym c.node_of.ensures ∙ c.in-Some.is) in
    let found = c.in-Some-function.ensures in
    enters c.args.table.now.nodes ρ c.args.store.now c.enter_record.new.store c.enter_record.result c.args.store.now.codes.items c.args.code c.in-Some.node c.in-Some-function.function.now false c.args.f c.args.outer (value_of c.args.this) c.args.args.now
    at found.0 found.1 c.if-function.false (c.enter_record.ensures.does c.args.table.now.nodes ρ found.1)
