use Rattle.std.proofs.Common.{◌≡◌, ◌<◌, length, set, sym, ap, ◌∙◌, subst}
use Rattle.es5_evaluation.specs.State.{record_at}
use Rattle.es5_host.specs.Bindings.{place_of}
use Rattle.es5_objects.specs.Values.{value_of}
use Rattle.es5_store.specs.Store.{records_of}
use Rattle.es5_steps.specs.Values.{with_value}
use Rattle.es5_steps.proofs.NameSteps.{constant_in, variable_in, written_back}
use Rattle.es5_steps.proofs.names.write_in.Goals as goal

pub returns-in-None-clause-does : goal.returns-in-None-clause-does
returns-in-None-clause-does c = λ T ρ.
    constant_in T ρ c.args.store.now c.type_error.new.store c.type_error.result c.args.a (record_at (records_of c.args.store.now.records.items) c.args.a) c.args.name.now (value_of c.args.value)
    (c.in-None.ensures.place ∙ ap (λ x. place_of (record_at (records_of x) c.args.a).variables c.args.name.now) c.deref.ensures.value)
    (c.type_error.ensures.does T ρ)

pub returns-in-Ok-clause-does : goal.returns-in-Ok-clause-does
returns-in-Ok-clause-does c = λ T ρ.
    let old = c.args.store.now.records.items in
    variable_in T c.args.store.now _ c.args.a c.in-Some.i (record_at (records_of old) c.args.a) c.args.name.now (value_of c.args.value) (value_of c.in-Ok.written)
    (c.in-Some.ensures.place ∙ ap (λ x. place_of (record_at (records_of x) c.args.a).variables c.args.name.now) c.deref.ensures.value)
    (subst (λ x. c.in-Some.i < length (record_at (records_of x) c.args.a).variables) c.deref.ensures.value c.in-Some.ensures.within)
    (ap value_of c.in-Ok.ensures)
    (ap records_of (written_back c.assign.new.records old c.args.store.now.records.len (c.assign.ensures.count ∙ ap (λ x. length x) c.deref_mut.ensures.value) (sym c.deref_mut.ensures.len ∙ ap (λ x. length x) c.deref_mut.ensures.value))
    ∙ (c.assign.ensures.changed ∙ ap (λ x. set (records_of x) c.args.a (with_value (record_at (records_of x) c.args.a) c.in-Some.i (value_of c.in-Ok.written))) c.deref_mut.ensures.value))
