use Rattle.std.proofs.Common.{◌≡◌, ap₂, ◌∙◌}
use Rattle.es5_evaluation.specs.State.{binding, record_at, value_in}
use Rattle.es5_evaluation.specs.Values.{or_undefined}
use Rattle.es5_objects.specs.Values.{value_of}
use Rattle.es5_store.specs.Store.{records_of}
use Rattle.es5_steps.proofs.NameSteps.{type_found}
use Rattle.es5_steps.proofs.names.type_of_name.Goals as goal

pub returns-in-Ok-bound_value-clause-does : goal.returns-in-Ok-bound_value-clause-does
returns-in-Ok-bound_value-clause-does c = λ T ρ.
    type_found T ρ c.args.store.now c.type_of.new.store c.type_of.result c.args.r c.in-Some.a c.args.name.now (value_of c.in-Ok-bound_value.value)
    (c.in-Some.ensures.binding ∙ ap₂ (λ x y. binding (records_of x) c.args.r y) c.deref.ensures.value c.units.ensures)
    (c.in-Ok-bound_value.ensures ∙ ap₂ (λ x y. or_undefined (value_in (record_at (records_of x) c.in-Some.a) y)) c.deref-in-Some.ensures.value c.units-in-Some.ensures)
    (c.type_of.ensures.does T ρ)
