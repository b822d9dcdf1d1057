use Rattle.std.proofs.Common.{◌≡◌, IfOk, sym, ap, ◌∙◌, subst}
use Rattle.es5_evaluation.specs.State.{value_in}
use Rattle.es5_evaluation.specs.Values.{or_undefined}
use Rattle.es5_objects.specs.Values.{value_of}
use Rattle.es5_store.proofs.Records.{record_here}
use Rattle.es5_steps.proofs.names.bound_value.Goals as goal

pub returns : goal.returns
returns c =
    subst (λ x. IfOk c.or_undefined.result (λ v. value_of v ≡ or_undefined x))
    (c.value.ensures ∙ ap (λ r. value_in r c.args.name.now) (sym (record_here c.args.records.now c.args.a c.index-records-a.result c.requires c.index-records-a.is)))
    c.or_undefined.ensures
