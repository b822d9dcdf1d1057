use Rattle.std.proofs.Common.{◌≡◌, ◌<◌, length, IfSome, sym, ap, ◌∙◌, subst}
use Rattle.es5_evaluation.specs.State.{Activation}
use Rattle.es5_host.specs.Bindings.{place_of}
use Rattle.es5_store.proofs.Records.{record_here}
use Rattle.es5_steps.proofs.names.variable.Goals as goal

pub returns-clause-place : goal.returns-clause-place
returns-clause-place c = c.find.ensures.place ∙ ap (λ (y : Activation). place_of y.variables c.args.name.now) (sym (record_here c.args.records.now c.args.a c.index-records-a.result c.requires c.index-records-a.is))

pub returns-clause-within : goal.returns-clause-within
returns-clause-within c = subst (λ (y : Activation). IfSome c.find.result (λ i. i < length y.variables)) (sym (record_here c.args.records.now c.args.a c.index-records-a.result c.requires c.index-records-a.is)) c.find.ensures.within
