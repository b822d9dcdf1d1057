use Rattle.es5_objects.specs.Values.{value_of}
use Rattle.es5_steps.proofs.PropertySteps.{no_holder}
use Rattle.es5_steps.proofs.properties.read_property.Goals as goal

pub returns-in-None-clause-does : goal.returns-in-None-clause-does
returns-in-None-clause-does c = λ T ρ. no_holder T ρ c.args.store.now c.type_error.new.store c.type_error.result (value_of c.args.base.now) c.args.name.now c.in-None.ensures (c.type_error.ensures.does T ρ)
