use Rattle.es5_host.proofs.Making.{on_ok}
use Rattle.es5_making.proofs.Binding.{bound_object}
use Rattle.es5_making.proofs.activations.bind_arguments.Goals as goal

pub returns-in_ok-word_units-in-Some : goal.returns-in_ok-word_units-in-Some
returns-in_ok-word_units-in-Some c = on_ok c.push.result _ _
    (λ e. bound_object c.args.bindings.now c.push.new.self c.in_ok-word_units-in-Some.field-0 c.in-Some.o c.args.arguments c.in-Some.is c.in_ok-word_units-in-Some.ensures e)
    c.push.ensures.ok
