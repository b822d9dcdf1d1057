use Rattle.std.proofs.Common.{◌++◌, Some, ap, refl, ◌∙◌}
use Rattle.es5_making.specs.Calls.{arguments_bound}
use Rattle.es5_making.proofs.Binding.{whole_record}
use Rattle.es5_making.proofs.activations.activation.Goals as goal

pub returns : goal.returns
returns c = λ T d.
    whole_record T c.args.function.now (record { variables = c.declare.new.bindings; constants = c.in_ok-constants.constants; outer = Some c.args.outer })
    c.args.f c.args.outer c.args.args.now c.args.arguments c.bind_arguments.new.bindings c.len-known.result d c.requires
    (c.in_ok-bind_arguments.ensures ∙ ap (λ xs. xs ++ arguments_bound c.args.arguments) c.in_ok-variables.ensures)
    c.len-known.ensures c.in_ok-declare.ensures c.in_ok-constants.ensures refl
