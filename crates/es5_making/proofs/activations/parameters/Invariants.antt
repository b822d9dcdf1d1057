use Rattle.std.proofs.Common.{◌≡◌, ◌++◌, drop}
use Rattle.es5_evaluation.specs.Evaluate.{bound_params}
use Rattle.es5_making.proofs.activations.parameters.Given as goal

abbrev pub invariant-loop-i : goal.invariant-loop-i
invariant-loop-i l = l.bindings ++ bound_params (drop l.i l.params) (drop l.i l.args) ≡ bound_params l.params l.args
