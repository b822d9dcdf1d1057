use Rattle.std.proofs.Common.{◌≡◌, ◌++◌, drop}
use Rattle.es5_evaluation.specs.Evaluate.{undefined_variables}
use Rattle.es5_making.proofs.activations.declare.Given as goal

abbrev pub invariant-loop-i : goal.invariant-loop-i
invariant-loop-i l = l.bindings ++ undefined_variables (drop l.i l.names) ≡ l.initial.bindings ++ undefined_variables (drop l.fn.from l.names)
