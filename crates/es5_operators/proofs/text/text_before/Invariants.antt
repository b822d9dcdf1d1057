use Rattle.std.proofs.Common.{◌≡◌, drop}
use Rattle.es5_evaluation.specs.Values.{text_before}
use Rattle.es5_operators.proofs.text.text_before.Given as goal

abbrev pub invariant-loop-i : goal.invariant-loop-i
invariant-loop-i l = text_before l.fn.s l.fn.t ≡ text_before (drop l.i l.fn.s) (drop l.i l.fn.t)
