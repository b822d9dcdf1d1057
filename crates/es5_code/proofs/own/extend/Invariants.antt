use Rattle.std.proofs.Common.{◌≡◌, ◌++◌, drop}
use Rattle.es5_code.proofs.own.extend.Given as goal

abbrev pub invariant-loop-i : goal.invariant-loop-i
invariant-loop-i l = l.names ++ drop l.i l.fn.more ≡ l.initial.names ++ l.fn.more
