use Rattle.std.proofs.Common.{◌≡◌, ◌++◌, drop}
use Rattle.es5_evaluation.specs.Declared.{new_names}
use Rattle.es5_code.proofs.own.new_names.Given as goal

-- those behind are the new ones beside what was seen
abbrev pub invariant-loop-i : goal.invariant-loop-i
invariant-loop-i l = l.new ++ new_names l.seen (drop l.i l.fn.names) ≡ new_names l.fn.known l.fn.names
