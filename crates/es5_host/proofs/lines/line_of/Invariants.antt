use Rattle.std.proofs.Common.{◌≡◌, ◌++◌, take, drop}
use Rattle.es5_tree.specs.Intrinsics.Lines.{line_of}
use Rattle.es5_host.proofs.lines.line_of.Given as goal

abbrev pub invariant-loop-i : goal.invariant-loop-i
invariant-loop-i l = line_of l.text ≡ take l.i l.text ++ line_of (drop l.i l.text)
