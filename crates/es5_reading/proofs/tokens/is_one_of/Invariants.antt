use Rattle.std.proofs.Common.{◌≡◌, drop}
use Rattle.es5_tree.specs.Grammar.Terminals.{code_of}
use Rattle.descent.specs.Sets.{one_of, or_one_of}
use Rattle.es5_reading.specs.Gives.{codes}
use Rattle.es5_reading.proofs.tokens.is_one_of.Given as goal

-- the terminals that are left decide
abbrev pub invariant-loop-other : goal.invariant-loop-other
invariant-loop-other l = one_of (codes l.terminals) (code_of l.fn.terminal) ≡ or_one_of l.found (codes (drop l.other-index l.terminals)) (code_of l.fn.terminal)
