use Rattle.std.proofs.Common.{◌≡◌, drop, map}
use Rattle.ruby_meaning.specs.Grammar.Classes.{code_of}
use Rattle.descent.specs.Sets.{one_of, or_one_of}
use Rattle.ruby_reading.specs.Ahead.{codes}
use Rattle.ruby_reading.proofs.cursor.is_one_of.Given as goal

-- the classes that are left decide
abbrev pub invariant-loop-other : goal.invariant-loop-other
invariant-loop-other l = one_of (codes l.signs) (code_of l.fn.sign) ≡ or_one_of l.found (codes (drop l.other-index l.signs)) (code_of l.fn.sign)
