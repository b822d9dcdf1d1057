use Rattle.std.proofs.Common.{◌≡◌, ◌||◌, List, ℕ, drop}
use Rattle.name_set.specs.Names.{has}
use Rattle.name_set.proofs.set.NameSet.of.Given as goal

-- a name is in the set, or is one of those that are left
abbrev pub invariant-loop-i : goal.invariant-loop-i
invariant-loop-i l = (x : List ℕ) → (has l.set x || has (drop l.i l.fn.names) x) ≡ has l.fn.names x
