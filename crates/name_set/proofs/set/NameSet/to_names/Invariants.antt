use Rattle.std.proofs.Common.{◌≡◌, ◌++◌, drop}
use Rattle.name_set.specs.Names.{names}
use Rattle.name_set.proofs.set.NameSet.to_names.Given as goal

-- the names so far, and those of the keys that are left
abbrev pub invariant-loop-key : goal.invariant-loop-key
invariant-loop-key l = l.names ++ names (drop l.key-index l.key-items) ≡ l.fn.self
