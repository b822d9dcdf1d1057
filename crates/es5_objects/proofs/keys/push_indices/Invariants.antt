use Rattle.std.proofs.Common.{◌≡◌, ◌++◌, map, drop}
use Rattle.es5_tree.specs.Objects.Names.{decimal}
use Rattle.es5_objects.proofs.keys.push_indices.Given as goal

abbrev pub invariant-loop-number : goal.invariant-loop-number
invariant-loop-number l = l.fn.names ++ map decimal l.numbers ≡ l.names ++ map decimal (drop l.number-index l.numbers)
