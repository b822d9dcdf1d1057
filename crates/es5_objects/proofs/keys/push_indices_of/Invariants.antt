use Rattle.std.proofs.Common.{◌≡◌, ◌++◌, drop}
use Rattle.std.specs.List.{filter_map}
use Rattle.es5_tree.specs.Objects.Names.{index_of}
use Rattle.es5_objects.specs.Properties.{names}
use Rattle.es5_objects.proofs.keys.push_indices_of.Given as goal

abbrev pub invariant-loop-key : goal.invariant-loop-key
invariant-loop-key l = l.fn.found.items ++ filter_map index_of (names l.keys) ≡ l.found.items ++ filter_map index_of (names (drop l.key-index l.keys))
