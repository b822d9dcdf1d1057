use Rattle.std.proofs.Common.{◌≡◌, ◌++◌, drop, filter}
use Rattle.es5_tree.specs.Objects.Cells.{is_other_name}
use Rattle.es5_objects.specs.Values.{kind_of}
use Rattle.es5_objects.specs.Properties.{names}
use Rattle.es5_objects.proofs.keys.push_others.Given as goal

abbrev pub invariant-loop-key : goal.invariant-loop-key
invariant-loop-key l = l.fn.list ++ filter (is_other_name (kind_of l.kind)) (names l.keys) ≡ l.list ++ filter (is_other_name (kind_of l.kind)) (names (drop l.key-index l.keys))
