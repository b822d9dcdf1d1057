use Rattle.std.proofs.Common.{◌≡◌, map, take, Some}
use Rattle.es5_tree.specs.Values.{Str}
use Rattle.es5_objects.specs.Values.{value_if}
use Rattle.es5_host.proofs.element.name_elements.Given as goal

abbrev pub invariant-loop-i : goal.invariant-loop-i
invariant-loop-i l = map value_if l.items.items ≡ map (λ name. Some (Str name)) (take l.i l.names)
