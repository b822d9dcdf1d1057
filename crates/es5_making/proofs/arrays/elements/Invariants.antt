use Rattle.std.proofs.Common.{◌≡◌, map, take, Some}
use Rattle.es5_objects.specs.Values.{value_if}
use Rattle.es5_making.proofs.arrays.elements.Given as goal

abbrev pub invariant-loop-i : goal.invariant-loop-i
invariant-loop-i l = map value_if l.items.items ≡ map (λ v. Some v) (take l.i l.values)
