use Rattle.std.proofs.Common.{◌≡◌, [], ◌∷◌, ◌++◌, drop}
use Rattle.std.specs.List.{flat_map}
use Rattle.es5_tree.specs.Text.{escaped}
use Rattle.es5_printer.proofs.literals.literal_of.Given as goal

abbrev pub invariant-loop-unit : goal.invariant-loop-unit
invariant-loop-unit l = l.out ++ flat_map escaped (drop l.unit-index l.unit-items) ≡ (34 ∷ []) ++ flat_map escaped l.unit-items
