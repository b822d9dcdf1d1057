use Rattle.std.proofs.Common.{◌≡◌, ◌<◌, drop}
use Rattle.es5_tree.specs.Objects.Names.{number_of, index_end}
use Rattle.es5_objects.proofs.Digits.{number_after}
use Rattle.es5_objects.proofs.index.index_of.Given as goal

abbrev pub invariant-loop-unit : goal.invariant-loop-unit
invariant-loop-unit l = record { small : l.number < index_end; same : number_of l.name ≡ number_after l.number (drop l.unit-index l.name) }
