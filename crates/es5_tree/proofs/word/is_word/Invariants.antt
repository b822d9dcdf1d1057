use Rattle.std.proofs.Common.{◌≡◌, bytes_eq, length}
use Rattle.es5_tree.proofs.word.is_word.Given as goal

abbrev pub invariant-units : goal.invariant-units
invariant-units l = bytes_eq l.bytes l.units ≡ bytes_eq l.initial.bytes l.initial.units

abbrev pub decreases-units : goal.decreases-units
decreases-units l = length l.bytes
