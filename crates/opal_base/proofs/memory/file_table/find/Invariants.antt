use Rattle.std.proofs.Common.{◌≡◌, length}
use Rattle.opal_base.specs.Memory.{file_map}
use Rattle.opal_base.proofs.memory.file_table.find.Given as goal

abbrev pub invariant-loop-rest : goal.invariant-loop-rest
invariant-loop-rest l = file_map l.entries l.name ≡ file_map l.rest l.name

abbrev pub decreases-loop-rest : goal.decreases-loop-rest
decreases-loop-rest l = length l.rest
