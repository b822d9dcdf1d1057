use Rattle.std.proofs.Common.{◌≡◌, take}
use Rattle.es5_host.specs.Items.{values}
use Rattle.es5_host.proofs.function.share_all.Given as goal

abbrev pub invariant-loop-value : goal.invariant-loop-value
invariant-loop-value l = l.list ≡ values (take l.value-index l.items)
