use Rattle.std.proofs.Common.{◌≡◌, drop}
use Rattle.es5_tree.specs.Intrinsics.Rows.{first_place}
use Rattle.es5_host.proofs.text.first_place.Given as goal

abbrev pub invariant-loop-at : goal.invariant-loop-at
invariant-loop-at l = first_place l.part l.from (drop l.from l.text) ≡ first_place l.part l.at (drop l.at l.text)
