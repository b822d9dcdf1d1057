use Rattle.std.proofs.Common.{◌≡◌, drop, max, min, map}
use Rattle.ruby_meaning.specs.Depth.{highest, depth_of}
use Rattle.ruby_meaning.proofs.tree_depth.+depth.Given as goal

abbrev pub invariant-deepest-loop-node : goal.invariant-deepest-loop-node
invariant-deepest-loop-node l = max l.most (min (highest (map depth_of (drop l.node-index l.node-items))) 4294967295) ≡ min (highest (map depth_of l.node-items)) 4294967295
