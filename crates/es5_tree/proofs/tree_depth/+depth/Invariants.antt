use Rattle.std.proofs.Common.{◌≡◌, drop, max, min, map}
use Rattle.es5_tree.specs.Depth.{highest, expr_depth, stmt_depth}
use Rattle.es5_tree.proofs.tree_depth.+depth.Given as goal

abbrev pub invariant-deepest-loop-expr : goal.invariant-deepest-loop-expr
invariant-deepest-loop-expr l = max l.most (min (highest (map expr_depth (drop l.expr-index l.expr-items))) 4294967295) ≡ min (highest (map expr_depth l.expr-items)) 4294967295

abbrev pub invariant-deepest_stmt-loop-stmt : goal.invariant-deepest_stmt-loop-stmt
invariant-deepest_stmt-loop-stmt l = max l.most (min (highest (map stmt_depth (drop l.stmt-index l.stmt-items))) 4294967295) ≡ min (highest (map stmt_depth l.stmt-items)) 4294967295
