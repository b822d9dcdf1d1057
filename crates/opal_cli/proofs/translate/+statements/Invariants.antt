use Rattle.std.proofs.Common.{◌≡◌, ◌++◌, drop, map}
use Rattle.ruby_meaning.specs.Puts.{putting, all_texts}
use Rattle.opal_cli.specs.Translation.{statements, Of16Bits}
use Rattle.opal_cli.proofs.translate.+statements.Given as goal

abbrev pub invariant-add_all-loop-node : goal.invariant-add_all-loop-node
invariant-add_all-loop-node l = record {
  added : l.body ++ statements (all_texts (map putting (drop l.node-index l.node-items))) ≡ l.fn.body ++ statements (all_texts (map putting l.node-items));
  small : Of16Bits (all_texts (map putting (drop l.node-index l.node-items))) → Of16Bits (all_texts (map putting l.node-items));
}
