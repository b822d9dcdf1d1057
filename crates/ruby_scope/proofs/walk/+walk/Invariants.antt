use Rattle.std.proofs.Common.{◌≡◌, ◌++◌, drop, map, None}
use Rattle.ruby_meaning.specs.Scoping.Walk.{part, all, in_turn, defaults_in_turn}
use Rattle.ruby_scope.proofs.walk.+walk.Given as goal

abbrev pub invariant-walk_all-loop-node : goal.invariant-walk_all-loop-node
invariant-walk_all-loop-node l = record {
  seen : (all (map (part None) (drop l.node-index l.node-items)) l.around l.seen).seen ≡ (all (map (part None) l.node-items) l.around l.fn.seen).seen;
  made : l.made ++ (all (map (part None) (drop l.node-index l.node-items)) l.around l.seen).made ≡ (all (map (part None) l.node-items) l.around l.fn.seen).made;
}

abbrev pub invariant-walk_pairs-loop-key : goal.invariant-walk_pairs-loop-key
invariant-walk_pairs-loop-key l =
    let rest = in_turn (map (part None) (drop l.key-index l.key-items)) (map (part None) (drop l.i l.values)) l.inner l.seen in
    let whole = in_turn (map (part None) l.key-items) (map (part None) l.values) l.inner l.fn.seen in
    record {
      seen : rest.seen ≡ whole.seen;
      keys : l.made_keys ++ rest.made.0 ≡ whole.made.0;
      values : l.made_values ++ rest.made.1 ≡ whole.made.1;
    }

abbrev pub invariant-walk_defaults-loop-value : goal.invariant-walk_defaults-loop-value
invariant-walk_defaults-loop-value l = record {
  seen : (defaults_in_turn l.mark (drop l.i l.names) (map (part None) (drop l.value-index l.value-items)) l.around l.seen).seen
      ≡ (defaults_in_turn l.mark l.names (map (part None) l.value-items) l.around l.fn.seen).seen;
  made : l.made ++ (defaults_in_turn l.mark (drop l.i l.names) (map (part None) (drop l.value-index l.value-items)) l.around l.seen).made
      ≡ (defaults_in_turn l.mark l.names (map (part None) l.value-items) l.around l.fn.seen).made;
}
