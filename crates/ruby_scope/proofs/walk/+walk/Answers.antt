use Rattle.std.proofs.Common.{◌≤◌, ◌∷◌, ◌+◌, length, drop, sym, ap, ◌∙◌, arith, None}
use Rattle.ruby_meaning.specs.Scoping.Walk.{part}
use Rattle.ruby_meaning.proofs.Scoping.Lists.{drop_at}
use Rattle.ruby_scope.proofs.Defaults.{at_step, past_end, named_seen, named_made, unnamed_seen, unnamed_made}
use Rattle.ruby_scope.proofs.walk.+walk.Goals as goal
use Rattle.ruby_scope.proofs.walk.+walk.Goals.{walk_defaults-then-i-len+in_ok-parameter, walk_defaults-else-i-len}

pub walk_defaults-loop-value-preserved : goal.walk_defaults-loop-value-preserved
walk_defaults-loop-value-preserved t c =
    let items = c.as_slice-value-items.result.now in
    let k = c.loop-value.value-index in
    let names = c.args.names.now in
    let i = c.loop-value.i in
    let x = c.value-item.result in
    let step = at_step items k x c.loop-value-test.true c.value-item.is in
    elim c.if-i-len.branch [
      | walk_defaults-then-i-len+in_ok-parameter w ↦
          let named = drop_at names i w.at.result.now w.at.ensures ∙ ap (λ j. w.at.result.now ∷ drop j names) (sym w.i-is) in
          let seen = w.seen-is ∙ w.in_ok-parameter.ensures in
          record {
            seen = named_seen c.args.mark c.args.around (drop i names) (drop c.if-i-len.i names) w.at.result.now (drop k items) (drop (k + 1) items) x
                c.loop-value.seen c.if-i-len.seen c.walk_node.new.seen named step seen c.in_ok-value.ensures.seen
                ∙ c.loop-value.invariant.seen;
            made = named_made c.args.mark c.args.around (drop i names) (drop c.if-i-len.i names) w.at.result.now (drop k items) (drop (k + 1) items) x
                c.loop-value.seen c.if-i-len.seen c.walk_node.new.seen c.loop-value.made c.push.new.nodes c.in_ok-value.value
                named step seen c.in_ok-value.ensures.seen c.in_ok-value.ensures.made c.in_ok-push.ensures
                ∙ c.loop-value.invariant.made;
          }
      | walk_defaults-else-i-len w ↦
          let over : length names ≤ i = omega (arith, c.len.ensures, w.if-i-len.false) in
          let none = past_end names i over in
          let seen = c.in_ok-value.ensures.seen ∙ ap (λ s. ((part None x).walk c.args.around s).seen) w.seen-is in
          let made = c.in_ok-value.ensures.made ∙ ap (λ s. ((part None x).walk c.args.around s).made) w.seen-is in
          rw w.i-is (record {
            seen = unnamed_seen c.args.mark c.args.around (drop i names) (drop k items) (drop (k + 1) items) x
                c.loop-value.seen c.walk_node.new.seen none step seen
                ∙ c.loop-value.invariant.seen;
            made = unnamed_made c.args.mark c.args.around (drop i names) (drop k items) (drop (k + 1) items) x
                c.loop-value.seen c.walk_node.new.seen c.loop-value.made c.push.new.nodes c.in_ok-value.value
                none step seen made c.in_ok-push.ensures
                ∙ c.loop-value.invariant.made;
          })
    ]
