use Rattle.std.proofs.Common.{◌++◌, ◌+◌, ◌∙◌, sym, ap, drop, filter, append-nil}
use Rattle.es5_tree.specs.Objects.Cells.{is_other_name}
use Rattle.es5_objects.specs.Values.{kind_of}
use Rattle.es5_objects.specs.Properties.{name_of, names}
use Rattle.es5_objects.proofs.Loops.{at_step, past_end}
use Rattle.es5_objects.proofs.Listed.{other_here, other_later, moved}
use Rattle.es5_objects.proofs.keys.push_others.Goals as goal
use Rattle.es5_objects.proofs.keys.push_others.Goals.{then-is_other_name+in_ok-copy+in_ok-push, else-is_other_name}

pub loop-key-preserved : goal.loop-key-preserved
loop-key-preserved c =
    let others = filter (is_other_name (kind_of c.args.kind)) in
    let step = at_step c.args.keys.now c.loop-key.key-index c.key-item.result c.loop-key-test.true c.key-item.is in
    let list = c.loop-key.list in
    let later = names (drop (c.loop-key.key-index + 1) c.args.keys.now) in
    elim c.if-is_other_name.branch [
      | then-is_other_name+in_ok-copy+in_ok-push w ↦
          c.loop-key.invariant
          ∙ (ap (λ keys. list ++ others (names keys)) step
          ∙ (ap (λ ns. list ++ ns) (other_here (kind_of c.args.kind) (name_of c.key-item.result) later (cc (c.is_other_name.ensures, c.as_slice.ensures.value, w.if-is_other_name.true)))
          ∙ (moved list (name_of c.key-item.result) (others later)
          ∙ ap (λ ns. ns ++ others later) (cc (w.in_ok-push.ensures.ok, w.list-is, w.in_ok-copy.ensures)))))
      | else-is_other_name w ↦
          c.loop-key.invariant
          ∙ (ap (λ keys. list ++ others (names keys)) step
          ∙ (ap (λ ns. list ++ ns) (other_later (kind_of c.args.kind) (name_of c.key-item.result) later (cc (c.is_other_name.ensures, c.as_slice.ensures.value, w.if-is_other_name.false)))
          ∙ ap (λ v. v ++ others later) (sym w.list-is)))
    ]

pub returns : goal.returns
returns c = sym (c.loop-key.invariant
    ∙ (ap (λ keys. c.loop-key.list ++ filter (is_other_name (kind_of c.args.kind)) (names keys)) (past_end c.args.keys.now c.loop-key.key-index c.loop-key-test.false)
    ∙ append-nil c.loop-key.list))
