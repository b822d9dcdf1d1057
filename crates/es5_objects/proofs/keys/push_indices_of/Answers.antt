use Rattle.std.proofs.Common.{◌++◌, ◌+◌, ◌∙◌, sym, ap, drop, append-nil}
use Rattle.std.specs.List.{filter_map}
use Rattle.es5_tree.specs.Objects.Names.{index_of}
use Rattle.es5_objects.specs.Properties.{name_of, names}
use Rattle.es5_objects.proofs.Loops.{at_step, past_end}
use Rattle.es5_objects.proofs.Listed.{index_here, index_later, moved}
use Rattle.es5_objects.proofs.keys.push_indices_of.Goals as goal
use Rattle.es5_objects.proofs.keys.push_indices_of.Goals.{in-Some+in_ok-append, in_default}

pub loop-key-preserved : goal.loop-key-preserved
loop-key-preserved c =
    let step = at_step c.args.keys.now c.loop-key.key-index c.key-item.result c.loop-key-test.true c.key-item.is in
    let found = c.loop-key.found.items in
    let later = names (drop (c.loop-key.key-index + 1) c.args.keys.now) in
    elim c.match-index_of.branch [
      | in-Some+in_ok-append w ↦
          c.loop-key.invariant
          ∙ (ap (λ keys. found ++ filter_map index_of (names keys)) step
          ∙ (ap (λ ns. found ++ ns) (index_here (name_of c.key-item.result) later w.in-Some.index (cc (c.index_of.ensures.index, c.as_slice.ensures.value, w.in-Some.is)))
          ∙ (moved found w.in-Some.index (filter_map index_of later)
          ∙ ap (λ ns. ns ++ filter_map index_of later) (cc (w.in_ok-append.ensures.ok, w.found-is)))))
      | in_default w ↦
          c.loop-key.invariant
          ∙ (ap (λ keys. found ++ filter_map index_of (names keys)) step
          ∙ (ap (λ ns. found ++ ns) (index_later (name_of c.key-item.result) later (cc (c.index_of.ensures.index, c.as_slice.ensures.value, w.in_default.is)))
          ∙ ap (λ v. v.items ++ filter_map index_of later) (sym w.found-is)))
    ]

pub returns : goal.returns
returns c = sym (c.loop-key.invariant
    ∙ (ap (λ keys. c.loop-key.found.items ++ filter_map index_of (names keys)) (past_end c.args.keys.now c.loop-key.key-index c.loop-key-test.false)
    ∙ append-nil c.loop-key.found.items))
