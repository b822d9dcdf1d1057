use Rattle.std.proofs.Common.{rules, ◌≡◌, ◌≤◌, ◌∙◌, ◌+◌, ◌-◌, ◌++◌, ◌∷◌, ℕ, List, Option, ap, refl, sym, subst, map, drop, get_or, Some, drop_of_length-le}
use Rattle.std.proofs.lemmas.List.{get_or_default}
use Rattle.es5_tree.specs.Values.{Val}
use Rattle.es5_tree.specs.Objects.Names.{decimal}
use Rattle.es5_tree.specs.Objects.Links.{chain, get}
use Rattle.es5_objects.specs.Along.{indices_along}
use Rattle.es5_host.specs.Items.{element}
use Rattle.es5_host.proofs.Elements.{at_step}
use Rattle.es5_host.proofs.LeftOut.{walk, walk_over, walk_takes, walk_passes, goes_past}
use Rattle.es5_host.proofs.present.present_at_some.Goals as goal
use Rattle.es5_host.proofs.present.present_at_some.Goals.{then-is_within+in_ok-push_present, else-is_within}

pub loop-index-init : goal.loop-index-init
loop-index-init c = search rules

pub loop-index-preserved : goal.loop-index-preserved
loop-index-preserved c =
    let f : ℕ → Option Val = λ i. get c.args.heap.now.cells c.args.o (decimal i) in
    let k : ℕ = get_or c.args.indices.now c.loop-index.index-index 0 in
    let rest : List ℕ = drop (c.loop-index.index-index + 1) c.args.indices.now in
    let end : ℕ = c.args.from + c.args.count in
    let step : drop c.loop-index.index-index c.args.indices.now ≡ k ∷ rest = at_step c.args.indices.now c.loop-index.index-index k c.loop-index-test.true (get_or_default c.args.indices.now c.loop-index.index-index 0 k c.loop-index-test.true) in
    elim c.if-is_within.branch [
      | then-is_within+in_ok-push_present w ↦ record {
        from = goes_past c.loop-index.at k end c.args.from c.if-is_within.at (sym c.is_within.ensures ∙ w.if-is_within.true) c.loop-index.invariant.from w.at-is;
        found = ap (λ x. map element x.items ++ walk f c.args.from c.if-is_within.at end rest) w.items-is
            ∙ (ap (λ n. map element w.push_present.new.items.items ++ walk f c.args.from n end rest) w.at-is
            ∙ walk_takes f c.args.from c.loop-index.at end k (k - c.args.from) _ rest (map element c.loop-index.items.items) (map element w.push_present.new.items.items) _ step c.loop-index.invariant.found (sym c.is_within.ensures ∙ w.if-is_within.true) w.in_ok-push_present.ensures refl c.loop-index.invariant.from);
      }
      | else-is_within w ↦ record {
        from = subst (λ n. c.args.from ≤ n) (sym w.at-is) c.loop-index.invariant.from;
        found = ap (λ x. map element x.items ++ walk f c.args.from c.if-is_within.at end rest) w.items-is
            ∙ (ap (λ n. map element c.loop-index.items.items ++ walk f c.args.from n end rest) w.at-is
            ∙ walk_passes f c.args.from c.loop-index.at end k _ rest (map element c.loop-index.items.items) _ step c.loop-index.invariant.found (sym c.is_within.ensures ∙ w.if-is_within.false));
      }
    ]

pub returns : goal.returns
returns c = walk_over c.args.heap.now.cells c.args.o c.args.from c.args.count (c.args.from + c.args.count) c.loop-index.at c.args.indices.now (drop c.loop-index.index-index c.args.indices.now) (indices_along c.args.heap.now.cells (chain c.args.heap.now.cells (Some c.args.o))) (map element c.loop-index.items.items) (drop_of_length-le c.args.indices.now c.loop-index-test.false) c.requires.rising refl c.requires.end c.requires.others c.loop-index.invariant.found
