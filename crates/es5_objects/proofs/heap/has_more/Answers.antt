use Rattle.std.proofs.Common.{◌∙◌, ◌<◌, ◌≤◌, ◌-◌, ◌+◌, ap, sym, subst, length, nat_lt, Some, None}
use Rattle.es5_tree.specs.Objects.Links.{first_of_chain}
use Rattle.es5_objects.specs.Along.{count_along}
use Rattle.es5_objects.proofs.Heaps.{cell_is, link_leads}
use Rattle.es5_objects.proofs.Along.{count_starts, count_stops, count_goes_on, count_ends, count_over}
use Rattle.es5_objects.proofs.heap.has_more.Goals as goal

pub loop-turn-init : goal.loop-turn-init
loop-turn-init c = record { object = c.requires.object; same = ap (nat_lt c.args.most) (count_starts c.args.cells.now c.args.o) }

pub returns-then-left-len : goal.returns-then-left-len
returns-then-left-len c =
    let here = cell_is c.args.cells.now c.loop-turn.at c.index-cells-at.result c.index-cells-at.is c.loop-turn.invariant.object in
    count_stops c.args.cells.now c.loop-turn.at c.loop-turn.turn (length c.args.cells.now) c.loop-turn.left c.index-cells-at.result _ c.loop-turn.invariant.same c.loop-turn-test.true here (subst (λ n. c.loop-turn.left < n) c.len.ensures c.if-left-len.true)

pub loop-turn-preserved : goal.loop-turn-preserved
loop-turn-preserved c =
    let here = cell_is c.args.cells.now c.loop-turn.at c.index-cells-at.result c.index-cells-at.is c.loop-turn.invariant.object in
    let to = sym c.link.ensures ∙ c.in-Some.is in
    record {
      object = link_leads c.args.cells.now c.loop-turn.at c.index-cells-at.result c.in-Some.next c.requires.links here to;
      same = count_goes_on c.args.cells.now c.loop-turn.at c.loop-turn.turn (length c.args.cells.now) c.loop-turn.left c.index-cells-at.result (Some c.in-Some.next) _ c.loop-turn.invariant.same c.loop-turn-test.true here to (subst (λ n. n ≤ c.loop-turn.left) c.len.ensures c.if-left-len.false)
          ∙ ap (λ n. nat_lt (c.loop-turn.left - n) (count_along c.args.cells.now (first_of_chain (length c.args.cells.now - (c.loop-turn.turn + 1)) c.args.cells.now (Some c.in-Some.next)))) (sym c.len-left.ensures);
    }

pub returns-in-None : goal.returns-in-None
returns-in-None c =
    let here = cell_is c.args.cells.now c.loop-turn.at c.index-cells-at.result c.index-cells-at.is c.loop-turn.invariant.object in
    count_ends c.args.cells.now (length c.args.cells.now - (c.loop-turn.turn + 1)) _ _
    (count_goes_on c.args.cells.now c.loop-turn.at c.loop-turn.turn (length c.args.cells.now) c.loop-turn.left c.index-cells-at.result None _ c.loop-turn.invariant.same c.loop-turn-test.true here (sym c.link.ensures ∙ c.in-None.is) (subst (λ n. n ≤ c.loop-turn.left) c.len.ensures c.if-left-len.false))

pub returns : goal.returns
returns c = count_over c.args.cells.now c.loop-turn.turn (length c.args.cells.now) c.loop-turn.left (Some c.loop-turn.at) _ c.loop-turn.invariant.same c.loop-turn-test.false
