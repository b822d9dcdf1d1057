use Rattle.std.proofs.Common.{◌∙◌, ◌-◌, ◌+◌, sym, length, Some, None, rules}
use Rattle.es5_objects.proofs.Heaps.{cell_is, link_leads}
use Rattle.es5_objects.proofs.Along.{gather_starts, gather_goes_on, gather_ends, gather_over}
use Rattle.es5_objects.proofs.heap.indices_along.Goals as goal

pub loop-turn-init : goal.loop-turn-init
loop-turn-init c = record { object = c.requires.object; same = gather_starts c.args.cells.now c.args.o c.new-found.result.items (search rules) }

pub loop-turn-preserved : goal.loop-turn-preserved
loop-turn-preserved c =
    let here = cell_is c.args.cells.now c.loop-turn.at c.index-cells-at.result c.index-cells-at.is c.loop-turn.invariant.object in
    let to = sym c.link.ensures ∙ c.in-Some.is in
    record {
      object = link_leads c.args.cells.now c.loop-turn.at c.index-cells-at.result c.in-Some.next c.requires.links here to;
      same = gather_goes_on c.args.cells.now c.loop-turn.at c.loop-turn.turn (length c.args.cells.now) c.index-cells-at.result _ c.loop-turn.found.items _ (Some c.in-Some.next) c.loop-turn.invariant.same c.loop-turn-test.true here to c.in_ok-push_indices.ensures;
    }

pub returns-in-None : goal.returns-in-None
returns-in-None c =
    let here = cell_is c.args.cells.now c.loop-turn.at c.index-cells-at.result c.index-cells-at.is c.loop-turn.invariant.object in
    gather_ends c.args.cells.now (length c.args.cells.now - (c.loop-turn.turn + 1)) _ _
    (gather_goes_on c.args.cells.now c.loop-turn.at c.loop-turn.turn (length c.args.cells.now) c.index-cells-at.result _ c.loop-turn.found.items _ None c.loop-turn.invariant.same c.loop-turn-test.true here (sym c.link.ensures ∙ c.in-None.is) c.in_ok-push_indices.ensures)

pub returns : goal.returns
returns c = gather_over c.args.cells.now c.loop-turn.turn (length c.args.cells.now) (Some c.loop-turn.at) _ c.loop-turn.found.items c.loop-turn.invariant.same c.loop-turn-test.false
