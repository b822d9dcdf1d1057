use Rattle.std.proofs.Common.{◌∙◌, ap, sym, length, Some, None}
use Rattle.std.specs.Option.{option_copied}
use Rattle.es5_objects.specs.Values.{value_of, value_if}
use Rattle.es5_objects.proofs.Heaps.{cell_is, walk_starts, walk_finds, walk_goes_on, walk_ends, walk_over, link_leads}
use Rattle.es5_objects.proofs.heap.find.Goals as goal

pub loop-turn-init : goal.loop-turn-init
loop-turn-init c = record { object = c.requires.object; same = walk_starts c.args.cells.now c.args.o c.args.name.now }

pub returns-in-Some : goal.returns-in-Some
returns-in-Some c =
    let here = cell_is c.args.cells.now c.loop-turn.at c.index-cells-at.result c.index-cells-at.is c.loop-turn.invariant.object in
    sym (walk_finds c.args.cells.now c.loop-turn.at c.loop-turn.turn (length c.args.cells.now) c.args.name.now c.index-cells-at.result (value_of c.in-Some.value.now) _ c.loop-turn.invariant.same c.loop-turn-test.true here
    (sym c.own.ensures ∙ ap (λ v. value_if (option_copied v)) c.in-Some.is))

pub returns-in-None : goal.returns-in-None
returns-in-None c =
    let here = cell_is c.args.cells.now c.loop-turn.at c.index-cells-at.result c.index-cells-at.is c.loop-turn.invariant.object in
    sym (walk_ends c.args.cells.now _ c.args.name.now _
    (walk_goes_on c.args.cells.now c.loop-turn.at c.loop-turn.turn (length c.args.cells.now) c.args.name.now c.index-cells-at.result None _ c.loop-turn.invariant.same c.loop-turn-test.true here
    (sym c.own.ensures ∙ ap (λ v. value_if (option_copied v)) c.in_default.is)
    (sym c.link.ensures ∙ c.in-None.is)))

pub loop-turn-preserved : goal.loop-turn-preserved
loop-turn-preserved c =
    let here = cell_is c.args.cells.now c.loop-turn.at c.index-cells-at.result c.index-cells-at.is c.loop-turn.invariant.object in
    let to = sym c.link.ensures ∙ c.in-Some-link.is in
    record {
      object = link_leads c.args.cells.now c.loop-turn.at c.index-cells-at.result c.in-Some-link.next c.requires.links here to;
      same = walk_goes_on c.args.cells.now c.loop-turn.at c.loop-turn.turn (length c.args.cells.now) c.args.name.now c.index-cells-at.result (Some c.in-Some-link.next) _ c.loop-turn.invariant.same c.loop-turn-test.true here
          (sym c.own.ensures ∙ ap (λ v. value_if (option_copied v)) c.in_default.is)
          to;
    }

pub returns : goal.returns
returns c = sym (walk_over c.args.cells.now c.loop-turn.turn (length c.args.cells.now) (Some c.loop-turn.at) c.args.name.now _ c.loop-turn.invariant.same c.loop-turn-test.false)
