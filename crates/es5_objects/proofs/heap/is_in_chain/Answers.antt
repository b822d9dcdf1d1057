use Rattle.std.proofs.Common.{◌∙◌, ◌-◌, ◌+◌, ap, sym, subst, length, eqb}
use Rattle.std.specs.List.{list_any}
use Rattle.es5_tree.specs.Objects.Links.{first_of_chain, Within}
use Rattle.es5_objects.proofs.Heaps.{cell_is, search_starts, search_finds, search_goes_on, search_ends, search_over, link_stays_within, within_some}
use Rattle.es5_objects.proofs.heap.is_in_chain.Goals as goal

pub loop-step-init : goal.loop-step-init
loop-step-init c = record { object = c.requires.start; same = search_starts c.args.cells.now c.args.o c.args.start }

pub returns-in-None : goal.returns-in-None
returns-in-None c =
    sym (search_ends c.args.cells.now (length c.args.cells.now - c.loop-step.step) c.args.o _
    (c.loop-step.invariant.same ∙ ap (λ at. list_any (eqb c.args.o) (first_of_chain (length c.args.cells.now - c.loop-step.step) c.args.cells.now at)) c.in-None.is))

pub returns-then-here-o : goal.returns-then-here-o
returns-then-here-o c =
    sym (search_finds c.args.cells.now c.loop-step.step (length c.args.cells.now) c.args.o c.in-Some.here _
    (c.loop-step.invariant.same ∙ ap (λ at. list_any (eqb c.args.o) (first_of_chain (length c.args.cells.now - c.loop-step.step) c.args.cells.now at)) c.in-Some.is)
    c.loop-step-test.true c.if-here-o.true)

pub loop-step-preserved : goal.loop-step-preserved
loop-step-preserved c =
    let here = cell_is c.args.cells.now c.in-Some.here c.index-cells-here.result c.index-cells-here.is (within_some c.args.cells.now c.loop-step.at c.in-Some.here c.loop-step.invariant.object c.in-Some.is) in
    record {
      object = subst (Within c.args.cells.now) (sym c.link-at.ensures) (link_stays_within c.args.cells.now c.in-Some.here c.index-cells-here.result c.requires.links here);
      same =
          search_goes_on c.args.cells.now c.loop-step.step (length c.args.cells.now) c.args.o c.in-Some.here c.index-cells-here.result _
          (c.loop-step.invariant.same ∙ ap (λ at. list_any (eqb c.args.o) (first_of_chain (length c.args.cells.now - c.loop-step.step) c.args.cells.now at)) c.in-Some.is)
          c.loop-step-test.true c.if-here-o.false here
          ∙ ap (λ link. list_any (eqb c.args.o) (first_of_chain (length c.args.cells.now - (c.loop-step.step + 1)) c.args.cells.now link)) (sym c.link-at.ensures);
    }

pub returns : goal.returns
returns c = sym (search_over c.args.cells.now c.loop-step.step (length c.args.cells.now) c.args.o c.loop-step.at _ c.loop-step.invariant.same c.loop-step-test.false)
