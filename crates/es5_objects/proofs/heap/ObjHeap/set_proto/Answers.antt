use Rattle.std.proofs.Common.{◌≡◌, ◌<◌, ◌∙◌, ap, sym, subst, length, false}
use Rattle.es5_tree.specs.Objects.Links.{cell_at, in_chain, with_link, Within}
use Rattle.es5_tree.proofs.ObjectLinks.{links_set, no_cycle_set}
use Rattle.es5_objects.proofs.Heaps.{located, inside_of, changed, in_cells}
use Rattle.es5_objects.proofs.heap.ObjHeap.set_proto.Goals as goal

pub invariant_of-self : goal.invariant_of-self
invariant_of-self c =
    let lt : c.args.o < length c.self.inside.cells.items = inside_of c.self.inside.cells.items c.self.inside.capacity c.args.self.now c.args.o c.self.view_is c.requires.object in
    let link : c.set_link.new.self.link ≡ c.args.p = ap (λ x. x.link) c.set_link.ensures in
    let w : Within c.self.inside.cells.items c.set_link.new.self.link =
    subst (Within c.self.inside.cells.items) (sym link) (subst (λ h. Within h.cells c.args.p) (sym c.self.view_is) c.requires.link) in
    let off : in_chain c.self.inside.cells.items c.args.o c.set_link.new.self.link ≡ false =
    ap (in_chain c.self.inside.cells.items c.args.o) link ∙ (ap (λ cells. in_chain cells c.args.o c.args.p) (sym c.deref.ensures.value) ∙ (sym c.is_in_chain.ensures ∙ c.if-is_in_chain.false)) in
    record {
      small = c.self.invariant.small;
      room = c.self.invariant.room;
      within = in_cells c.self.inside.cells.items c.args.o c.set_link.new.self c.self.inside.capacity c.self.invariant.within;
      links = links_set c.self.inside.cells.items c.args.o c.set_link.new.self lt w c.self.invariant.links;
      no_cycle = no_cycle_set c.self.inside.cells.items c.args.o c.set_link.new.self c.self.invariant.links c.self.invariant.no_cycle lt w off;
    }

pub returns-clause-ok : goal.returns-clause-ok
returns-clause-ok c =
    changed c.self.inside.cells.items c.self.inside.capacity c.args.self.now c.args.o c.set_link.new.self (with_link (cell_at c.args.self.now.cells c.args.o) c.args.p) c.self.view_is
    (c.set_link.ensures ∙ ap (λ x. with_link x c.args.p) (sym (located c.self.inside.cells.items c.self.inside.capacity c.args.self.now c.args.o c.index_mut-cell.result.now c.self.view_is c.index_mut-cell.ensures.value c.requires.object)))
