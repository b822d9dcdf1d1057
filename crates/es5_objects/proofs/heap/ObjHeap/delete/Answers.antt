use Rattle.std.proofs.Common.{◌≡◌, ◌<◌, ◌∙◌, ap, sym, subst, length, false, is_some}
use Rattle.es5_tree.specs.Objects.Cells.{own, delete, is_array_length}
use Rattle.es5_tree.specs.Objects.Links.{cell_at, link_at}
use Rattle.es5_tree.proofs.ObjectLinks.{links_kept, no_cycle_kept}
use Rattle.es5_objects.proofs.Heaps.{located, inside_of, changed, cell_is, delete_keeps_link, in_cells}
use Rattle.es5_objects.proofs.heap.ObjHeap.delete.Goals as goal

pub delete-requires : goal.delete-requires
delete-requires c = subst (λ x. is_array_length x c.args.name.now ≡ false) (located c.self.inside.cells.items c.self.inside.capacity c.args.self.now c.args.o c.index_mut-cell.result.now c.self.view_is c.index_mut-cell.ensures.value c.requires.object) c.requires.no_length

pub invariant_of-self : goal.invariant_of-self
invariant_of-self c =
    let lt : c.args.o < length c.self.inside.cells.items = inside_of c.self.inside.cells.items c.self.inside.capacity c.args.self.now c.args.o c.self.view_is c.requires.object in
    let link : c.delete.new.self.link ≡ link_at c.self.inside.cells.items c.args.o =
    ap (λ x. x.link) c.delete.ensures.after ∙ (delete_keeps_link c.index_mut-cell.result.now c.args.name.now ∙ ap (λ x. x.link) (sym (cell_is c.self.inside.cells.items c.args.o c.index_mut-cell.result.now c.index_mut-cell.ensures.value lt))) in
    record {
      small = c.self.invariant.small;
      room = c.self.invariant.room;
      within = in_cells c.self.inside.cells.items c.args.o c.delete.new.self c.self.inside.capacity c.self.invariant.within;
      links = links_kept c.self.inside.cells.items c.args.o c.delete.new.self lt link c.self.invariant.links;
      no_cycle = no_cycle_kept c.self.inside.cells.items c.args.o c.delete.new.self lt link c.self.invariant.no_cycle;
    }

pub returns-clause-there : goal.returns-clause-there
returns-clause-there c = c.delete.ensures.there ∙ ap (λ x. is_some (own x c.args.name.now)) (sym (located c.self.inside.cells.items c.self.inside.capacity c.args.self.now c.args.o c.index_mut-cell.result.now c.self.view_is c.index_mut-cell.ensures.value c.requires.object))

pub returns-clause-after : goal.returns-clause-after
returns-clause-after c =
    changed c.self.inside.cells.items c.self.inside.capacity c.args.self.now c.args.o c.delete.new.self (delete (cell_at c.args.self.now.cells c.args.o) c.args.name.now) c.self.view_is
    (c.delete.ensures.after ∙ ap (λ x. delete x c.args.name.now) (sym (located c.self.inside.cells.items c.self.inside.capacity c.args.self.now c.args.o c.index_mut-cell.result.now c.self.view_is c.index_mut-cell.ensures.value c.requires.object)))
