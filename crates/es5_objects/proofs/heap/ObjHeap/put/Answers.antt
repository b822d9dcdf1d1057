use Rattle.std.proofs.Common.{◌≡◌, ◌<◌, ◌∙◌, ap, sym, subst, length}
use Rattle.es5_tree.specs.Objects.Cells.{put, CanPut}
use Rattle.es5_tree.specs.Objects.Links.{cell_at, link_at}
use Rattle.es5_tree.proofs.ObjectLinks.{links_kept, no_cycle_kept}
use Rattle.es5_objects.specs.Values.{value_of}
use Rattle.es5_objects.proofs.Lists.{on_ok}
use Rattle.es5_objects.proofs.Heaps.{located, inside_of, changed, cell_is, link_after_put, in_cells}
use Rattle.es5_objects.proofs.heap.ObjHeap.put.Goals as goal

pub put-requires : goal.put-requires
put-requires c = subst (λ x. CanPut x c.args.name (value_of c.args.value)) (located c.self.inside.cells.items c.self.inside.capacity c.args.self.now c.args.o c.index_mut-cell.result.now c.self.view_is c.index_mut-cell.ensures.value c.requires.object) c.requires.whole_length

pub invariant_of-self : goal.invariant_of-self
invariant_of-self c =
    let lt : c.args.o < length c.self.inside.cells.items = inside_of c.self.inside.cells.items c.self.inside.capacity c.args.self.now c.args.o c.self.view_is c.requires.object in
    let link : c.put.new.self.link ≡ link_at c.self.inside.cells.items c.args.o =
    link_after_put c.put.result c.index_mut-cell.result.now c.put.new.self c.args.name (value_of c.args.value) c.put.ensures.ok c.put.ensures.err ∙ ap (λ x. x.link) (sym (cell_is c.self.inside.cells.items c.args.o c.index_mut-cell.result.now c.index_mut-cell.ensures.value lt)) in
    record {
      small = c.self.invariant.small;
      room = c.self.invariant.room;
      within = in_cells c.self.inside.cells.items c.args.o c.put.new.self c.self.inside.capacity c.self.invariant.within;
      links = links_kept c.self.inside.cells.items c.args.o c.put.new.self lt link c.self.invariant.links;
      no_cycle = no_cycle_kept c.self.inside.cells.items c.args.o c.put.new.self lt link c.self.invariant.no_cycle;
    }

pub returns-clause-ok : goal.returns-clause-ok
returns-clause-ok c =
    on_ok c.put.result _ _ (λ e.
    changed c.self.inside.cells.items c.self.inside.capacity c.args.self.now c.args.o c.put.new.self (put (cell_at c.args.self.now.cells c.args.o) c.args.name (value_of c.args.value)) c.self.view_is
    (e ∙ ap (λ x. put x c.args.name (value_of c.args.value)) (sym (located c.self.inside.cells.items c.self.inside.capacity c.args.self.now c.args.o c.index_mut-cell.result.now c.self.view_is c.index_mut-cell.ensures.value c.requires.object))))
    c.put.ensures.ok
