use Rattle.std.proofs.Common.{◌<◌, ◌∙◌, ap, sym, subst, length, arith}
use Rattle.es5_tree.specs.Objects.Links.{link_at, Within, LinksWithin}
use Rattle.es5_objects.proofs.Heaps.{cell_is}
use Rattle.es5_objects.proofs.heap.ObjHeap.proto.Goals as goal

pub returns-clause-link : goal.returns-clause-link
returns-clause-link c =
    let lt : c.args.o < length c.self.inside.cells.items = omega (arith, ap (λ h. length h.cells) c.self.view_is) in
    c.link.ensures
    ∙ (ap (λ x. x.link) (sym (cell_is c.self.inside.cells.items c.args.o c.index.result.now c.index.ensures lt))
    ∙ ap (λ h. link_at h.cells c.args.o) c.self.view_is)

pub returns-clause-within : goal.returns-clause-within
unfolding LinksWithin
returns-clause-within c =
    subst (λ h. Within h.cells c.link.result) c.self.view_is
    (subst (Within c.self.inside.cells.items) (sym (returns-clause-link c ∙ sym (ap (λ h. link_at h.cells c.args.o) c.self.view_is))) (c.self.invariant.links c.args.o))
