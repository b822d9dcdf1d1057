use Rattle.std.proofs.Common.{◌<◌, ◌∙◌, ap, sym, length, arith}
use Rattle.es5_tree.specs.Objects.Links.{cell_at}
use Rattle.es5_objects.proofs.Heaps.{cell_is}
use Rattle.es5_objects.proofs.heap.ObjHeap.kind.Goals as goal

pub returns : goal.returns
returns c =
    let lt : c.args.o < length c.self.inside.cells.items = omega (arith, ap (λ h. length h.cells) c.self.view_is) in
    c.kind.ensures
    ∙ (ap (λ x. x.kind) (sym (cell_is c.self.inside.cells.items c.args.o c.index.result.now c.index.ensures lt))
    ∙ ap (λ h. (cell_at h.cells c.args.o).kind) c.self.view_is)
