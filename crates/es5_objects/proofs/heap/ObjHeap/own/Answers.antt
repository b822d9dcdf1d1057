use Rattle.std.proofs.Common.{◌∙◌, ap, sym}
use Rattle.es5_tree.specs.Objects.Cells.{own}
use Rattle.es5_objects.proofs.Heaps.{located}
use Rattle.es5_objects.proofs.heap.ObjHeap.own.Goals as goal

pub returns : goal.returns
returns c = c.own.ensures ∙ ap (λ x. own x c.args.name.now) (sym (located c.self.inside.cells.items c.self.inside.capacity c.args.self.now c.args.o c.index.result.now c.self.view_is c.index.ensures c.requires))
