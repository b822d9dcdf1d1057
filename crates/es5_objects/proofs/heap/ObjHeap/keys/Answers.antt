use Rattle.std.proofs.Common.{◌≡◌, sym, subst, IfOk}
use Rattle.es5_tree.specs.Objects.Cells.{keys}
use Rattle.es5_objects.proofs.Heaps.{located}
use Rattle.es5_objects.proofs.heap.ObjHeap.keys.Goals as goal

pub returns : goal.returns
returns c = subst (λ x. IfOk c.keys.result (λ names. names ≡ keys x)) (sym (located c.self.inside.cells.items c.self.inside.capacity c.args.self.now c.args.o c.index.result.now c.self.view_is c.index.ensures c.requires)) c.keys.ensures
