use Rattle.std.proofs.Common.{Some, ap}
use Rattle.es5_tree.specs.Objects.Cells.{Object, new_cell}
use Rattle.es5_tree.specs.Intrinsics.Made.{object_prototype}
use Rattle.es5_evaluation.specs.Evaluate.{with_properties}
use Rattle.es5_host.proofs.Making.{made_here, made_whole}
use Rattle.es5_making.proofs.properties.new_holder.Goals as goal

pub put_all-requires-clause-plain : goal.put_all-requires-clause-plain
put_all-requires-clause-plain c = ap (λ x. x.kind) (made_here c.args.heap.now c.new_object.new.heap c.in_ok-o.o (new_cell Object (Some object_prototype)) (ap (λ h. h.cells) c.in_ok-o.ensures.made) c.in_ok-o.ensures.number)

pub returns-clause-made : goal.returns-clause-made
returns-clause-made c =
    made_whole c.args.heap.now c.new_object.new.heap c.put_all.new.heap c.in_ok-o.o (new_cell Object (Some object_prototype)) (λ x. with_properties x c.args.names.now c.args.values.now) (ap (λ h. h.cells) c.in_ok-o.ensures.made) (ap (λ h. h.capacity) c.in_ok-o.ensures.made) c.in_ok-o.ensures.number c.in_ok-put_all.ensures.put
