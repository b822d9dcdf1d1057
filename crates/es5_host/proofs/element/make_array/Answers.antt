use Rattle.std.proofs.Common.{◌<◌, length, sym, subst, ap, map, Some, arith}
use Rattle.std.proofs.lemmas.List.Elements.{All-nil}
use Rattle.es5_tree.specs.Values.{Obj}
use Rattle.es5_tree.specs.Objects.Cells.{new_cell, Array}
use Rattle.es5_tree.specs.Intrinsics.Valid.{Valid}
use Rattle.es5_objects.specs.Values.{value_if}
use Rattle.es5_host.proofs.Elements.{made_and_filled, room}
use Rattle.es5_host.proofs.Validity.{valid_push}
use Rattle.es5_host.proofs.element.make_array.Goals as goal

pub fill-requires-clause-valid : goal.fill-requires-clause-valid
fill-requires-clause-valid c =
    let within : 2 < length c.args.heap.now.cells = omega (arith, c.requires.valid.enough) in
    subst Valid (sym c.in-Ok.ensures.made) (valid_push c.args.heap.now.cells (new_cell Array (Some 2)) within (All-nil _) c.requires.valid)

pub returns-in-Ok-fill-clause-answer : goal.returns-in-Ok-fill-clause-answer
returns-in-Ok-fill-clause-answer c = (
  ap Obj c.in-Ok.ensures.number,
  room c.args.heap.now c.in-Ok.ensures.full,
  made_and_filled c.args.heap.now c.create_as.new.self c.fill.new.heap c.in-Ok.o (new_cell Array (Some 2)) (map value_if c.args.items.now) c.in-Ok.ensures.made c.in-Ok.ensures.capacity c.in-Ok.ensures.number c.in-Ok-fill.ensures.filled,
)
