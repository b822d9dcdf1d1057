use Rattle.std.proofs.Common.{◌<◌, length, sym, subst, ap, map, Some, arith}
use Rattle.std.proofs.lemmas.List.Elements.{All-nil}
use Rattle.es5_tree.specs.Values.{Obj}
use Rattle.es5_tree.specs.Objects.Cells.{new_cell, Array}
use Rattle.es5_tree.specs.Intrinsics.Valid.{Valid}
use Rattle.es5_host.specs.Items.{element}
use Rattle.es5_host.specs.Making.{holding}
use Rattle.es5_host.proofs.Elements.{room}
use Rattle.es5_host.proofs.Making.{made_whole}
use Rattle.es5_host.proofs.Validity.{valid_push}
use Rattle.es5_host.proofs.present.make_present.Goals as goal

pub put_all-requires-clause-valid : goal.put_all-requires-clause-valid
put_all-requires-clause-valid c =
    let within : 2 < length c.args.heap.now.cells = omega (arith, c.requires.valid.enough) in
    subst Valid (sym c.in-Ok.ensures.made) (valid_push c.args.heap.now.cells (new_cell Array (Some 2)) within (All-nil _) c.requires.valid)

pub returns-in-Ok-put_all-clause-answer : goal.returns-in-Ok-put_all-clause-answer
returns-in-Ok-put_all-clause-answer c = (
  ap Obj c.in-Ok.ensures.number,
  room c.args.heap.now c.in-Ok.ensures.full,
  made_whole c.args.heap.now c.create_as.new.self c.put_all.new.heap c.in-Ok.o (new_cell Array (Some 2)) (λ x. holding x (map element c.args.items.now)) c.in-Ok.ensures.made c.in-Ok.ensures.capacity c.in-Ok.ensures.number c.in-Ok-put_all.ensures.put,
)
