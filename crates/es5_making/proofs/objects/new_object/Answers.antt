use Rattle.std.proofs.Common.{◌<◌, length, Some, sym, subst, arith}
use Rattle.std.proofs.lemmas.List.Elements.{All-nil}
use Rattle.es5_tree.specs.Objects.Cells.{new_cell}
use Rattle.es5_tree.specs.Intrinsics.Valid.{Valid}
use Rattle.es5_objects.specs.Values.{kind_of}
use Rattle.es5_host.proofs.Validity.{valid_push}
use Rattle.es5_making.proofs.objects.new_object.Goals as goal

pub returns-in-Ok-clause-valid : goal.returns-in-Ok-clause-valid
returns-in-Ok-clause-valid c =
    let e = c.requires.valid.enough in
    let link = c.requires.link in
    let within : c.args.link < length c.args.heap.now.cells = omega (arith, e, link) in
    subst Valid (sym c.in-Ok.ensures.made) (valid_push c.args.heap.now.cells (new_cell (kind_of c.args.kind) (Some c.args.link)) within (All-nil _) c.requires.valid)
