use Rattle.std.proofs.Common.{length, sym, subst}
use Rattle.es5_tree.specs.Objects.Links.{cell_at}
use Rattle.es5_tree.specs.Intrinsics.Valid.{Names, Valid}
use Rattle.es5_objects.specs.Values.{value_of}
use Rattle.es5_host.proofs.Validity.{index_can_put, valid_put}
use Rattle.es5_host.proofs.array.push_at.Goals as goal

pub put-requires-clause-whole_length : goal.put-requires-clause-whole_length
put-requires-clause-whole_length c = index_can_put (cell_at c.args.heap.now.cells c.args.o) c.args.n c.in-Ok.name (value_of c.in-Ok-share.value) c.in-Ok.ensures

pub returns-in-Ok-put-clause-valid : goal.returns-in-Ok-put-clause-valid
returns-in-Ok-put-clause-valid c =
    subst (λ h. Valid h.cells) (sym c.in-Ok-put.ensures.ok)
    (valid_put c.args.heap.now.cells c.args.o c.in-Ok.name (value_of c.in-Ok-share.value) c.requires.object
    (subst (λ x. Names (length c.args.heap.now.cells) (value_of x)) (sym c.in-Ok-share.ensures) c.requires.v)
    c.requires.valid)
