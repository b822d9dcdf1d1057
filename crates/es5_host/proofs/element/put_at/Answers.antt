use Rattle.std.proofs.Common.{length, sym, subst}
use Rattle.es5_tree.specs.Intrinsics.Valid.{Names}
use Rattle.es5_tree.specs.Objects.Links.{cell_at}
use Rattle.es5_objects.specs.Values.{value_of}
use Rattle.es5_host.proofs.Validity.{index_can_put, valid_written}
use Rattle.es5_host.proofs.element.put_at.Goals as goal

pub put-requires-clause-whole_length : goal.put-requires-clause-whole_length
put-requires-clause-whole_length c = index_can_put (cell_at c.args.heap.now.cells c.args.o) c.args.i c.in_ok-name.name (value_of c.in_ok-share.field-0) c.in_ok-name.ensures

pub returns-clause-valid : goal.returns-clause-valid
returns-clause-valid c =
    valid_written c.put.result c.args.heap.now c.put.new.self c.args.o c.in_ok-name.name (value_of c.in_ok-share.field-0) c.put.ensures.ok c.put.ensures.err c.requires.object
    (subst (λ x. Names (length c.args.heap.now.cells) (value_of x)) (sym c.in_ok-share.ensures) c.requires.value)
    c.requires.valid
