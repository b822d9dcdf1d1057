use Rattle.es5_tree.specs.Intrinsics.Rows.{row}
use Rattle.es5_objects.specs.Values.{value_of}
use Rattle.es5_host.specs.Values.{fn_of}
use Rattle.es5_host.proofs.RowsNamed.{answer_named, rows_named}
use Rattle.es5_host.proofs.dispatch.host_call.Goals as goal

pub returns-clause-named : goal.returns-clause-named
returns-clause-named g c =
    answer_named (row (fn_of c.args.which) c.args.heap.now.cells c.args.input.now (value_of c.args.this.now) c.args.args.now) c.answer.result c.args.heap.now c.answer.new.heap
    (rows_named (fn_of c.args.which) c.args.heap.now.cells c.args.input.now (value_of c.args.this.now) c.args.args.now c.requires.valid c.requires.this c.requires.args)
    c.answer.ensures.answer
