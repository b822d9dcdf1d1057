use Rattle.es5_making.proofs.Holding.{arguments_whole}
use Rattle.es5_making.proofs.arguments.new_arguments.Goals as goal

pub returns-clause-made : goal.returns-clause-made
returns-clause-made c = arguments_whole c.args.heap.now c.new_filled.new.heap c.put_length.new.heap c.in_ok-o.o c.len.result c.args.args.now c.in_ok-o.ensures.made c.in_ok-o.ensures.number c.len.ensures c.in_ok-put_length.ensures.put
