use Rattle.es5_objects.specs.Values.{value_of}
use Rattle.es5_host.proofs.Elements.{args_more}
use Rattle.es5_host.proofs.function.listed.Goals as goal

pub loop-i-preserved : goal.loop-i-preserved
loop-i-preserved c = args_more c.args.heap.now.cells c.args.o c.loop-i.i c.in_ok-name.name (value_of c.in_ok-value_or_undefined.field-0) c.loop-i.list c.push.new.self c.in_ok-name.ensures c.in_ok-value_or_undefined.ensures c.in_ok-push.ensures.ok c.loop-i.invariant
