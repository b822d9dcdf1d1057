use Rattle.std.proofs.Common.{map}
use Rattle.es5_host.specs.Items.{element}
use Rattle.es5_host.proofs.LeftOut.{each_more}
use Rattle.es5_host.proofs.present.present_at_each.Goals as goal

pub loop-i-preserved : goal.loop-i-preserved
loop-i-preserved c = each_more c.args.heap.now.cells c.args.o c.args.from c.loop-i.i (map element c.loop-i.items.items) (map element c.push_present.new.items.items) c.in_ok-push_present.ensures c.loop-i.invariant
