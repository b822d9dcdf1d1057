use Rattle.name_set.proofs.Known.{next_known}
use Rattle.name_set.proofs.set.NameSet.of.Goals as goal

pub loop-i-preserved : goal.loop-i-preserved
loop-i-preserved c = next_known c.args.names.now c.loop-i.set _ c.loop-i.i c.at.result.now c.at.ensures c.in_ok-insert.ensures.names c.loop-i.invariant
