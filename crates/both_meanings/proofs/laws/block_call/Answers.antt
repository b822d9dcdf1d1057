use Rattle.both_meanings.proofs.SmallLaws.{block_call}
use Rattle.both_meanings.proofs.laws.block_call.Goals as goal

pub returns : goal.returns
returns c = block_call
