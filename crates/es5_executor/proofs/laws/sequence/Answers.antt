use Rattle.es5_executor.proofs.Runs.{sequence_is}
use Rattle.es5_executor.proofs.laws.sequence.Goals as goal

pub returns : goal.returns
returns c = sequence_is
