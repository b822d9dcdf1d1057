use Rattle.es5_executor.proofs.Trying.{catches, lasts}
use Rattle.es5_executor.proofs.laws.try_runs.Goals as goal

pub returns : goal.returns
returns c = record { lasts = lasts; catches = catches }
