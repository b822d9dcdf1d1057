use Rattle.es5_executor.proofs.Owning.{deletes}
use Rattle.es5_executor.proofs.laws.delete_runs.Goals as goal

pub returns : goal.returns
returns c = deletes
