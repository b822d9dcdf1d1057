use Rattle.es5_executor.proofs.Hosting.{applied}
use Rattle.es5_executor.proofs.laws.apply_runs.Goals as goal

pub returns : goal.returns
returns c = applied
