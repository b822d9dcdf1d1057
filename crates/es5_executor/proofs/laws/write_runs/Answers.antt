use Rattle.es5_executor.proofs.Hosting.{writes}
use Rattle.es5_executor.proofs.laws.write_runs.Goals as goal

pub returns : goal.returns
returns c = writes
