use Rattle.es5_executor.proofs.Walking.{among_runs}
use Rattle.es5_executor.proofs.laws.walk_runs.Goals as goal

pub returns : goal.returns
returns c = among_runs
