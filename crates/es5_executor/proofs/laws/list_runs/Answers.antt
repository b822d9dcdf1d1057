use Rattle.es5_executor.proofs.Hosting.{pushed, lists}
use Rattle.es5_executor.proofs.laws.list_runs.Goals as goal

pub returns : goal.returns
returns c = record { pushes = pushed; lists = lists }
