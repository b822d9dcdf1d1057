use Rattle.es5_executor.proofs.Linking.{links}
use Rattle.es5_executor.proofs.laws.link_runs.Goals as goal

pub returns : goal.returns
returns c = links
