use Rattle.es5_executor.proofs.Making.{makes, stubs}
use Rattle.es5_executor.proofs.laws.make_runs.Goals as goal

pub returns : goal.returns
returns c = record { made = makes; stubs = stubs }
