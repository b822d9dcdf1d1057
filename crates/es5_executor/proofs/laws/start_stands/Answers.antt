use Rattle.es5_executor.proofs.Starting.{test_at_start, object_at_start}
use Rattle.es5_executor.proofs.laws.start_stands.Goals as goal

pub returns : goal.returns
returns c = record { test = test_at_start; object = object_at_start }
