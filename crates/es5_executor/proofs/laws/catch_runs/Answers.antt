use Rattle.es5_executor.proofs.Catching.{catch_answers, catch_lands, catch_throws}
use Rattle.es5_executor.proofs.laws.catch_runs.Goals as goal

pub returns : goal.returns
returns c = record { answers = catch_answers; lands = catch_lands; throws = catch_throws }
