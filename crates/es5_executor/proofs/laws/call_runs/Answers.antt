use Rattle.es5_executor.proofs.Bridge.{call_answers, call_throws}
use Rattle.es5_executor.proofs.laws.call_runs.Goals as goal

pub returns : goal.returns
returns c = record { answers = call_answers; throws = call_throws }
