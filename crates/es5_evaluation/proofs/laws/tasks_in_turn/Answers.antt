use Rattle.es5_evaluation.proofs.TaskRuns.{tasks_in_turn_is}
use Rattle.es5_evaluation.proofs.laws.tasks_in_turn.Goals as goal

pub returns : goal.returns
returns c = tasks_in_turn_is
