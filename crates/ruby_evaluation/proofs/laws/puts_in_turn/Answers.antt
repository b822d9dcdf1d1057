use Rattle.ruby_evaluation.proofs.InTurn
use Rattle.ruby_evaluation.proofs.laws.puts_in_turn.Goals as goal

pub returns : goal.returns
returns c = InTurn.puts_in_turn
