use Rattle.es5_laws.proofs.Writing.{writes_in_turn_is}
use Rattle.es5_laws.proofs.laws.writes_in_turn.Goals as goal

pub returns : goal.returns
returns c = writes_in_turn_is
