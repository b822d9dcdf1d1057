use Rattle.es5_rules.proofs.Moments
use Rattle.es5_rules.proofs.laws.moments_in_turn.Goals as goal

pub returns : goal.returns
returns c = Moments.moments_then
