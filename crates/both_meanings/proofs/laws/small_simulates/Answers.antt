use Rattle.both_meanings.proofs.Setting.{simulates}
use Rattle.both_meanings.proofs.laws.small_simulates.Goals as goal

pub returns : goal.returns
returns c = simulates
