use Rattle.both_meanings.proofs.SmallLaws.{token_jump}
use Rattle.both_meanings.proofs.laws.token_jump.Goals as goal

pub returns : goal.returns
returns c = token_jump
