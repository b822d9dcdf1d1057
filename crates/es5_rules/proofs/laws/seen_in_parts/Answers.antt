use Rattle.es5_rules.proofs.Moments
use Rattle.es5_rules.proofs.laws.seen_in_parts.Goals as goal

pub returns : goal.returns
returns c = Moments.seen_parts
