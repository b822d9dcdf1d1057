use Rattle.both_meanings.proofs.SmallLaws.{method_call}
use Rattle.both_meanings.proofs.laws.method_call.Goals as goal

pub returns : goal.returns
returns c = method_call
