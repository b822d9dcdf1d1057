use Rattle.opal_base.proofs.Texts.{decoded_or_not_is}
use Rattle.opal_base.proofs.laws.decoded_or_not.Goals as goal

pub returns : goal.returns
returns c = decoded_or_not_is
