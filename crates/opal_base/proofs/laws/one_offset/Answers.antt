use Rattle.opal_base.proofs.Texts.{one_offset_is}
use Rattle.opal_base.proofs.laws.one_offset.Goals as goal

pub returns : goal.returns
returns c = one_offset_is
