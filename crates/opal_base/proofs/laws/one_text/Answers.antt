use Rattle.opal_base.proofs.Texts.{one_text_is}
use Rattle.opal_base.proofs.laws.one_text.Goals as goal

pub returns : goal.returns
returns c = one_text_is
