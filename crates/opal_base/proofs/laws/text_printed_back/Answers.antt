use Rattle.opal_base.proofs.Texts.{text_printed_back_is}
use Rattle.opal_base.proofs.laws.text_printed_back.Goals as goal

pub returns : goal.returns
returns c = text_printed_back_is
