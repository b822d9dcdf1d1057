use Rattle.es5_spelling.proofs.Alike.{same_bytes_same_text_is}
use Rattle.es5_spelling.proofs.laws.same_bytes_same_text.Goals as goal

pub returns : goal.returns
returns c = same_bytes_same_text_is
