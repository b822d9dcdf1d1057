use Rattle.es5_spelling.proofs.ReadBack.{nodes_within_bytes_is}
use Rattle.es5_spelling.proofs.laws.nodes_within_bytes.Goals as goal

pub returns : goal.returns
returns c = nodes_within_bytes_is
