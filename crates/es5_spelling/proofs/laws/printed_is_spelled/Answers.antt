use Rattle.es5_spelling.proofs.Printed.{printed_is_spelled_is}
use Rattle.es5_spelling.proofs.laws.printed_is_spelled.Goals as goal

pub returns : goal.returns
returns c = printed_is_spelled_is
