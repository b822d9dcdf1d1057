use Rattle.es5_laws.proofs.Writing.{one_write_takes_five_is}
use Rattle.es5_laws.proofs.laws.one_write_takes_five.Goals as goal

pub returns : goal.returns
returns c = one_write_takes_five_is
