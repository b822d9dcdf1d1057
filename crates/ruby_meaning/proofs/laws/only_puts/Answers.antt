use Rattle.ruby_meaning.proofs.OnlyPuts.{only_puts_is}
use Rattle.ruby_meaning.proofs.laws.only_puts.Goals as goal

pub returns : goal.returns
returns c = only_puts_is
