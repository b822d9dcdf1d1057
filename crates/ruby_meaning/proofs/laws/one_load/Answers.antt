use Rattle.ruby_meaning.proofs.Loading.{some_load_is, one_load_is}
use Rattle.ruby_meaning.proofs.laws.one_load.Goals as goal

pub returns-clause-some_load : goal.returns-clause-some_load
returns-clause-some_load c = some_load_is

pub returns-clause-one_load : goal.returns-clause-one_load
returns-clause-one_load c = one_load_is
