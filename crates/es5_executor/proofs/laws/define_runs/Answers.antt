use Rattle.es5_executor.proofs.Define.{defines, define_writes}
use Rattle.es5_executor.proofs.laws.define_runs.Goals as goal

pub returns : goal.returns
returns c = record { runs = defines; writes = define_writes }
