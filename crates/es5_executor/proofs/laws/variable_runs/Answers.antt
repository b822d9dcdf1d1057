use Rattle.es5_executor.proofs.Owning.{variable_reads, variable_misses}
use Rattle.es5_executor.proofs.laws.variable_runs.Goals as goal

pub returns : goal.returns
returns c = record { reads = variable_reads; misses = variable_misses }
