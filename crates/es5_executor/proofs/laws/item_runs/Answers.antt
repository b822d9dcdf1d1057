use Rattle.es5_executor.proofs.Walking.{item_reads, item_misses}
use Rattle.es5_executor.proofs.laws.item_runs.Goals as goal

pub returns : goal.returns
returns c = record { reads = item_reads; misses = item_misses }
