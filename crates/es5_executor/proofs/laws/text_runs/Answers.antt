use Rattle.es5_executor.proofs.Texts.{joins, join_leaves, unit_reads}
use Rattle.es5_executor.proofs.laws.text_runs.Goals as goal

pub returns : goal.returns
returns c = record { joins = joins; leaves = join_leaves; unit = unit_reads }
