use Rattle.es5_executor.proofs.Sums.{div_exact, div_plain, div_moved}
use Rattle.es5_executor.proofs.laws.quotient_runs.Goals as goal

pub returns : goal.returns
returns c = record { exact = div_exact; plain = div_plain; moved = div_moved }
