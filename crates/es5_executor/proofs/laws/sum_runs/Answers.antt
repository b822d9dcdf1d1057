use Rattle.es5_executor.proofs.Seen.{two_and_three}
use Rattle.es5_executor.proofs.Sums.{adds, add_leaves, makes_error, add_throws}
use Rattle.es5_executor.proofs.laws.sum_runs.Goals as goal

pub returns : goal.returns
returns c = record { adds = adds; leaves = add_leaves; makes_error = makes_error; throws = add_throws; two_and_three = two_and_three }
