use Rattle.es5_executor.proofs.Owning.{owns, owns_not}
use Rattle.es5_executor.proofs.laws.lookup_runs.Goals as goal

pub returns : goal.returns
returns c = record { owns = owns; owns_not = owns_not }
