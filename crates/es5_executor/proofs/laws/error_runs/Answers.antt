use Rattle.es5_executor.proofs.Linking.{read_throws, call_of_null}
use Rattle.es5_executor.proofs.laws.error_runs.Goals as goal

pub returns : goal.returns
returns c = record { read = read_throws; call = call_of_null }
