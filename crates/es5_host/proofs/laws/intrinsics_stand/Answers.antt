use Rattle.es5_host.proofs.Standing.{counted, made_valid, globals_named, functions_in_order}
use Rattle.es5_host.proofs.laws.intrinsics_stand.Goals as goal

pub returns : goal.returns
returns c = record { counted = counted; valid = made_valid; globals = globals_named; functions = functions_in_order }
