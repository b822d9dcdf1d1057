use Rattle.es5_evaluation.proofs.Ends.{more_units_is, one_end_is, output_grows_is}
use Rattle.es5_evaluation.proofs.laws.runs.Goals as goal

pub returns : goal.returns
returns c = record { more_units = more_units_is; one_end = one_end_is; output_grows = output_grows_is }
