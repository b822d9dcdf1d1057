use Rattle.ruby_evaluation.proofs.Longer.{end_stays, one_end, output_grows}
use Rattle.ruby_evaluation.proofs.laws.runs.Goals as goal

pub returns-clause-end_stays : goal.returns-clause-end_stays
returns-clause-end_stays c = end_stays

pub returns-clause-one_end : goal.returns-clause-one_end
returns-clause-one_end c = one_end

pub returns-clause-output_grows : goal.returns-clause-output_grows
returns-clause-output_grows c = output_grows
