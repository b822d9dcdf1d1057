use Rattle.es5_evaluation.proofs.Ends.{cells_grow_is}
use Rattle.es5_evaluation.proofs.laws.cells_grow.Goals as goal

pub returns : goal.returns
returns c = cells_grow_is
