-- One call in a state that is written out.
use Rattle.std.proofs.Common.{refl, arith, pos}
use Rattle.es5_tree.specs.Tree.{start}
use Rattle.es5_tree.specs.Values.{Undefined}
use Rattle.es5_tree.specs.Objects.Links.{cell_at}
use Rattle.es5_evaluation.specs.State.{code_at}
use Rattle.es5_evaluation.specs.Task.{Done, walk}
use Rattle.es5_evaluation.specs.Run.{run}
use Rattle.es5_executor.specs.Seen.{ready, TwoAndThree}
use Rattle.es5_executor.proofs.Sums.{adds}

pub two_and_three : TwoAndThree
unfolding cell_at code_at run walk
two_and_three = (adds start 0 0 (pos 2) (pos 3) Undefined ready (0, refl, refl) (omega arith) refl Done).runs 9 0 refl
