use Rattle.es5_tree.proofs.ObjectRising.{sorted_is_rising}
use Rattle.es5_tree.proofs.object_laws.rising_is_sorted.Goals as goal

pub returns : goal.returns
returns c = sorted_is_rising
