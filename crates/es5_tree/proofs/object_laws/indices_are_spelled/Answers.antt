use Rattle.es5_tree.proofs.ObjectProperties.{index_spelled, spelled_index}
use Rattle.es5_tree.proofs.object_laws.indices_are_spelled.Goals as goal

pub returns : goal.returns
returns c name i = (index_spelled name i, λ h. spelled_index name i h.0 h.1)
