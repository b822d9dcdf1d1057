use Rattle.es5_tree.proofs.ObjectKeys.{keys_are_names}
use Rattle.es5_tree.proofs.object_laws.keys_are_names.Goals as goal

pub returns : goal.returns
returns c = keys_are_names
