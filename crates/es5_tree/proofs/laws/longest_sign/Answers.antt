use Rattle.es5_tree.proofs.Signs.{longest_sign_is, no_sign_is}
use Rattle.es5_tree.proofs.laws.longest_sign.Goals as goal

pub returns : goal.returns
returns c = record { longest = longest_sign_is; none = no_sign_is }
