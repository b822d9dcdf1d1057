use Rattle.std.proofs.Common.{◌∙◌, ap}
use Rattle.es5_tree.specs.Reserved.{is_reserved}
use Rattle.es5_tree.proofs.reserved.is_reserved.Goals as goal

pub returns : goal.returns
unfolding is_reserved
returns c = c.is_any.ensures ∙ ap (λ n. is_reserved n) c.as_slice.ensures
