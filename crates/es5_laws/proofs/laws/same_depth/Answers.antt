use Rattle.es5_laws.proofs.Depths.{same_depth_is}
use Rattle.es5_laws.proofs.laws.same_depth.Goals as goal

pub returns : goal.returns
returns c = same_depth_is
