use Rattle.es5_tree.specs.Objects.Links.{chain}
use Rattle.es5_tree.proofs.ObjectLinks.{chain_ends, whole_chain}
use Rattle.std.proofs.Common.{length}
use Rattle.es5_tree.proofs.object_laws.chains_are_whole.Goals as goal

pub returns : goal.returns
unfolding chain
returns c cells w h at in' k le = whole_chain (length cells) k cells at (chain_ends cells w h at in') le
