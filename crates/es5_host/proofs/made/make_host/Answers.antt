use Rattle.es5_tree.specs.Objects.Cells.{put, with_value, with_property}
use Rattle.es5_host.specs.Making.{holding}
use Rattle.es5_host.proofs.made.make_host.Goals as goal

pub returns : goal.returns
unfolding holding put with_value with_property
returns c = c.object.ensures.made
