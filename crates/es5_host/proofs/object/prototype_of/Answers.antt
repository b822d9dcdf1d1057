use Rattle.es5_tree.specs.Objects.Links.{link_at}
use Rattle.es5_tree.specs.Intrinsics.Rows.{Gives, link_value}
use Rattle.es5_host.proofs.Rows.{refused}
use Rattle.es5_host.proofs.object.prototype_of.Goals as goal

pub returns-in-None : goal.returns-in-None
returns-in-None c = refused c.object_of.result _ (λ o. Gives (link_value (link_at c.args.heap.now.cells o))) _ _ c.in-None.is c.object_of.ensures c.type_error.ensures
