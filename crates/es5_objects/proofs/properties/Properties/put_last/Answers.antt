use Rattle.std.proofs.Common.{◌∙◌, ap}
use Rattle.es5_tree.specs.Objects.Cells.{with_property}
use Rattle.es5_objects.specs.Values.{value_of}
use Rattle.es5_objects.specs.Properties.{entries}
use Rattle.es5_objects.proofs.Lists.{inserted}
use Rattle.es5_objects.proofs.properties.Properties.put_last.Goals as goal

pub returns-in-Ok-insert-clause-ok : goal.returns-in-Ok-insert-clause-ok
returns-in-Ok-insert-clause-ok c =
    ap entries c.in-Ok-insert.ensures.entries
    ∙ (inserted c.self.inside.items.entries c.in-Ok.key c.args.value
    ∙ (ap (λ name. with_property (entries c.self.inside.items.entries) name (value_of c.args.value)) (c.in-Ok.ensures.items ∙ c.as_slice.ensures)
    ∙ ap (λ ps. with_property ps c.args.name (value_of c.args.value)) c.self.view_is))
