use Rattle.std.proofs.Common.{◌≡◌, ◌∙◌, ap, rules, position, Some}
use Rattle.std.specs.Map.{keys_of}
use Rattle.es5_tree.specs.Objects.Cells.{with_property}
use Rattle.es5_objects.specs.Values.{value_of}
use Rattle.es5_objects.proofs.Lists.{is_name, put_in_place}
use Rattle.es5_objects.proofs.properties.Properties.put.Goals as goal

pub returns-in-Some-clause-ok : goal.returns-in-Some-clause-ok
returns-in-Some-clause-ok c =
    let at : position (is_name c.args.name) (keys_of c.self.inside.items.entries) ≡ Some c.in-Some.place = search rules in
    put_in_place c.self.inside.items.entries c.args.name c.args.value c.in-Some.place at
    ∙ ap (λ ps. with_property ps c.args.name (value_of c.args.value)) c.self.view_is
