use Rattle.std.proofs.Common.{◌≡◌, ◌∙◌, ap, sym, rules, position, Some, None}
use Rattle.std.specs.Map.{keys_of}
use Rattle.es5_tree.specs.Objects.Cells.{without_property}
use Rattle.es5_objects.specs.Properties.{entries}
use Rattle.es5_objects.proofs.Lists.{is_name, deleted, nothing_deleted}
use Rattle.es5_objects.proofs.properties.Properties.delete.Goals as goal
use Rattle.es5_objects.proofs.properties.Properties.delete.Goals.{in-Some+in-Str-1, in-Some+in-Undefined-1, in-None-1}

pub returns-in-Some : goal.returns-in-Some
returns-in-Some c =
    let at : position (is_name c.args.name.now) (keys_of c.self.inside.items.entries) ≡ Some c.in-Some.place =
    ap (λ name. position (is_name name) (keys_of c.self.inside.items.entries)) (sym c.as_slice.ensures) ∙ (sym c.get_index_of.ensures.index ∙ c.in-Some.is) in
    let after =
    ap entries c.shift_remove_index.ensures.entries
    ∙ (deleted c.self.inside.items.entries c.args.name.now c.in-Some.place at c.in-Some.ensures.unique
    ∙ ap (λ ps. without_property ps c.args.name.now) c.self.view_is) in
    elim c.match-shift_remove_index.branch [
      | in-Some+in-Str-1 w ↦ w.self-is ∙ after
      | in-Some+in-Undefined-1 w ↦ w.self-is ∙ after
      | in-None-1 w ↦ w.self-is ∙ after
    ]

pub returns-in_default : goal.returns-in_default
returns-in_default c =
    let none : position (is_name c.args.name.now) (keys_of c.self.inside.items.entries) ≡ None = search rules in
    sym c.self.view_is
    ∙ (nothing_deleted c.self.inside.items.entries c.args.name.now none
    ∙ ap (λ ps. without_property ps c.args.name.now) c.self.view_is)
