use Rattle.std.proofs.Common.{◌≡◌, ◌∙◌, ◌++◌, ap, subst, OnOk}
use Rattle.es5_tree.specs.Objects.Cells.{Cell, indices}
use Rattle.es5_objects.specs.Values.{kind_of}
use Rattle.es5_objects.proofs.Listed.{indices_listed}
use Rattle.es5_objects.proofs.cell.ObjectCell.push_indices.Goals as goal

pub returns : goal.returns
returns c =
    let cell : Cell = record { kind = kind_of c.self.inside.kind; link = c.self.inside.link; array_length = c.self.inside.length; properties = c.self.inside.properties } in
    subst (λ listed. OnOk c.push_indices_of.result (c.push_indices_of.new.found.items ≡ c.args.found.now.items ++ listed)) (indices_listed cell _ c.names.ensures ∙ ap (λ x. indices x.properties) c.self.view_is) c.push_indices_of.ensures
