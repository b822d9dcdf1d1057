use Rattle.std.proofs.Common.{◌≡◌, ◌∙◌, ap, subst, IfOk}
use Rattle.es5_tree.specs.Objects.Cells.{Cell, keys}
use Rattle.es5_objects.specs.Values.{kind_of}
use Rattle.es5_objects.proofs.Listed.{keys_listed}
use Rattle.es5_objects.proofs.cell.ObjectCell.keys.Goals as goal

pub returns : goal.returns
returns c =
    let cell : Cell = record { kind = kind_of c.self.inside.kind; link = c.self.inside.link; array_length = c.self.inside.length; properties = c.self.inside.properties } in
    subst (λ listed. IfOk c.keys_of.result (λ list. list ≡ listed)) (keys_listed cell _ c.names.ensures ∙ ap keys c.self.view_is) c.keys_of.ensures
