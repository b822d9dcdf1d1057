use Rattle.std.proofs.Common.{◌∷◌, [], length, map, Some, ap, ◌∙◌, arith}
use Rattle.std.proofs.lemmas.List.{length-append}
use Rattle.es5_tree.specs.Objects.Cells.{new_cell}
use Rattle.es5_tree.specs.Intrinsics.Rows.{filled}
use Rattle.es5_objects.specs.Values.{kind_of, value_if}
use Rattle.es5_host.specs.Answers.{with_new}
use Rattle.es5_host.proofs.Making.{made_whole}
use Rattle.es5_making.proofs.Filling.{items_named}
use Rattle.es5_making.proofs.arrays.new_filled.Goals as goal

pub fill-requires-clause-items : goal.fill-requires-clause-items
fill-requires-clause-items c =
    let made = new_cell (kind_of c.args.kind) (Some c.args.link) in
    let n = ap (λ h. length h.cells) c.in_ok-o.ensures.made ∙ length-append c.args.heap.now.cells (made ∷ []) in
    items_named (length c.args.heap.now.cells) (length c.new_object.new.heap.cells) c.args.values.now c.deref.result.now (omega (arith, n))
    (ap (map value_if) c.deref.ensures.value ∙ c.in_ok-items.ensures)
    (c.are_named.ensures c.if-not-are_named.false)

pub returns-clause-made : goal.returns-clause-made
returns-clause-made c =
    let made = new_cell (kind_of c.args.kind) (Some c.args.link) in
    made_whole c.args.heap.now c.new_object.new.heap c.fill.new.heap c.in_ok-o.o made (λ x. filled x 0 (map value_if c.deref.result.now)) (ap (λ h. h.cells) c.in_ok-o.ensures.made) (ap (λ h. h.capacity) c.in_ok-o.ensures.made) c.in_ok-o.ensures.number c.in_ok-fill.ensures.filled
    ∙ ap (λ vs. with_new c.args.heap.now (filled made 0 vs)) (ap (map value_if) c.deref.ensures.value ∙ c.in_ok-items.ensures)
