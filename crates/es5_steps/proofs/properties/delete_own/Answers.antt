use Rattle.std.proofs.Common.{◌≡◌, sym, ap, ◌∙◌}
use Rattle.es5_tree.specs.Objects.Cells.{is_array_length}
use Rattle.es5_tree.specs.Objects.Links.{cell_at}
use Rattle.es5_steps.proofs.PropertySteps.{length_kept}
use Rattle.es5_steps.proofs.properties.delete_own.Goals as goal

pub returns-then-is_array_length-clause-does : goal.returns-then-is_array_length-clause-does
returns-then-is_array_length-clause-does c = λ T ρ.
    length_kept T ρ c.args.store.now c.type_error.new.store c.type_error.result c.args.o c.args.name.now
    (ap (λ n. is_array_length (cell_at c.args.store.now.heap.cells c.args.o) n) (sym c.units.ensures) ∙ sym c.is_array_length.ensures ∙ c.if-is_array_length.true)
    (c.type_error.ensures.does T ρ)
