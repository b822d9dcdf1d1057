-- Objects past the end of the heap.
use Rattle.std.proofs.Common.{◌≡◌, ℕ, ◌≤◌, List, length, None, refl, sym, ap, codes}
use Rattle.std.proofs.lemmas.List.{get_or_past}
use Rattle.es5_tree.specs.Objects.Cells.{Cell, Object, new_cell}
use Rattle.es5_tree.specs.Objects.Links.{cell_at}
use Rattle.es5_evaluation.specs.Values.{kind_name}

-- one that isn't there is a plain object
pub plain_past_end : (cells : List Cell) (o : ℕ) → length cells ≤ o → codes "object" ≡ kind_name (cell_at cells o).kind
unfolding cell_at
plain_past_end cells o le = ap (λ c. kind_name c.kind) (sym (get_or_past cells o (new_cell Object None) le))
