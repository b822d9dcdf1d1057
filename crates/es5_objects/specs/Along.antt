-- The properties of objects one after the other: those of an object and of the ones along its links.
use Rattle.std.specs.Prelude.{ℕ, ◌+◌, List, [], ◌∷◌, ◌++◌, length}
use Rattle.es5_tree.specs.Objects.Cells.{Cell, indices}
use Rattle.es5_tree.specs.Objects.Links.{cell_at}

-- the array indices among their names
unfoldable pub indices_along : List Cell → List ℕ → List ℕ
indices_along cells [] = []
indices_along cells (o ∷ os) = indices (cell_at cells o).properties ++ indices_along cells os

-- how many they are
unfoldable pub count_along : List Cell → List ℕ → ℕ
count_along cells [] = 0
count_along cells (o ∷ os) = length (cell_at cells o).properties + count_along cells os
