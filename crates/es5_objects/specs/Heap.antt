-- The heap: its cells, and how many it has room for.
use Rattle.std.specs.Prelude.{ℕ, List}
use Rattle.es5_tree.specs.Objects.Cells.{Cell}
use Rattle.es5_tree.specs.Objects.Links.{set_cell}

pub record Heap : Type 0 where
  pub cells : List Cell
  pub capacity : ℕ

-- the heap with one cell changed
abbrev pub with_cell : Heap → ℕ → Cell → Heap
with_cell h o c = record { cells = set_cell h.cells o c; capacity = h.capacity }
