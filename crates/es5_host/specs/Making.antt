-- How the intrinsic objects are made: one after the other, their properties one after the other.
use Rattle.std.specs.Prelude.{◌+◌, List, [], ◌∷◌, ◌++◌}
use Rattle.es5_tree.specs.Values.{Text, Val, Obj}
use Rattle.es5_tree.specs.Objects.Cells.{Cell, put}
use Rattle.es5_objects.specs.Heap.{Heap}
use Rattle.es5_host.specs.declared.made.Member.{Member}
use Rattle.es5_host.specs.declared.made.Member.TheVariants.{Function, Prototype}
use Rattle.es5_host.specs.Values.{number_of}

-- the heap with more objects
abbrev pub with_more : Heap → List Cell → Heap
with_more h cs = record { cells = h.cells ++ cs; capacity = h.capacity }

-- an object with properties put one after the other
unfoldable pub holding : Cell → List (Text × Val) → Cell
holding c [] = c
holding c (p ∷ ps) = holding (put c p.0 p.1) ps

-- the functions have the numbers from 13 on
abbrev pub member_of : Member → Val
member_of (Prototype o) = Obj o
member_of (Function which) = Obj (13 + number_of which)
