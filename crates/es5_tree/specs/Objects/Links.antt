-- Links from object to object, and properties along them (ECMA-262 5.1, sections 8.6.2, 8.12.2 and 8.12.3).
use Rattle.std.specs.Prelude.{◌≡◌, ℕ, zero, suc, ◌<◌, Bool, List, [], ◌∷◌, length, slice_index_or, slice_set, Option, Some, None, IfSome, nat_eq}
use Rattle.std.specs.List.{list_any}
use Rattle.es5_tree.specs.Values.{Text, Val, first}
use Rattle.es5_tree.specs.Objects.Cells.{Cell, Object, new_cell, own}

-- an object's number is its place in the list; past the end stands an empty one
unfoldable pub cell_at : List Cell → ℕ → Cell
cell_at cells o = slice_index_or cells o (new_cell Object None)

abbrev pub set_cell : List Cell → ℕ → Cell → List Cell
set_cell cells o c = slice_set cells o c

abbrev pub link_at : List Cell → ℕ → Option ℕ
link_at cells o = (cell_at cells o).link

-- what the link of an object is, or none behind the last one
abbrev pub next : List Cell → Option ℕ → Option ℕ
next cells None = None
next cells (Some o) = link_at cells o

-- where k links lead to
unfoldable pub after : ℕ → List Cell → Option ℕ → Option ℕ
after zero cells at = at
after (suc k) cells at = after k cells (next cells at)

-- an object and those along its links, at most k
unfoldable pub first_of_chain : ℕ → List Cell → Option ℕ → List ℕ
first_of_chain zero cells at = []
first_of_chain (suc k) cells None = []
first_of_chain (suc k) cells (Some o) = o ∷ first_of_chain k cells (link_at cells o)

-- An object and those along its links. Links make no cycle, so that there are at most as many as there are cells.
unfoldable pub chain : List Cell → Option ℕ → List ℕ
chain cells at = first_of_chain (length cells) cells at

-- the first of these objects that has the property
unfoldable pub first_own : List Cell → List ℕ → Text → Option Val
first_own cells [] name = None
first_own cells (o ∷ os) name = first (own (cell_at cells o) name) (λ u. first_own cells os name)

-- a property of an object: its own, or that of its link, and so on (8.12.2, 8.12.3)
unfoldable pub get : List Cell → ℕ → Text → Option Val
get cells o name = first_own cells (chain cells (Some o)) name

-- o is this object or one along its links
unfoldable pub in_chain : List Cell → ℕ → Option ℕ → Bool
in_chain cells o at = list_any (nat_eq o) (chain cells at)

abbrev pub with_link : Cell → Option ℕ → Cell
with_link c link = record { kind = c.kind; link = link; array_length = c.array_length; properties = c.properties }

-- a number of a cell, or none
abbrev pub Within : List Cell → Option ℕ → Type 0
Within cells at = IfSome at (λ o. o < length cells)

-- each link leads to a cell
unfoldable pub LinksWithin : List Cell → Type 0
LinksWithin cells = (o : ℕ) → Within cells (link_at cells o)

-- no cell comes back to itself along its links
unfoldable pub NoCycle : List Cell → Type 0
NoCycle cells = (o k : ℕ) → after (suc k) cells (Some o) ≡ Some o → ⊥
