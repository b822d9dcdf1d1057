-- What the definitions of this crate and of valid heaps come to.
use Rattle.std.specs.Prelude.{◌≡◌, ℕ, ◌+◌, ◌<◌, ◌≤◌, List, [], ◌∷◌, ◌++◌, length, Option, Some, None, All}
use Rattle.es5_tree.specs.Values.{Text, Val, find_own}
use Rattle.es5_tree.specs.Objects.Cells.{Cell, Kind, Host, new_cell, own, put, delete, with_property}
use Rattle.es5_tree.specs.Objects.Links.{cell_at, get, set_cell, with_link, Within}
use Rattle.es5_tree.specs.Intrinsics.Calls.{HostFn, number}
use Rattle.es5_tree.specs.Intrinsics.Made.{cells, count, globals}
use Rattle.es5_tree.specs.Intrinsics.Valid.{Names, NamesIf, NamesIn, Valid}
use Rattle.es5_host.specs.Bindings.{place_of, value_at, with_value_at}

-- ---- the intrinsic objects

-- there are so many
abbrev pub MadeAreCounted : Type 0
MadeAreCounted = length cells ≡ count

-- they are a valid heap
abbrev pub MadeIsValid : Type 0
MadeIsValid = Valid cells

-- each global names one of them, or none
abbrev pub GlobalsAreMade : Type 0
GlobalsAreMade = All (λ g. Names count g.1) globals

-- the functions stand behind the other objects, in the order of their numbers
abbrev pub FunctionsInOrder : Type 0
FunctionsInOrder = (which : HostFn) → (cell_at cells (13 + number which)).kind ≡ Host (number which)

-- ---- changes of a valid heap

-- a property is written
abbrev pub ValidAfterPut : Type 0
ValidAfterPut = (heap : List Cell) (o : ℕ) (name : Text) (v : Val) → o < length heap → Names (length heap) v → Valid heap → Valid (set_cell heap o (put (cell_at heap o) name v))

-- a property is deleted
abbrev pub ValidAfterDelete : Type 0
ValidAfterDelete = (heap : List Cell) (o : ℕ) (name : Text) → o < length heap → Valid heap → Valid (set_cell heap o (delete (cell_at heap o) name))

-- a link is set
abbrev pub ValidAfterLink : Type 0
ValidAfterLink = (heap : List Cell) (o : ℕ) (link : Option ℕ) → o < length heap → Within heap link → Valid heap → Valid (set_cell heap o (with_link (cell_at heap o) link))

-- an object is made; its values may name it too
abbrev pub ValidAfterNew : Type 0
ValidAfterNew = (heap : List Cell) (c : Cell) → Within heap c.link → NamesIn (length heap + 1) c → Valid heap → Valid (heap ++ c ∷ [])

-- an object is made that has no properties yet
abbrev pub ValidAfterCreate : Type 0
ValidAfterCreate = (heap : List Cell) (kind : Kind) (link : Option ℕ) → Within heap link → Valid heap → Valid (heap ++ new_cell kind link ∷ [])

-- ---- what values name

-- what names an object below a number names one below a greater number
abbrev pub NamesStay : Type 0
NamesStay = (n m : ℕ) (v : Val) → n ≤ m → Names n v → Names m v

-- an own property of a valid heap names an object that is there
abbrev pub OwnNames : Type 0
OwnNames = (heap : List Cell) (o : ℕ) (name : Text) → Valid heap → NamesIf (length heap) (own (cell_at heap o) name)

-- and so does one that may be inherited
abbrev pub GetNames : Type 0
GetNames = (heap : List Cell) (o : ℕ) (name : Text) → Valid heap → NamesIf (length heap) (get heap o name)

-- ---- names with their values

-- the first place of a name has its value, and a write there is the write to that name
abbrev pub PlacesAreRead : Type 0
PlacesAreRead = (bs : List (Text × Val)) (name : Text) (i : ℕ) → place_of bs name ≡ Some i → value_at bs i ≡ find_own bs name

abbrev pub PlacesAreWritten : Type 0
PlacesAreWritten = (bs : List (Text × Val)) (name : Text) (i : ℕ) (v : Val) → place_of bs name ≡ Some i → with_value_at bs i v ≡ with_property bs name v

-- a name without a place has no value, and a write to it puts it at the end
abbrev pub OthersAreUnread : Type 0
OthersAreUnread = (bs : List (Text × Val)) (name : Text) → place_of bs name ≡ None → find_own bs name ≡ None

abbrev pub OthersAreAdded : Type 0
OthersAreAdded = (bs : List (Text × Val)) (name : Text) (v : Val) → place_of bs name ≡ None → with_property bs name v ≡ bs ++ (name, v) ∷ []
