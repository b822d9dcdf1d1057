-- What the definitions of objects come to.
use Rattle.std.specs.Prelude.{◌≡◌, ℕ, ◌<◌, ◌≤◌, false, not, ◌&&◌, List, length, Option, Some, None, is_some, ◌↔◌, bytes_eq, IsPermutation, IsSorted}
use Rattle.std.specs.List.{list_any}
use Rattle.std.specs.Ordering.{nat_cmp}
use Rattle.es5_tree.specs.Values.{Text, Val}
use Rattle.es5_tree.specs.Objects.Names.{decimal, index_of, index_end, is_length}
use Rattle.es5_tree.specs.Objects.Cells.{Cell, own, put, delete, keys, rising, has_length, is_array_length}
use Rattle.es5_tree.specs.Objects.Links.{first_of_chain, chain, Within, LinksWithin, NoCycle}

-- following more links than there are objects finds no further ones
abbrev pub ChainsAreWhole : Type 0
ChainsAreWhole = (cells : List Cell) → LinksWithin cells → NoCycle cells → (at : Option ℕ) → Within cells at → (k : ℕ) → length cells ≤ k → first_of_chain k cells at ≡ chain cells at

-- a name is an index exactly where it is the decimal spelling of a number below 2^32-1
abbrev pub IndicesAreSpelled : Type 0
IndicesAreSpelled = (name : Text) (i : ℕ) → (index_of name ≡ Some i) ↔ ((name ≡ decimal i) × (i < index_end))

-- a property has the value that was written last
abbrev pub PutIsRead : Type 0
PutIsRead = (c : Cell) (name : Text) (v : Val) → is_array_length c name ≡ false → own (put c name v) name ≡ Some v

-- a write to a property leaves the others, but for the `length` of an array
abbrev pub OthersStay : Type 0
OthersStay = (c : Cell) (name other : Text) (v : Val) → is_array_length c name ≡ false → is_array_length c other ≡ false → (name ≡ other → ⊥) → own (put c name v) other ≡ own c other

abbrev pub DeletedIsGone : Type 0
DeletedIsGone = (c : Cell) (name : Text) → is_array_length c name ≡ false → own (delete c name) name ≡ None

-- a deletion leaves the other properties
abbrev pub OthersStayUndeleted : Type 0
OthersStayUndeleted = (c : Cell) (name other : Text) → (name ≡ other → ⊥) → own (delete c name) other ≡ own c other

-- Object.keys lists a name exactly where it is an own property, but for the `length` of arrays and arguments objects
abbrev pub KeysAreNames : Type 0
KeysAreNames = (c : Cell) (name : Text) → list_any (bytes_eq name) (keys c) ≡ (is_some (own c name) && not (has_length c.kind && is_length name))

-- the numbers in rising order are their one arrangement in which none is below the one before it
abbrev pub RisingIsSorted : Type 0
RisingIsSorted = (ns ms : List ℕ) → IsPermutation ns ms → IsSorted nat_cmp ms → ms ≡ rising ns
