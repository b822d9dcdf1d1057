-- Objects: their kinds, their own properties, and what a write, a deletion and a list of names are (ECMA-262 5.1, sections 8.6, 8.12, 10.6 and 15.4.5).
use Rattle.std.specs.Prelude.{◌≡◌, ℕ, ◌+◌, ◌^◌, ◌<◌, max, Bool, true, false, not, ◌&&◌, if◌then◌else◌, nat_lt, nat_le, List, [], ◌∷◌, ◌++◌, map, pos, negsuc, Option, Some, None, bytes_eq}
use Rattle.std.specs.List.{filter, filter_map}
use Rattle.es5_tree.specs.Values.{Text, Val, Undefined, Null, Truth, Num, Str, Obj, find_own}
use Rattle.es5_tree.specs.Objects.Names.{decimal, index_of, is_length}

-- A function has the number of its code and that of the record it was made in, an intrinsic function its number, an activation record the record around it.
pub data Kind : Type 0 where
  Object : Kind
  Array : Kind
  Arguments : Kind
  Function : ℕ → ℕ → Kind
  Host : ℕ → Kind
  Record : Option ℕ → Kind

-- An object: its kind, its link ([[Prototype]]), the `length` of an array (0 at other kinds), and its other own properties in the order of making.
pub record Cell : Type 0 where
  pub kind : Kind
  pub link : Option ℕ
  pub array_length : ℕ
  pub properties : List (Text × Val)

-- a cell as it is made
abbrev pub new_cell : Kind → Option ℕ → Cell
new_cell kind link = record { kind = kind; link = link; array_length = 0; properties = [] }

abbrev pub is_array : Kind → Bool
is_array Object = false
is_array Array = true
is_array Arguments = false
is_array (Function code scope) = false
is_array (Host which) = false
is_array (Record outer) = false

-- arrays and arguments objects have an own `length` (10.6, 15.4.5.2)
abbrev pub has_length : Kind → Bool
has_length Object = false
has_length Array = true
has_length Arguments = true
has_length (Function code scope) = false
has_length (Host which) = false
has_length (Record outer) = false

-- the name is that of an array's `length`
abbrev pub is_array_length : Cell → Text → Bool
is_array_length c name = is_array c.kind && is_length name

-- an own property (8.12.1)
unfoldable pub own : Cell → Text → Option Val
own c name = if is_array_length c name then Some (Num (pos c.array_length)) else find_own c.properties name

-- ---- writing (8.12.5, 15.4.5.1)

-- the properties with one changed in its place, or put at the end
unfoldable pub with_property : List (Text × Val) → Text → Val → List (Text × Val)
with_property [] name v = (name, v) ∷ []
with_property (p ∷ ps) name v = if bytes_eq p.0 name then (p.0, v) ∷ ps else p ∷ with_property ps name v

-- a name that is no index, or one below n
abbrev pub stays_below : ℕ → Option ℕ → Bool
stays_below n None = true
stays_below n (Some i) = nat_lt i n

-- the properties without the elements from n on
unfoldable pub elements_below : ℕ → List (Text × Val) → List (Text × Val)
elements_below n ps = filter (λ p. stays_below n (index_of p.0)) ps

-- the whole number that a value is, and 0 for others
abbrev pub whole : Val → ℕ
whole Undefined = 0
whole Null = 0
whole (Truth b) = 0
whole (Num (pos n)) = n
whole (Num (negsuc n)) = 0
whole (Str text) = 0
whole (Obj o) = 0

-- an array of another `length`: elements at or past it go (15.4.5.1, step 3)
unfoldable pub with_length : Cell → ℕ → Cell
with_length c n = record { kind = c.kind; link = c.link; array_length = n; properties = elements_below n c.properties }

-- the `length` that an array has after a write to this index or name (15.4.5.1, step 4)
abbrev pub length_past : ℕ → Option ℕ → ℕ
length_past n None = n
length_past n (Some i) = max n (i + 1)

-- an object after a write to a property that isn't the `length` of an array
unfoldable pub with_value : Cell → Text → Val → Cell
with_value c name v = record {
  kind = c.kind;
  link = c.link;
  array_length = if is_array c.kind then length_past c.array_length (index_of name) else c.array_length;
  properties = with_property c.properties name v;
}

-- an object after a write to an own property
unfoldable pub put : Cell → Text → Val → Cell
put c name v = if is_array_length c name then with_length c (whole v) else with_value c name v

-- a value that may be the `length` of an array: a whole number from 0 to 2^32-1
abbrev pub IsLength : Val → Type 0
IsLength v = (v ≡ Num (pos (whole v))) × (whole v < 2 ^ 32)

-- a write to the `length` of an array writes such a value
abbrev pub CanPut : Cell → Text → Val → Type 0
CanPut c name v = is_array_length c name ≡ true → IsLength v

-- ---- deleting (8.12.7)

unfoldable pub without_property : List (Text × Val) → Text → List (Text × Val)
without_property ps name = filter (λ p. not (bytes_eq p.0 name)) ps

-- an object after a property that isn't the `length` of an array was deleted
unfoldable pub delete : Cell → Text → Cell
delete c name = record { kind = c.kind; link = c.link; array_length = c.array_length; properties = without_property c.properties name }

-- ---- the names that are listed (15.2.3.14)

-- numbers in rising order, one more put in
abbrev pub insert_number : ℕ → List ℕ → List ℕ
insert_number n [] = n ∷ []
insert_number n (m ∷ ms) = if nat_le n m then n ∷ m ∷ ms else m ∷ insert_number n ms

-- numbers in rising order
abbrev pub rising : List ℕ → List ℕ
rising [] = []
rising (n ∷ ns) = insert_number n (rising ns)

-- the array indices among the names, in the order of making
unfoldable pub indices : List (Text × Val) → List ℕ
indices ps = filter_map (λ p. index_of p.0) ps

abbrev pub is_some_index : Option ℕ → Bool
is_some_index None = false
is_some_index (Some i) = true

-- a name that is no index, nor the `length` of an array or of an arguments object
abbrev pub is_other_name : Kind → Text → Bool
is_other_name kind name = not (is_some_index (index_of name)) && not (has_length kind && is_length name)

unfoldable pub other_names : Kind → List (Text × Val) → List Text
other_names kind ps = filter (is_other_name kind) (map (λ p. p.0) ps)

-- The own names without the `length` of an array or arguments object: array indices first in rising order, then the others in the order of making.
unfoldable pub keys : Cell → List Text
keys c = map decimal (rising (indices c.properties)) ++ other_names c.kind c.properties
