-- Names and their values, in order: the globals, or the variables of an activation record (ECMA-262 5.1, section 10.2.1.1).
use Rattle.std.specs.Prelude.{ℕ, zero, suc, if◌then◌else◌, List, [], ◌∷◌, map, Option, None, Some, bytes_eq, slice_get}
use Rattle.es5_tree.specs.Values.{Text, Val}
use Rattle.es5_objects.specs.Values.{value_of}
use Rattle.es5_host.specs.declared.bindings.Binding.{Binding}

abbrev pub binding : Binding → Text × Val
binding b = (b.name, value_of b.value)

abbrev pub bindings : List Binding → List (Text × Val)
bindings bs = map binding bs

-- so many names are looked at one after the other
abbrev pub few : ℕ
few = 8

-- one place further on
abbrev pub later : Option ℕ → Option ℕ
later None = None
later (Some i) = Some (suc i)

-- the first place of a name
unfoldable pub place_of : List (Text × Val) → Text → Option ℕ
place_of [] name = None
place_of (b ∷ bs) name = if bytes_eq b.0 name then Some 0 else later (place_of bs name)

abbrev pub second : Option (Text × Val) → Option Val
second None = None
second (Some b) = Some b.1

-- the value at a place
abbrev pub value_at : List (Text × Val) → ℕ → Option Val
value_at bs i = second (slice_get bs i)

-- the list with another value at a place
unfoldable pub with_value_at : List (Text × Val) → ℕ → Val → List (Text × Val)
with_value_at [] i v = []
with_value_at (b ∷ bs) zero v = (b.0, v) ∷ bs
with_value_at (b ∷ bs) (suc i) v = b ∷ with_value_at bs i v
