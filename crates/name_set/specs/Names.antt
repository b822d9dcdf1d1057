-- Names, and which of them are new.
use Rattle.std.specs.Prelude.{ℕ, Bool, List, [], ◌∷◌, ◌++◌, if◌then◌else◌, bytes_eq, map}
use Rattle.std.specs.Global.{Vec}
use Rattle.std.specs.List.{list_any}

abbrev pub Name : Type 0
Name = List ℕ

abbrev pub has : List Name → Name → Bool
has names name = list_any (bytes_eq name) names

-- a list with a name behind, unless it is known
abbrev pub with_new : List Name → Name → List Name → List Name
with_new known name list = if has known name then list else list ++ name ∷ []

-- ---- the keys of an index

abbrev pub name_of : Vec ℕ → Name
name_of key = key.items

abbrev pub names : List (Vec ℕ) → List Name
names keys = map name_of keys
