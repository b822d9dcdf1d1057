-- The own properties that a map holds, by the units of their names.
use Rattle.std.specs.Prelude.{ℕ, List, map}
use Rattle.std.specs.Global.{Vec}
use Rattle.es5_tree.specs.Values.{Text, Val}
use Rattle.es5_objects.specs.declared.value.EsValue.{EsValue}
use Rattle.es5_objects.specs.Values.{value_of}

abbrev pub name_of : Vec ℕ → Text
name_of key = key.items

abbrev pub names : List (Vec ℕ) → List Text
names keys = map name_of keys

-- a property: its name and its value
abbrev pub entry : Vec ℕ × EsValue → Text × Val
entry e = (name_of e.0, value_of e.1)

-- the properties in the order of making
abbrev pub entries : List (Vec ℕ × EsValue) → List (Text × Val)
entries es = map entry es
