-- Lists of values, and of elements with their indices, as what they stand for.
use Rattle.std.specs.Prelude.{ℕ, ◌+◌, List, [], ◌∷◌, map, Option, Some, None}
use Rattle.es5_tree.specs.Values.{Text, Val}
use Rattle.es5_tree.specs.Objects.Names.{decimal}
use Rattle.es5_objects.specs.declared.value.EsValue.{EsValue}
use Rattle.es5_objects.specs.Values.{value_of}
use Rattle.es5_host.specs.declared.present.Element.{Element}

abbrev pub values : List EsValue → List Val
values vs = map value_of vs

-- an element with its index, as a property
abbrev pub element : Element → Text × Val
element e = (decimal e.index, value_of e.value)

-- the elements that aren't left out, from an index on, as properties
abbrev pub present : ℕ → List (Option Val) → List (Text × Val)
present i [] = []
present i (None ∷ vs) = present (i + 1) vs
present i (Some v ∷ vs) = (decimal i, v) ∷ present (i + 1) vs
