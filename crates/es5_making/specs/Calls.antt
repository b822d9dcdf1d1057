-- Parts of the record of a call (ECMA-262 5.1, section 10.5).
use Rattle.std.specs.Prelude.{ℕ, List, [], ◌∷◌, slice_get, Option, None, Some}
use Rattle.es5_tree.specs.Values.{Text, Val, Obj}
use Rattle.es5_evaluation.specs.Declared.{arguments_name}
use Rattle.es5_evaluation.specs.Values.{or_undefined}

-- the argument at a place, undefined behind the last one
abbrev pub argument_at : List Val → ℕ → Val
argument_at vs i = or_undefined (slice_get vs i)

-- `arguments` with its object, where there is one
abbrev pub arguments_bound : Option ℕ → List (Text × Val)
arguments_bound None = []
arguments_bound (Some o) = (arguments_name, Obj o) ∷ []
