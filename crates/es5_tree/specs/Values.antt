-- Values, and properties by their names (ECMA-262 5.1, section 8).
use Rattle.std.specs.Prelude.{ℕ, Bool, if◌then◌else◌, List, [], ◌∷◌, ℤ, Option, Some, None, bytes_eq}

-- a text: its units
abbrev pub Text : Type 0
Text = List ℕ

-- an object is known by its number
pub data Val : Type 0 where
  Undefined : Val
  Null : Val
  Truth : Bool → Val
  Num : ℤ → Val
  Str : Text → Val
  Obj : ℕ → Val

-- the value of a name in a list of names with their values
unfoldable pub find_own : List (Text × Val) → Text → Option Val
find_own [] name = None
find_own (p ∷ ps) name = if bytes_eq p.0 name then Some p.1 else find_own ps name

-- the first of two answers that is there
abbrev pub first : Option Val → (Unit {0} → Option Val) → Option Val
first (Some v) more = Some v
first None more = more tt
