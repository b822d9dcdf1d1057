-- The input of a run, as it is read line by line.
use Rattle.std.specs.Prelude.{ℕ, ◌+◌, if◌then◌else◌, nat_eq, [], ◌∷◌, drop}
use Rattle.es5_tree.specs.Values.{Text, Val, Null, Str}

-- the input, and how many of its units were read
pub record Reading : Type 0 where
  pub input : Text
  pub read : ℕ

-- the first line of a text, with its newline where it has one
abbrev pub line_of : Text → Text
line_of [] = []
line_of (u ∷ us) = if nat_eq u 10 then u ∷ [] else u ∷ line_of us

-- what isn't read yet
abbrev pub rest : Reading → Text
rest r = drop r.read r.input

-- so many more units are read
abbrev pub advanced : Reading → ℕ → Reading
advanced r n = record { input = r.input; read = r.read + n }

-- a line, or null at the end
abbrev pub line_value : Text → Val
line_value [] = Null
line_value (u ∷ us) = Str (u ∷ us)
