-- The names that scripts generate: temporaries by number, locals by name, and those of frames and of the runtime, which begin with "$".
use Rattle.std.specs.Prelude.{◌≡◌, ℕ, ◌+◌, ◌/◌, ◌%◌, ◌||◌, ◌&&◌, Bool, if◌then◌else◌, nat_lt, nat_le, nat_eq, [], ◌∷◌, ◌++◌, codes}
use Rattle.std.specs.List.{flat_map}
use Rattle.es5_tree.specs.Values.{Text}
use Rattle.es5_tree.specs.Objects.Names.{decimal}
use Rattle.ruby_evaluation.specs.Tables.{Name}

abbrev pub temp : ℕ → Text
temp n = codes "t$" ++ decimal n

-- a unit that stands for itself: a digit, a letter of ASCII or `_`
abbrev pub is_plain : ℕ → Bool
is_plain u = (nat_le 48 u && nat_le u 57) || (nat_le 65 u && nat_le u 90) || nat_eq u 95 || (nat_le 97 u && nat_le u 122)

abbrev pub hex : ℕ → ℕ
hex n = if nat_lt n 10 then 48 + n else 87 + n

-- any other is "$" with four digits
abbrev pub spelled : ℕ → Text
spelled u = if is_plain u then u ∷ [] else 36 ∷ hex (u / 4096) ∷ hex (u / 256 % 16) ∷ hex (u / 16 % 16) ∷ hex (u % 16) ∷ []

abbrev pub local : Name → Text
local x = codes "l$" ++ flat_map spelled x

-- ---- names of frames and of the runtime

pub record IsFrameName (x : Text) : Type 0 where
  pub tail : Text
  pub is : x ≡ 36 ∷ tail

abbrev pub self_name : Text
self_name = codes "$$self"

abbrev pub block_name : Text
block_name = codes "$$block"

-- the module of the method
abbrev pub home_name : Text
home_name = codes "$$home"

-- the module whose body stands around the text as the n-th, from the outside
abbrev pub module_name : ℕ → Text
module_name n = codes "$$m" ++ decimal n

-- a name that translations generate; others are plain names, of functions of the runtime
pub data Generated : Text → Type 0 where
  is_temp : (n : ℕ) → Generated (temp n)
  is_local : (y : Name) → Generated (local y)
  is_frame : (y : Text) → Generated (36 ∷ y)
