-- Which texts a `require` takes.
use Rattle.std.specs.Prelude.{ℕ, ◌+◌, ◌-◌, nat_le, Bool, true, false, not, ◌&&◌, ◌||◌, if◌then◌else◌, ◌==◌, List, [], ◌∷◌, ◌++◌, length, drop, Option, Some, None, codes, bytes_eq}
use Rattle.std.specs.Option.{option_map_or}
use Rattle.ruby_meaning.specs.Scoping.Names.{Name}

-- the name of the file: `.rb` is added where it isn't the end
unfoldable pub file_name : Name → Name
file_name text = if bytes_eq (drop (length text - 3) text) (codes ".rb") then text else text ++ codes ".rb"

-- The name that a `require` keeps. `require 'opal'` names no file.
unfoldable pub required_name : Bool → Name → Name
required_name relative text = if not relative && bytes_eq text (codes "opal") then [] else file_name text

-- the segments of a path: `part` holds the units of the segment that was begun
abbrev pub segments : Name → List ℕ → List Name
segments part [] = part ∷ []
segments part (u ∷ us) = if u == 47 then part ∷ segments [] us else segments (part ++ u ∷ []) us

-- The directory behind a segment, where there is one: no segment is empty, and `..` doesn't go above the base. Some n:
-- so many directories are below the base; None: that isn't asked.
abbrev pub behind : Option ℕ → Name → Option (Option ℕ)
behind below [] = None
behind None part = Some None
behind (Some n) part =
    if bytes_eq part (codes ".") then Some (Some n)
    else (if bytes_eq part (codes "..") then (if nat_le 1 n then Some (Some (n - 1)) else None)
    else Some (Some (n + 1)))

abbrev pub stays_within : Option ℕ → List Name → Bool
stays_within below [] = true
stays_within below (part ∷ parts) = option_map_or (λ b. stays_within b parts) (behind below part) false

abbrev pub is_high : ℕ → Bool
is_high u = nat_le 55296 u && nat_le u 56319

abbrev pub is_low : ℕ → Bool
is_low u = nat_le 56320 u && nat_le u 57343

-- A surrogate stands alone: a low one that follows no high one, or a high one that no low one follows. `high` says
-- that a high one stands directly before.
abbrev pub has_lone_surrogate : Bool → List ℕ → Bool
has_lone_surrogate high [] = high
has_lone_surrogate true (u ∷ us) = not (is_low u) || has_lone_surrogate false us
has_lone_surrogate false (u ∷ us) = is_low u || has_lone_surrogate (is_high u) us

-- the text names a file for a `require` that begins so many directories below the base
unfoldable pub names_file : Option ℕ → Name → Bool
names_file below text = not (has_lone_surrogate false text) && stays_within below (segments [] (file_name text))
