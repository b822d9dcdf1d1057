-- What the calls of sources, sinks and files do, and what their answers show.
use Rattle.std.specs.Prelude.{◌≡◌, ℕ, ◌+◌, ◌-◌, ◌^◌, ◌<◌, ◌≤◌, min, List, [], ◌++◌, length, take, None, Some, Result, OnErr, IfSome, ⊤}
use Rattle.std.specs.Option.{option_map}
use Rattle.std.specs.declared.option.Option.{Option}

-- a counter of 64 bits rose, or stands at its last value
abbrev pub Rose : ℕ → ℕ → Type 0
Rose before now = min (before + 1) (2 ^ 64 - 1) ≤ now

-- a count of faults never falls, and a failure is answered only where it rose
pub record HasCause {T E : Type 0} (before now : ℕ) (result : Result T E) : Type 0 where
  pub later : before ≤ now
  pub failed : OnErr result (Rose before now)

-- ---- sinks

-- told bytes with more behind them; what isn't told stays so
abbrev pub appended : Option (List ℕ) → List ℕ → Option (List ℕ)
appended None more = None
appended (Some bytes) more = Some (bytes ++ more)

-- a front of the bytes was taken
abbrev pub TookFront : Option (List ℕ) → Option (List ℕ) → List ℕ → Type 0
TookFront old new bytes = (count : ℕ) × (count ≤ length bytes) × (new ≡ appended old (take count bytes))

-- ---- sources

-- told bytes with others before them; what isn't told stays so
abbrev pub preceded : List ℕ → Option (List ℕ) → Option (List ℕ)
preceded front None = None
preceded front (Some rest) = Some (front ++ rest)

-- the first bytes that were left stand in the buffer and are left no more; none come only at the end or into no room
pub record Delivers (left_old left_new : Option (List ℕ)) (buffer : List ℕ) (count : ℕ) : Type 0 where
  pub bound : count ≤ length buffer
  pub bytes : left_old ≡ preceded (take count buffer) left_new
  pub ended : count ≡ 0 → 0 < length buffer → IfSome left_new (λ rest. rest ≡ [])

-- ---- files

-- what stands under a name
abbrev pub FileMap : Type 0
FileMap = List ℕ → Option (List ℕ)

-- the content is what the map has under this name, or its first bytes where it is longer
abbrev pub HasContent : Option FileMap → List ℕ → ℕ → List ℕ → Type 0
HasContent None name most bytes = ⊤
HasContent (Some map) name most bytes = option_map (take most) (map name) ≡ Some bytes

-- the map, where it is told, has nothing under this name
abbrev pub IsAbsentFrom : Option FileMap → List ℕ → Type 0
IsAbsentFrom None name = ⊤
IsAbsentFrom (Some map) name = map name ≡ None

-- a file was answered to be absent: the tally rose, and the kept name is this one
pub record Missed (before now : ℕ) (kept name : List ℕ) : Type 0 where
  pub rose : Rose before now
  pub is_kept : kept ≡ name
