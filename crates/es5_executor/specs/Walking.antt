-- A walk along links until one is found, and an item of a list.
use Rattle.std.specs.Prelude.{◌≡◌, ℕ, ◌+◌, ◌<◌, Bool, true, false, if◌then◌else◌, nat_eq, int_lt, List, [], ◌∷◌, ◌++◌, length, Some, codes, pos}
use Rattle.opal_base.specs.declared.place.Pos.{Pos}
use Rattle.es5_tree.specs.declared.tree.EsKind.TheVariants as kind
use Rattle.es5_tree.specs.declared.tree.Operator.TheVariants as operator
use Rattle.es5_tree.specs.Values.{Val, Null, Truth, Num, Obj}
use Rattle.es5_tree.specs.Objects.Names.{decimal, length_name}
use Rattle.es5_evaluation.specs.State.{Code, State}
use Rattle.es5_evaluation.specs.Task.{Normal}
use Rattle.es5_evaluation.specs.Evaluate.{invoke}
use Rattle.es5_executor.specs.Builders.{ex, name, null, truth, at, index, binary, assign, when, while, return, code}
use Rattle.es5_executor.specs.Runs.{Gave, Takes}
use Rattle.es5_executor.specs.Memory.{record_of, Heap, Frame, IsFunction, IsOuter, has}

-- function(l, m) { while (l !== null) { if (l["$$mod"] === m) { return true; } l = l["$$next"]; } return false; }
abbrev pub among_code : Code
among_code = code (codes "l" ∷ codes "m" ∷ [])
    (while (binary operator.Different (name (codes "l")) null)
    (when (binary operator.Same (at (name (codes "l")) (codes "$$mod")) (name (codes "m"))) (return truth ∷ []) ∷ assign (name (codes "l")) (at (name (codes "l")) (codes "$$next")) ∷ [])
    ∷ return (ex kind.False)
    ∷ [])

-- the links from this value on, each with its module
abbrev pub Roll : Heap → Val → List (ℕ × ℕ) → Type 0
Roll h v [] = v ≡ Null
Roll h v (p ∷ ps) = (v ≡ Obj p.0) × (w : Val) × (has h p.0 (codes "$$mod") ≡ Some (Obj p.1)) × (has h p.0 (codes "$$next") ≡ Some w) × Roll h w ps

-- a link of the module is among them
unfoldable pub among : ℕ → List (ℕ × ℕ) → Bool
among m [] = false
among m (p ∷ ps) = if nat_eq p.1 m then true else among m ps

-- the link at which the walk ends
unfoldable pub stops_at : ℕ → List (ℕ × ℕ) → Val
stops_at m [] = Null
stops_at m (p ∷ ps) = if nat_eq p.1 m then Obj p.0 else stops_at m ps

-- the units of the walk
unfoldable pub walk_units : ℕ → List (ℕ × ℕ) → ℕ
walk_units m [] = 3
walk_units m (p ∷ ps) = if nat_eq p.1 m then 13 else 16 + walk_units m ps

-- behind a walk that found none comes the last statement
abbrev pub units_behind : Bool → ℕ
units_behind true = 1
units_behind false = 3

abbrev pub among_frame : Val → ℕ → Frame
among_frame v m = (codes "l", v) ∷ (codes "m", Obj m) ∷ []

abbrev pub Among : Type 0
Among = (p : Pos) (f o m : ℕ) (v this : Val) (ps : List (ℕ × ℕ)) (s : State) → IsFunction s.heap s.codes f among_code o → o < length s.records → Roll s.heap v ps →
    Takes (invoke p (Obj f) this (v ∷ Obj m ∷ [])) s (walk_units m ps + units_behind (among m ps)) (Gave (Normal (Truth (among m ps)))) (record s { records = s.records ++ record_of o (among_frame (stops_at m ps) m) ∷ [] })

-- function(a, i) { if (i < a["length"]) { return a[i]; } return $$nil; }
abbrev pub item_code : Code
item_code = code (codes "a" ∷ codes "i" ∷ [])
    (when (binary operator.Less (name (codes "i")) (at (name (codes "a")) (codes "length"))) (return (index (name (codes "a")) (name (codes "i"))) ∷ []) ∷ return (name (codes "$$nil")) ∷ [])

abbrev pub item_frame : ℕ → ℕ → Frame
item_frame a i = (codes "a", Obj a) ∷ (codes "i", Num (pos i)) ∷ []

-- an item of a list, and one past its end
abbrev pub ItemReads : Type 0
ItemReads = (p : Pos) (f o a i n : ℕ) (v this : Val) (s : State) → IsFunction s.heap s.codes f item_code o → o < length s.records → has s.heap a length_name ≡ Some (Num (pos n)) → has s.heap a (decimal i) ≡ Some v → int_lt (pos i) (pos n) ≡ true →
    Takes (invoke p (Obj f) this (Obj a ∷ Num (pos i) ∷ [])) s 11 (Gave (Normal v)) (record s { records = s.records ++ record_of o (item_frame a i) ∷ [] })

abbrev pub ItemMisses : Type 0
ItemMisses = (p : Pos) (f o b a i n : ℕ) (nil this : Val) (s : State) → IsFunction s.heap s.codes f item_code o → o < length s.records → IsOuter s.records o (record { name = codes "$$nil"; at = b; val = nil; free = true }) → has s.heap a length_name ≡ Some (Num (pos n)) → int_lt (pos i) (pos n) ≡ false →
    Takes (invoke p (Obj f) this (Obj a ∷ Num (pos i) ∷ [])) s 8 (Gave (Normal nil)) (record s { records = s.records ++ record_of o (item_frame a i) ∷ [] })
