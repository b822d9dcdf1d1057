-- Sums and methods of texts.
use Rattle.std.specs.Prelude.{◌≡◌, ℕ, ◌<◌, true, false, nat_le, nat_lt, [], ◌∷◌, ◌++◌, length, Some, codes, ℤ, pos, slice_index}
use Rattle.opal_base.specs.declared.place.Pos.{Pos}
use Rattle.es5_tree.specs.declared.tree.Operator.TheVariants as operator
use Rattle.es5_tree.specs.Tree.{start}
use Rattle.es5_tree.specs.Values.{Text, Val, Num, Str, Obj}
use Rattle.es5_tree.specs.Ends.{Number}
use Rattle.es5_evaluation.specs.State.{Code, State}
use Rattle.es5_evaluation.specs.Task.{Normal}
use Rattle.es5_evaluation.specs.Values.{largest, numeral}
use Rattle.es5_evaluation.specs.Evaluate.{invoke}
use Rattle.es5_executor.specs.Builders.{name, str, call, member, binary, return, code}
use Rattle.es5_executor.specs.Runs.{Gave, Outside, Takes}
use Rattle.es5_executor.specs.Memory.{record_of, IsFunction, IsHost, IsOuter, has}

-- function(k) { return "i:" + k; }
abbrev pub key_code : Code
key_code = code (codes "k" ∷ []) (return (binary operator.Add (str (codes "i:")) (name (codes "k"))) ∷ [])

-- the name of a number
abbrev pub Joins : Type 0
Joins = (p : Pos) (f o : ℕ) (k : ℤ) (this : Val) (s : State) → IsFunction s.heap s.codes f key_code o → o < length s.records → nat_le (length (codes "i:" ++ numeral k)) largest ≡ true →
    Takes (invoke p (Obj f) this (Num k ∷ [])) s 4 (Gave (Normal (Str (codes "i:" ++ numeral k)))) (record s { records = s.records ++ record_of o ((codes "k", Num k) ∷ []) ∷ [] })

-- of a text, too long
abbrev pub JoinLeaves : Type 0
JoinLeaves = (p : Pos) (f o : ℕ) (k : Text) (this : Val) (s : State) → IsFunction s.heap s.codes f key_code o → o < length s.records → nat_le (length (codes "i:" ++ k)) largest ≡ false →
    Takes (invoke p (Obj f) this (Str k ∷ [])) s 4 (Outside Number start) (record s { records = s.records ++ record_of o ((codes "k", Str k) ∷ []) ∷ [] })

-- function(t, i) { return String.fromCharCode(t.charCodeAt(i)); }
abbrev pub unit_code : Code
unit_code = code (codes "t" ∷ codes "i" ∷ []) (return (call (member (name (codes "String")) (codes "fromCharCode")) (call (member (name (codes "t")) (codes "charCodeAt")) (name (codes "i") ∷ []) ∷ [])) ∷ [])

-- the unit at an index, as a text
abbrev pub UnitReads : Type 0
UnitReads = (p : Pos) (f o i : ℕ) (t : Text) (this : Val) (s : State) → IsFunction s.heap s.codes f unit_code o → o < length s.records →
    IsOuter s.records o (record { name = codes "String"; at = 0; val = Obj 9; free = false }) →
    has s.heap 9 (codes "fromCharCode") ≡ Some (Obj 26) → IsHost s.heap 26 13 → has s.heap 3 (codes "charCodeAt") ≡ Some (Obj 23) → IsHost s.heap 23 10 →
    nat_lt i (length t) ≡ true → nat_le (slice_index t i) 65535 ≡ true →
    Takes (invoke p (Obj f) this (Str t ∷ Num (pos i) ∷ [])) s 8 (Gave (Normal (Str (slice_index t i ∷ [])))) (record s { records = s.records ++ record_of o ((codes "t", Str t) ∷ (codes "i", Num (pos i)) ∷ []) ∷ [] })
