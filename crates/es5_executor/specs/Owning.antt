-- Properties: an own one, one that is deleted, and one that is absent along the links.
use Rattle.std.specs.Prelude.{◌≡◌, ℕ, ◌<◌, true, false, [], ◌∷◌, ◌++◌, length, None, Some, codes}
use Rattle.opal_base.specs.declared.place.Pos.{Pos}
use Rattle.es5_tree.specs.declared.tree.Operator.TheVariants as operator
use Rattle.es5_tree.specs.Values.{Text, Val, Undefined, Null, Truth, Str, Obj}
use Rattle.es5_tree.specs.Objects.Links.{get, link_at}
use Rattle.es5_evaluation.specs.State.{Code, State}
use Rattle.es5_evaluation.specs.Task.{Normal}
use Rattle.es5_evaluation.specs.Values.{same}
use Rattle.es5_evaluation.specs.Evaluate.{invoke}
use Rattle.es5_executor.specs.Builders.{name, null, truth, call, at, member, index, binary, delete, expr, assign, var, when, return, code}
use Rattle.es5_executor.specs.Runs.{Gave, Takes}
use Rattle.es5_executor.specs.Memory.{record_of, Frame, IsFunction, IsHost, IsOuter, Misses, has, write, erase}

-- function(o, n) { if (Object.prototype.hasOwnProperty.call(o, n)) { return o[n]; } return null; }
abbrev pub lookup_code : Code
lookup_code = code (codes "o" ∷ codes "n" ∷ [])
    (when (call (member (member (member (name (codes "Object")) (codes "prototype")) (codes "hasOwnProperty")) (codes "call")) (name (codes "o") ∷ name (codes "n") ∷ [])) (return (index (name (codes "o")) (name (codes "n"))) ∷ [])
    ∷ return null
    ∷ [])

-- `Object.prototype.hasOwnProperty` and its `call` stand where they stood before the script began
pub record TestStands (s : State) (o : ℕ) : Type 0 where
  pub object : IsOuter s.records o (record { name = codes "Object"; at = 0; val = Obj 6; free = false })
  pub prototype : has s.heap 6 (codes "prototype") ≡ Some (Obj 0)
  pub own : has s.heap 0 (codes "hasOwnProperty") ≡ Some (Obj 17)
  pub passes : get s.heap 17 (codes "call") ≡ Some (Obj 18)
  pub is_call : IsHost s.heap 18 5
  pub is_own : IsHost s.heap 17 4

abbrev pub lookup_frame : ℕ → Text → Frame
lookup_frame a n = (codes "o", Obj a) ∷ (codes "n", Str n) ∷ []

abbrev pub Owns : Type 0
Owns = (p : Pos) (f o a : ℕ) (n : Text) (v this : Val) (s : State) → IsFunction s.heap s.codes f lookup_code o → o < length s.records → TestStands s o → has s.heap a n ≡ Some v →
    Takes (invoke p (Obj f) this (Obj a ∷ Str n ∷ [])) s 13 (Gave (Normal v)) (record s { records = s.records ++ record_of o (lookup_frame a n) ∷ [] })

abbrev pub OwnsNot : Type 0
OwnsNot = (p : Pos) (f o a : ℕ) (n : Text) (this : Val) (s : State) → IsFunction s.heap s.codes f lookup_code o → o < length s.records → TestStands s o → has s.heap a n ≡ None → a < length s.heap →
    Takes (invoke p (Obj f) this (Obj a ∷ Str n ∷ [])) s 10 (Gave (Normal Null)) (record s { records = s.records ++ record_of o (lookup_frame a n) ∷ [] })

-- function(l) { delete l["$$mod"]; l["$$pass"] = true; return l["$$mod"]; }
abbrev pub passing_code : Code
passing_code = code (codes "l" ∷ []) (expr (delete (at (name (codes "l")) (codes "$$mod"))) ∷ assign (at (name (codes "l")) (codes "$$pass")) truth ∷ return (at (name (codes "l")) (codes "$$mod")) ∷ [])

-- of an object without a link
abbrev pub Deletes : Type 0
Deletes = (p : Pos) (f o l : ℕ) (m this : Val) (s : State) → IsFunction s.heap s.codes f passing_code o → o < length s.records → has s.heap l (codes "$$mod") ≡ Some m → link_at s.heap l ≡ None →
    Takes (invoke p (Obj f) this (Obj l ∷ [])) s 15 (Gave (Normal Undefined))
    (record s { heap = write (erase s.heap l (codes "$$mod")) l (codes "$$pass") (Truth true); records = s.records ++ record_of o ((codes "l", Obj l) ∷ []) ∷ [] })

-- function(x, n) { var v = x[n]; if (v === undefined) { return $$nil; } return v; }
abbrev pub variable_code : Code
variable_code = code (codes "x" ∷ codes "n" ∷ [])
    (var (codes "v") (index (name (codes "x")) (name (codes "n"))) ∷ when (binary operator.Same (name (codes "v")) (name (codes "undefined"))) (return (name (codes "$$nil")) ∷ []) ∷ return (name (codes "v")) ∷ [])

-- the variables that it reads
pub record NilStands (s : State) (o b : ℕ) (v : Val) : Type 0 where
  pub undefined : IsOuter s.records o (record { name = codes "undefined"; at = 0; val = Undefined; free = false })
  pub nil : IsOuter s.records o (record { name = codes "$$nil"; at = b; val = v; free = true })

abbrev pub variable_frame : ℕ → Text → Val → Frame
variable_frame x n v = (codes "x", Obj x) ∷ (codes "n", Str n) ∷ (codes "v", v) ∷ []

-- a property along the links
abbrev pub VariableReads : Type 0
VariableReads = (p : Pos) (f o b x : ℕ) (n : Text) (v nil this : Val) (s : State) → IsFunction s.heap s.codes f variable_code o → o < length s.records → NilStands s o b nil → get s.heap x n ≡ Some v → same v Undefined ≡ false →
    Takes (invoke p (Obj f) this (Obj x ∷ Str n ∷ [])) s 10 (Gave (Normal v)) (record s { records = s.records ++ record_of o (variable_frame x n v) ∷ [] })

-- one that is absent
abbrev pub VariableMisses : Type 0
VariableMisses = (p : Pos) (f o b x : ℕ) (n : Text) (nil this : Val) (s : State) → IsFunction s.heap s.codes f variable_code o → o < length s.records → NilStands s o b nil → Misses s.heap x n →
    Takes (invoke p (Obj f) this (Obj x ∷ Str n ∷ [])) s 11 (Gave (Normal nil)) (record s { records = s.records ++ record_of o (variable_frame x n Undefined) ∷ [] })
