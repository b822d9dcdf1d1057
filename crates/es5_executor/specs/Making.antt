-- A heap value is made: its number comes from a counter in the script's record.
use Rattle.std.specs.Prelude.{◌≡◌, ℕ, ◌+◌, ◌<◌, true, false, List, [], ◌∷◌, ◌++◌, length, Some, codes, ℤ, pos, ◌+ℤ◌}
use Rattle.opal_base.specs.declared.place.Pos.{Pos}
use Rattle.es5_tree.specs.declared.tree.Operator.TheVariants as operator
use Rattle.es5_tree.specs.Tree.{start}
use Rattle.es5_tree.specs.Values.{Text, Val, Num, Str, Obj}
use Rattle.es5_tree.specs.Objects.Links.{get}
use Rattle.es5_tree.specs.Objects.Cells.{Object, new_cell}
use Rattle.es5_evaluation.specs.State.{Code, State, record_at}
use Rattle.es5_evaluation.specs.Task.{Normal}
use Rattle.es5_evaluation.specs.Evaluate.{invoke, arguments_object}
use Rattle.es5_executor.specs.Builders.{name, num, str, this, at, member, binary, call, assign, var, return, code}
use Rattle.es5_executor.specs.Runs.{Gave, Takes}
use Rattle.es5_executor.specs.Memory.{record_of, Frame, IsFunction, IsOuter, has, write}
use Rattle.es5_executor.specs.Memory as memory
use Rattle.es5_executor.specs.Sums.{fits}

-- function(c) { var x = Object.create(c["$$proto"]); x["$$id"] = $$next_id; $$next_id = $$next_id + 1; return x; }
abbrev pub make_code : Code
make_code = code (codes "c" ∷ [])
    (var (codes "x") (call (member (name (codes "Object")) (codes "create")) (at (name (codes "c")) (codes "$$proto") ∷ []))
    ∷ assign (at (name (codes "x")) (codes "$$id")) (name (codes "$$next_id"))
    ∷ assign (name (codes "$$next_id")) (binary operator.Add (name (codes "$$next_id")) (num (pos 1)))
    ∷ return (name (codes "x"))
    ∷ [])

-- made in the script's record 1; `Object` stands in the record 0, and is the object 6, whose `create` is the function 13
abbrev pub Makes : Type 0
Makes = (p : Pos) (f c l : ℕ) (k : ℤ) (this : Val) (s : State) → IsFunction s.heap s.codes f make_code 1 → 1 < length s.records →
    IsOuter s.records 1 (record { name = codes "$$next_id"; at = 1; val = Num k; free = true }) →
    IsOuter s.records 1 (record { name = codes "Object"; at = 0; val = Obj 6; free = false }) →
    has s.heap 6 (codes "create") ≡ Some (Obj 13) → memory.IsHost s.heap 13 0 → has s.heap c (codes "$$proto") ≡ Some (Obj l) → fits (k +ℤ pos 1) ≡ true →
    Takes (invoke p (Obj f) this (Obj c ∷ [])) s 21 (Gave (Normal (Obj (length s.heap))))
    (record s { heap = write (s.heap ++ new_cell Object (Some l) ∷ []) (length s.heap) (codes "$$id") (Num k); records = memory.assign s.records 1 (codes "$$next_id") (Num (k +ℤ pos 1)) ++ record_of 1 ((codes "c", Obj c) ∷ (codes "x", Obj (length s.heap)) ∷ []) ∷ [] })

-- function(b) { return this["$method_missing"](b, "m", arguments); }
abbrev pub stub_code : Text → Code
stub_code m = code (codes "b" ∷ []) (return (call (at this (codes "$method_missing")) (name (codes "b") ∷ str m ∷ name (codes "arguments") ∷ [])) ∷ [])

abbrev pub stub_frame : Val → ℕ → Frame
stub_frame v a = (codes "b", v) ∷ (codes "arguments", Obj a) ∷ []

-- a stub does what the method that is found does
abbrev pub Stubs : Type 0
Stubs = (p : Pos) (f o t g n : ℕ) (m : Text) (v a : Val) (ws : List Val) (s s2 : State) → IsFunction s.heap s.codes f (stub_code m) o → o < length s.records →
    get s.heap t (codes "$method_missing") ≡ Some (Obj g) →
    Takes (invoke start (Obj g) (Obj t) (v ∷ Str m ∷ Obj (length s.heap) ∷ [])) (record s { heap = s.heap ++ arguments_object (v ∷ ws) ∷ []; records = s.records ++ record_of o (stub_frame v (length s.heap)) ∷ [] }) n (Gave (Normal a)) s2 →
    record_at s2.records (length s.records) ≡ record_of o (stub_frame v (length s.heap)) → length s.records < length s2.records →
    Takes (invoke p (Obj f) (Obj t) (v ∷ ws)) s (8 + n) (Gave (Normal a)) s2
