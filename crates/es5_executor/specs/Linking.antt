-- A new object gets its link, and an error of the machine is thrown.
use Rattle.std.specs.Prelude.{◌≡◌, ℕ, ◌<◌, false, [], ◌∷◌, ◌++◌, length, None, Some, codes, pos}
use Rattle.opal_base.specs.declared.place.Pos.{Pos}
use Rattle.es5_tree.specs.Values.{Val, Null, Num, Obj}
use Rattle.es5_tree.specs.Objects.Cells.{Object, new_cell}
use Rattle.es5_tree.specs.Objects.Links.{LinksWithin}
use Rattle.es5_evaluation.specs.State.{Code, State}
use Rattle.es5_evaluation.specs.Task.{Normal, Throw}
use Rattle.es5_evaluation.specs.Evaluate.{error_object, invoke}
use Rattle.es5_executor.specs.Builders.{name, num, null, call, at, member, expr, assign, var, when, return, code}
use Rattle.es5_executor.specs.Runs.{Gave, Takes}
use Rattle.es5_executor.specs.Memory.{record_of, Frame, IsFunction, IsHost, IsOuter, has, write, relink}

-- function(h) { var o = Object.create(null); Object.setPrototypeOf(o, h); o["$$id"] = 0; if (Array.isArray(o)) { return null; } return Object.getPrototypeOf(o); }
abbrev pub thing_code : Code
thing_code = code (codes "h" ∷ [])
    (var (codes "o") (call (member (name (codes "Object")) (codes "create")) (null ∷ []))
    ∷ expr (call (member (name (codes "Object")) (codes "setPrototypeOf")) (name (codes "o") ∷ name (codes "h") ∷ []))
    ∷ assign (at (name (codes "o")) (codes "$$id")) (num (pos 0))
    ∷ when (call (member (name (codes "Array")) (codes "isArray")) (name (codes "o") ∷ [])) (return null ∷ [])
    ∷ return (call (member (name (codes "Object")) (codes "getPrototypeOf")) (name (codes "o") ∷ []))
    ∷ [])

-- the intrinsic functions stand where they stood before the script began
pub record ObjectStands (s : State) (o : ℕ) : Type 0 where
  pub object : IsOuter s.records o (record { name = codes "Object"; at = 0; val = Obj 6; free = false })
  pub array : IsOuter s.records o (record { name = codes "Array"; at = 0; val = Obj 8; free = false })
  pub create : has s.heap 6 (codes "create") ≡ Some (Obj 13)
  pub get : has s.heap 6 (codes "getPrototypeOf") ≡ Some (Obj 14)
  pub set : has s.heap 6 (codes "setPrototypeOf") ≡ Some (Obj 15)
  pub test : has s.heap 8 (codes "isArray") ≡ Some (Obj 20)
  pub is_create : IsHost s.heap 13 0
  pub is_get : IsHost s.heap 14 1
  pub is_set : IsHost s.heap 15 2
  pub is_test : IsHost s.heap 20 7

abbrev pub thing_frame : ℕ → Val → Frame
thing_frame h o = (codes "h", Obj h) ∷ (codes "o", o) ∷ []

abbrev pub Links : Type 0
Links = (p : Pos) (f o h : ℕ) (this : Val) (s : State) → IsFunction s.heap s.codes f thing_code o → o < length s.records → ObjectStands s o → LinksWithin s.heap → h < length s.heap →
    Takes (invoke p (Obj f) this (Obj h ∷ [])) s 27 (Gave (Normal (Obj h)))
    (record s { heap = write (relink (s.heap ++ new_cell Object None ∷ []) (length s.heap) (Some h)) (length s.heap) (codes "$$id") (Num (pos 0)); records = s.records ++ record_of o (thing_frame h (Obj (length s.heap))) ∷ [] })

-- function(x) { return x["a"]; }
abbrev pub read_code : Code
read_code = code (codes "x" ∷ []) (return (at (name (codes "x")) (codes "a")) ∷ [])

-- null has no properties
abbrev pub ReadThrows : Type 0
ReadThrows = (p : Pos) (f o : ℕ) (this : Val) (s : State) → IsFunction s.heap s.codes f read_code o → o < length s.records →
    Takes (invoke p (Obj f) this (Null ∷ [])) s 4 (Gave (Throw (Obj (length s.heap)))) (record s { heap = s.heap ++ error_object (codes "TypeError") (codes "no properties") ∷ []; records = s.records ++ record_of o ((codes "x", Null) ∷ []) ∷ [] })

-- function(f) { return f(); }
abbrev pub invoke_code : Code
invoke_code = code (codes "f" ∷ []) (return (call (name (codes "f")) []) ∷ [])

-- null is no function
abbrev pub CallOfNull : Type 0
CallOfNull = (p : Pos) (f o : ℕ) (this : Val) (s : State) → IsFunction s.heap s.codes f invoke_code o → o < length s.records →
    Takes (invoke p (Obj f) this (Null ∷ [])) s 3 (Gave (Throw (Obj (length s.heap)))) (record s { heap = s.heap ++ error_object (codes "TypeError") (codes "not a function") ∷ []; records = s.records ++ record_of o ((codes "f", Null) ∷ []) ∷ [] })
