-- Calls of the host, calls that are passed on, and lists.
use Rattle.std.specs.Prelude.{◌≡◌, ℕ, ◌+◌, ◌<◌, true, false, nat_le, nat_lt, List, [], ◌∷◌, ◌++◌, length, map, Some, codes, pos}
use Rattle.opal_base.specs.declared.place.Pos.{Pos}
use Rattle.es5_tree.specs.Tree.{start}
use Rattle.es5_tree.specs.Values.{Text, Val, Null, Num, Str, Obj}
use Rattle.es5_tree.specs.Objects.Names.{decimal, index_end, length_name}
use Rattle.es5_tree.specs.Objects.Cells.{Array, has_length, keys}
use Rattle.es5_tree.specs.Objects.Links.{cell_at, get}
use Rattle.es5_tree.specs.Intrinsics.Rows.{array_of, elements, or_undefined}
use Rattle.es5_evaluation.specs.State.{Code, State, record_at}
use Rattle.es5_evaluation.specs.Task.{Normal, printed}
use Rattle.es5_evaluation.specs.Evaluate.{invoke}
use Rattle.es5_executor.specs.Builders.{name, null, call, at, member, expr, return, code}
use Rattle.es5_executor.specs.Runs.{Gave, Takes, TakesSeen}
use Rattle.es5_executor.specs.Memory.{record_of, Frame, IsFunction, IsHost, IsOuter, has, write}

-- function(a, b) { $host.write(a); $host.write(b); return null; }
abbrev pub write_code : Code
write_code = code (codes "a" ∷ codes "b" ∷ [])
    (expr (call (member (name (codes "$host")) (codes "write")) (name (codes "a") ∷ [])) ∷ expr (call (member (name (codes "$host")) (codes "write")) (name (codes "b") ∷ [])) ∷ return null ∷ [])

-- the state in which the body begins
abbrev pub in_call : State → ℕ → Frame → State
in_call s o ps = record s { records = s.records ++ record_of o ps ∷ [] }

abbrev pub two_frame : Text → Text → Frame
two_frame a b = (codes "a", Str a) ∷ (codes "b", Str b) ∷ []

-- two texts are written, and the host is called in two states
abbrev pub Writes : Type 0
Writes = (p : Pos) (f o : ℕ) (a b : Text) (this : Val) (s : State) → IsFunction s.heap s.codes f write_code o → o < length s.records →
    IsOuter s.records o (record { name = codes "$host"; at = 0; val = Obj 12; free = false }) → has s.heap 12 (codes "write") ≡ Some (Obj 27) → IsHost s.heap 27 14 →
    TakesSeen (invoke p (Obj f) this (Str a ∷ Str b ∷ [])) s 12 (Gave (Normal Null))
    (printed (printed (in_call s o (two_frame a b)) a) b)
    (in_call s o (two_frame a b) ∷ printed (in_call s o (two_frame a b)) a ∷ [])

-- function(f, x, l) { return f.apply(x, l); }
abbrev pub apply_code : Code
apply_code = code (codes "f" ∷ codes "x" ∷ codes "l" ∷ []) (return (call (member (name (codes "f")) (codes "apply")) (name (codes "x") ∷ name (codes "l") ∷ [])) ∷ [])

abbrev pub apply_frame : ℕ → Val → ℕ → Frame
apply_frame g x l = (codes "f", Obj g) ∷ (codes "x", x) ∷ (codes "l", Obj l) ∷ []

-- the values that an object lists
abbrev pub list_of : State → ℕ → ℕ → List Val
list_of s l n = map or_undefined (elements s.heap l 0 n)

-- a function of the script does what it does with the values of the list
abbrev pub Applies : Type 0
Applies = (p : Pos) (f o g c l n m : ℕ) (code : Code) (x a this : Val) (s s2 : State) (vs : List State) → IsFunction s.heap s.codes f apply_code o → o < length s.records →
    get s.heap g (codes "apply") ≡ Some (Obj 19) → IsHost s.heap 19 6 → IsFunction s.heap s.codes g code c →
    has_length (cell_at s.heap l).kind ≡ true → has s.heap l length_name ≡ Some (Num (pos n)) → nat_le n index_end ≡ true →
    TakesSeen (invoke start (Obj g) x (list_of s l n)) (in_call s o (apply_frame g x l)) m (Gave (Normal a)) s2 vs →
    record_at s2.records (length s.records) ≡ record_of o (apply_frame g x l) → length s.records < length s2.records →
    TakesSeen (invoke p (Obj f) this (Obj g ∷ x ∷ Obj l ∷ [])) s (6 + m) (Gave (Normal a)) s2 vs

-- function(l, x) { l.push(x); return l["length"]; }
abbrev pub push_code : Code
push_code = code (codes "l" ∷ codes "x" ∷ []) (expr (call (member (name (codes "l")) (codes "push")) (name (codes "x") ∷ [])) ∷ return (at (name (codes "l")) (codes "length")) ∷ [])

-- one more value at the end of an array
abbrev pub Pushes : Type 0
Pushes = (p : Pos) (f o l n : ℕ) (x this : Val) (s : State) → IsFunction s.heap s.codes f push_code o → o < length s.records →
    get s.heap l (codes "push") ≡ Some (Obj 21) → IsHost s.heap 21 8 → (cell_at s.heap l).kind ≡ Array → has s.heap l length_name ≡ Some (Num (pos n)) → nat_lt n index_end ≡ true →
    Takes (invoke p (Obj f) this (Obj l ∷ x ∷ [])) s 9 (Gave (Normal (Num (pos (n + 1)))))
    (record s { heap = write s.heap l (decimal n) x; records = s.records ++ record_of o ((codes "l", Obj l) ∷ (codes "x", x) ∷ []) ∷ [] })

-- function(x) { return Object.keys(x); }
abbrev pub keys_code : Code
keys_code = code (codes "x" ∷ []) (return (call (member (name (codes "Object")) (codes "keys")) (name (codes "x") ∷ [])) ∷ [])

-- the names of an object in their order
abbrev pub Lists : Type 0
Lists = (p : Pos) (f o x : ℕ) (this : Val) (s : State) → IsFunction s.heap s.codes f keys_code o → o < length s.records →
    IsOuter s.records o (record { name = codes "Object"; at = 0; val = Obj 6; free = false }) → has s.heap 6 (codes "keys") ≡ Some (Obj 16) → IsHost s.heap 16 3 →
    Takes (invoke p (Obj f) this (Obj x ∷ [])) s 5 (Gave (Normal (Obj (length s.heap))))
    (record s { heap = s.heap ++ array_of (map (λ name. Some (Str name)) (keys (cell_at s.heap x))) ∷ []; records = s.records ++ record_of o ((codes "x", Obj x) ∷ []) ∷ [] })
