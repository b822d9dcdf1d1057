-- A method is defined: its function is written into each link of a module.
use Rattle.std.specs.Prelude.{◌≡◌, ◌≢◌, ℕ, ◌+◌, ◌*◌, ◌<◌, Bool, true, false, List, [], ◌∷◌, ◌++◌, length, Some, bytes_eq, codes}
use Rattle.opal_base.specs.declared.place.Pos.{Pos}
use Rattle.es5_tree.specs.declared.tree.Operator.TheVariants as operator
use Rattle.es5_tree.specs.Values.{Text, Val, Undefined, Null, Str, Obj}
use Rattle.es5_tree.specs.Objects.Names.{is_length}
use Rattle.es5_tree.specs.Objects.Links.{cell_at, link_at}
use Rattle.es5_evaluation.specs.State.{Code, State}
use Rattle.es5_evaluation.specs.Task.{Normal}
use Rattle.es5_evaluation.specs.Evaluate.{invoke}
use Rattle.es5_executor.specs.Builders.{name, at, index, binary, null, assign, var, while, code}
use Rattle.es5_executor.specs.Runs.{Gave, Takes}
use Rattle.es5_executor.specs.Memory.{record_of, Heap, Frame, IsFunction, has, write}

abbrev pub next_name : Text
next_name = codes "$$next"

-- function(m, n, f) { var l = m["$$own"]; while (l !== null) { l[n] = f; l = l["$$next"]; } }
abbrev pub define_code : Code
define_code = code (codes "m" ∷ codes "n" ∷ codes "f" ∷ [])
    (var (codes "l") (at (name (codes "m")) (codes "$$own"))
    ∷ while (binary operator.Different (name (codes "l")) null)
    (assign (index (name (codes "l")) (name (codes "n"))) (name (codes "f")) ∷ assign (name (codes "l")) (at (name (codes "l")) next_name) ∷ [])
    ∷ [])

-- the links of a module, from this value on
abbrev pub Links : Heap → Val → List ℕ → Type 0
Links h v [] = v ≡ Null
Links h v (l ∷ ls) = (v ≡ Obj l) × (w : Val) × (has h l next_name ≡ Some w) × Links h w ls

-- the property written on each of them
abbrev pub write_all : Heap → List ℕ → Text → Val → Heap
write_all h [] n v = h
write_all h (l ∷ ls) n v = write_all (write h l n v) ls n v

abbrev pub frame_of : Val → Text → Val → Val → Frame
frame_of m n f l = (codes "m", m) ∷ (codes "n", Str n) ∷ (codes "f", f) ∷ (codes "l", l) ∷ []

-- a name that a method may have
abbrev pub IsMethod : Text → Type 0
IsMethod n = (is_length n ≡ false) × (bytes_eq n next_name ≡ false)

abbrev pub Defines : Type 0
Defines = (p : Pos) (d o m : ℕ) (n : Text) (f first : Val) (ls : List ℕ) (this : Val) (s : State) → IsFunction s.heap s.codes d define_code o → o < length s.records →
    IsMethod n → has s.heap m (codes "$$own") ≡ Some first → Links s.heap first ls →
    Takes (invoke p (Obj d) this (Obj m ∷ Str n ∷ f ∷ [])) s (8 + 16 * length ls) (Gave (Normal Undefined))
    (record s { heap = write_all s.heap ls n f; records = s.records ++ record_of o (frame_of (Obj m) n f Null) ∷ [] })

-- which own properties, links and kinds the objects have then
abbrev pub In : ℕ → List ℕ → Type 0
In x [] = ⊥
In x (l ∷ ls) = (b : Bool) × (b ≡ true → x ≡ l) × (b ≡ false → In x ls)

abbrev pub Out : ℕ → List ℕ → Type 0
Out x [] = Unit {0}
Out x (l ∷ ls) = (x ≢ l) × Out x ls

pub record Written (h h' : Heap) (ls : List ℕ) (n : Text) (v : Val) : Type 0 where
  pub size : length h' ≡ length h
  pub kinds : (x : ℕ) → (cell_at h' x).kind ≡ (cell_at h x).kind
  pub links : (x : ℕ) → link_at h' x ≡ link_at h x
  pub there : (x : ℕ) → In x ls → has h' x n ≡ Some v
  pub others : (x : ℕ) → Out x ls → (q : Text) → has h' x q ≡ has h x q
  pub names : (x : ℕ) (q : Text) → bytes_eq n q ≡ false → is_length q ≡ false → has h' x q ≡ has h x q

abbrev pub DefineWrites : Type 0
DefineWrites = (h : Heap) (ls : List ℕ) (n : Text) (f first : Val) → IsMethod n → Links h first ls → Written h (write_all h ls n f) ls n f
