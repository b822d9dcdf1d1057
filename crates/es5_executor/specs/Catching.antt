-- A function is called with a token that is open until it is over, and a jump to the token ends here.
use Rattle.std.specs.Prelude.{◌≡◌, ℕ, ◌+◌, ◌<◌, true, false, List, [], ◌∷◌, ◌++◌, length, Some, codes}
use Rattle.opal_base.specs.declared.place.Pos.{Pos}
use Rattle.es5_tree.specs.declared.tree.Catch.{Catch}
use Rattle.es5_tree.specs.declared.tree.EsKind.TheVariants as kind
use Rattle.es5_tree.specs.declared.tree.EsStmt.TheVariants as stmt
use Rattle.es5_tree.specs.declared.tree.Operator.TheVariants as operator
use Rattle.es5_tree.specs.Tree.{start}
use Rattle.es5_tree.specs.Values.{Val, Undefined, Null, Truth, Obj}
use Rattle.es5_tree.specs.Objects.Cells.{Cell}
use Rattle.es5_tree.specs.Intrinsics.Made.{holder, object_prototype}
use Rattle.es5_evaluation.specs.State.{Code, State, record_at}
use Rattle.es5_evaluation.specs.Task.{Completion, Normal, Throw}
use Rattle.es5_evaluation.specs.Evaluate.{invoke}
use Rattle.es5_executor.specs.Builders.{ex, name, null, truth, call, at, object, binary, assign, var, when, return, throw, code}
use Rattle.es5_executor.specs.Runs.{Gave, TakesSeen}
use Rattle.es5_executor.specs.Memory as memory
use Rattle.es5_executor.specs.Memory.{record_of, Frame, IsFunction, Misses, has, write}

abbrev pub taking : Catch
taking = record { name = codes "$$x"; body = assign (name (codes "x")) (name (codes "$$x")) ∷ [] }

-- function(f) { var k = {"$$open": true}; var x = null; try { return f(k); } catch ($$x) { x = $$x; } finally { k["$$open"] = false; } if (x["$$token"] === k) { return x["$$value"]; } throw x; }
abbrev pub catching_code : Code
catching_code = code (codes "f" ∷ [])
    (var (codes "k") (object (codes "$$open" ∷ []) (truth ∷ []))
    ∷ var (codes "x") null
    ∷ stmt.Try (return (call (name (codes "f")) (name (codes "k") ∷ [])) ∷ []) (Some taking) (Some (assign (at (name (codes "k")) (codes "$$open")) (ex kind.False) ∷ []))
    ∷ when (binary operator.Same (at (name (codes "x")) (codes "$$token")) (name (codes "k"))) (return (at (name (codes "x")) (codes "$$value")) ∷ [])
    ∷ throw (name (codes "x"))
    ∷ [])

abbrev pub token : Cell
token = holder (Some object_prototype) ((codes "$$open", Truth true) ∷ [])

abbrev pub catching_frame : ℕ → ℕ → Val → Frame
catching_frame g k x = (codes "f", Obj g) ∷ (codes "k", Obj k) ∷ (codes "x", x) ∷ []

-- the state in which the function is called
abbrev pub at_call : State → ℕ → ℕ → State
at_call s o g = record s { heap = s.heap ++ token ∷ []; records = s.records ++ record_of o (catching_frame g (length s.heap) Null) ∷ [] }

-- the call of the function ends so, and leaves the record of this call
pub record Called (s : State) (o g n : ℕ) (c : Completion) (z : State) (vs : List State) : Type 0 where
  pub run : TakesSeen (invoke start (Obj g) Undefined (Obj (length s.heap) ∷ [])) (at_call s o g) n (Gave c) z vs
  pub stands : record_at z.records (length s.records) ≡ record_of o (catching_frame g (length s.heap) Null)
  pub inside : length s.records < length z.records

-- the token is closed
abbrev pub closed : State → ℕ → State
closed z k = record z { heap = write z.heap k (codes "$$open") (Truth false) }

-- what was thrown is put into a variable, from a record of its own
abbrev pub taken : State → ℕ → ℕ → State
taken z r e = record z { records = memory.assign z.records r (codes "x") (Obj e) ++ record_of r ((codes "$$x", Obj e) ∷ []) ∷ [] }

-- the function answers
abbrev pub CatchAnswers : Type 0
CatchAnswers = (p : Pos) (f o g n : ℕ) (a this : Val) (s z : State) (vs : List State) → IsFunction s.heap s.codes f catching_code o → o < length s.records → Called s o g n (Normal a) z vs →
    TakesSeen (invoke p (Obj f) this (Obj g ∷ [])) s (16 + n) (Gave (Normal a)) (closed z (length s.heap)) vs

-- it jumps to the token
abbrev pub CatchLands : Type 0
CatchLands = (p : Pos) (f o g n e : ℕ) (v this : Val) (s z : State) (vs : List State) → IsFunction s.heap s.codes f catching_code o → o < length s.records → Called s o g n (Throw (Obj e)) z vs →
    has z.heap e (codes "$$token") ≡ Some (Obj (length s.heap)) → has z.heap e (codes "$$value") ≡ Some v →
    TakesSeen (invoke p (Obj f) this (Obj g ∷ [])) s (31 + n) (Gave (Normal v)) (closed (taken z (length s.records) e) (length s.heap)) vs

-- it throws what is no jump
abbrev pub CatchThrows : Type 0
CatchThrows = (p : Pos) (f o g n e : ℕ) (this : Val) (s z : State) (vs : List State) → IsFunction s.heap s.codes f catching_code o → o < length s.records → Called s o g n (Throw (Obj e)) z vs →
    Misses z.heap e (codes "$$token") →
    TakesSeen (invoke p (Obj f) this (Obj g ∷ [])) s (28 + n) (Gave (Throw (Obj e))) (closed (taken z (length s.records) e) (length s.heap)) vs
