-- Tasks: what is done next, as a tree of small steps. What a node does is a task; only the walk threads states and units.
use Rattle.std.specs.Prelude.{ℕ, zero, suc, Bool, List, ◌∷◌, Option}
use Rattle.opal_base.specs.Shown.{HostCall}
use Rattle.ruby_meaning.specs.declared.tree.Node.{Node}
use Rattle.ruby_meaning.specs.declared.value.Value.{Value}
use Rattle.ruby_evaluation.specs.State.{Clause, Ruby}

-- ---- results

-- A way out that is no value: break of a loop; break of a call with a literal block, by its number; next of a loop, block or
-- lambda; return of a frame; an exception, by its number; and `retry`.
pub data Jump : Type 0 where
  BreakLoop : Value → Jump
  Break : ℕ → Value → Jump
  Next : Value → Jump
  Return : ℕ → Value → Jump
  Raise : ℕ → Jump
  Again : Jump

-- how a node ends: with a value, or by a jump
pub data Result : Type 0 where
  Val : Value → Result
  Leaves : Jump → Result

-- where a node stands: the frame in which it runs, whether a loop is the innermost that a `break` can end, and the innermost
-- rescue clause around it
pub record Place : Type 0 where
  pub frame : ℕ
  pub in_loop : Bool
  pub clause : Option Clause

-- A node begins: for its value; as the condition of a loop, or its body where that comes first, with what follows; or as the
-- body of a `begin` whose clauses stand behind it. Each takes a unit.
pub data Request : Type 0 where
  Evaluate : Node → Place → Request
  Turn : (condition body : Node) → Place → Request
  BodyFirst : (condition body : Node) → Place → Request
  Attempt : (body : Node) → (clauses : List Node) → (otherwise : Option Node) → Place → Request

pub data Task : Type 0 where
  Done : Result → Task
  -- a whole number would leave the profile's range: the run ends, whatever stands around
  Outside : Task
  Ask : Request → (Result → Task) → Task
  Look : (Ruby → Task) → Task
  Change : (Ruby → Ruby) → Task → Task
  -- a part begins that isn't evaluated for a value: it takes a unit
  Begins : Task → Task
  -- a call of the host takes a unit of its own
  Host : HostCall → Task → Task

infixl 10 ◌>>=◌
-- one task after another, whatever the first one's result
abbrev pub ◌>>=◌ : Task → (Result → Task) → Task
Done r >>= k = k r
Outside >>= k = Outside
Ask q f >>= k = Ask q (λ r. f r >>= k)
Look f >>= k = Look (λ s. f s >>= k)
Change c t >>= k = Change c (t >>= k)
Begins t >>= k = Begins (t >>= k)
Host c t >>= k = Host c (t >>= k)

-- a value goes on, and what is none is the result of the whole
abbrev pub onval : (Value → Task) → Result → Task
onval k (Val v) = k v
onval k (Leaves j) = Done (Leaves j)

abbrev pub gives : Value → Task
gives v = Done (Val v)

abbrev pub jumps : Jump → Task
jumps j = Done (Leaves j)

-- the value of a node
abbrev pub evaluate : Node → Place → (Value → Task) → Task
evaluate node p k = Ask (Evaluate node p) (onval k)

-- the result of a node
abbrev pub run_node : Node → Place → Task
run_node node p = Ask (Evaluate node p) (λ r. Done r)

-- ---- walks

-- a call of the host, and the state before it
pub record Moment : Type 0 where
  pub call : HostCall
  pub before : Ruby

-- the newest call stands first
pub record State : Type 0 where
  pub ruby : Ruby
  pub calls : List Moment

-- A result, or that a whole number left the range, each with the state and the units that are left; or the state in which the
-- units ran out.
pub data Outcome : Type 0 where
  Ends : Result → State → ℕ → Outcome
  Left : State → ℕ → Outcome
  Starved : State → Outcome

abbrev pub andthen : Outcome → (Result → State → ℕ → Outcome) → Outcome
andthen (Ends r s g) k = k r s g
andthen (Left s g) k = Left s g
andthen (Starved s) k = Starved s

abbrev pub changed : (Ruby → Ruby) → State → State
changed c s = record s { ruby = c s.ruby }

abbrev pub noted : HostCall → State → State
noted c s = record s { calls = record { call = c; before = s.ruby } ∷ s.calls }

-- what evaluates a request
abbrev pub Eval : Type 0
Eval = Request → State → ℕ → Outcome

-- a task whose requests f evaluates
abbrev pub walk : Eval → Task → State → ℕ → Outcome
walk f (Done r) s g = Ends r s g
walk f Outside s g = Left s g
walk f (Ask q k) s g = andthen (f q s g) (λ r t l. walk f (k r) t l)
walk f (Look k) s g = walk f (k s.ruby) s g
walk f (Change c t) s g = walk f t (changed c s) g
walk f (Begins t) s zero = Starved s
walk f (Begins t) s (suc g) = walk f t s g
walk f (Host c t) s zero = Starved s
walk f (Host c t) s (suc g) = walk f t (noted c s) g
