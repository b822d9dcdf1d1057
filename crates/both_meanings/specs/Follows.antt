-- A task of the script follows an outcome of Ruby's evaluation.
use Rattle.std.specs.Prelude.{◌≡◌, ℕ, ◌+◌, ◌*◌, ◌≤◌, List, [], ◌∷◌, ◌++◌, map, ⊤}
use Rattle.opal_base.specs.declared.place.Pos.{Pos}
use Rattle.opal_base.specs.Shown.{HostCall}
use Rattle.es5_tree.specs.Ends.{Number}
use Rattle.es5_evaluation.specs.State as es
use Rattle.es5_evaluation.specs.Task.{Completion, Task, Done, Going}
use Rattle.es5_evaluation.specs.Task as task
use Rattle.es5_evaluation.specs.Run.{run}
use Rattle.es5_rules.specs.Moments.{moments}
use Rattle.es5_rules.specs.Steps.{Steps}
use Rattle.ruby_evaluation.specs.State.{Ruby}
use Rattle.ruby_evaluation.specs.Task.{Result, Val, Leaves, Moment, State, Outcome, Ends, Left, Starved}
use Rattle.ruby_evaluation.specs.Run.{befores}
use Rattle.both_meanings.specs.Agree.{Relation}

-- the calls of the host, the newest first
abbrev pub calls_of : List Moment → List HostCall
calls_of = map (λ m. m.call)

-- as many states on both sides, each in the relation to the other
abbrev pub Carried : Relation → List Ruby → List es.State → Type 0
Carried C [] [] = ⊤
Carried C (r ∷ rs) (s ∷ ss) = C r s × Carried C rs ss
Carried C _ _ = ⊥

-- Since the calls c0 Ruby's side has made later ones, before each of which both states were in the relation.
pub record Met (C : Relation) (c0 c : List Moment) (vs : List es.State) : Type 0 where
  pub later : List Moment
  pub is : c ≡ later ++ c0
  pub carried : Carried C (befores later) vs

-- a value has to be ahead by this many units
abbrev pub ahead : Result → ℕ
ahead (Val v) = 120
ahead (Leaves j) = 0

-- what has to hold of the results and states where both sides have ended
abbrev pub Post : Type 1
Post = Result → State → Completion → es.State → Type 0

-- Ruby's side has a result with l of its n units left
pub record EndsAt (C : Relation) (c0 : List Moment) (n a : ℕ) (r : Result) (st : State) (l : ℕ) (t : Task) (s : es.State) (P : Post) : Type 0 where
  pub m : ℕ
  pub c : Completion
  pub z : es.State
  pub vs : List es.State
  pub runs : Steps t s m (Done c) z vs
  pub met : Met C c0 st.calls vs
  pub post : P r st c z
  pub less : l ≤ n
  pub steps : n + ahead r ≤ l + 1000 * m + a

-- a number is outside the range
pub record LeftAt (C : Relation) (c0 : List Moment) (n a : ℕ) (st : State) (l : ℕ) (t : Task) (s : es.State) : Type 0 where
  pub m : ℕ
  pub place : Pos
  pub z : es.State
  pub vs : List es.State
  pub leaves : (g k : ℕ) → g ≡ m + k → run g t s ≡ task.Left Number place z
  pub sees : (g k : ℕ) → g ≡ m + k → moments g t s ≡ vs
  pub met : Met C c0 st.calls vs
  pub same : calls_of st.calls ≡ z.calls
  pub less : l ≤ n
  pub steps : n ≤ l + 1000 * m + a

-- Ruby's side is out of units, and so is the script
pub record StarvedAt (C : Relation) (c0 : List Moment) (n a : ℕ) (st : State) (t : Task) (s : es.State) : Type 0 where
  pub m : ℕ
  pub z : es.State
  pub vs : List es.State
  pub stops : run m t s ≡ Going z
  pub sees : moments m t s ≡ vs
  pub met : Met C c0 st.calls vs
  pub same : calls_of st.calls ≡ z.calls
  pub steps : n ≤ 1000 * m + a

abbrev pub Followed : Relation → List Moment → ℕ → ℕ → Outcome → Task → es.State → Post → Type 0
Followed C c0 n a (Ends r st l) t s P = EndsAt C c0 n a r st l t s P
Followed C c0 n a (Left st l) t s P = LeftAt C c0 n a st l t s
Followed C c0 n a (Starved st) t s P = StarvedAt C c0 n a st t s

-- The outcome o of n units is followed by t from the state s, with an allowance of a units; Ruby's side began with the calls c0.
pub record Follows (C : Relation) (c0 : List Moment) (n a : ℕ) (o : Outcome) (t : Task) (s : es.State) (P : Post) : Type 0 where
  pub by : Followed C c0 n a o t s P
