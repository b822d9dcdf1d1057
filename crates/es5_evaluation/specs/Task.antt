-- Tasks: what is done next, as a tree of small steps; and their walks, which change the state until a node begins.
use Rattle.std.specs.Prelude.{ℕ, [], ◌∷◌, ◌++◌, length}
use Rattle.opal_base.specs.declared.place.Pos.{Pos}
use Rattle.opal_base.specs.Shown.{Wrote, Asked}
use Rattle.es5_tree.specs.declared.tree.EsExpr.{EsExpr}
use Rattle.es5_tree.specs.declared.tree.EsStmt.{EsStmt}
use Rattle.es5_tree.specs.Values.{Text, Val}
use Rattle.es5_tree.specs.Ends.{OutKind}
use Rattle.es5_tree.specs.Objects.Cells.{Cell}
use Rattle.es5_tree.specs.Objects.Links.{set_cell}
use Rattle.es5_tree.specs.Intrinsics.Lines.{advanced}
use Rattle.es5_evaluation.specs.State.{Code, Activation, State, set_record}

-- what an expression refers to: a variable, or a property of a value that can have some (8.7)
pub data Place : Type 0 where
  Variable : Text → Place
  Property : Val → Text → Place

-- How a node ends (8.9): with a value, with a place where a place was asked for, or abruptly. A statement that ends normally has undefined as its value, or one that nothing reads.
pub data Completion : Type 0 where
  Normal : Val → Completion
  Refers : Place → Completion
  Return : Val → Completion
  Throw : Val → Completion
  Break : Completion
  Continue : Completion

-- where a node stands: the value of `this`, and the number of the innermost record (10.3)
pub record Scope : Type 0 where
  pub this : Val
  pub innermost : ℕ

-- A node begins: an expression for its value or for its place, a statement, or the test of a loop with what follows it. Each takes a unit.
pub data Request : Type 0 where
  Evaluate : EsExpr → Scope → Request
  Refer : EsExpr → Scope → Request
  Execute : EsStmt → Scope → Request
  Turn : EsExpr → EsStmt → Scope → Request

pub data Task : Type 0 where
  Done : Completion → Task
  -- the profile is left at a place
  Leaves : OutKind → Pos → Task
  Ask : Request → (Completion → Task) → Task
  Look : (State → Task) → Task
  -- an object is changed
  Set : ℕ → Cell → Task → Task
  -- a new object
  Make : Cell → (ℕ → Task) → Task
  -- the code of a new function
  Keep : Code → (ℕ → Task) → Task
  -- a new activation record
  Enter : Activation → (ℕ → Task) → Task
  -- a record is changed
  Store : ℕ → Activation → Task → Task
  -- the host writes a text
  Print : Text → Task → Task
  -- a line of the input is asked for, and so many units of it are read
  Read : ℕ → Task → Task

infixl 10 ◌>>=◌
-- one task after another
unfoldable pub ◌>>=◌ : Task → (Completion → Task) → Task
Done c >>= k = k c
Leaves o p >>= k = Leaves o p
Ask q f >>= k = Ask q (λ c. f c >>= k)
Look f >>= k = Look (λ s. f s >>= k)
Set o c t >>= k = Set o c (t >>= k)
Make c f >>= k = Make c (λ o. f o >>= k)
Keep c f >>= k = Keep c (λ n. f n >>= k)
Enter a f >>= k = Enter a (λ r. f r >>= k)
Store r a t >>= k = Store r a (t >>= k)
Print x t >>= k = Print x (t >>= k)
Read n t >>= k = Read n (t >>= k)

-- ---- changes of the state

abbrev pub with_object : State → ℕ → Cell → State
with_object s o c = record s { heap = set_cell s.heap o c }

abbrev pub with_new : State → Cell → State
with_new s c = record s { heap = s.heap ++ c ∷ [] }

abbrev pub with_code : State → Code → State
with_code s c = record s { codes = s.codes ++ c ∷ [] }

abbrev pub with_record : State → Activation → State
with_record s a = record s { records = s.records ++ a ∷ [] }

abbrev pub with_stored : State → ℕ → Activation → State
with_stored s r a = record s { records = set_record s.records r a }

abbrev pub printed : State → Text → State
printed s x = record s { calls = Wrote x ∷ s.calls }

abbrev pub has_read : State → ℕ → State
has_read s n = record s { lines = advanced s.lines n; calls = Asked ∷ s.calls }

-- ---- walks

-- a completion with the units that are left, an end outside the profile, or a node that would begin without a unit
pub data Outcome : Type 0 where
  Ended : Completion → State → ℕ → Outcome
  Left : OutKind → Pos → State → Outcome
  Going : State → Outcome

-- what comes of a node that begins, and of the rest behind it
abbrev pub Answers : Type 0
Answers = Request → (Completion → Task) → State → Outcome

unfoldable pub walk : Answers → ℕ → Task → State → Outcome
walk A g (Done c) s = Ended c s g
walk A g (Leaves o p) s = Left o p s
walk A g (Ask q k) s = A q k s
walk A g (Look f) s = walk A g (f s) s
walk A g (Set o c t) s = walk A g t (with_object s o c)
walk A g (Make c f) s = walk A g (f (length s.heap)) (with_new s c)
walk A g (Keep c f) s = walk A g (f (length s.codes)) (with_code s c)
walk A g (Enter a f) s = walk A g (f (length s.records)) (with_record s a)
walk A g (Store r a t) s = walk A g t (with_stored s r a)
walk A g (Print x t) s = walk A g t (printed s x)
walk A g (Read n t) s = walk A g t (has_read s n)
