-- `begin` with its clauses, and `case` (the choice by `===`).
use Rattle.std.specs.Prelude.{ℕ, Bool, true, false, if◌then◌else◌, List, [], ◌∷◌, ◌==◌, ◌&&◌, Option, Some, None, codes}
use Rattle.opal_base.specs.declared.place.Pos.{Pos}
use Rattle.ruby_meaning.specs.declared.tree.Base.TheOpen.{Kind-F}
use Rattle.ruby_meaning.specs.declared.tree.Kind.{out-Kind}
use Rattle.ruby_meaning.specs.declared.tree.Node.{Node}
use Rattle.ruby_meaning.specs.declared.value.Value.{Value}
use Rattle.ruby_meaning.specs.declared.value.Value.TheVariants as value
use Rattle.ruby_evaluation.specs.Tables.{Name}
use Rattle.ruby_evaluation.specs.State.{Clause, Ruby, frame_at, with_frame}
use Rattle.ruby_evaluation.specs.Task.{Raise, Again, BreakLoop, Break, Next, Return, Result, Val, Leaves, Place, Attempt, Task, Done, Ask, Look, Change, Begins, ◌>>=◌, onval, gives, jumps, evaluate, run_node}
use Rattle.ruby_evaluation.specs.Texts.{error_class}
use Rattle.ruby_evaluation.specs.Locals.{with_local}
use Rattle.ruby_evaluation.specs.Calls.{call_method}
use Rattle.ruby_evaluation.specs.Lists.{Layer}

-- only false and nil are false in a condition
abbrev pub truthy : Value → Bool
truthy value.Nil = false
truthy value.False = false
truthy _ = true

-- a test takes a value where `===` answers neither false nor nil
abbrev pub asks : Value → Value → (Bool → Task) → Task
asks test v k = call_method test (codes "===") (v ∷ []) value.Nil >>= onval (λ w. k (truthy w))

abbrev pub choose : Bool → Task → Task → Task
choose true yes_task no_task = yes_task
choose false yes_task no_task = no_task

-- ---- the exception that a clause took last, in a frame

abbrev pub same_place : Pos → Pos → Bool
same_place a b = (a.line == b.line) && (a.col == b.col)

abbrev pub put_caught : Pos → ℕ → List (Pos × ℕ) → List (Pos × ℕ)
put_caught start e [] = (start, e) ∷ []
put_caught start e (c ∷ cs) = if same_place start c.0 then (start, e) ∷ cs else c ∷ put_caught start e cs

abbrev pub caught_at : Pos → List (Pos × ℕ) → ℕ
caught_at start [] = 0
caught_at start (c ∷ cs) = if same_place start c.0 then c.1 else caught_at start cs

abbrev pub with_caught : ℕ → Pos → ℕ → Ruby → Ruby
with_caught k start e r = let f = frame_at r k in with_frame k (record f { caught = put_caught start e f.caught }) r

abbrev pub reraise : Option Clause → Task
reraise None = gives value.Nil
reraise (Some c) = Look (λ r. jumps (Raise (caught_at c.start (frame_at r c.frame).caught)))

-- ---- clauses

-- what a `begin` is made of
pub record Parts : Type 0 where
  pub body : Node
  pub clauses : List Node
  pub otherwise : Option Node
  pub place : Place

abbrev pub again : Parts → Task
again b = Ask (Attempt b.body b.clauses b.otherwise b.place) (λ x. Done x)

-- `retry` in the body of a clause runs the body of its `begin` again
abbrev pub retried : Parts → Result → Task
retried b (Leaves Again) = again b
retried b (Leaves (BreakLoop v)) = jumps (BreakLoop v)
retried b (Leaves (Break c v)) = jumps (Break c v)
retried b (Leaves (Next v)) = jumps (Next v)
retried b (Leaves (Return k v)) = jumps (Return k v)
retried b (Leaves (Raise e)) = jumps (Raise e)
retried b (Val v) = gives v

abbrev pub in_clause : Place → Pos → Place
in_clause p start = record p { clause = Some (record { frame = p.frame; start = start }) }

abbrev pub name_caught : Option Name → ℕ → ℕ → Task → Task
name_caught None k e t = t
name_caught (Some name) k e t = Change (with_local k name (value.Ref e)) t

abbrev pub take_clause : Parts → ℕ → Pos → Option Name → Node → Task
take_clause b e start name body =
    Change (with_caught b.place.frame start e)
    (name_caught name b.place.frame e (run_node body (in_clause b.place start) >>= retried b))

-- the first class that takes the exception
abbrev pub by_classes : Place → ℕ → List Node → Task → Task → Task
by_classes p e [] taken next = next
by_classes p e (c ∷ cs) taken next = evaluate c p (λ v. asks v (value.Ref e) (λ b. choose b taken (by_classes p e cs taken next)))

-- without a class it is StandardError
abbrev pub by_class : Place → ℕ → List Node → Task → Task → Task
by_class p e [] taken next = Look (λ r. asks (value.Ref (error_class r (codes "StandardError"))) (value.Ref e) (λ b. choose b taken next))
by_class p e (c ∷ cs) taken next = by_classes p e (c ∷ cs) taken next

abbrev pub clause : Parts → ℕ → Pos → Layer → Task → Task
clause b e start (Kind-F.Rescue classes name body) next = by_class b.place e classes (take_clause b e start name body) next
clause b e start _ next = next

-- a clause is a node of its own: it takes its unit as it begins
abbrev pub rescued : Parts → ℕ → List Node → Task
rescued b e [] = jumps (Raise e)
rescued b e (c ∷ cs) = Begins (clause b e c.span.from (out-Kind c.kind) (rescued b e cs))

-- the else part isn't covered by the clauses
abbrev pub otherwise_of : Option Node → Place → Value → Task
otherwise_of None p v = gives v
otherwise_of (Some node) p v = run_node node p

-- no clause sees a jump that is no exception
abbrev pub attempted : Parts → Result → Task
attempted b (Val v) = otherwise_of b.otherwise b.place v
attempted b (Leaves (Raise e)) = rescued b e b.clauses
attempted b (Leaves (BreakLoop v)) = jumps (BreakLoop v)
attempted b (Leaves (Break c v)) = jumps (Break c v)
attempted b (Leaves (Next v)) = jumps (Next v)
attempted b (Leaves (Return k v)) = jumps (Return k v)
attempted b (Leaves Again) = jumps Again

-- the ensure part runs on every way out but a number outside, and what leaves it replaces what was under way
abbrev pub ensured : Option Node → Place → Result → Task
ensured None p x = Done x
ensured (Some node) p (Val v) = evaluate node p (λ w. gives v)
ensured (Some node) p (Leaves j) = evaluate node p (λ w. jumps j)

-- ---- case

-- a test of the subject, or a condition where there is none
abbrev pub holds : Option Value → Value → (Bool → Task) → Task
holds (Some v) test k = asks test v k
holds None test k = k (truthy test)

abbrev pub by_tests : Place → Option Value → List Node → Task → Task → Task
by_tests p subject [] taken next = next
by_tests p subject (t ∷ ts) taken next = evaluate t p (λ v. holds subject v (λ b. choose b taken (by_tests p subject ts taken next)))

abbrev pub branch : Place → Option Value → Layer → Task → Task
branch p subject (Kind-F.When tests body) next = by_tests p subject tests (run_node body p) next
branch p subject _ next = next

-- a branch is a node of its own
abbrev pub branches : Place → Option Value → List Node → Node → Task
branches p subject [] otherwise = run_node otherwise p
branches p subject (w ∷ ws) otherwise = Begins (branch p subject (out-Kind w.kind) (branches p subject ws otherwise))

abbrev pub case_of : Option Node → List Node → Node → Place → Task
case_of None whens otherwise p = branches p None whens otherwise
case_of (Some subject) whens otherwise p = evaluate subject p (λ v. branches p (Some v) whens otherwise)
