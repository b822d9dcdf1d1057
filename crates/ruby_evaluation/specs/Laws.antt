-- Laws of the evaluation: with more units, of tasks one after another, and of programs of calls of `puts`.
use Rattle.std.specs.Prelude.{◌≡◌, ◌⊎◌, ℕ, suc, ◌+◌, ◌≤◌, true, List, ◌∷◌, ◌++◌, map}
use Rattle.opal_base.specs.Shown.{Ended, Shows, ShowsInTurn}
use Rattle.ruby_meaning.specs.declared.bundle.Bundle.{Bundle}
use Rattle.ruby_meaning.specs.Puts.{putting, puts_text}
use Rattle.ruby_meaning.specs.declared.tree.Node.{Node}
use Rattle.ruby_evaluation.specs.Tables.{Text}
use Rattle.ruby_evaluation.specs.Task.{Result, Request, Task, ◌>>=◌, Eval, walk, andthen, Moment, State, Outcome, Ends, Left, Starved}
use Rattle.ruby_evaluation.specs.Requires.{Files}
use Rattle.ruby_evaluation.specs.Run.{Bundled, eval_to, outcome, ruby_run}
use Rattle.ruby_evaluation.specs.Ends.{RubyEnd, Finished}
use Rattle.ruby_evaluation.specs.Core.{IsCore, bundled}

-- no further call of the host, or one
abbrev pub OneMore : List Moment → List Moment → Type 0
OneMore a b = (b ≡ a) ⊎ ((x : Moment) × (b ≡ x ∷ a))

-- nothing is left, and at most one call was made
abbrev pub Step : State → Outcome → Type 0
Step s (Ends r t l) = (l ≡ 0) × OneMore s.calls t.calls
Step s (Left t l) = (l ≡ 0) × OneMore s.calls t.calls
Step s (Starved t) = OneMore s.calls t.calls

-- with one unit more than n: the same end with one more left, or a step
abbrev pub Next : ℕ → Outcome → Outcome → Type 0
Next n (Ends r s l) o = (l ≤ n) × (o ≡ Ends r s (suc l))
Next n (Left s l) o = (l ≤ n) × (o ≡ Left s (suc l))
Next n (Starved s) o = Step s o

abbrev pub calls_of : Outcome → List Moment
calls_of (Ends r s l) = s.calls
calls_of (Left s l) = s.calls
calls_of (Starved s) = s.calls

-- one unit more: the same end, or at most one more call of the host
abbrev pub OneUnitMore : Type 0
OneUnitMore = (core : Node) (b : Bundled) (input : Text) (n : ℕ) → Next n (outcome core b input n) (outcome core b input (suc n))

-- the run has ended, also outside the range
abbrev pub HasEnded : Outcome → Type 0
HasEnded (Ends r s l) = Unit {0}
HasEnded (Left s l) = Unit {0}
HasEnded (Starved s) = ⊥

-- the same with k more units left
abbrev pub with_left : ℕ → Outcome → Outcome
with_left k (Ends r s l) = Ends r s (l + k)
with_left k (Left s l) = Left s (l + k)
with_left k (Starved s) = Starved s

-- more units change nothing once the run has ended
abbrev pub MoreUnits : Type 0
MoreUnits = (core : Node) (b : Bundled) (input : Text) (n k : ℕ) → HasEnded (outcome core b input n) → outcome core b input (n + k) ≡ with_left k (outcome core b input n)

-- with more units the calls of the host are those before, and later ones
abbrev pub CallsGrow : Type 0
CallsGrow = (core : Node) (b : Bundled) (input : Text) (n k : ℕ) → (later : List Moment) × (calls_of (outcome core b input (n + k)) ≡ later ++ calls_of (outcome core b input n))

-- the walk of one task after another is the walk of the one and then that of the other
abbrev pub WalkThen : Type 0
WalkThen = (f : Eval) (t : Task) (k : Result → Task) (s : State) (g : ℕ) → walk f (t >>= k) s g ≡ andthen (walk f t s g) (λ r u l. walk f (k r) u l)

-- a depth that is not below the units never ends a run
abbrev pub DepthEnough : Type 0
DepthEnough = (files : Files) (d : ℕ) (q : Request) (s : State) (g : ℕ) → g ≤ d → eval_to files (suc d) q s g ≡ eval_to files d q s g

-- ---- what a run shows

-- once a run has ended, more units change nothing of what it shows
abbrev pub EndStays : Type 0
EndStays = (core : Node) (b : Bundled) (input : Text) (n k : ℕ) (output : List ℕ) (end : RubyEnd) → ruby_run core b input n ≡ Ended output end → ruby_run core b input (n + k) ≡ Ended output end

-- a run has one end
abbrev pub OneEnd : Type 0
OneEnd = (core : Node) (b : Bundled) (input : Text) (n m : ℕ) (output other : List ℕ) (end last : RubyEnd) → ruby_run core b input n ≡ Ended output end → ruby_run core b input m ≡ Ended other last → (output ≡ other) × (end ≡ last)

-- with more units the output only grows
abbrev pub OutputGrows : Type 0
OutputGrows = (core : Node) (b : Bundled) (input : Text) (n k : ℕ) (output : List ℕ) → Shows (ruby_run core b input n) output → (more : List ℕ) × Shows (ruby_run core b input (n + k)) (output ++ more)

-- there is a core library's program
abbrev pub SomeCore : Type 0
SomeCore = (core : Node) × IsCore core

-- a program of calls of `puts` with one text writes the texts one after the other and finishes
abbrev pub PutsInTurn : Type 0
PutsInTurn = (core : Node) (bundle : Bundle) (input : Text) → IsCore core → (putting bundle.main.program.body).only_puts ≡ true
    → ShowsInTurn (ruby_run core (bundled bundle) input) (map puts_text (putting bundle.main.program.body).texts) Finished
