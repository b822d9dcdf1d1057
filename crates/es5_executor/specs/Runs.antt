-- What a task does behind which anything may follow: with so many units it comes to an end, and calls the host in these states on the way.
use Rattle.std.specs.Prelude.{ℕ, ◌+◌, List, [], ◌++◌}
use Rattle.opal_base.specs.declared.place.Pos.{Pos}
use Rattle.es5_tree.specs.Ends.{OutKind}
use Rattle.es5_evaluation.specs.State.{State}
use Rattle.es5_evaluation.specs.Task.{Completion, Request, Task, Leaves, Ask, ◌>>=◌, Outcome}
use Rattle.es5_evaluation.specs.Run.{run}
use Rattle.es5_rules.specs.Moments.{moments}
use Rattle.es5_rules.specs.Steps.{Steps}

-- how a piece of code ends: with a completion, or outside the profile
pub data End : Type 0 where
  Gave : Completion → End
  Outside : OutKind → Pos → End

-- what is done behind such an end
abbrev pub after : End → (Completion → Task) → Task
after (Gave c) k = k c
after (Outside o p) k = Leaves o p

-- all that is looked at of a run: its outcome, and the states before its calls of the host
abbrev pub look : ℕ → Task → State → Outcome × List State
look g t s = (run g t s, moments g t s)

-- from s the task comes with n units to the task t' in s', and calls the host in these states
abbrev pub Leads : ℕ → Task → State → Task → State → List State → Type 0
Leads n t s t' s' vs = Steps t s n t' s' vs

-- a task ends so in n units, and calls the host in these states, whatever is done behind it
abbrev pub TakesSeen : Task → State → ℕ → End → State → List State → Type 0
TakesSeen t s n e s' vs = (k : Completion → Task) → Leads n (t >>= k) s (after e k) s' vs

-- without a call of the host
abbrev pub Takes : Task → State → ℕ → End → State → Type 0
Takes t s n e s' = TakesSeen t s n e s' []

-- the same of a node that begins
abbrev pub DoesSeen : Request → State → ℕ → End → State → List State → Type 0
DoesSeen q s n e s' vs = (k : Completion → Task) → Leads n (Ask q k) s (after e k) s' vs

abbrev pub Does : Request → State → ℕ → End → State → Type 0
Does q s n e s' = DoesSeen q s n e s' []

-- one run after another takes the units of both, and calls the host in the states of both
abbrev pub Sequence : Type 0
Sequence = (t u v : Task) (s s1 s2 : State) (n m : ℕ) (vs ws : List State) → Leads n t s u s1 vs → Leads m u s1 v s2 ws → Leads (n + m) t s v s2 (vs ++ ws)
