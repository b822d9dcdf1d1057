-- What the states before calls of the host come to.
use Rattle.std.specs.Prelude.{◌≡◌, ℕ, ◌++◌}
use Rattle.es5_evaluation.specs.State.{State}
use Rattle.es5_evaluation.specs.Task.{Completion, Task, ◌>>=◌}
use Rattle.es5_evaluation.specs.Run.{run, seen, seen_with}
use Rattle.es5_rules.specs.Moments.{moments, moments_on, last_of}

-- one task after another: the states of the one, and then those of the other with the units that are left
abbrev pub MomentsInTurn : Type 0
MomentsInTurn = (g : ℕ) (t : Task) (k : Completion → Task) (s : State) → moments g (t >>= k) s ≡ moments g t s ++ moments_on k (run g t s)

-- what the definition of runs sees are these states, and the last one
abbrev pub SeenInParts : Type 0
SeenInParts = (g : ℕ) (t : Task) (s : State) → seen (seen_with g) t s ≡ moments g t s ++ last_of (run g t s)
