-- The states before the calls of the host that a task makes.
use Rattle.std.specs.Prelude.{ℕ, zero, suc, List, [], ◌∷◌, length}
use Rattle.es5_evaluation.specs.State.{State}
use Rattle.es5_evaluation.specs.Task.{Completion, Request, Task, Done, Leaves, Ask, Look, Set, Make, Keep, Enter, Store, Print, Read, ◌>>=◌, Outcome, Ended, Left, Going, with_object, with_new, with_code, with_record, with_stored, printed, has_read}
use Rattle.es5_evaluation.specs.Evaluate.{perform}

-- those behind a node that begins
abbrev pub Behind : Type 0
Behind = Request → (Completion → Task) → State → List State

unfoldable pub moments_by : Behind → Task → State → List State
moments_by A (Done c) s = []
moments_by A (Leaves o p) s = []
moments_by A (Ask q k) s = A q k s
moments_by A (Look f) s = moments_by A (f s) s
moments_by A (Set o c t) s = moments_by A t (with_object s o c)
moments_by A (Make c f) s = moments_by A (f (length s.heap)) (with_new s c)
moments_by A (Keep c f) s = moments_by A (f (length s.codes)) (with_code s c)
moments_by A (Enter a f) s = moments_by A (f (length s.records)) (with_record s a)
moments_by A (Store r a t) s = moments_by A t (with_stored s r a)
moments_by A (Print x t) s = s ∷ moments_by A t (printed s x)
moments_by A (Read n t) s = s ∷ moments_by A t (has_read s n)

unfoldable pub moments_with : ℕ → Behind
moments_with zero q k s = []
moments_with (suc g) q k s = moments_by (moments_with g) (perform q >>= k) s

-- with a number of units
unfoldable pub moments : ℕ → Task → State → List State
moments g t s = moments_by (moments_with g) t s

-- those of what stands behind a task that comes to an outcome
abbrev pub moments_on : (Completion → Task) → Outcome → List State
moments_on k (Ended c s g) = moments g (k c) s
moments_on k (Left kind p s) = []
moments_on k (Going s) = []

-- the state in which a run ends in the profile
abbrev pub last_of : Outcome → List State
last_of (Ended c s g) = s ∷ []
last_of (Left kind p s) = []
last_of (Going s) = []
