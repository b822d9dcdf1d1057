-- Laws of runs.
use Rattle.std.proofs.Common.{◌≡◌, ℕ, ◌+◌, List, [], ap, arith}
use Rattle.es5_evaluation.specs.State.{State}
use Rattle.es5_evaluation.specs.Task.{Completion, Request, Task, Ask, ◌>>=◌}
use Rattle.es5_evaluation.specs.Evaluate.{perform}
use Rattle.es5_evaluation.proofs.Tasks.{then_assoc}
use Rattle.es5_rules.proofs.Steps.{steps_ask, steps_count, steps_none, steps_refl, steps_trans}
use Rattle.es5_executor.specs.Runs.{Leads, look, Sequence}

pub sequence_is : Sequence
sequence_is t u v s s1 s2 n m vs ws a b = steps_trans a b

-- nothing is done
pub stays : (t : Task) (s : State) → Leads 0 t s t s []
stays t s = steps_refl

-- steps that take no unit
pub silent : (t u : Task) (s s1 : State) → ((g : ℕ) → look g t s ≡ look g u s1) → Leads 0 t s u s1 []
silent t u s s1 e = steps_none (λ g. ap (λ p. p.0) (e g)) (λ g. ap (λ p. p.1) (e g))

-- and what follows them
pub silently : {t u v : Task} {s s1 s2 : State} {n : ℕ} {vs : List State} → Leads 0 t s u s1 [] → Leads n u s1 v s2 vs → Leads n t s v s2 vs
silently {n = n} a b = steps_count (0 + n) n (omega arith) (steps_trans a b)

-- a node begins
pub begins : (q : Request) (k : Completion → Task) (s : State) → Leads 1 (Ask q k) s (perform q >>= k) s []
begins q k s = steps_ask

-- one after another, in any grouping
pub associates : (t : Task) (f g : Completion → Task) → (t >>= f) >>= g ≡ t >>= (λ c. f c >>= g)
associates = then_assoc
