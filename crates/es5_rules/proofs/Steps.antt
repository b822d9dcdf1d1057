-- How steps compose, and the step of each form of task.
use Rattle.std.proofs.Common.{◌≡◌, ℕ, suc, ◌+◌, List, [], ◌∷◌, ◌++◌, length, refl, sym, ap, ◌∙◌, subst, arith, append_assoc}
use Rattle.es5_tree.specs.Values.{Text}
use Rattle.es5_tree.specs.Objects.Cells.{Cell}
use Rattle.es5_evaluation.specs.State.{Code, Activation, State}
use Rattle.es5_evaluation.specs.Task.{Completion, Request, Task, Done, Ask, Look, Set, Make, Keep, Enter, Store, Print, Read, ◌>>=◌, with_object, with_new, with_code, with_record, with_stored, printed, has_read}
use Rattle.es5_evaluation.specs.Evaluate.{perform}
use Rattle.es5_evaluation.specs.Run.{run, behind, run_on}
use Rattle.es5_evaluation.proofs.Tasks.{done_then}
use Rattle.es5_evaluation.proofs.TaskRuns.{run_then, run_asks, run_looks, run_sets, run_makes, run_keeps, run_enters, run_stores, run_prints, run_reads}
use Rattle.es5_rules.specs.Moments.{moments, moments_on}
use Rattle.es5_rules.specs.Steps.{Steps}
use Rattle.es5_rules.proofs.Moments.{moments_then, moments_asks, moments_looks, moments_sets, moments_makes, moments_keeps, moments_enters, moments_stores, moments_prints, moments_reads}

-- ---- composing

-- no unit, with these states
pub steps_none : {t u : Task} {s z : State} {vs : List State} → ((g : ℕ) → run g t s ≡ run g u z) → ((g : ℕ) → moments g t s ≡ vs ++ moments g u z) → Steps t s 0 u z vs
steps_none {t} {u} {s} {z} {vs} e f = record {
  runs = λ g k i. ap (λ x. run x t s) {x = g} {y = k} (omega (arith, i)) ∙ e k;
  sees = λ g k i. ap (λ x. moments x t s) {x = g} {y = k} (omega (arith, i)) ∙ f k;
}

pub steps_refl : {t : Task} {s : State} → Steps t s 0 t s []
steps_refl = steps_none (λ g. refl) (λ g. refl)

pub steps_trans : {t u v : Task} {s y z : State} {m n : ℕ} {vs ws : List State} → Steps t s m u y vs → Steps u y n v z ws → Steps t s (m + n) v z (vs ++ ws)
steps_trans {m = m} {n = n} {vs = vs} {ws = ws} a b = record {
  runs = λ g k i. a.runs g (n + k) (omega (arith, i)) ∙ b.runs (n + k) k refl;
  sees = λ g k i. a.sees g (n + k) (omega (arith, i)) ∙ ap (λ l. vs ++ l) (b.sees (n + k) k refl) ∙ sym (append_assoc vs ws _);
}

-- so many units, and these states
pub steps_count : {t u : Task} {s z : State} {vs : List State} (m n : ℕ) → m ≡ n → Steps t s m u z vs → Steps t s n u z vs
steps_count {t} {u} {s} {z} {vs} m n e a = subst (λ x. Steps t s x u z vs) e a

pub steps_seen : {t u : Task} {s z : State} {m : ℕ} {vs ws : List State} → vs ≡ ws → Steps t s m u z vs → Steps t s m u z ws
steps_seen {t} {u} {s} {z} {m} e a = subst (λ l. Steps t s m u z l) e a

pub steps_from : {t u v : Task} {s z : State} {m : ℕ} {vs : List State} → t ≡ u → Steps u s m v z vs → Steps t s m v z vs
steps_from {t} {u} {v} {s} {z} {m} {vs} e a = subst (λ x. Steps x s m v z vs) (sym e) a

pub steps_to : {t u v : Task} {s z : State} {m : ℕ} {vs : List State} → u ≡ v → Steps t s m u z vs → Steps t s m v z vs
steps_to {t} {u} {v} {s} {z} {m} {vs} e a = subst (λ x. Steps t s m x z vs) e a

-- the rest waits
pub steps_then : {t u : Task} {s z : State} {m : ℕ} {vs : List State} (k : Completion → Task) → Steps t s m u z vs → Steps (t >>= k) s m (u >>= k) z vs
steps_then {t} {u} {s} {z} {m} {vs} k a = record {
  runs = λ g j i. run_then g t k s ∙ ap (λ o. behind o (run_on k)) (a.runs g j i) ∙ sym (run_then j u k z);
  sees = λ g j i.
      moments_then g t k s
      ∙ ap (λ l. l ++ moments_on k (run g t s)) (a.sees g j i)
      ∙ ap (λ o. (vs ++ moments j u z) ++ moments_on k o) (a.runs g j i)
      ∙ append_assoc vs (moments j u z) (moments_on k (run j u z))
      ∙ ap (λ l. vs ++ l) (sym (moments_then j u k z));
}

-- behind a task that ends
pub steps_on : {t : Task} {c : Completion} {s z : State} {m : ℕ} {vs : List State} (k : Completion → Task) → Steps t s m (Done c) z vs → Steps (t >>= k) s m (k c) z vs
steps_on {t} {c} k a = steps_to (done_then c k) (steps_then k a)

-- ---- the forms of tasks

-- a node begins
pub steps_ask : {q : Request} {k : Completion → Task} {s : State} → Steps (Ask q k) s 1 (perform q >>= k) s []
steps_ask {q} {k} {s} = record {
  runs = λ g j i. ap (λ x. run x (Ask q k) s) {x = g} {y = suc j} (omega (arith, i)) ∙ run_asks j q k s;
  sees = λ g j i. ap (λ x. moments x (Ask q k) s) {x = g} {y = suc j} (omega (arith, i)) ∙ moments_asks j q k s;
}

-- of which it is known what it does
pub steps_begin : {q : Request} {t : Task} (k : Completion → Task) {s : State} → perform q ≡ t → Steps (Ask q k) s 1 (t >>= k) s []
steps_begin k e = steps_to (ap (λ x. x >>= k) e) steps_ask

pub steps_look : (f : State → Task) (s : State) → Steps (Look f) s 0 (f s) s []
steps_look f s = steps_none (λ g. run_looks g f s) (λ g. moments_looks g f s)

pub steps_set : (o : ℕ) (c : Cell) (t : Task) (s : State) → Steps (Set o c t) s 0 t (with_object s o c) []
steps_set o c t s = steps_none (λ g. run_sets g o c t s) (λ g. moments_sets g o c t s)

pub steps_make : (c : Cell) (f : ℕ → Task) (s : State) → Steps (Make c f) s 0 (f (length s.heap)) (with_new s c) []
steps_make c f s = steps_none (λ g. run_makes g c f s) (λ g. moments_makes g c f s)

pub steps_keep : (c : Code) (f : ℕ → Task) (s : State) → Steps (Keep c f) s 0 (f (length s.codes)) (with_code s c) []
steps_keep c f s = steps_none (λ g. run_keeps g c f s) (λ g. moments_keeps g c f s)

pub steps_enter : (a : Activation) (f : ℕ → Task) (s : State) → Steps (Enter a f) s 0 (f (length s.records)) (with_record s a) []
steps_enter a f s = steps_none (λ g. run_enters g a f s) (λ g. moments_enters g a f s)

pub steps_store : (r : ℕ) (a : Activation) (t : Task) (s : State) → Steps (Store r a t) s 0 t (with_stored s r a) []
steps_store r a t s = steps_none (λ g. run_stores g r a t s) (λ g. moments_stores g r a t s)

-- a call of the host is seen
pub steps_print : (x : Text) (t : Task) (s : State) → Steps (Print x t) s 0 t (printed s x) (s ∷ [])
steps_print x t s = steps_none (λ g. run_prints g x t s) (λ g. moments_prints g x t s)

pub steps_read : (n : ℕ) (t : Task) (s : State) → Steps (Read n t) s 0 t (has_read s n) (s ∷ [])
steps_read n t s = steps_none (λ g. run_reads g n t s) (λ g. moments_reads g n t s)
