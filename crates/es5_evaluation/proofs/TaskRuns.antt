-- Runs of tasks: of one after another, and what each form of task does. Nothing above unfolds `walk`, `ask` or `run`.
use Rattle.std.proofs.Common.{◌≡◌, ℕ, zero, suc, length, refl, sym, ap, ◌∙◌}
use Rattle.opal_base.specs.declared.place.Pos.{Pos}
use Rattle.es5_tree.specs.Values.{Text}
use Rattle.es5_tree.specs.Ends.{OutKind}
use Rattle.es5_tree.specs.Objects.Cells.{Cell}
use Rattle.es5_evaluation.specs.State.{Code, Activation, State}
use Rattle.es5_evaluation.specs.Task.{Completion, Request, Task, Done, Leaves, Ask, Look, Set, Make, Keep, Enter, Store, Print, Read, ◌>>=◌, Ended, Left, Going, walk, with_object, with_new, with_code, with_record, with_stored, printed, has_read}
use Rattle.es5_evaluation.specs.Evaluate.{perform}
use Rattle.es5_evaluation.specs.Run.{ask, run, behind, run_on}
use Rattle.es5_evaluation.specs.Laws.{TasksInTurn}
use Rattle.es5_evaluation.proofs.Tasks.{then_assoc}

-- ---- one task after another

walk_then : (g : ℕ) → ((q : Request) (f k : Completion → Task) (s : State) → ask g q (λ c. f c >>= k) s ≡ behind (ask g q f s) (run_on k)) → (t : Task) (k : Completion → Task) (s : State) → walk (ask g) g (t >>= k) s ≡ behind (walk (ask g) g t s) (run_on k)
unfolding walk ◌>>=◌ run
walk_then g h (Done c) k s = refl
walk_then g h (Leaves o p) k s = refl
walk_then g h (Ask q f) k s = h q f k s
walk_then g h (Look f) k s = walk_then g h (f s) k s
walk_then g h (Set o c t) k s = walk_then g h t k _
walk_then g h (Make c f) k s = walk_then g h (f _) k _
walk_then g h (Keep c f) k s = walk_then g h (f _) k _
walk_then g h (Enter a f) k s = walk_then g h (f _) k _
walk_then g h (Store r a t) k s = walk_then g h t k _
walk_then g h (Print x t) k s = walk_then g h t k _
walk_then g h (Read n t) k s = walk_then g h t k _

ask_then : (g : ℕ) (q : Request) (f k : Completion → Task) (s : State) → ask g q (λ c. f c >>= k) s ≡ behind (ask g q f s) (run_on k)
unfolding ask
ask_then zero q f k s = refl
ask_then (suc g) q f k s = ap (λ t. walk (ask g) g t s) (sym (then_assoc (perform q) f k)) ∙ walk_then g (ask_then g) (perform q >>= f) k s

-- a run of one task after another is a run of the first, and then of the second with the units that are left
pub run_then : (g : ℕ) (t : Task) (k : Completion → Task) (s : State) → run g (t >>= k) s ≡ behind (run g t s) (run_on k)
unfolding run
run_then g t k s = walk_then g (ask_then g) t k s

-- ---- the forms of tasks

pub run_done : (g : ℕ) (c : Completion) (s : State) → run g (Done c) s ≡ Ended c s g
unfolding run walk
run_done g c s = refl

pub run_leaves : (g : ℕ) (o : OutKind) (p : Pos) (s : State) → run g (Leaves o p) s ≡ Left o p s
unfolding run walk
run_leaves g o p s = refl

-- a node that begins takes a unit
pub run_starves : (q : Request) (k : Completion → Task) (s : State) → run 0 (Ask q k) s ≡ Going s
unfolding run walk ask
run_starves q k s = refl

pub run_asks : (g : ℕ) (q : Request) (k : Completion → Task) (s : State) → run (suc g) (Ask q k) s ≡ run g (perform q >>= k) s
unfolding run walk ask
run_asks g q k s = refl

-- the other forms take none
pub run_looks : (g : ℕ) (f : State → Task) (s : State) → run g (Look f) s ≡ run g (f s) s
unfolding run walk
run_looks g f s = refl

pub run_sets : (g o : ℕ) (c : Cell) (t : Task) (s : State) → run g (Set o c t) s ≡ run g t (with_object s o c)
unfolding run walk
run_sets g o c t s = refl

pub run_makes : (g : ℕ) (c : Cell) (f : ℕ → Task) (s : State) → run g (Make c f) s ≡ run g (f (length s.heap)) (with_new s c)
unfolding run walk
run_makes g c f s = refl

pub run_keeps : (g : ℕ) (c : Code) (f : ℕ → Task) (s : State) → run g (Keep c f) s ≡ run g (f (length s.codes)) (with_code s c)
unfolding run walk
run_keeps g c f s = refl

pub run_enters : (g : ℕ) (a : Activation) (f : ℕ → Task) (s : State) → run g (Enter a f) s ≡ run g (f (length s.records)) (with_record s a)
unfolding run walk
run_enters g a f s = refl

pub run_stores : (g r : ℕ) (a : Activation) (t : Task) (s : State) → run g (Store r a t) s ≡ run g t (with_stored s r a)
unfolding run walk
run_stores g r a t s = refl

pub run_prints : (g : ℕ) (x : Text) (t : Task) (s : State) → run g (Print x t) s ≡ run g t (printed s x)
unfolding run walk
run_prints g x t s = refl

pub run_reads : (g n : ℕ) (t : Task) (s : State) → run g (Read n t) s ≡ run g t (has_read s n)
unfolding run walk
run_reads g n t s = refl

-- a node begins of which it is known what it does
pub run_begins : (g : ℕ) (q : Request) (t : Task) (k : Completion → Task) (s : State) → perform q ≡ t → run (suc g) (Ask q k) s ≡ run g (t >>= k) s
run_begins g q t k s e = run_asks g q k s ∙ ap (λ x. run g (x >>= k) s) e

pub tasks_in_turn_is : TasksInTurn
tasks_in_turn_is g t k s = run_then g t k s
