-- The states before calls of the host: of one task after another, and what each form of task adds to them.
use Rattle.std.proofs.Common.{◌≡◌, ℕ, zero, suc, ◌≤◌, List, [], ◌∷◌, ◌++◌, length, refl, sym, ap, ◌∙◌, arith}
use Rattle.opal_base.specs.declared.place.Pos.{Pos}
use Rattle.es5_tree.specs.Ends.{OutKind}
use Rattle.es5_tree.specs.Values.{Text}
use Rattle.es5_tree.specs.Objects.Cells.{Cell}
use Rattle.es5_evaluation.specs.State.{Code, Activation, State}
use Rattle.es5_evaluation.specs.Task.{Completion, Request, Task, Done, Leaves, Ask, Look, Set, Make, Keep, Enter, Store, Print, Read, ◌>>=◌, Outcome, Ended, Left, Going, walk, with_object, with_new, with_code, with_record, with_stored, printed, has_read}
use Rattle.es5_evaluation.specs.Evaluate.{perform}
use Rattle.es5_evaluation.specs.Run.{ask, run, seen, seen_with}
use Rattle.es5_evaluation.proofs.Tasks.{then_assoc}
use Rattle.es5_rules.specs.Moments.{moments_by, moments_with, moments, moments_on, last_of}
use Rattle.es5_rules.specs.Laws.{MomentsInTurn, SeenInParts}

-- ---- one task after another

by_then : (g : ℕ) → ((q : Request) (f k : Completion → Task) (s : State) → moments_with g q (λ c. f c >>= k) s ≡ moments_with g q f s ++ moments_on k (ask g q f s)) → (t : Task) (k : Completion → Task) (s : State) → moments_by (moments_with g) (t >>= k) s ≡ moments_by (moments_with g) t s ++ moments_on k (walk (ask g) g t s)
unfolding walk ◌>>=◌ moments_by moments
by_then g h (Done c) k s = refl
by_then g h (Leaves o p) k s = refl
by_then g h (Ask q f) k s = h q f k s
by_then g h (Look f) k s = by_then g h (f s) k s
by_then g h (Set o c t) k s = by_then g h t k _
by_then g h (Make c f) k s = by_then g h (f _) k _
by_then g h (Keep c f) k s = by_then g h (f _) k _
by_then g h (Enter a f) k s = by_then g h (f _) k _
by_then g h (Store r a t) k s = by_then g h t k _
by_then g h (Print x t) k s = ap (λ l. s ∷ l) (by_then g h t k _)
by_then g h (Read n t) k s = ap (λ l. s ∷ l) (by_then g h t k _)

with_then : (g : ℕ) (q : Request) (f k : Completion → Task) (s : State) → moments_with g q (λ c. f c >>= k) s ≡ moments_with g q f s ++ moments_on k (ask g q f s)
unfolding ask moments_with
with_then zero q f k s = refl
with_then (suc g) q f k s = ap (λ t. moments_by (moments_with g) t s) (sym (then_assoc (perform q) f k)) ∙ by_then g (with_then g) (perform q >>= f) k s

pub moments_then : MomentsInTurn
unfolding run moments
moments_then g t k s = by_then g (with_then g) t k s

-- ---- what the definition of runs sees

by_parts : (g : ℕ) → ((q : Request) (k : Completion → Task) (s : State) → seen_with g q k s ≡ moments_with g q k s ++ last_of (ask g q k s)) → (t : Task) (s : State) → seen (seen_with g) t s ≡ moments_by (moments_with g) t s ++ last_of (walk (ask g) g t s)
unfolding walk seen moments_by
by_parts g h (Done c) s = refl
by_parts g h (Leaves o p) s = refl
by_parts g h (Ask q k) s = h q k s
by_parts g h (Look f) s = by_parts g h (f s) s
by_parts g h (Set o c t) s = by_parts g h t _
by_parts g h (Make c f) s = by_parts g h (f _) _
by_parts g h (Keep c f) s = by_parts g h (f _) _
by_parts g h (Enter a f) s = by_parts g h (f _) _
by_parts g h (Store r a t) s = by_parts g h t _
by_parts g h (Print x t) s = ap (λ l. s ∷ l) (by_parts g h t _)
by_parts g h (Read n t) s = ap (λ l. s ∷ l) (by_parts g h t _)

with_parts : (g : ℕ) (q : Request) (k : Completion → Task) (s : State) → seen_with g q k s ≡ moments_with g q k s ++ last_of (ask g q k s)
unfolding ask seen_with moments_with
with_parts zero q k s = refl
with_parts (suc g) q k s = by_parts g (with_parts g) (perform q >>= k) s

pub seen_parts : SeenInParts
unfolding run moments
seen_parts g t s = by_parts g (with_parts g) t s

-- ---- more units

-- with more units the same states are seen where the run has ended, and else these and later ones
abbrev pub SeenOn : Outcome → List State → List State → Type 0
SeenOn (Ended c s l) a b = b ≡ a
SeenOn (Left kind p s) a b = b ≡ a
SeenOn (Going s) a b = (more : List State) × (b ≡ a ++ more)

seen_behind : (x : State) (o : Outcome) (a b : List State) → SeenOn o a b → SeenOn o (x ∷ a) (x ∷ b)
seen_behind x (Ended c s l) a b h = ap (λ l. x ∷ l) h
seen_behind x (Left kind p s) a b h = ap (λ l. x ∷ l) h
seen_behind x (Going s) a b h = (h.0, ap (λ l. x ∷ l) h.1)

by_more : (g h : ℕ) → ((q : Request) (f : Completion → Task) (s : State) → SeenOn (ask g q f s) (moments_with g q f s) (moments_with h q f s)) → (t : Task) (s : State) → SeenOn (walk (ask g) g t s) (moments_by (moments_with g) t s) (moments_by (moments_with h) t s)
unfolding walk moments_by
by_more g h m (Done c) s = refl
by_more g h m (Leaves o p) s = refl
by_more g h m (Ask q f) s = m q f s
by_more g h m (Look f) s = by_more g h m (f s) s
by_more g h m (Set o c t) s = by_more g h m t _
by_more g h m (Make c f) s = by_more g h m (f _) _
by_more g h m (Keep c f) s = by_more g h m (f _) _
by_more g h m (Enter a f) s = by_more g h m (f _) _
by_more g h m (Store r a t) s = by_more g h m t _
by_more g h m (Print x t) s = seen_behind s _ _ _ (by_more g h m t _)
by_more g h m (Read n t) s = seen_behind s _ _ _ (by_more g h m t _)

with_more : (g h : ℕ) → g ≤ h → (q : Request) (f : Completion → Task) (s : State) → SeenOn (ask g q f s) (moments_with g q f s) (moments_with h q f s)
unfolding ask moments_with
with_more zero h l q f s = (moments_with h q f s, refl)
with_more (suc g) zero l q f s = absurd (omega (arith, l))
with_more (suc g) (suc h) l q f s = by_more g h (with_more g h (omega (arith, l))) (perform q >>= f) s

pub moments_more : (g h : ℕ) → g ≤ h → (t : Task) (s : State) → SeenOn (run g t s) (moments g t s) (moments h t s)
unfolding run moments
moments_more g h l t s = by_more g h (with_more g h l) t s

-- ---- the forms of tasks

pub moments_done : (g : ℕ) (c : Completion) (s : State) → moments g (Done c) s ≡ []
unfolding moments moments_by
moments_done g c s = refl

pub moments_leaves : (g : ℕ) (o : OutKind) (p : Pos) (s : State) → moments g (Leaves o p) s ≡ []
unfolding moments moments_by
moments_leaves g o p s = refl

-- no node begins without a unit
pub moments_starves : (q : Request) (k : Completion → Task) (s : State) → moments 0 (Ask q k) s ≡ []
unfolding moments moments_by moments_with
moments_starves q k s = refl

pub moments_asks : (g : ℕ) (q : Request) (k : Completion → Task) (s : State) → moments (suc g) (Ask q k) s ≡ moments g (perform q >>= k) s
unfolding moments moments_by moments_with
moments_asks g q k s = refl

pub moments_looks : (g : ℕ) (f : State → Task) (s : State) → moments g (Look f) s ≡ moments g (f s) s
unfolding moments moments_by
moments_looks g f s = refl

pub moments_sets : (g o : ℕ) (c : Cell) (t : Task) (s : State) → moments g (Set o c t) s ≡ moments g t (with_object s o c)
unfolding moments moments_by
moments_sets g o c t s = refl

pub moments_makes : (g : ℕ) (c : Cell) (f : ℕ → Task) (s : State) → moments g (Make c f) s ≡ moments g (f (length s.heap)) (with_new s c)
unfolding moments moments_by
moments_makes g c f s = refl

pub moments_keeps : (g : ℕ) (c : Code) (f : ℕ → Task) (s : State) → moments g (Keep c f) s ≡ moments g (f (length s.codes)) (with_code s c)
unfolding moments moments_by
moments_keeps g c f s = refl

pub moments_enters : (g : ℕ) (a : Activation) (f : ℕ → Task) (s : State) → moments g (Enter a f) s ≡ moments g (f (length s.records)) (with_record s a)
unfolding moments moments_by
moments_enters g a f s = refl

pub moments_stores : (g r : ℕ) (a : Activation) (t : Task) (s : State) → moments g (Store r a t) s ≡ moments g t (with_stored s r a)
unfolding moments moments_by
moments_stores g r a t s = refl

pub moments_prints : (g : ℕ) (x : Text) (t : Task) (s : State) → moments g (Print x t) s ≡ s ∷ moments g t (printed s x)
unfolding moments moments_by
moments_prints g x t s = refl

pub moments_reads : (g n : ℕ) (t : Task) (s : State) → moments g (Read n t) s ≡ s ∷ moments g t (has_read s n)
unfolding moments moments_by
moments_reads g n t s = refl
