-- Runs with more units: an end stays, what was written goes on, and no cell goes.
use Rattle.std.proofs.Common.{◌≡◌, ℕ, zero, suc, ◌+◌, ◌≤◌, List, [], ◌∷◌, ◌++◌, length, set, refl, sym, ap, ◌∙◌, subst, arith, append_assoc}
use Rattle.std.proofs.lemmas.List.{length-append, length-set}
use Rattle.opal_base.specs.Shown.{HostCall, Wrote, Asked}
use Rattle.es5_evaluation.specs.State.{State}
use Rattle.es5_evaluation.specs.Task.{Completion, Request, Task, Done, Leaves, Ask, Look, Set, Make, Keep, Enter, Store, Print, Read, ◌>>=◌, Outcome, Ended, Left, Going, Answers, walk}
use Rattle.es5_evaluation.specs.Evaluate.{perform}
use Rattle.es5_evaluation.specs.Run.{ask, run, state_of}

-- ---- later states

-- later calls of the host, of which the newest stands first
abbrev pub Grew : List HostCall → List HostCall → Type 0
Grew calls later = (more : List HostCall) × (later ≡ more ++ calls)

-- a state that may come later: no call of the host goes, and no object or record
pub record Later (s later : State) : Type 0 where
  pub calls : Grew s.calls later.calls
  pub objects : length s.heap ≤ length later.heap
  pub records : length s.records ≤ length later.records

pub later_refl : (s : State) → Later s s
later_refl s = record { calls = ([], refl); objects = omega arith; records = omega arith }

grew_trans : (xs ys zs : List HostCall) → Grew xs ys → Grew ys zs → Grew xs zs
grew_trans xs ys zs (a, e) (b, f) = (b ++ a, f ∙ ap (λ l. b ++ l) e ∙ sym (append_assoc b a xs))

pub later_trans : (s t u : State) → Later s t → Later t u → Later s u
later_trans s t u a b =
    let o = a.objects in
    let p = b.objects in
    let q = a.records in
    let r = b.records in
    record { calls = grew_trans s.calls t.calls u.calls a.calls b.calls; objects = omega (arith, o, p); records = omega (arith, q, r) }

no_fewer : {A : Type 0} (xs ys : List A) → length xs ≤ length (xs ++ ys)
no_fewer xs ys = let e = length-append xs ys in omega (arith, e)

as_many : {A : Type 0} (xs : List A) (i : ℕ) (a : A) → length xs ≤ length (set xs i a)
as_many xs i a = let e = length-set xs i a in omega (arith, e)

-- ---- a walk only adds

-- what comes of a node that begins is later
abbrev pub Adds : Answers → Type 0
Adds A = (q : Request) (k : Completion → Task) (s : State) → Later s (state_of (A q k s))

pub walk_adds : (A : Answers) → Adds A → (g : ℕ) (t : Task) (s : State) → Later s (state_of (walk A g t s))
unfolding walk
walk_adds A h g (Done c) s = later_refl s
walk_adds A h g (Leaves o p) s = later_refl s
walk_adds A h g (Ask q k) s = h q k s
walk_adds A h g (Look f) s = walk_adds A h g (f s) s
walk_adds A h g (Set o c t) s = later_trans s _ _ (record { calls = ([], refl); objects = as_many s.heap o c; records = omega arith }) (walk_adds A h g t _)
walk_adds A h g (Make c f) s = later_trans s _ _ (record { calls = ([], refl); objects = no_fewer s.heap (c ∷ []); records = omega arith }) (walk_adds A h g (f _) _)
walk_adds A h g (Keep c f) s = later_trans s _ _ (record { calls = ([], refl); objects = omega arith; records = omega arith }) (walk_adds A h g (f _) _)
walk_adds A h g (Enter a f) s = later_trans s _ _ (record { calls = ([], refl); objects = omega arith; records = no_fewer s.records (a ∷ []) }) (walk_adds A h g (f _) _)
walk_adds A h g (Store r a t) s = later_trans s _ _ (record { calls = ([], refl); objects = omega arith; records = as_many s.records r a }) (walk_adds A h g t _)
walk_adds A h g (Print x t) s = later_trans s _ _ (record { calls = (Wrote x ∷ [], refl); objects = omega arith; records = omega arith }) (walk_adds A h g t _)
walk_adds A h g (Read n t) s = later_trans s _ _ (record { calls = (Asked ∷ [], refl); objects = omega arith; records = omega arith }) (walk_adds A h g t _)

pub ask_adds : (g : ℕ) → Adds (ask g)
unfolding ask
ask_adds zero q k s = later_refl s
ask_adds (suc g) q k s = walk_adds (ask g) (ask_adds g) g (perform q >>= k) s

pub run_adds : (g : ℕ) (t : Task) (s : State) → Later s (state_of (run g t s))
unfolding run
run_adds g t s = walk_adds (ask g) (ask_adds g) g t s

-- ---- more units

-- With k units more a run has the same end with k more left over; and where it went on, it comes to a later state.
abbrev pub GoesOn : ℕ → Outcome → Outcome → Type 0
GoesOn k (Ended c s g) o = o ≡ Ended c s (g + k)
GoesOn k (Left kind p s) o = o ≡ Left kind p s
GoesOn k (Going s) o = Later s (state_of o)

abbrev pub AllGoOn : ℕ → Answers → Answers → Type 0
AllGoOn k A B = (q : Request) (f : Completion → Task) (s : State) → GoesOn k (A q f s) (B q f s)

pub walk_more : (k : ℕ) (A B : Answers) → AllGoOn k A B → (g : ℕ) (t : Task) (s : State) → GoesOn k (walk A g t s) (walk B (g + k) t s)
unfolding walk
walk_more k A B h g (Done c) s = refl
walk_more k A B h g (Leaves o p) s = refl
walk_more k A B h g (Ask q f) s = h q f s
walk_more k A B h g (Look f) s = walk_more k A B h g (f s) s
walk_more k A B h g (Set o c t) s = walk_more k A B h g t _
walk_more k A B h g (Make c f) s = walk_more k A B h g (f _) _
walk_more k A B h g (Keep c f) s = walk_more k A B h g (f _) _
walk_more k A B h g (Enter a f) s = walk_more k A B h g (f _) _
walk_more k A B h g (Store r a t) s = walk_more k A B h g t _
walk_more k A B h g (Print x t) s = walk_more k A B h g t _
walk_more k A B h g (Read n t) s = walk_more k A B h g t _

pub ask_more : (k g : ℕ) → AllGoOn k (ask g) (ask (g + k))
unfolding ask
ask_more k zero q f s = ask_adds (zero + k) q f s
ask_more k (suc g) q f s = subst (λ m. GoesOn k (walk (ask g) g (perform q >>= f) s) (ask m q f s)) {x = suc (g + k)} {y = suc g + k} (omega arith) (walk_more k (ask g) (ask (g + k)) (ask_more k g) g (perform q >>= f) s)

pub run_more : (k g : ℕ) (t : Task) (s : State) → GoesOn k (run g t s) (run (g + k) t s)
unfolding run
run_more k g t s = walk_more k (ask g) (ask (g + k)) (ask_more k g) g t s
