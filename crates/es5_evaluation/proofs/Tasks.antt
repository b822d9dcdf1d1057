-- One task after another.
use Rattle.std.proofs.Common.{◌≡◌, List, [], ◌∷◌, ◌++◌, refl, ap}
use Rattle.opal_base.specs.declared.place.Pos.{Pos}
use Rattle.es5_tree.specs.declared.tree.EsStmt.{EsStmt}
use Rattle.es5_tree.specs.Ends.{OutKind}
use Rattle.es5_evaluation.specs.Task.{Completion, Normal, Refers, Return, Throw, Break, Continue, Scope, Request, Execute, Task, Done, Leaves, Ask, Look, Set, Make, Keep, Enter, Store, Print, Read, ◌>>=◌}
use Rattle.es5_evaluation.specs.Evaluate.{all, normally, nothing}

pub then_assoc : (t : Task) (f k : Completion → Task) → (t >>= f) >>= k ≡ t >>= (λ c. f c >>= k)
unfolding ◌>>=◌
then_assoc (Done c) f k = refl
then_assoc (Leaves o p) f k = refl
then_assoc (Ask q h) f k = λ i. Ask q (λ c. then_assoc (h c) f k i)
then_assoc (Look h) f k = λ i. Look (λ s. then_assoc (h s) f k i)
then_assoc (Set o c t) f k = ap (Set o c) (then_assoc t f k)
then_assoc (Make c h) f k = λ i. Make c (λ o. then_assoc (h o) f k i)
then_assoc (Keep c h) f k = λ i. Keep c (λ o. then_assoc (h o) f k i)
then_assoc (Enter a h) f k = λ i. Enter a (λ o. then_assoc (h o) f k i)
then_assoc (Store r a t) f k = ap (Store r a) (then_assoc t f k)
then_assoc (Print x t) f k = ap (Print x) (then_assoc t f k)
then_assoc (Read n t) f k = ap (Read n) (then_assoc t f k)

pub then_done : (t : Task) → t >>= Done ≡ t
unfolding ◌>>=◌
then_done (Done c) = refl
then_done (Leaves o p) = refl
then_done (Ask q h) = λ i. Ask q (λ c. then_done (h c) i)
then_done (Look h) = λ i. Look (λ s. then_done (h s) i)
then_done (Set o c t) = ap (Set o c) (then_done t)
then_done (Make c h) = λ i. Make c (λ o. then_done (h o) i)
then_done (Keep c h) = λ i. Keep c (λ o. then_done (h o) i)
then_done (Enter a h) = λ i. Enter a (λ o. then_done (h o) i)
then_done (Store r a t) = ap (Store r a) (then_done t)
then_done (Print x t) = ap (Print x) (then_done t)
then_done (Read n t) = ap (Read n) (then_done t)

pub asks_then : (q : Request) (k : Completion → Task) → Ask q k ≡ Ask q Done >>= k
unfolding ◌>>=◌
asks_then q k = refl

pub leaves_then : (o : OutKind) (p : Pos) (k : Completion → Task) → Leaves o p >>= k ≡ Leaves o p
unfolding ◌>>=◌
leaves_then o p k = refl

pub done_then : (c : Completion) (k : Completion → Task) → Done c >>= k ≡ k c
unfolding ◌>>=◌
done_then c k = refl

-- ---- statements

-- what comes behind statements
abbrev pub and_all : List EsStmt → Scope → Completion → Task
and_all ts ρ = normally (λ v. all ts ρ)

normally_all : (ts us : List EsStmt) (ρ : Scope) → (all (ts ++ us) ρ ≡ all ts ρ >>= and_all us ρ) → (c : Completion) → and_all (ts ++ us) ρ c ≡ (and_all ts ρ c >>= and_all us ρ)
unfolding ◌>>=◌
normally_all ts us ρ h (Normal v) = h
normally_all ts us ρ h (Refers p) = refl
normally_all ts us ρ h (Return v) = refl
normally_all ts us ρ h (Throw v) = refl
normally_all ts us ρ h Break = refl
normally_all ts us ρ h Continue = refl

pub all_both : (ts us : List EsStmt) (ρ : Scope) → all (ts ++ us) ρ ≡ all ts ρ >>= and_all us ρ
unfolding all ◌>>=◌
all_both [] us ρ = refl
all_both (t ∷ ts) us ρ = λ i. Ask (Execute t ρ) (λ c. normally_all ts us ρ (all_both ts us ρ) c i)

pub all_first : (t : EsStmt) (ts : List EsStmt) (ρ : Scope) → all (t ∷ ts) ρ ≡ Ask (Execute t ρ) (and_all ts ρ)
unfolding all
all_first t ts ρ = refl

pub all_none : (ρ : Scope) → all [] ρ ≡ Done nothing
unfolding all
all_none ρ = refl
