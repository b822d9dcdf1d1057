-- Runs of loops.
use Rattle.std.proofs.Common.{Option, Some, None, List, [], ◌++◌, ◌≡◌, ℕ, zero, suc, ◌+◌, true, false, refl, ap, subst}
use Rattle.es5_tree.specs.declared.tree.EsExpr.{EsExpr}
use Rattle.es5_tree.specs.declared.tree.EsStmt.{EsStmt}
use Rattle.es5_tree.specs.declared.tree.EsKind.TheOpen.{EsStmt-F}
use Rattle.es5_tree.specs.Values.{Val, Undefined}
use Rattle.es5_evaluation.specs.State.{State}
use Rattle.es5_evaluation.specs.Task.{Completion, Normal, Refers, Return, Throw, Break, Continue, Scope, Evaluate, Execute, Turn, Task, Ask, ◌>>=◌, walk}
use Rattle.es5_evaluation.specs.Values.{truthy}
use Rattle.es5_evaluation.specs.Evaluate.{exec_node, eval_node, layer, perform, turn, turned, again}
use Rattle.es5_evaluation.specs.Run.{ask, run}
use Rattle.es5_rules.specs.Moments.{moments, moments_by, moments_with}
use Rattle.es5_rules.proofs.Steps.{steps_trans}
use Rattle.es5_executor.specs.Runs.{End, Gave, Outside, after, Leads, look, TakesSeen, DoesSeen}
use Rattle.es5_executor.proofs.Runs.{silent, silently, associates}

abbrev pub Loop : EsExpr → EsStmt → Scope → State → ℕ → End → State → List State → Type 0
Loop t b ρ s n e s' vs = TakesSeen (exec_node (EsStmt-F.While t b) ρ) s n e s' vs

-- a turn is the test and what follows it
turn_is : (t : EsExpr) (b : EsStmt) (ρ : Scope) (k : Completion → Task) (s : State) (g : ℕ) → look g (Ask (Turn t b ρ) k) s ≡ look g (Ask (Evaluate t ρ) (λ c. turn t b ρ c >>= k)) s
unfolding run walk ask moments moments_by moments_with perform
turn_is t b ρ k s zero = refl
turn_is t b ρ k s (suc g) = ap (λ u. look g u s) (associates (eval_node (layer t) t.pos ρ) (turn t b ρ) k)

-- what a loop ends with where its body is the last thing that it does
unfoldable pub loop_end : End → Option End
loop_end (Gave (Normal v)) = None
loop_end (Gave (Refers p)) = Some (Gave (Refers p))
loop_end (Gave (Return v)) = Some (Gave (Return v))
loop_end (Gave (Throw v)) = Some (Gave (Throw v))
loop_end (Gave Break) = Some (Gave (Normal Undefined))
loop_end (Gave Continue) = None
loop_end (Outside o p) = Some (Outside o p)

turned_again : (t : EsExpr) (b : EsStmt) (ρ : Scope) (w : Val) (k : Completion → Task) → again t b ρ (Normal w) >>= k ≡ Ask (Turn t b ρ) k
unfolding ◌>>=◌
turned_again t b ρ w k = refl

continued_again : (t : EsExpr) (b : EsStmt) (ρ : Scope) (k : Completion → Task) → again t b ρ Continue >>= k ≡ Ask (Turn t b ρ) k
unfolding ◌>>=◌
continued_again t b ρ k = refl

stopped : (t : EsExpr) (b : EsStmt) (ρ : Scope) (d e : End) (k : Completion → Task) → loop_end d ≡ Some e → after d (λ c. again t b ρ c >>= k) ≡ after e k
unfolding loop_end ◌>>=◌
stopped t b ρ (Gave (Normal v)) e k q = cc
stopped t b ρ (Gave (Refers p)) e k q = let f : Gave (Refers p) ≡ e = cc in ap (λ z. after z k) f
stopped t b ρ (Gave (Return v)) e k q = let f : Gave (Return v) ≡ e = cc in ap (λ z. after z k) f
stopped t b ρ (Gave (Throw v)) e k q = let f : Gave (Throw v) ≡ e = cc in ap (λ z. after z k) f
stopped t b ρ (Gave Break) e k q = let f : Gave (Normal Undefined) ≡ e = cc in ap (λ z. after z k) f
stopped t b ρ (Gave Continue) e k q = cc
stopped t b ρ (Outside o p) e k q = let f : Outside o p ≡ e = cc in ap (λ z. after z k) f

loop_turns : {vs ws xs : List State} → (t : EsExpr) (b : EsStmt) (ρ : Scope) (s s1 s2 s3 : State) (n m j : ℕ) (v : Val) (d : Completion) (e : End) → DoesSeen (Evaluate t ρ) s n (Gave (Normal v)) s1 vs → truthy v ≡ true → DoesSeen (Execute b ρ) s1 m (Gave d) s2 ws → ((k : Completion → Task) → again t b ρ d >>= k ≡ Ask (Turn t b ρ) k) → Loop t b ρ s2 j e s3 xs → Loop t b ρ s (n + (m + j)) e s3 (vs ++ (ws ++ xs))
unfolding exec_node ◌>>=◌
loop_turns {vs} {ws} {xs} t b ρ s s1 s2 s3 n m j v d e test f body on rest k =
    let first = subst (λ u. Leads n (Ask (Evaluate t ρ) (λ c. turn t b ρ c >>= k)) s u s1 vs) (ap (λ c. turned c t b ρ >>= k) f) (test (λ c. turn t b ρ c >>= k)) in
    let second = subst (λ u. Leads m (Ask (Execute b ρ) (λ c. again t b ρ c >>= k)) s1 u s2 ws) (on k) (body (λ c. again t b ρ c >>= k)) in
    let third = silent (Ask (Turn t b ρ) k) (Ask (Evaluate t ρ) (λ c. turn t b ρ c >>= k)) s2 s2 (turn_is t b ρ k s2) in
    steps_trans first (steps_trans second (silently third (rest k)))

pub loop_ends : {vs : List State} → (t : EsExpr) (b : EsStmt) (ρ : Scope) (s s1 : State) (n : ℕ) (v : Val) → DoesSeen (Evaluate t ρ) s n (Gave (Normal v)) s1 vs → truthy v ≡ false → Loop t b ρ s n (Gave (Normal Undefined)) s1 vs
unfolding exec_node ◌>>=◌
loop_ends {vs} t b ρ s s1 n v test f k =
    subst (λ u. Leads n (Ask (Evaluate t ρ) (λ c. turn t b ρ c >>= k)) s u s1 vs) (ap (λ c. turned c t b ρ >>= k) f) (test (λ c. turn t b ρ c >>= k))

pub loop_goes : {vs ws xs : List State} → (t : EsExpr) (b : EsStmt) (ρ : Scope) (s s1 s2 s3 : State) (n m j : ℕ) (v w : Val) (e : End) → DoesSeen (Evaluate t ρ) s n (Gave (Normal v)) s1 vs → truthy v ≡ true → DoesSeen (Execute b ρ) s1 m (Gave (Normal w)) s2 ws → Loop t b ρ s2 j e s3 xs → Loop t b ρ s (n + (m + j)) e s3 (vs ++ (ws ++ xs))
loop_goes t b ρ s s1 s2 s3 n m j v w e test f body rest = loop_turns t b ρ s s1 s2 s3 n m j v (Normal w) e test f body (λ k. turned_again t b ρ w k) rest

-- behind a body that ends with `continue`
pub loop_continues : {vs ws xs : List State} → (t : EsExpr) (b : EsStmt) (ρ : Scope) (s s1 s2 s3 : State) (n m j : ℕ) (v : Val) (e : End) → DoesSeen (Evaluate t ρ) s n (Gave (Normal v)) s1 vs → truthy v ≡ true → DoesSeen (Execute b ρ) s1 m (Gave Continue) s2 ws → Loop t b ρ s2 j e s3 xs → Loop t b ρ s (n + (m + j)) e s3 (vs ++ (ws ++ xs))
loop_continues t b ρ s s1 s2 s3 n m j v e test f body rest = loop_turns t b ρ s s1 s2 s3 n m j v Continue e test f body (λ k. continued_again t b ρ k) rest

pub loop_stops : {vs ws : List State} → (t : EsExpr) (b : EsStmt) (ρ : Scope) (s s1 s2 : State) (n m : ℕ) (v : Val) (d e : End) → DoesSeen (Evaluate t ρ) s n (Gave (Normal v)) s1 vs → truthy v ≡ true → DoesSeen (Execute b ρ) s1 m d s2 ws → loop_end d ≡ Some e → Loop t b ρ s (n + m) e s2 (vs ++ ws)
unfolding exec_node ◌>>=◌
loop_stops {vs} {ws} t b ρ s s1 s2 n m v d e test f body stop k =
    let first = subst (λ u. Leads n (Ask (Evaluate t ρ) (λ c. turn t b ρ c >>= k)) s u s1 vs) (ap (λ c. turned c t b ρ >>= k) f) (test (λ c. turn t b ρ c >>= k)) in
    let second = subst (λ u. Leads m (Ask (Execute b ρ) (λ c. again t b ρ c >>= k)) s1 u s2 ws) (stopped t b ρ d e k stop) (body (λ c. again t b ρ c >>= k)) in
    steps_trans first second

-- a loop whose test throws
pub loop_fails : {vs : List State} → (t : EsExpr) (b : EsStmt) (ρ : Scope) (s s1 : State) (n : ℕ) (v : Val) → DoesSeen (Evaluate t ρ) s n (Gave (Throw v)) s1 vs → Loop t b ρ s n (Gave (Throw v)) s1 vs
unfolding exec_node ◌>>=◌
loop_fails t b ρ s s1 n v test k = test (λ c. turn t b ρ c >>= k)

-- a loop that calls the host in no state
abbrev pub Quiet : EsExpr → EsStmt → Scope → State → ℕ → End → State → Type 0
Quiet t b ρ s n e s' = Loop t b ρ s n e s' []
