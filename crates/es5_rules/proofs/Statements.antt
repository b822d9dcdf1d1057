-- How each form of statement ends, by its parts.
use Rattle.std.proofs.Common.{◌≡◌, ℕ, ◌+◌, true, false, List, [], ◌∷◌, ◌++◌, Option, Some, None, ap, arith, append-nil}
use Rattle.es5_tree.specs.declared.tree.EsExpr.{EsExpr}
use Rattle.es5_tree.specs.declared.tree.EsStmt.{EsStmt}
use Rattle.es5_tree.specs.declared.tree.EsStmt.TheVariants as stmt
use Rattle.es5_tree.specs.Values.{Text, Val, Undefined}
use Rattle.es5_evaluation.specs.State.{State, record_at, binding, has_variable, with_variable}
use Rattle.es5_evaluation.specs.Task.{Completion, Normal, Return, Throw, Break, Continue, Scope, Execute, Task, Done, Ask, ◌>>=◌, with_stored}
use Rattle.es5_evaluation.specs.Values.{truthy}
use Rattle.es5_evaluation.specs.Evaluate.{again, all, branch, normally, nothing, perform, turned, write_name}
use Rattle.es5_evaluation.proofs.Tasks.{done_then, all_first, all_none}
use Rattle.es5_evaluation.proofs.Nodes as node
use Rattle.es5_rules.specs.Steps.{Steps, Gives, Does, DoesAll}
use Rattle.es5_rules.proofs.Steps.{steps_refl, steps_trans, steps_count, steps_seen, steps_from, steps_to, steps_begin}
use Rattle.es5_rules.proofs.Expressions.{value_then, steps_write}

-- one that ends at once
does_leaf : {t : EsStmt} {ρ : Scope} (s : State) {c : Completion} → perform (Execute t ρ) ≡ Done c → Does t ρ s 1 c s []
does_leaf s {c} h = record { by = λ k. steps_to (done_then c k) (steps_begin k h) }

pub does_empty : (ρ : Scope) (s : State) → Does stmt.Empty ρ s 1 nothing s []
does_empty ρ s = does_leaf s (node.exec_empty ρ)

pub does_break : (ρ : Scope) (s : State) → Does stmt.Break ρ s 1 Break s []
does_break ρ s = does_leaf s (node.exec_break ρ)

pub does_continue : (ρ : Scope) (s : State) → Does stmt.Continue ρ s 1 Continue s []
does_continue ρ s = does_leaf s (node.exec_continue ρ)

-- an expression, and what takes its value
pub does_expr : (e : EsExpr) (ρ : Scope) (s z : State) (m : ℕ) (v : Val) (vs : List State) → Gives e ρ s m v z vs → Does (stmt.Expr e) ρ s (1 + m) (Normal v) z vs
unfolding ◌>>=◌
does_expr e ρ s z m v vs g = record { by = λ k. steps_trans (steps_begin k (node.exec_expr e ρ)) (g.by (λ c. Done c >>= k)) }

pub does_throw : (e : EsExpr) (ρ : Scope) (s z : State) (m : ℕ) (v : Val) (vs : List State) → Gives e ρ s m v z vs → Does (stmt.Throw e) ρ s (1 + m) (Throw v) z vs
unfolding ◌>>=◌
does_throw e ρ s z m v vs g = record { by = λ k. steps_trans (steps_begin k (node.exec_throw e ρ)) (g.by (λ c. normally (λ v. Done (Throw v)) c >>= k)) }

pub does_return : (e : EsExpr) (ρ : Scope) (s z : State) (m : ℕ) (v : Val) (vs : List State) → Gives e ρ s m v z vs → Does (stmt.Return (Some e)) ρ s (1 + m) (Return v) z vs
unfolding ◌>>=◌
does_return e ρ s z m v vs g = record { by = λ k. steps_trans (steps_begin k (node.exec_return (Some e) ρ)) (g.by (λ c. normally (λ v. Done (Return v)) c >>= k)) }

pub does_return_none : (ρ : Scope) (s : State) → Does (stmt.Return None) ρ s 1 (Return Undefined) s []
does_return_none ρ s = does_leaf s (node.exec_return None ρ)

pub does_var_none : (x : Text) (ρ : Scope) (s : State) → Does (stmt.Var x None) ρ s 1 nothing s []
does_var_none x ρ s = does_leaf s (node.exec_var x None ρ)

pub does_var : (x : Text) (e : EsExpr) (ρ : Scope) (s z : State) (b m : ℕ) (v : Val) (vs : List State) → Gives e ρ s m v z vs → binding z.records ρ.innermost x ≡ Some b → has_variable (record_at z.records b) x ≡ true
    → Does (stmt.Var x (Some e)) ρ s (1 + m) (Normal v) (with_stored z b (with_variable (record_at z.records b) x v)) vs
does_var x e ρ s z b m v vs g i j = record {
  by = λ k.
      steps_seen (append-nil vs) (steps_count (1 + (m + 0)) (1 + m) (omega arith)
      (value_then {f = write_name ρ.innermost x} k (node.exec_var x (Some e) ρ) g (steps_write ρ.innermost x b v k z i j)));
}

-- ---- one after another

pub all_end : (ρ : Scope) (s : State) → DoesAll [] ρ s 0 nothing s []
all_end ρ s = record { by = λ k. steps_from (ap (λ t. t >>= k) (all_none ρ)) (steps_to (done_then nothing k) steps_refl) }

-- a statement that ends normally, and the others
pub all_next : (t : EsStmt) (ts : List EsStmt) (ρ : Scope) (s y z : State) (m n : ℕ) (v : Val) (c : Completion) (vs ws : List State) → Does t ρ s m (Normal v) y vs → DoesAll ts ρ y n c z ws → DoesAll (t ∷ ts) ρ s (m + n) c z (vs ++ ws)
unfolding ◌>>=◌
all_next t ts ρ s y z m n v c vs ws a b = record {
  by = λ k.
      steps_from (ap (λ x. x >>= k) (all_first t ts ρ)) (steps_trans (a.by (λ d. normally (λ u. all ts ρ) d >>= k)) (b.by k));
}

-- and one that doesn't
pub all_stop : (t : EsStmt) (ts : List EsStmt) (ρ : Scope) (s z : State) (m : ℕ) (c : Completion) (vs : List State) → ((k : Completion → Task) → normally (λ u. all ts ρ) c >>= k ≡ k c) → Does t ρ s m c z vs → DoesAll (t ∷ ts) ρ s m c z vs
unfolding ◌>>=◌
all_stop t ts ρ s z m c vs stays a = record {
  by = λ k.
      steps_from (ap (λ x. x >>= k) (all_first t ts ρ)) (steps_to (stays k) (a.by (λ d. normally (λ u. all ts ρ) d >>= k)));
}

pub does_block : (ts : List EsStmt) (ρ : Scope) (s z : State) (m : ℕ) (c : Completion) (vs : List State) → DoesAll ts ρ s m c z vs → Does (stmt.Block ts) ρ s (1 + m) c z vs
does_block ts ρ s z m c vs a = record { by = λ k. steps_trans (steps_begin k (node.exec_block ts ρ)) (a.by k) }

-- ---- choices

statement_last : {t : EsStmt} {ρ : Scope} (k : Completion → Task) {s z : State} {m : ℕ} {c : Completion} {vs : List State} → Does t ρ s m c z vs → Steps (Ask (Execute t ρ) Done >>= k) s m (k c) z vs
unfolding ◌>>=◌
statement_last k a = a.by (λ c. Done c >>= k)

pub does_then : (e : EsExpr) (first : EsStmt) (second : Option EsStmt) (ρ : Scope) (s y z : State) (m n : ℕ) (v : Val) (c : Completion) (vs ws : List State) → Gives e ρ s m v y vs → truthy v ≡ true → Does first ρ y n c z ws → Does (stmt.If e first second) ρ s (1 + (m + n)) c z (vs ++ ws)
does_then e first second ρ s y z m n v c vs ws g i a = record {
  by = λ k.
      value_then k (node.exec_if_ e first second ρ) g (steps_from (ap (λ t. branch t first second ρ >>= k) i) (statement_last k a));
}

pub does_else : (e : EsExpr) (first second : EsStmt) (ρ : Scope) (s y z : State) (m n : ℕ) (v : Val) (c : Completion) (vs ws : List State) → Gives e ρ s m v y vs → truthy v ≡ false → Does second ρ y n c z ws → Does (stmt.If e first (Some second)) ρ s (1 + (m + n)) c z (vs ++ ws)
does_else e first second ρ s y z m n v c vs ws g i a = record {
  by = λ k.
      value_then k (node.exec_if_ e first (Some second) ρ) g (steps_from (ap (λ t. branch t first (Some second) ρ >>= k) i) (statement_last k a));
}

pub does_no_else : (e : EsExpr) (first : EsStmt) (ρ : Scope) (s z : State) (m : ℕ) (v : Val) (vs : List State) → Gives e ρ s m v z vs → truthy v ≡ false → Does (stmt.If e first None) ρ s (1 + m) nothing z vs
unfolding ◌>>=◌
does_no_else e first ρ s z m v vs g i = record {
  by = λ k.
      steps_seen (append-nil vs) (steps_count (1 + (m + 0)) (1 + m) (omega arith)
      (value_then k (node.exec_if_ e first None ρ) g (steps_from (ap (λ t. branch t first None ρ >>= k) i) steps_refl)));
}

-- ---- loops: the test of a turn, and the body with the next turn behind it

pub loop_ends : (e : EsExpr) (body : EsStmt) (ρ : Scope) (s z : State) (m : ℕ) (v : Val) (vs : List State) → Gives e ρ s m v z vs → truthy v ≡ false → Does (stmt.While e body) ρ s (1 + m) nothing z vs
unfolding ◌>>=◌
loop_ends e body ρ s z m v vs g i = record {
  by = λ k.
      steps_seen (append-nil vs) (steps_count (1 + (m + 0)) (1 + m) (omega arith)
      (value_then {f = λ w. turned (truthy w) e body ρ} k (node.exec_while e body ρ) g (steps_from (ap (λ t. turned t e body ρ >>= k) i) steps_refl)));
}

pub loop_turns : (e : EsExpr) (body : EsStmt) (ρ : Scope) (k : Completion → Task) (s y : State) (m : ℕ) (v : Val) (vs : List State) → Gives e ρ s m v y vs → truthy v ≡ true → Steps (Ask (Execute (stmt.While e body) ρ) k) s (1 + m) (Ask (Execute body ρ) (λ c. again e body ρ c >>= k)) y vs
unfolding ◌>>=◌
loop_turns e body ρ k s y m v vs g i =
    steps_seen (append-nil vs) (steps_count (1 + (m + 0)) (1 + m) (omega arith)
    (value_then {f = λ w. turned (truthy w) e body ρ} k (node.exec_while e body ρ) g (steps_from (ap (λ t. turned t e body ρ >>= k) i) steps_refl)))
