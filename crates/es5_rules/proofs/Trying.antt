-- What is thrown: out of an expression, and how `try` takes it and what runs at last.
use Rattle.std.proofs.Common.{◌≡◌, ℕ, ◌+◌, List, [], ◌∷◌, ◌++◌, length, Option, None, Some, ap, arith}
use Rattle.es5_tree.specs.declared.tree.Catch.{Catch, Catch-F, roll-Catch}
use Rattle.es5_tree.specs.declared.tree.EsExpr.{EsExpr}
use Rattle.es5_tree.specs.declared.tree.EsKind.{EsKind}
use Rattle.es5_tree.specs.declared.tree.EsStmt.{EsStmt}
use Rattle.es5_tree.specs.declared.tree.EsStmt.TheVariants as stmt
use Rattle.es5_tree.specs.Values.{Val}
use Rattle.es5_evaluation.specs.State.{Activation, State}
use Rattle.es5_evaluation.specs.Task.{Completion, Throw, Scope, Request, Evaluate, Task, Done, Ask, ◌>>=◌, with_record}
use Rattle.es5_evaluation.specs.Evaluate.{all, at_last, instead, normally, perform, tried}
use Rattle.es5_evaluation.proofs.Tasks.{done_then, then_assoc}
use Rattle.es5_evaluation.proofs.Nodes as node
use Rattle.es5_rules.specs.Steps.{Steps, Raises, Does, DoesAll}
use Rattle.es5_rules.proofs.Steps.{steps_refl, steps_trans, steps_count, steps_from, steps_to, steps_begin, steps_enter}

-- ---- expressions

-- a node whose first part throws, whatever its form
pub part_raises : {q : Request} {a : EsExpr} {ρ : Scope} {f : Val → Task} (k : Completion → Task) {s z : State} {m : ℕ} {v : Val} {vs : List State} → perform q ≡ Ask (Evaluate a ρ) (normally f) → Raises a ρ s m v z vs → Steps (Ask q k) s (1 + m) (k (Throw v)) z vs
unfolding ◌>>=◌
part_raises {f = f} k h a = steps_trans (steps_begin k h) (a.by (λ c. normally f c >>= k))

pub raises_part : {e a : EsExpr} {ρ : Scope} {f : Val → Task} {s z : State} {m : ℕ} {v : Val} {vs : List State} → perform (Evaluate e ρ) ≡ Ask (Evaluate a ρ) (normally f) → Raises a ρ s m v z vs → Raises e ρ s (1 + m) v z vs
raises_part h a = record { by = λ k. part_raises k h a }

pub does_expr_raises : (e : EsExpr) (ρ : Scope) (s z : State) (m : ℕ) (v : Val) (vs : List State) → Raises e ρ s m v z vs → Does (stmt.Expr e) ρ s (1 + m) (Throw v) z vs
unfolding ◌>>=◌
does_expr_raises e ρ s z m v vs g = record { by = λ k. steps_trans (steps_begin k (node.exec_expr e ρ)) (g.by (λ c. Done c >>= k)) }

-- ---- what runs at last

pub record Lasts (finally : Option (List EsStmt)) (ρ : Scope) (c : Completion) (s : State) (m : ℕ) (d : Completion) (z : State) (vs : List State) : Type 0 where
  pub by : (k : Completion → Task) → Steps (at_last finally ρ c >>= k) s m (k d) z vs

pub lasts_none : (ρ : Scope) (c : Completion) (s : State) → Lasts None ρ c s 0 c s []
lasts_none ρ c s = record { by = λ k. steps_to (done_then c k) steps_refl }

-- it ends so that what was before stands, or another completion stands instead
pub lasts_some : (body : List EsStmt) (ρ : Scope) (c d e : Completion) (s z : State) (m : ℕ) (vs : List State) → DoesAll body ρ s m d z vs → instead c d ≡ Done e → Lasts (Some body) ρ c s m e z vs
unfolding ◌>>=◌
lasts_some body ρ c d e s z m vs a i = record {
  by = λ k.
      steps_from (then_assoc (all body ρ) (instead c) k) (steps_to (ap (λ t. t >>= k) i) (a.by (λ x. instead c x >>= k)));
}

-- ---- try

-- nothing is caught: nothing was thrown, or no part takes it
pub does_try : (body : List EsStmt) (catch : Option Catch) (finally : Option (List EsStmt)) (ρ : Scope) (s y z : State) (m n : ℕ) (c d : Completion) (vs ws : List State) → DoesAll body ρ s m c y vs → tried catch finally ρ c ≡ at_last finally ρ c → Lasts finally ρ c y n d z ws → Does (stmt.Try body catch finally) ρ s (1 + (m + n)) d z (vs ++ ws)
does_try body catch finally ρ s y z m n c d vs ws a i l = record {
  by = λ k.
      steps_trans (steps_begin k (node.exec_try body catch finally ρ))
      (steps_from (then_assoc (all body ρ) (tried catch finally ρ) k)
      (steps_trans (a.by (λ x. tried catch finally ρ x >>= k)) (steps_from (ap (λ t. t >>= k) i) (l.by k))));
}

-- the record of the part that takes what was thrown
abbrev pub catching : Catch-F EsKind EsStmt Catch EsExpr → Scope → Val → Activation
catching part ρ v = record { variables = (part.name, v) ∷ []; constants = []; outer = Some ρ.innermost }

-- what was thrown is caught
pub does_catch : (body : List EsStmt) (part : Catch-F EsKind EsStmt Catch EsExpr) (finally : Option (List EsStmt)) (ρ : Scope) (s y z x : State) (m n l : ℕ) (v : Val) (c d : Completion) (vs ws xs : List State) → DoesAll body ρ s m (Throw v) y vs → DoesAll part.body (record { this = ρ.this; innermost = length y.records }) (with_record y (catching part ρ v)) n c z ws → Lasts finally ρ c z l d x xs
    → Does (stmt.Try body (Some (roll-Catch part)) finally) ρ s (1 + (m + (n + l))) d x (vs ++ (ws ++ xs))
unfolding ◌>>=◌
does_catch body part finally ρ s y z x m n l v c d vs ws xs a b t = record {
  by = λ k.
      steps_count (1 + (m + (0 + (n + l)))) (1 + (m + (n + l))) (omega arith)
      (steps_trans (steps_begin k (node.exec_try body (Some (roll-Catch part)) finally ρ))
      (steps_from (then_assoc (all body ρ) (tried (Some (roll-Catch part)) finally ρ) k)
      (steps_trans (a.by (λ x. tried (Some (roll-Catch part)) finally ρ x >>= k))
      (steps_from (ap (λ t. t >>= at_last finally ρ >>= k) (node.catches part ρ v))
      (steps_trans (steps_enter (catching part ρ v) (λ r. all part.body (record { this = ρ.this; innermost = r }) >>= at_last finally ρ >>= k) y)
      (steps_from (then_assoc (all part.body (record { this = ρ.this; innermost = length y.records })) (at_last finally ρ) k)
      (steps_trans (b.by (λ x. at_last finally ρ x >>= k)) (t.by k))))))));
}
