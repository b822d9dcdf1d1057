-- Lists of expressions; the values that arrays, objects and functions written out make.
use Rattle.std.proofs.Common.{◌≡◌, ℕ, ◌+◌, List, [], ◌∷◌, ◌++◌, length, map, Option, Some, sym, ap, arith, append-nil, append_assoc}
use Rattle.es5_tree.specs.declared.tree.EsExpr.{EsExpr}
use Rattle.es5_tree.specs.declared.tree.EsKind.TheVariants as kind
use Rattle.es5_tree.specs.declared.tree.EsStmt.{EsStmt}
use Rattle.es5_tree.specs.Values.{Text, Val, Obj}
use Rattle.es5_tree.specs.Objects.Cells.{Object, Function, new_cell}
use Rattle.es5_tree.specs.Intrinsics.Made.{object_prototype, function_prototype}
use Rattle.es5_tree.specs.Intrinsics.Rows.{array_of}
use Rattle.es5_evaluation.specs.State.{Code, State}
use Rattle.es5_evaluation.specs.Task.{Completion, Normal, Scope, Task, Make, ◌>>=◌, with_new, with_code}
use Rattle.es5_evaluation.specs.Evaluate.{gather, make_array, make_function, make_object, normally, with_properties}
use Rattle.es5_evaluation.proofs.Nodes as node
use Rattle.es5_rules.specs.Steps.{Gives, Gathers}
use Rattle.es5_rules.proofs.Steps.{steps_refl, steps_trans, steps_count, steps_seen, steps_to, steps_begin, steps_make, steps_keep}

-- ---- lists, from left to right

pub gathers_none : (ρ : Scope) (s : State) → Gathers [] ρ s 0 [] s []
unfolding gather
gathers_none ρ s = record { by = λ us f k. steps_to (ap (λ l. f l >>= k) (sym (append-nil us))) steps_refl }

pub gathers_next : (e : EsExpr) (es : List EsExpr) (ρ : Scope) (s y z : State) (m n : ℕ) (v : Val) (us : List Val) (vs ws : List State) → Gives e ρ s m v y vs → Gathers es ρ y n us z ws → Gathers (e ∷ es) ρ s (m + n) (v ∷ us) z (vs ++ ws)
unfolding gather ◌>>=◌
gathers_next e es ρ s y z m n v us vs ws a b = record {
  by = λ before f k.
      steps_trans (a.by (λ c. normally (λ w. gather es ρ (before ++ w ∷ []) f) c >>= k))
      (steps_to (ap (λ l. f l >>= k) (append_assoc before (v ∷ []) us)) (b.by (before ++ v ∷ []) f k));
}

-- ---- values that are made

pub gives_array : (e : EsExpr) (items : List EsExpr) (ρ : Scope) (s z : State) (m : ℕ) (us : List Val) (vs : List State) → e.kind ≡ kind.Array items → Gathers items ρ s m us z vs → Gives e ρ s (1 + m) (Obj (length z.heap)) (with_new z (array_of (map (λ v. Some v) us))) vs
unfolding make_array ◌>>=◌
gives_array e items ρ s z m us vs h g = record {
  by = λ k.
      steps_seen (append-nil vs) (steps_count (1 + (m + 0)) (1 + m) (omega arith)
      (steps_trans (steps_begin k (node.eval_array e items ρ h))
      (steps_trans (g.by [] make_array k) (steps_make (array_of (map (λ v. Some v) us)) (λ o. k (Normal (Obj o))) z))));
}

pub gives_object : (e : EsExpr) (keys : List Text) (values : List EsExpr) (ρ : Scope) (s z : State) (m : ℕ) (us : List Val) (vs : List State) → e.kind ≡ kind.Object keys values → Gathers values ρ s m us z vs → Gives e ρ s (1 + m) (Obj (length z.heap)) (with_new z (with_properties (new_cell Object (Some object_prototype)) keys us)) vs
unfolding make_object ◌>>=◌
gives_object e keys values ρ s z m us vs h g = record {
  by = λ k.
      steps_seen (append-nil vs) (steps_count (1 + (m + 0)) (1 + m) (omega arith)
      (steps_trans (steps_begin k (node.eval_object e keys values ρ h))
      (steps_trans (g.by [] (make_object keys) k) (steps_make (with_properties (new_cell Object (Some object_prototype)) keys us) (λ o. k (Normal (Obj o))) z))));
}

pub gives_function : (e : EsExpr) (name : Option Text) (params : List Text) (body : List EsStmt) (ρ : Scope) (s : State) → e.kind ≡ kind.Function name params body
    → Gives e ρ s 1 (Obj (length s.heap)) (with_new (with_code s (record { name = name; params = params; body = body })) (new_cell (Function (length s.codes) ρ.innermost) (Some function_prototype))) []
unfolding make_function ◌>>=◌
gives_function e name params body ρ s h = record {
  by = λ k.
      let code : Code = record { name = name; params = params; body = body } in
      steps_count (1 + (0 + 0)) 1 (omega arith)
      (steps_trans (steps_begin k (node.eval_function e name params body ρ h))
      (steps_trans (steps_keep code (λ n. make_cell n ρ k) s) (steps_make (new_cell (Function (length s.codes) ρ.innermost) (Some function_prototype)) (λ o. k (Normal (Obj o))) (with_code s code))));
}
  where
    make_cell : ℕ → Scope → (Completion → Task) → Task
    make_cell n ρ k = Make (new_cell (Function n ρ.innermost) (Some function_prototype)) (λ o. k (Normal (Obj o)))
