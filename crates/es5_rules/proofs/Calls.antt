-- Calls: of a name, of a member with its `this`, of a value; and what a function of the script does, from the record that is entered to how its body ends.
use Rattle.std.proofs.Common.{◌≡◌, ℕ, ◌+◌, true, false, List, [], ◌∷◌, ◌++◌, length, Some, ap, ◌∙◌, arith, append_assoc}
use Rattle.opal_base.specs.declared.place.Pos.{Pos}
use Rattle.es5_tree.specs.declared.tree.EsExpr.{EsExpr}
use Rattle.es5_tree.specs.declared.tree.EsKind.TheVariants as kind
use Rattle.es5_tree.specs.Values.{Text, Val, Undefined, Obj}
use Rattle.es5_tree.specs.Objects.Cells as cells
use Rattle.es5_tree.specs.Objects.Links.{cell_at}
use Rattle.es5_evaluation.specs.State.{Code, Activation, State, code_at, record_at, binding, value_in}
use Rattle.es5_evaluation.specs.Task.{Completion, Normal, Throw, Place, Variable, Property, Scope, Evaluate, Task, Done, Ask, ◌>>=◌, with_new, with_record}
use Rattle.es5_evaluation.specs.Values.{holder_of, property_from}
use Rattle.es5_evaluation.specs.Declared.{own_code, arguments_name}
use Rattle.es5_evaluation.specs.Evaluate.{activation, all, arguments_object, call_place, call_with, enter, entered, invoke, invoke_kind, left, normally, passed, read_place, referred, run_body, this_of}
use Rattle.es5_evaluation.proofs.Tasks.{then_assoc}
use Rattle.es5_evaluation.proofs.Nodes as node
use Rattle.es5_rules.specs.Steps.{Steps, Gives, Raises, Places, DoesAll, Gathers, Invoked}
use Rattle.es5_rules.proofs.Steps.{steps_trans, steps_count, steps_seen, steps_from, steps_to, steps_begin, steps_look, steps_make, steps_enter}
use Rattle.es5_rules.proofs.Expressions.{steps_name, steps_property}

-- ---- the call of what a place holds

-- a callee with a place, its value, and the arguments
pub call_begins : (e callee : EsExpr) (args : List EsExpr) (ρ : Scope) (s y z : State) (m n : ℕ) (place : Place) (f : Val) (us : List Val) (vs ws : List State) → e.kind ≡ kind.Call callee args → Places callee ρ s m place y vs → ((k : Completion → Task) → Steps (read_place ρ.innermost place >>= k) y 0 (k (Normal f)) y []) → Gathers args ρ y n us z ws
    → (k : Completion → Task) → Steps (Ask (Evaluate e ρ) k) s (1 + (m + n)) (invoke e.pos f (this_of place) us >>= k) z (vs ++ ws)
unfolding ◌>>=◌
call_begins e callee args ρ s y z m n place f us vs ws h a r g k =
    steps_count (1 + (m + (0 + n))) (1 + (m + n)) (omega arith)
    (steps_trans (steps_begin k (node.eval_call e callee args ρ h))
    (steps_trans (a.by (λ d. referred (call_place e.pos args ρ) (call_with e.pos args ρ Undefined) d >>= k))
    (steps_from (then_assoc (read_place ρ.innermost place) (normally (call_with e.pos args ρ (this_of place))) k)
    (steps_trans (r (λ d. normally (call_with e.pos args ρ (this_of place)) d >>= k))
    (g.by [] (λ us. invoke e.pos f (this_of place) us) k)))))

-- and how the call ends
pub call_ends : (e callee : EsExpr) (args : List EsExpr) (ρ : Scope) (s y z x : State) (m n l : ℕ) (place : Place) (f : Val) (us : List Val) (c : Completion) (vs ws xs : List State) → e.kind ≡ kind.Call callee args → Places callee ρ s m place y vs → ((k : Completion → Task) → Steps (read_place ρ.innermost place >>= k) y 0 (k (Normal f)) y []) → Gathers args ρ y n us z ws → Invoked e.pos f (this_of place) us z l c x xs
    → (k : Completion → Task) → Steps (Ask (Evaluate e ρ) k) s (1 + (m + (n + l))) (k c) x (vs ++ (ws ++ xs))
call_ends e callee args ρ s y z x m n l place f us c vs ws xs h a r g i k =
    steps_seen (append_assoc vs ws xs) (steps_count ((1 + (m + n)) + l) (1 + (m + (n + l))) (omega arith)
    (steps_trans (call_begins e callee args ρ s y z m n place f us vs ws h a r g k) (i.by k)))

-- of a variable
pub reads_variable : (r : ℕ) (x : Text) (b : ℕ) (v : Val) (s : State) → binding s.records r x ≡ Some b → value_in (record_at s.records b) x ≡ Some v → (k : Completion → Task) → Steps (read_place r (Variable x) >>= k) s 0 (k (Normal v)) s []
unfolding read_place
reads_variable r x b v s i j k = steps_name r x b v k s i j

-- of a property, which may be absent
pub reads_property : (r : ℕ) (v : Val) (name : Text) (o : ℕ) (s : State) → holder_of v ≡ Some o → (k : Completion → Task) → Steps (read_place r (Property v name) >>= k) s 0 (k (Normal (property_from s.heap o v name))) s []
unfolding read_place
reads_property r v name o s i k = steps_property v name o k s i

pub gives_call : (e callee : EsExpr) (args : List EsExpr) (ρ : Scope) (s y z x : State) (m n l : ℕ) (place : Place) (f v : Val) (us : List Val) (vs ws xs : List State) → e.kind ≡ kind.Call callee args → Places callee ρ s m place y vs → ((k : Completion → Task) → Steps (read_place ρ.innermost place >>= k) y 0 (k (Normal f)) y []) → Gathers args ρ y n us z ws → Invoked e.pos f (this_of place) us z l (Normal v) x xs
    → Gives e ρ s (1 + (m + (n + l))) v x (vs ++ (ws ++ xs))
gives_call e callee args ρ s y z x m n l place f v us vs ws xs h a r g i = record { by = call_ends e callee args ρ s y z x m n l place f us (Normal v) vs ws xs h a r g i }

-- a callee that throws
pub raises_call : (e callee : EsExpr) (args : List EsExpr) (ρ : Scope) (s y z x : State) (m n l : ℕ) (place : Place) (f v : Val) (us : List Val) (vs ws xs : List State) → e.kind ≡ kind.Call callee args → Places callee ρ s m place y vs → ((k : Completion → Task) → Steps (read_place ρ.innermost place >>= k) y 0 (k (Normal f)) y []) → Gathers args ρ y n us z ws → Invoked e.pos f (this_of place) us z l (Throw v) x xs
    → Raises e ρ s (1 + (m + (n + l))) v x (vs ++ (ws ++ xs))
raises_call e callee args ρ s y z x m n l place f v us vs ws xs h a r g i = record { by = call_ends e callee args ρ s y z x m n l place f us (Throw v) vs ws xs h a r g i }

-- ---- functions of the script

-- the body runs in a new record, and the call ends by how the body ended
body_runs : (c : Code) (this : Val) (a : Activation) (s z : State) (m : ℕ) (d e : Completion) (vs : List State) → DoesAll c.body (record { this = this; innermost = length s.records }) (with_record s a) m d z vs → left d ≡ Done e → (k : Completion → Task) → Steps (run_body c.body this a >>= k) s m (k e) z vs
unfolding run_body ◌>>=◌
body_runs c this a s z m d e vs b i k =
    steps_count (0 + m) m (omega arith)
    (steps_trans (steps_enter a (λ r. all c.body (record { this = this; innermost = r }) >>= left >>= k) s)
    (steps_from (then_assoc (all c.body (record { this = this; innermost = length s.records })) left k)
    (steps_to (ap (λ t. t >>= k) i) (b.by (λ c. left c >>= k)))))

-- a function that does not name `arguments`
pub invoked_function : (p : Pos) (f code outer : ℕ) (this : Val) (us : List Val) (s z : State) (m : ℕ) (d e : Completion) (vs : List State) → (cell_at s.heap f).kind ≡ cells.Function code outer → (own_code (code_at s.codes code).body).arguments ≡ false
    → DoesAll (code_at s.codes code).body (record { this = this; innermost = length s.records }) (with_record s (activation (code_at s.codes code) f outer us [])) m d z vs → left d ≡ Done e → Invoked p (Obj f) this us s m e z vs
unfolding invoke enter ◌>>=◌
invoked_function p f code outer this us s z m d e vs h j b i = record {
  by = λ k.
      steps_count (0 + m) m (omega arith)
      (steps_trans (steps_look (λ y. invoke_kind (passed p) p (cell_at y.heap f).kind y f this us >>= k) s)
      (steps_from (ap (λ q. invoke_kind (passed p) p q s f this us >>= k) h ∙ ap (λ t. entered t (code_at s.codes code) f outer this us >>= k) j)
      (body_runs (code_at s.codes code) this (activation (code_at s.codes code) f outer us []) s z m d e vs b i k)));
}

-- and one that names it
pub invoked_arguments : (p : Pos) (f code outer : ℕ) (this : Val) (us : List Val) (s z : State) (m : ℕ) (d e : Completion) (vs : List State) → (cell_at s.heap f).kind ≡ cells.Function code outer → (own_code (code_at s.codes code).body).arguments ≡ true
    → DoesAll (code_at s.codes code).body (record { this = this; innermost = length s.records }) (with_record (with_new s (arguments_object us)) (activation (code_at s.codes code) f outer us ((arguments_name, Obj (length s.heap)) ∷ []))) m d z vs → left d ≡ Done e → Invoked p (Obj f) this us s m e z vs
unfolding invoke enter ◌>>=◌
invoked_arguments p f code outer this us s z m d e vs h j b i = record {
  by = λ k.
      let c = code_at s.codes code in
      steps_count (0 + (0 + m)) m (omega arith)
      (steps_trans (steps_look (λ y. invoke_kind (passed p) p (cell_at y.heap f).kind y f this us >>= k) s)
      (steps_from (ap (λ q. invoke_kind (passed p) p q s f this us >>= k) h ∙ ap (λ t. entered t (code_at s.codes code) f outer this us >>= k) j)
      (steps_trans (steps_make (arguments_object us) (λ a. run_body c.body this (activation c f outer us ((arguments_name, Obj a) ∷ [])) >>= k) s)
      (body_runs c this (activation c f outer us ((arguments_name, Obj (length s.heap)) ∷ [])) (with_new s (arguments_object us)) z m d e vs b i k))));
}
