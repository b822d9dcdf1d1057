-- Properties: by a key, what an assignment leaves, `delete`, and `typeof`.
use Rattle.std.proofs.Common.{◌≡◌, ℕ, ◌+◌, true, false, List, [], ◌++◌, Some, codes, ap, ◌∙◌, arith, append-nil}
use Rattle.std.specs.Prelude.{if◌then◌else◌}
use Rattle.opal_base.specs.declared.place.Pos.{Pos}
use Rattle.es5_tree.specs.declared.tree.EsExpr.{EsExpr}
use Rattle.es5_tree.specs.declared.tree.EsKind.TheVariants as kind
use Rattle.es5_tree.specs.Values.{Text, Val, Truth, Str, Obj}
use Rattle.es5_tree.specs.Ends.{Conversion}
use Rattle.es5_tree.specs.Objects.Cells.{put, delete, is_array_length}
use Rattle.es5_tree.specs.Objects.Links.{cell_at}
use Rattle.es5_evaluation.specs.State.{State, record_at, binding, value_in}
use Rattle.es5_evaluation.specs.Task.{Completion, Normal, Refers, Variable, Property, Scope, Request, Evaluate, Task, Leaves, Ask, Set, ◌>>=◌, with_object}
use Rattle.es5_evaluation.specs.Values.{holder_of, key_of, or_undefined, property_from, type_name}
use Rattle.es5_evaluation.specs.Evaluate.{ItsValue, ItsPlace, access, access_at, access_from, access_key, can_put, delete_in, delete_place, delete_property, gives, normally, perform, place_from, put_in, read_property, type_error, type_of, type_of_bound, type_of_place, write_place, write_property}
use Rattle.es5_evaluation.proofs.Tasks.{then_assoc}
use Rattle.es5_evaluation.proofs.Nodes as node
use Rattle.es5_rules.specs.Steps.{Steps, Gives, Places}
use Rattle.es5_rules.proofs.Steps.{steps_refl, steps_trans, steps_count, steps_seen, steps_from, steps_to, steps_begin, steps_look, steps_set}
use Rattle.es5_rules.proofs.Expressions.{place_then, steps_property}

-- ---- by a key

-- what a node does begins with the values of two parts
pub values_then : {q : Request} {a b : EsExpr} {ρ : Scope} {f : Val → Val → Task} (k : Completion → Task) {s y z x : State} {m n l : ℕ} {v w : Val} {u : Task} {vs ws xs : List State} → perform q ≡ Ask (Evaluate a ρ) (normally (λ d. Ask (Evaluate b ρ) (normally (f d)))) → Gives a ρ s m v y vs → Gives b ρ y n w z ws → Steps (f v w >>= k) z l u x xs → Steps (Ask q k) s (1 + (m + (n + l))) u x (vs ++ (ws ++ xs))
unfolding ◌>>=◌
values_then {b = b} {ρ = ρ} {f = f} k {v = v} h a c d = steps_trans (steps_begin k h) (steps_trans (a.by (λ e. normally (λ x. Ask (Evaluate b ρ) (normally (f x))) e >>= k)) (steps_trans (c.by (λ e. normally (f v) e >>= k)) d))

steps_access : (p : Pos) (v w : Val) (o : ℕ) (name : Text) (k : Completion → Task) (s : State) → holder_of v ≡ Some o → key_of w ≡ Some name → Steps (access_at p ItsValue v w >>= k) s 0 (k (Normal (property_from s.heap o v name))) s []
unfolding access access_at
steps_access p v w o name k s i j =
    steps_from (ap (λ h. access_from h p ItsValue v w >>= k) i ∙ ap (λ n. access_key p ItsValue v n >>= k) j) (steps_property v name o k s i)

steps_access_place : (p : Pos) (v w : Val) (o : ℕ) (name : Text) (k : Completion → Task) (s : State) → holder_of v ≡ Some o → key_of w ≡ Some name → Steps (access_at p ItsPlace v w >>= k) s 0 (k (Refers (Property v name))) s []
unfolding access access_at ◌>>=◌
steps_access_place p v w o name k s i j =
    steps_from (ap (λ h. access_from h p ItsPlace v w >>= k) i ∙ ap (λ n. access_key p ItsPlace v n >>= k) j ∙ ap (λ h. place_from h v name >>= k) i) steps_refl

pub gives_index : (e base key : EsExpr) (mark : Pos) (ρ : Scope) (s y z : State) (m n o : ℕ) (v w : Val) (name : Text) (vs ws : List State) → e.kind ≡ kind.Index base key mark → Gives base ρ s m v y vs → Gives key ρ y n w z ws → holder_of v ≡ Some o → key_of w ≡ Some name → Gives e ρ s (1 + (m + n)) (property_from z.heap o v name) z (vs ++ ws)
gives_index e base key mark ρ s y z m n o v w name vs ws h a b i j = record {
  by = λ k.
      steps_seen (ap (λ l. vs ++ l) (append-nil ws)) (steps_count (1 + (m + (n + 0))) (1 + (m + n)) (omega arith)
      (values_then k (node.eval_index e base key mark ρ h) a b (steps_access e.pos v w o name k z i j)));
}

pub places_index : (e base key : EsExpr) (mark : Pos) (ρ : Scope) (s y z : State) (m n o : ℕ) (v w : Val) (name : Text) (vs ws : List State) → e.kind ≡ kind.Index base key mark → Gives base ρ s m v y vs → Gives key ρ y n w z ws → holder_of v ≡ Some o → key_of w ≡ Some name → Places e ρ s (1 + (m + n)) (Property v name) z (vs ++ ws)
places_index e base key mark ρ s y z m n o v w name vs ws h a b i j = record {
  by = λ k.
      steps_seen (ap (λ l. vs ++ l) (append-nil ws)) (steps_count (1 + (m + (n + 0))) (1 + (m + n)) (omega arith)
      (values_then k (node.refer_index e base key mark ρ h) a b (steps_access_place e.pos v w o name k z i j)));
}

-- ---- assignments to a property: by a name or by a key, where an object stands before it

steps_put : (p : Pos) (o : ℕ) (name : Text) (v : Val) (k : Completion → Task) (s : State) → can_put (cell_at s.heap o) name v ≡ true → Steps (write_property p (Obj o) name v >>= k) s 0 (k (Normal v)) (with_object s o (put (cell_at s.heap o) name v)) []
unfolding write_property ◌>>=◌
steps_put p o name v k s h =
    steps_count (0 + 0) 0 (omega arith)
    (steps_trans
    (steps_to
    (ap (λ t. (if t then Set o (put (cell_at s.heap o) name v) (gives v) else Leaves Conversion p) >>= k) h)
    (steps_look (λ z. put_in p o (cell_at z.heap o) name v >>= k) s))
    (steps_set o (put (cell_at s.heap o) name v) (k (Normal v)) s))

pub gives_put : (e target a : EsExpr) (name : Text) (ρ : Scope) (s y z : State) (m n o : ℕ) (v : Val) (vs ws : List State) → e.kind ≡ kind.Assign target a → Places target ρ s m (Property (Obj o) name) y vs → Gives a ρ y n v z ws → can_put (cell_at z.heap o) name v ≡ true
    → Gives e ρ s (1 + (m + n)) v (with_object z o (put (cell_at z.heap o) name v)) (vs ++ ws)
unfolding ◌>>=◌ write_place
gives_put e target a name ρ s y z m n o v vs ws h t g i = record {
  by = λ k.
      steps_seen (ap (λ l. vs ++ l) (append-nil ws)) (steps_count (1 + (m + (n + 0))) (1 + (m + n)) (omega arith)
      (place_then k (node.eval_assign e target a ρ h) t
      (steps_trans (g.by (λ c. normally (write_place e.pos ρ.innermost (Property (Obj o) name)) c >>= k))
      (steps_put e.pos o name v k z i))));
}

-- ---- delete

pub gives_delete : (e target : EsExpr) (name : Text) (ρ : Scope) (s z : State) (m o : ℕ) (vs : List State) → e.kind ≡ kind.Delete target → Places target ρ s m (Property (Obj o) name) z vs → is_array_length (cell_at z.heap o) name ≡ false → Gives e ρ s (1 + m) (Truth true) (with_object z o (delete (cell_at z.heap o) name)) vs
unfolding ◌>>=◌ delete_place delete_property
gives_delete e target name ρ s z m o vs h t i = record {
  by = λ k.
      steps_seen (append-nil vs) (steps_count (1 + (m + (0 + 0))) (1 + m) (omega arith)
      (place_then k (node.eval_delete e target ρ h) t
      (steps_trans
      (steps_to (ap (λ b. (if b then type_error (codes "not deletable") else Set o (delete (cell_at z.heap o) name) (gives (Truth true))) >>= k) i)
      (steps_look (λ y. delete_in o (cell_at y.heap o) name >>= k) z))
      (steps_set o (delete (cell_at z.heap o) name) (k (Normal (Truth true))) z))));
}

-- ---- typeof

steps_type : (v : Val) (k : Completion → Task) (s : State) → Steps (type_of v >>= k) s 0 (k (Normal (Str (type_name s.heap v)))) s []
unfolding type_of ◌>>=◌
steps_type v k s = steps_look (λ z. k (Normal (Str (type_name z.heap v)))) s

-- of a variable
pub gives_typeof_name : (e a : EsExpr) (x : Text) (ρ : Scope) (s z : State) (m b : ℕ) (v : Val) (vs : List State) → e.kind ≡ kind.Typeof a → Places a ρ s m (Variable x) z vs → binding z.records ρ.innermost x ≡ Some b → value_in (record_at z.records b) x ≡ Some v → Gives e ρ s (1 + m) (Str (type_name z.heap v)) z vs
unfolding ◌>>=◌ type_of_place
gives_typeof_name e a x ρ s z m b v vs h t i j = record {
  by = λ k.
      steps_seen (append-nil vs) (steps_count (1 + (m + (0 + 0))) (1 + m) (omega arith)
      (place_then k (node.eval_typeof e a ρ h) t
      (steps_trans
      (steps_to (ap (λ o. type_of_bound z.records o x >>= k) i ∙ ap (λ o. type_of (or_undefined o) >>= k) j)
      (steps_look (λ y. type_of_bound y.records (binding y.records ρ.innermost x) x >>= k) z))
      (steps_type v k z))));
}

-- of a property
pub gives_typeof_property : (e a : EsExpr) (name : Text) (ρ : Scope) (s z : State) (m o : ℕ) (v : Val) (vs : List State) → e.kind ≡ kind.Typeof a → Places a ρ s m (Property v name) z vs → holder_of v ≡ Some o → Gives e ρ s (1 + m) (Str (type_name z.heap (property_from z.heap o v name))) z vs
unfolding ◌>>=◌ type_of_place
gives_typeof_property e a name ρ s z m o v vs h t i = record {
  by = λ k.
      steps_seen (append-nil vs) (steps_count (1 + (m + (0 + 0))) (1 + m) (omega arith)
      (place_then k (node.eval_typeof e a ρ h) t
      (steps_from (then_assoc (read_property v name) (normally type_of) k)
      (steps_trans (steps_property v name o (λ c. normally type_of c >>= k) z i) (steps_type (property_from z.heap o v name) k z)))));
}
