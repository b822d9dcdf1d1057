-- The value or the place of each form of expression, by its parts.
use Rattle.std.proofs.Common.{◌≡◌, ℕ, ℤ, ◌+◌, true, false, List, [], ◌++◌, Some, codes, refl, ap, ◌∙◌, arith, append-nil}
use Rattle.std.specs.Prelude.{not, if◌then◌else◌}
use Rattle.opal_base.specs.declared.place.Pos.{Pos}
use Rattle.es5_tree.specs.declared.tree.EsExpr.{EsExpr}
use Rattle.es5_tree.specs.declared.tree.EsKind.TheVariants as kind
use Rattle.es5_tree.specs.declared.tree.Operator.{Operator}
use Rattle.es5_tree.specs.Values.{Text, Val, Null, Truth, Num, Str}
use Rattle.es5_evaluation.specs.State.{State, record_at, binding, has_variable, value_in, with_variable}
use Rattle.es5_evaluation.specs.Task.{Completion, Normal, Refers, Place, Variable, Property, Scope, Request, Evaluate, Refer, Task, Done, Ask, Store, ◌>>=◌, with_stored}
use Rattle.es5_evaluation.specs.Values.{Is, truthy, negated, binary, holder_of, or_undefined, property_from}
use Rattle.es5_evaluation.specs.Evaluate.{access, and_then, choose, gives, normally, operated, or_else, perform, place_from, read_bound, read_from, read_name, read_property, referred, type_error, write_bound, write_name, write_place}
use Rattle.es5_evaluation.proofs.Tasks.{done_then}
use Rattle.es5_evaluation.proofs.Nodes as node
use Rattle.es5_rules.specs.Steps.{Steps, Gives, Places}
use Rattle.es5_rules.proofs.Steps.{steps_refl, steps_trans, steps_count, steps_seen, steps_from, steps_to, steps_begin, steps_look, steps_store}

-- ---- parts

-- what a node does begins with the value of a part
pub value_then : {q : Request} {a : EsExpr} {ρ : Scope} {f : Val → Task} (k : Completion → Task) {s y z : State} {m n : ℕ} {v : Val} {w : Task} {vs ws : List State} → perform q ≡ Ask (Evaluate a ρ) (normally f) → Gives a ρ s m v y vs → Steps (f v >>= k) y n w z ws → Steps (Ask q k) s (1 + (m + n)) w z (vs ++ ws)
unfolding ◌>>=◌
value_then {f = f} k h a b = steps_trans (steps_begin k h) (steps_trans (a.by (λ c. normally f c >>= k)) b)

-- or with its place
pub place_then : {q : Request} {a : EsExpr} {ρ : Scope} {f : Place → Task} {h : Val → Task} (k : Completion → Task) {s y z : State} {m n : ℕ} {p : Place} {w : Task} {vs ws : List State} → perform q ≡ Ask (Refer a ρ) (referred f h) → Places a ρ s m p y vs → Steps (f p >>= k) y n w z ws → Steps (Ask q k) s (1 + (m + n)) w z (vs ++ ws)
unfolding ◌>>=◌
place_then {f = f} {h = h} k e a b = steps_trans (steps_begin k e) (steps_trans (a.by (λ c. referred f h c >>= k)) b)

-- the value of a last part is that of the whole
pub part_last : {b : EsExpr} {ρ : Scope} (k : Completion → Task) {s z : State} {m : ℕ} {v : Val} {vs : List State} → Gives b ρ s m v z vs → Steps (Ask (Evaluate b ρ) Done >>= k) s m (k (Normal v)) z vs
unfolding ◌>>=◌
part_last k b = b.by (λ c. Done c >>= k)

-- an expression that gives a value at once
pub gives_leaf : {e : EsExpr} {ρ : Scope} (s : State) {v : Val} → perform (Evaluate e ρ) ≡ gives v → Gives e ρ s 1 v s []
gives_leaf s {v} h = record { by = λ k. steps_to (done_then (Normal v) k) (steps_begin k h) }

-- one that makes a value of that of a part
pub gives_one : {e a : EsExpr} {ρ : Scope} {f : Val → Task} {s z : State} {m : ℕ} {v w : Val} {vs : List State} → perform (Evaluate e ρ) ≡ Ask (Evaluate a ρ) (normally f) → Gives a ρ s m v z vs → f v ≡ gives w → Gives e ρ s (1 + m) w z vs
unfolding ◌>>=◌
gives_one {m = m} {w = w} {vs = vs} h a i = record {
  by = λ k.
      steps_seen (append-nil vs) (steps_count (1 + (m + 0)) (1 + m) (omega arith)
      (value_then k h a (steps_from (ap (λ t. t >>= k) i) steps_refl)));
}

-- and of those of two parts
pub gives_two : {e a b : EsExpr} {ρ : Scope} {f : Val → Val → Task} {s y z : State} {m n : ℕ} {v w u : Val} {vs ws : List State} → perform (Evaluate e ρ) ≡ Ask (Evaluate a ρ) (normally (λ x. Ask (Evaluate b ρ) (normally (f x)))) → Gives a ρ s m v y vs → Gives b ρ y n w z ws → f v w ≡ gives u → Gives e ρ s (1 + (m + n)) u z (vs ++ ws)
unfolding ◌>>=◌
gives_two {f = f} {n = n} {v = v} {ws = ws} h a b i = record {
  by = λ k.
      value_then k h a
      (steps_seen (append-nil ws) (steps_count (n + 0) n (omega arith)
      (steps_trans (b.by (λ c. normally (f v) c >>= k)) (steps_from (ap (λ t. t >>= k) i) steps_refl))));
}

-- ---- literals

pub gives_num : (e : EsExpr) (n : ℤ) (ρ : Scope) (s : State) → e.kind ≡ kind.Num n → Gives e ρ s 1 (Num n) s []
gives_num e n ρ s h = gives_leaf s (node.eval_num e n ρ h)

pub gives_str : (e : EsExpr) (text : Text) (ρ : Scope) (s : State) → e.kind ≡ kind.Str text → Gives e ρ s 1 (Str text) s []
gives_str e text ρ s h = gives_leaf s (node.eval_str e text ρ h)

pub gives_true : (e : EsExpr) (ρ : Scope) (s : State) → e.kind ≡ kind.True → Gives e ρ s 1 (Truth true) s []
gives_true e ρ s h = gives_leaf s (node.eval_true_ e ρ h)

pub gives_false : (e : EsExpr) (ρ : Scope) (s : State) → e.kind ≡ kind.False → Gives e ρ s 1 (Truth false) s []
gives_false e ρ s h = gives_leaf s (node.eval_false_ e ρ h)

pub gives_null : (e : EsExpr) (ρ : Scope) (s : State) → e.kind ≡ kind.Null → Gives e ρ s 1 Null s []
gives_null e ρ s h = gives_leaf s (node.eval_null e ρ h)

pub gives_this : (e : EsExpr) (ρ : Scope) (s : State) → e.kind ≡ kind.This → Gives e ρ s 1 ρ.this s []
gives_this e ρ s h = gives_leaf s (node.eval_this e ρ h)

-- ---- variables

-- a name that record b binds is read, and written
pub steps_name : (r : ℕ) (x : Text) (b : ℕ) (v : Val) (k : Completion → Task) (s : State) → binding s.records r x ≡ Some b → value_in (record_at s.records b) x ≡ Some v → Steps (read_name r x >>= k) s 0 (k (Normal v)) s []
unfolding read_name ◌>>=◌
steps_name r x b v k s e f =
    steps_to (ap (λ o. read_bound s.records o x >>= k) e ∙ ap (λ o. k (Normal (or_undefined o))) f)
    (steps_look (λ z. read_bound z.records (binding z.records r x) x >>= k) s)

pub steps_write : (r : ℕ) (x : Text) (b : ℕ) (v : Val) (k : Completion → Task) (s : State) → binding s.records r x ≡ Some b → has_variable (record_at s.records b) x ≡ true → Steps (write_name r x v >>= k) s 0 (k (Normal v)) (with_stored s b (with_variable (record_at s.records b) x v)) []
unfolding write_name ◌>>=◌
steps_write r x b v k s e f =
    steps_count (0 + 0) 0 (omega arith)
    (steps_trans
    (steps_to
    (ap (λ o. write_bound s.records o x v >>= k) e
    ∙ ap (λ t. (if t then Store b (with_variable (record_at s.records b) x v) (gives v) else type_error (codes "not writable")) >>= k) f)
    (steps_look (λ z. write_bound z.records (binding z.records r x) x v >>= k) s))
    (steps_store b (with_variable (record_at s.records b) x v) (k (Normal v)) s))

pub gives_name : (e : EsExpr) (x : Text) (ρ : Scope) (s : State) (b : ℕ) (v : Val) → e.kind ≡ kind.Name x → binding s.records ρ.innermost x ≡ Some b → value_in (record_at s.records b) x ≡ Some v → Gives e ρ s 1 v s []
gives_name e x ρ s b v h i j = record {
  by = λ k.
      steps_count (1 + 0) 1 (omega arith) (steps_trans (steps_begin k (node.eval_name e x ρ h)) (steps_name ρ.innermost x b v k s i j));
}

-- the place of a name is the name
pub places_name : (e : EsExpr) (x : Text) (ρ : Scope) (s : State) → e.kind ≡ kind.Name x → Places e ρ s 1 (Variable x) s []
places_name e x ρ s h = record { by = λ k. steps_to (done_then (Refers (Variable x)) k) (steps_begin k (node.refer_name e x ρ h)) }

-- an assignment to a variable
pub gives_assign : (e target a : EsExpr) (x : Text) (ρ : Scope) (s z : State) (b m : ℕ) (v : Val) (vs : List State) → e.kind ≡ kind.Assign target a → target.kind ≡ kind.Name x → Gives a ρ s m v z vs → binding z.records ρ.innermost x ≡ Some b → has_variable (record_at z.records b) x ≡ true
    → Gives e ρ s (2 + m) v (with_stored z b (with_variable (record_at z.records b) x v)) vs
unfolding ◌>>=◌ write_place
gives_assign e target a x ρ s z b m v vs h t g i j = record {
  by = λ k.
      steps_seen (append-nil vs) (steps_count (1 + (1 + (m + 0))) (2 + m) (omega arith)
      (place_then k (node.eval_assign e target a ρ h) (places_name target x ρ s t)
      (steps_trans (g.by (λ c. normally (write_place e.pos ρ.innermost (Variable x)) c >>= k))
      (steps_write ρ.innermost x b v k z i j))));
}

-- ---- properties

-- a value that has properties gives one, undefined where it is absent
pub steps_property : (v : Val) (name : Text) (o : ℕ) (k : Completion → Task) (s : State) → holder_of v ≡ Some o → Steps (read_property v name >>= k) s 0 (k (Normal (property_from s.heap o v name))) s []
unfolding read_property ◌>>=◌
steps_property v name o k s e = steps_from (ap (λ h. read_from h v name >>= k) e) (steps_look (λ z. gives (property_from z.heap o v name) >>= k) s)

pub gives_member : (e base : EsExpr) (name : Text) (mark : Pos) (ρ : Scope) (s z : State) (m o : ℕ) (v : Val) (vs : List State) → e.kind ≡ kind.Member base name mark → Gives base ρ s m v z vs → holder_of v ≡ Some o → Gives e ρ s (1 + m) (property_from z.heap o v name) z vs
unfolding access
gives_member e base name mark ρ s z m o v vs h a i = record {
  by = λ k.
      steps_seen (append-nil vs) (steps_count (1 + (m + 0)) (1 + m) (omega arith)
      (value_then k (node.eval_member e base name mark ρ h) a (steps_property v name o k z i)));
}

pub places_member : (e base : EsExpr) (name : Text) (mark : Pos) (ρ : Scope) (s z : State) (m o : ℕ) (v : Val) (vs : List State) → e.kind ≡ kind.Member base name mark → Gives base ρ s m v z vs → holder_of v ≡ Some o → Places e ρ s (1 + m) (Property v name) z vs
unfolding access ◌>>=◌
places_member e base name mark ρ s z m o v vs h a i = record {
  by = λ k.
      steps_seen (append-nil vs) (steps_count (1 + (m + 0)) (1 + m) (omega arith)
      (value_then k (node.refer_member e base name mark ρ h) a (steps_from (ap (λ t. place_from t v name >>= k) i) steps_refl)));
}

-- ---- operators

pub gives_not : (e a : EsExpr) (ρ : Scope) (s z : State) (m : ℕ) (v : Val) (vs : List State) → e.kind ≡ kind.Not a → Gives a ρ s m v z vs → Gives e ρ s (1 + m) (Truth (not (truthy v))) z vs
gives_not e a ρ s z m v vs h g = gives_one (node.eval_not_ e a ρ h) g refl

pub gives_neg : (e a : EsExpr) (ρ : Scope) (s z : State) (m : ℕ) (v w : Val) (vs : List State) → e.kind ≡ kind.Neg a → Gives a ρ s m v z vs → negated v ≡ Is w → Gives e ρ s (1 + m) w z vs
gives_neg e a ρ s z m v w vs h g i = gives_one (node.eval_neg e a ρ h) g (ap (operated e.pos) i)

pub gives_binary : (e : EsExpr) (operator : Operator) (a b : EsExpr) (ρ : Scope) (s y z : State) (m n : ℕ) (v w u : Val) (vs ws : List State) → e.kind ≡ kind.Binary operator a b → Gives a ρ s m v y vs → Gives b ρ y n w z ws → binary operator v w ≡ Is u → Gives e ρ s (1 + (m + n)) u z (vs ++ ws)
gives_binary e operator a b ρ s y z m n v w u vs ws h g i j = gives_two (node.eval_binary e operator a b ρ h) g i (ap (operated e.pos) j)

pub gives_and_false : (e a b : EsExpr) (ρ : Scope) (s z : State) (m : ℕ) (v : Val) (vs : List State) → e.kind ≡ kind.And a b → Gives a ρ s m v z vs → truthy v ≡ false → Gives e ρ s (1 + m) v z vs
gives_and_false e a b ρ s z m v vs h g i = gives_one (node.eval_and e a b ρ h) g (ap (λ t. and_then t v b ρ) i)

pub gives_and_true : (e a b : EsExpr) (ρ : Scope) (s y z : State) (m n : ℕ) (v w : Val) (vs ws : List State) → e.kind ≡ kind.And a b → Gives a ρ s m v y vs → truthy v ≡ true → Gives b ρ y n w z ws → Gives e ρ s (1 + (m + n)) w z (vs ++ ws)
gives_and_true e a b ρ s y z m n v w vs ws h g i f = record { by = λ k. value_then k (node.eval_and e a b ρ h) g (steps_from (ap (λ t. and_then t v b ρ >>= k) i) (part_last k f)) }

pub gives_or_true : (e a b : EsExpr) (ρ : Scope) (s z : State) (m : ℕ) (v : Val) (vs : List State) → e.kind ≡ kind.Or a b → Gives a ρ s m v z vs → truthy v ≡ true → Gives e ρ s (1 + m) v z vs
gives_or_true e a b ρ s z m v vs h g i = gives_one (node.eval_or e a b ρ h) g (ap (λ t. or_else t v b ρ) i)

pub gives_or_false : (e a b : EsExpr) (ρ : Scope) (s y z : State) (m n : ℕ) (v w : Val) (vs ws : List State) → e.kind ≡ kind.Or a b → Gives a ρ s m v y vs → truthy v ≡ false → Gives b ρ y n w z ws → Gives e ρ s (1 + (m + n)) w z (vs ++ ws)
gives_or_false e a b ρ s y z m n v w vs ws h g i f = record { by = λ k. value_then k (node.eval_or e a b ρ h) g (steps_from (ap (λ t. or_else t v b ρ >>= k) i) (part_last k f)) }

pub gives_cond : (e test a b : EsExpr) (ρ : Scope) (s y z : State) (m n : ℕ) (v w : Val) (vs ws : List State) → e.kind ≡ kind.Cond test a b → Gives test ρ s m v y vs → Gives (choose (truthy v) a b) ρ y n w z ws → Gives e ρ s (1 + (m + n)) w z (vs ++ ws)
gives_cond e test a b ρ s y z m n v w vs ws h g f = record { by = λ k. value_then k (node.eval_cond e test a b ρ h) g (part_last k f) }
