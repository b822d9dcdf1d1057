-- What a name is bound to, and what a write to a variable leaves, where both sides' states are tied by a world.
use Rattle.std.proofs.Common.{◌≡◌, ⊎_elim, ℕ, zero, suc, ◌<◌, ◌||◌, true, false, List, [], ◌∷◌, length, map, Some, refl, sym, ap, ◌∙◌, subst, arith}
use Rattle.std.specs.Prelude.{is_some, bytes_eq}
use Rattle.std.proofs.lemmas.List.{length-set, get_or-set_same, get_or-set_other}
use Rattle.es5_tree.specs.Values.{Text, Val, find_own}
use Rattle.es5_tree.specs.Objects.Cells.{with_property}
use Rattle.es5_tree.proofs.ObjectProperties.{find_written, find_other}
use Rattle.es5_evaluation.specs.State.{Activation, State, record_at, binds, binding, binding_by, has_variable, value_in, with_variable}
use Rattle.es5_evaluation.specs.Task.{with_stored}
use Rattle.both_meanings.specs.World.{Shape, shape_of, stands, bound_in, World, Binds, bound_here, bound_around, Var}
use Rattle.both_meanings.specs.Holds.{Shapes, value_of}
use Rattle.both_meanings.proofs.Basics.{true_or_false, same_or_not}

-- ---- the names of a record decide what it binds

pub found_stands : (ps : List (Text × Val)) (x : Text) → is_some (find_own ps x) ≡ stands x (map (λ p. p.0) ps)
unfolding find_own
found_stands [] x = refl
found_stands (p ∷ ps) x = ⊎_elim (λ (e : bytes_eq p.0 x ≡ true). rw e refl) (λ (e : bytes_eq p.0 x ≡ false). rw e (found_stands ps x)) (true_or_false (bytes_eq p.0 x))

pub binds_shape : (a : Activation) (x : Text) → binds a x ≡ bound_in (shape_of a) x
binds_shape a x = ap (λ b. b || is_some (find_own a.constants x)) (found_stands a.variables x)

pub same_names : (ps : List (Text × Val)) (x : Text) (v : Val) → stands x (map (λ p. p.0) ps) ≡ true → map (λ p. p.0) (with_property ps x v) ≡ map (λ p. p.0) ps
unfolding with_property
same_names [] x v h = cc
same_names (p ∷ ps) x v h = ⊎_elim (λ (e : bytes_eq p.0 x ≡ true). rw e refl) (λ (e : bytes_eq p.0 x ≡ false). rw e (ap (λ l. p.0 ∷ l) (same_names ps x v (ap (λ b. b || stands x (map (λ q. q.0) ps)) (sym e) ∙ h)))) (true_or_false (bytes_eq p.0 x))

module _ {w : World} {rs : List Activation} (h : Shapes w rs) where
  binds_at : (r : ℕ) (x : Text) (sh : Shape) → w.shape r ≡ Some sh → binds (record_at rs r) x ≡ bound_in sh x
  binds_at r x sh e = binds_shape (record_at rs r) x ∙ ap (λ z. bound_in z x) (h.by r sh e).1

  bound_by : (k r b : ℕ) (x : Text) → r < k → Binds w r x b → binding_by k rs (Some r) x ≡ Some b
  unfolding binding_by
  bound_by zero r b x l i = absurd (omega (arith, l))
  bound_by (suc k) r _ x l (bound_here _ _ sh e i) = rw (binds_at r x sh e ∙ i) refl
  bound_by (suc k) r b x l (bound_around _ o _ _ sh e i out less more) =
      rw (binds_at r x sh e ∙ i) (rw (ap (λ z. z.outer) (h.by r sh e).1 ∙ out) (bound_by k o b x (omega (arith, less, l)) more))

  within : (r b : ℕ) (x : Text) → Binds w r x b → r < length rs
  within r _ x (bound_here _ _ sh e i) = (h.by r sh e).0
  within r b x (bound_around _ o _ _ sh e i out less more) = (h.by r sh e).0

  -- a name is found where the world says
  pub bound_is : (r b : ℕ) (x : Text) → Binds w r x b → binding rs r x ≡ Some b
  unfolding binding
  bound_is r b x i = bound_by (length rs) r b x (within r b x i) i

  pub has_var : (r : ℕ) (x : Text) → Var w r x → has_variable (record_at rs r) x ≡ true
  has_var r x v = found_stands (record_at rs r).variables x ∙ ap (λ z. stands x z.names) (h.by r v.sh v.shape).1 ∙ v.stands

  pub var_within : (r : ℕ) (x : Text) → Var w r x → r < length rs
  var_within r x v = (h.by r v.sh v.shape).0

pub var_binds : {w : World} {r : ℕ} {x : Text} → Var w r x → Binds w r x r
var_binds {w} {r} {x} v = bound_here r x v.sh v.shape (ap (λ b. b || is_some (find_own v.sh.constants x)) v.stands)

-- ---- a write

-- the state in which a variable of a record has another value
abbrev pub wrote : State → ℕ → Text → Val → State
wrote s r x v = with_stored s r (with_variable (record_at s.records r) x v)

pub record_wrote : (s : State) (r : ℕ) (x : Text) (v : Val) → r < length s.records → record_at (wrote s r x v).records r ≡ with_variable (record_at s.records r) x v
unfolding record_at
record_wrote s r x v l = get_or-set_same s.records r _ _ l

pub record_other : (s : State) (r q : ℕ) (x : Text) (v : Val) → (q ≡ r → ⊥) → record_at (wrote s r x v).records q ≡ record_at s.records q
unfolding record_at
record_other s r q x v n = get_or-set_other s.records r q _ _ n

pub value_wrote : (s : State) (r : ℕ) (x : Text) (v : Val) → r < length s.records → value_of (wrote s r x v) r x ≡ Some v
value_wrote s r x v l = ap (λ a. find_own a.variables x) (record_wrote s r x v l) ∙ find_written (record_at s.records r).variables x v

pub value_elsewhere : (s : State) (r q : ℕ) (x : Text) (v : Val) (y : Text) → (q ≡ r → ⊥) → value_of (wrote s r x v) q y ≡ value_of s q y
value_elsewhere s r q x v y n = ap (λ a. find_own a.variables y) (record_other s r q x v n)

pub value_other : (s : State) (r q : ℕ) (x : Text) (v : Val) (y : Text) → r < length s.records → (x ≡ y → ⊥) → value_of (wrote s r x v) q y ≡ value_of s q y
value_other s r q x v y l n = ⊎_elim
    (λ (e : q ≡ r). subst (λ k. value_of (wrote s r x v) k y ≡ value_of s k y) (sym e) (ap (λ a. find_own a.variables y) (record_wrote s r x v l) ∙ find_other (record_at s.records r).variables x y v n))
    (λ i. value_elsewhere s r q x v y i)
    (same_or_not q r)

-- in any record, of a variable or a constant
pub in_other : (s : State) (r q : ℕ) (x : Text) (v : Val) (y : Text) → r < length s.records → (x ≡ y → ⊥) → value_in (record_at (wrote s r x v).records q) y ≡ value_in (record_at s.records q) y
in_other s r q x v y l n = ⊎_elim
    (λ (e : q ≡ r). subst (λ k. value_in (record_at (wrote s r x v).records k) y ≡ value_in (record_at s.records k) y) (sym e) (ap (λ a. value_in a y) (record_wrote s r x v l) ∙ rw (find_other (record_at s.records r).variables x y v n) refl))
    (λ i. ap (λ a. value_in a y) (record_other s r q x v i))
    (same_or_not q r)

pub length_wrote : (s : State) (r : ℕ) (x : Text) (v : Val) → length (wrote s r x v).records ≡ length s.records
length_wrote s r x v = length-set s.records r _

-- its shape is the same where the variable was there
pub shape_wrote : (s : State) (r : ℕ) (x : Text) (v : Val) (q : ℕ) → r < length s.records → has_variable (record_at s.records r) x ≡ true → shape_of (record_at (wrote s r x v).records q) ≡ shape_of (record_at s.records q)
shape_wrote s r x v q l h = ⊎_elim
    (λ (j : q ≡ r). subst (λ k. shape_of (record_at (wrote s r x v).records k) ≡ shape_of (record_at s.records k)) (sym j)
    (ap shape_of (record_wrote s r x v l)
    ∙ ap (λ ns. record { names = ns; constants = (record_at s.records r).constants; outer = (record_at s.records r).outer }) (same_names (record_at s.records r).variables x v (sym (found_stands (record_at s.records r).variables x) ∙ h))))
    (λ n. ap shape_of (record_other s r q x v n))
    (same_or_not q r)

pub shapes_wrote : {w : World} (s : State) (r : ℕ) (x : Text) (v : Val) → Shapes w s.records → Var w r x → Shapes w (wrote s r x v).records
shapes_wrote {w} s r x v h i = record {
  by = λ q sh e. let at = h.by q sh e in (subst (λ n. q < n) (sym (length_wrote s r x v)) at.0, shape_wrote s r x v q (var_within h r x i) (has_var h r x i) ∙ at.1);
}
