-- Names of records: the record that binds a name, and what a write to it leaves.
use Rattle.std.proofs.Common.{◌≡◌, ℕ, zero, suc, ◌<◌, true, false, Some, refl, arith}
use Rattle.std.specs.Prelude.{length}
use Rattle.std.proofs.lemmas.List.{get_or-set_same, get_or-set_other}
use Rattle.es5_tree.specs.Values.{Text, Val}
use Rattle.es5_tree.proofs.ObjectProperties.{find_written, find_other}
use Rattle.es5_evaluation.specs.State.{Activation, State, record_at, binds, binding, binding_by, value_in, with_variable}
use Rattle.es5_evaluation.specs.Task.{with_stored}

-- the record b binds a name, seen from a record: it is this one, or binds it seen from the one around it
pub data Bound (s : State) (x : Text) (b : ℕ) : ℕ → Type 0 where
  here : b < length s.records → binds (record_at s.records b) x ≡ true → Bound s x b b
  around : (r o : ℕ) → r < length s.records → binds (record_at s.records r) x ≡ false → (record_at s.records r).outer ≡ Some o → o < r → Bound s x b o → Bound s x b r

bound_by : (k : ℕ) (s : State) (x : Text) (b r : ℕ) → r < k → Bound s x b r → binding_by k s.records (Some r) x ≡ Some b
unfolding binding_by
bound_by zero s x b r l i = absurd (omega (arith, l))
bound_by (suc k) s x b _ l (here i e) = rw e refl
bound_by (suc k) s x b _ l (around r o i e f less more) = rw e (rw f (bound_by k s x b o (omega (arith, less, l)) more))

within : (s : State) (x : Text) (b r : ℕ) → Bound s x b r → r < length s.records
within s x b _ (here i e) = i
within s x b _ (around r o i e f less more) = i

pub bound_binding : (s : State) (x : Text) (b r : ℕ) → Bound s x b r → binding s.records r x ≡ Some b
unfolding binding
bound_binding s x b r i = bound_by (length s.records) s x b r (within s x b r i) i

-- ---- what a write leaves

-- the variable has the value
pub value_wrote : (a : Activation) (x : Text) (v : Val) → value_in (with_variable a x v) x ≡ Some v
value_wrote a x v = rw (find_written a.variables x v) refl

-- another has the one that it had
pub value_other : (a : Activation) (x y : Text) (v : Val) → (x ≡ y → ⊥) → value_in (with_variable a x v) y ≡ value_in a y
value_other a x y v n = rw (find_other a.variables x y v n) refl

-- the record is the one that was written, and the others stand
pub stored_same : (s : State) (r : ℕ) (a : Activation) → r < length s.records → record_at (with_stored s r a).records r ≡ a
unfolding record_at
stored_same s r a l = get_or-set_same s.records r a _ l

pub stored_other : (s : State) (r q : ℕ) (a : Activation) → (q ≡ r → ⊥) → record_at (with_stored s r a).records q ≡ record_at s.records q
unfolding record_at
stored_other s r q a n = get_or-set_other s.records r q a _ n
