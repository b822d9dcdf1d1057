-- Activation records by their numbers, and names in them.
use Rattle.std.proofs.Common.{◌≡◌, ℕ, zero, suc, ◌<◌, ◌≤◌, true, false, List, [], length, get_or, None, Some, refl, sym, ap, ◌∙◌, arith}
use Rattle.std.proofs.lemmas.List.{get_or-map, get_or_past, length-map}
use Rattle.es5_tree.specs.Values.{Text, Val, find_own}
use Rattle.es5_host.specs.Bindings.{place_of, value_at}
use Rattle.es5_host.proofs.Bound.{found, missing}
use Rattle.es5_evaluation.specs.State.{Activation, record_at, binds, binding_by}
use Rattle.es5_store.specs.declared.store.Record.{Record}
use Rattle.es5_store.specs.Store.{record_of, records_of}

-- ---- the value of a name

pub found_value : (bs : List (Text × Val)) (name : Text) (i : ℕ) (v : Val) → Some i ≡ place_of bs name → value_at bs i ≡ Some v → Some v ≡ find_own bs name
found_value bs name i v h e = sym e ∙ (found bs name i (sym h)).0

pub missing_value : (bs : List (Text × Val)) (name : Text) → None ≡ place_of bs name → None ≡ find_own bs name
missing_value bs name h = sym ((missing bs name (sym h)).0)

-- ---- records

pub record_here : (rs : List Record) (a : ℕ) (x : Record) → a < length rs → x ≡ get_or rs a x → record_at (records_of rs) a ≡ record_of x
unfolding record_at
record_here rs a x h e = get_or-map record_of rs a x _ h ∙ ap record_of (sym e)

pub none_outside : (k : ℕ) (rs : List Activation) (name : Text) → binding_by k rs None name ≡ None
unfolding binding_by
none_outside zero rs name = refl
none_outside (suc k) rs name = refl

-- where no record is, nothing is bound
pub none_past : (rs : List Record) (k a : ℕ) (name : Text) → length rs ≤ a → binding_by k (records_of rs) (Some a) name ≡ None
unfolding binding_by record_at find_own
none_past rs zero a name h = refl
none_past rs (suc k) a name h = rw (get_or_past (records_of rs) a (record { variables = []; constants = []; outer = None }) (let e = length-map rs record_of in omega (arith, e, h))) (none_outside k (records_of rs) name)

-- a record that binds the name
pub bound_here : (rs : List Record) (k a : ℕ) (x : Record) (name : Text) → a < length rs → x ≡ get_or rs a x → binds (record_of x) name ≡ true → binding_by (suc k) (records_of rs) (Some a) name ≡ Some a
unfolding binding_by
bound_here rs k a x name h e b = rw (record_here rs a x h e, b) refl

-- the record around one that doesn't
pub bound_further : (rs : List Record) (k a : ℕ) (x : Record) (name : Text) → a < length rs → x ≡ get_or rs a x → binds (record_of x) name ≡ false → binding_by (suc k) (records_of rs) (Some a) name ≡ binding_by k (records_of rs) x.outer name
unfolding binding_by
bound_further rs k a x name h e b = rw (record_here rs a x h e, b) refl
