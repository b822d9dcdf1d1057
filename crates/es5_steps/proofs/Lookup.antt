-- The record that binds a name, record by record.
use Rattle.std.proofs.Common.{◌≡◌, ℕ, suc, ◌+◌, ◌-◌, ◌<◌, ◌≤◌, true, false, List, length, get_or, Option, Some, None, refl, sym, ap, ◌∙◌, arith}
use Rattle.std.proofs.lemmas.List.{length-map}
use Rattle.es5_tree.specs.Values.{Text}
use Rattle.es5_evaluation.specs.State.{Activation, binding, binding_by, binds}
use Rattle.es5_store.specs.declared.store.Record.{Record}
use Rattle.es5_store.specs.Store.{record_of, records_of}
use Rattle.es5_store.proofs.Records.{bound_here, bound_further, none_past, none_outside}

-- what is left to look at after so many records
abbrev pub Left : List Record → ℕ → Text → ℕ → ℕ → Type 0
Left rs r name turn at = binding_by (length rs) (records_of rs) (Some r) name ≡ binding_by (length rs - turn) (records_of rs) (Some at) name

whole : (rs : List Record) (r : ℕ) (name : Text) → binding (records_of rs) r name ≡ binding_by (length rs) (records_of rs) (Some r) name
unfolding binding
whole rs r name = ap (λ n. binding_by n (records_of rs) (Some r) name) (length-map rs record_of)

one_more : (n turn : ℕ) → turn < n → n - turn ≡ suc (n - (turn + 1))
one_more n turn h = omega (arith, h)

next : (rs : List Record) (r : ℕ) (name : Text) (turn at : ℕ) → turn < length rs → Left rs r name turn at → binding_by (length rs) (records_of rs) (Some r) name ≡ binding_by (suc (length rs - (turn + 1))) (records_of rs) (Some at) name
next rs r name turn at h l = l ∙ ap (λ n. binding_by n (records_of rs) (Some at) name) (one_more (length rs) turn h)

pub missing_record : (rs : List Record) (r : ℕ) (name : Text) (turn at : ℕ) → Left rs r name turn at → length rs ≤ at → None ≡ binding (records_of rs) r name
missing_record rs r name turn at l h = sym (whole rs r name ∙ l ∙ none_past rs (length rs - turn) at name h)

pub found_here : (rs : List Record) (r : ℕ) (name : Text) (turn at : ℕ) (x : Record) → turn < length rs → Left rs r name turn at → at < length rs → x ≡ get_or rs at x → true ≡ binds (record_of x) name → Some at ≡ binding (records_of rs) r name
found_here rs r name turn at x h l k e b = sym (whole rs r name ∙ next rs r name turn at h l ∙ bound_here rs (length rs - (turn + 1)) at x name k e (sym b))

further : (rs : List Record) (r : ℕ) (name : Text) (turn at : ℕ) (x : Record) → turn < length rs → Left rs r name turn at → at < length rs → x ≡ get_or rs at x → false ≡ binds (record_of x) name → binding_by (length rs) (records_of rs) (Some r) name ≡ binding_by (length rs - (turn + 1)) (records_of rs) x.outer name
further rs r name turn at x h l k e b = next rs r name turn at h l ∙ bound_further rs (length rs - (turn + 1)) at x name k e (sym b)

pub outermost : (rs : List Record) (r : ℕ) (name : Text) (turn at : ℕ) (x : Record) → turn < length rs → Left rs r name turn at → at < length rs → x ≡ get_or rs at x → false ≡ binds (record_of x) name → x.outer ≡ None → None ≡ binding (records_of rs) r name
outermost rs r name turn at x h l k e b o = sym (whole rs r name ∙ further rs r name turn at x h l k e b ∙ ap (λ y. binding_by (length rs - (turn + 1)) (records_of rs) y name) o ∙ none_outside (length rs - (turn + 1)) (records_of rs) name)

pub outwards : (rs : List Record) (r : ℕ) (name : Text) (turn at to : ℕ) (x : Record) → turn < length rs → Left rs r name turn at → at < length rs → x ≡ get_or rs at x → false ≡ binds (record_of x) name → x.outer ≡ Some to → Left rs r name (turn + 1) to
outwards rs r name turn at to x h l k e b o = further rs r name turn at x h l k e b ∙ ap (λ y. binding_by (length rs - (turn + 1)) (records_of rs) y name) o

pub nowhere : (rs : List Record) (r : ℕ) (name : Text) (turn at : ℕ) → Left rs r name turn at → length rs ≤ turn → None ≡ binding (records_of rs) r name
unfolding binding_by
nowhere rs r name turn at l h = sym (whole rs r name ∙ l ∙ ap (λ n. binding_by n (records_of rs) (Some at) name) {x = length rs - turn} {y = 0} (omega (arith, h)))
