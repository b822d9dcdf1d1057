-- Names, step by step.
use Rattle.std.proofs.Common.{◌≡◌, ℕ, ◌<◌, true, false, is_some, List, [], ◌++◌, ◌≤◌, length, take, drop, get_or, set, append-nil, arith, drop_of_length-le, Option, Some, None, Result, refl, sym, ap, ap₂, ◌∙◌, subst, codes}
use Rattle.es5_tree.specs.Values.{Text, Val, Str, Undefined}
use Rattle.es5_evaluation.specs.State.{Activation, binding, record_at, has_variable, value_in, with_variable}
use Rattle.es5_evaluation.specs.Task.{Scope, Task, Completion, Answers, Variable, walk, ◌>>=◌}
use Rattle.es5_evaluation.specs.Values.{or_undefined, type_name}
use Rattle.es5_evaluation.specs.Evaluate.{gives, not_defined, read_bound, read_name, type_error, type_of, type_of_bound, type_of_place, write_bound, write_in, write_name}
use Rattle.es5_code.specs.declared.node.Node.{Node}
use Rattle.es5_store.specs.declared.effect.Effect.{Effect}
use Rattle.es5_store.specs.declared.effect.Halt.{Halt}
use Rattle.es5_store.specs.declared.store.Store.{Store}
use Rattle.es5_store.specs.declared.store.Record.{Record}
use Rattle.es5_host.specs.Bindings.{place_of, second, with_value_at}
use Rattle.es5_host.proofs.Bound.{found, missing}
use Rattle.std.proofs.lemmas.Option.{slice_get-get_or}
use Rattle.std.proofs.lemmas.List.{get_or-map, map-set}
use Rattle.opal_base.specs.Shown.{HostCall}
use Rattle.std.proofs.Math.Seq.{take-length}
use Rattle.es5_steps.specs.Values.{with_value}
use Rattle.es5_store.specs.Store.{state_in, record_of, records_of}
use Rattle.es5_store.specs.Steps.{Steps, Quiet}
use Rattle.es5_store.proofs.Walks.{behind}

abbrev bound_in : Store → ℕ → Text → Option ℕ
bound_in s i name = binding (records_of s.records.items) i name

-- ---- reading

reads : (T : List Node) (s : Store) (i : ℕ) (name : Text) (b : Option ℕ) → b ≡ bound_in s i name → Steps T (read_name i name) s (read_bound (records_of s.records.items) b name) s []
unfolding read_name walk ◌>>=◌
reads T s i name b e = λ A g k calls. ap (λ x. walk A g (read_bound (records_of s.records.items) x name >>= k) (state_in T s calls)) (sym e)

pub name_missing : (T : List Node) (ρ : Scope) (s new : Store) (r : Result Effect Halt) (i : ℕ) (name : Text) → None ≡ bound_in s i name → Quiet r T ρ (not_defined name) s new → Quiet r T ρ (read_name i name) s new
name_missing T ρ s new r i name e q = behind T ρ (read_name i name) (not_defined name) s new r (reads T s i name None e) q

pub name_found : (T : List Node) (s : Store) (i a : ℕ) (name : Text) (v : Val) → Some a ≡ bound_in s i name → v ≡ or_undefined (value_in (record_at (records_of s.records.items) a) name) → Steps T (read_name i name) s (gives v) s []
name_found T s i a name v e f = λ A g k calls. reads T s i name (Some a) e A g k calls ∙ ap (λ x. walk A g (gives x >>= k) (state_in T s calls)) (sym f)

-- ---- types

types : (T : List Node) (s : Store) (i : ℕ) (name : Text) (b : Option ℕ) → b ≡ bound_in s i name → Steps T (type_of_place i (Variable name)) s (type_of_bound (records_of s.records.items) b name) s []
unfolding type_of_place walk ◌>>=◌
types T s i name b e = λ A g k calls. ap (λ x. walk A g (type_of_bound (records_of s.records.items) x name >>= k) (state_in T s calls)) (sym e)

pub type_missing : (T : List Node) (s : Store) (i : ℕ) (name text : Text) → None ≡ bound_in s i name → text ≡ codes "undefined" → Steps T (type_of_place i (Variable name)) s (gives (Str text)) s []
type_missing T s i name text e f = λ A g k calls. types T s i name None e A g k calls ∙ ap (λ x. walk A g (gives (Str x) >>= k) (state_in T s calls)) (sym f)

pub type_found : (T : List Node) (ρ : Scope) (s new : Store) (r : Result Effect Halt) (i a : ℕ) (name : Text) (v : Val) → Some a ≡ bound_in s i name → v ≡ or_undefined (value_in (record_at (records_of s.records.items) a) name) → Quiet r T ρ (type_of v) s new → Quiet r T ρ (type_of_place i (Variable name)) s new
type_found T ρ s new r i a name v e f q =
    behind T ρ (type_of_place i (Variable name)) (type_of v) s new r
    (λ A g k calls. types T s i name (Some a) e A g k calls ∙ ap (λ x. walk A g (type_of x >>= k) (state_in T s calls)) (sym f))
    q

pub type_told : (T : List Node) (s : Store) (v : Val) (text : Text) → text ≡ type_name s.heap.cells v → Steps T (type_of v) s (gives (Str text)) s []
unfolding type_of walk ◌>>=◌
type_told T s v text e = λ A g k calls. ap (λ x. walk A g (gives (Str x) >>= k) (state_in T s calls)) (sym e)

-- ---- writing

there : (x : Activation) (name : Text) (i : ℕ) → Some i ≡ place_of x.variables name → i < length x.variables → has_variable x name ≡ true
there x name i e l = ap is_some (sym (found x.variables name i (sym e)).0) ∙ ap (λ o. is_some (second o)) (slice_get-get_or x.variables i ([], Undefined) l)

written : (x : Activation) (name : Text) (i : ℕ) (v : Val) → Some i ≡ place_of x.variables name → with_variable x name v ≡ with_value x i v
written x name i v e = ap (λ bs. record { variables = bs; constants = x.constants; outer = x.outer }) (sym ((found x.variables name i (sym e)).1 v))

writes : (T : List Node) (s : Store) (i : ℕ) (name : Text) (v : Val) (b : Option ℕ) → b ≡ bound_in s i name → Steps T (write_name i name v) s (write_bound (records_of s.records.items) b name v) s []
unfolding write_name walk ◌>>=◌
writes T s i name v b e = λ A g k calls. ap (λ x. walk A g (write_bound (records_of s.records.items) x name v >>= k) (state_in T s calls)) (sym e)

pub write_missing : (T : List Node) (ρ : Scope) (s new : Store) (r : Result Effect Halt) (i : ℕ) (name : Text) (v : Val) → None ≡ bound_in s i name → Quiet r T ρ (not_defined name) s new → Quiet r T ρ (write_name i name v) s new
write_missing T ρ s new r i name v e q = behind T ρ (write_name i name v) (not_defined name) s new r (writes T s i name v None e) q

pub write_bound_in : (T : List Node) (ρ : Scope) (s new : Store) (r : Result Effect Halt) (i a : ℕ) (name : Text) (v : Val) → Some a ≡ bound_in s i name → Quiet r T ρ (write_in a (record_at (records_of s.records.items) a) name v) s new → Quiet r T ρ (write_name i name v) s new
write_bound_in T ρ s new r i a name v e q = behind T ρ (write_name i name v) (write_in a (record_at (records_of s.records.items) a) name v) s new r (writes T s i name v (Some a) e) q

-- the record has the name as a constant
pub constant_in : (T : List Node) (ρ : Scope) (s new : Store) (r : Result Effect Halt) (a : ℕ) (x : Activation) (name : Text) (v : Val) → None ≡ place_of x.variables name → Quiet r T ρ (type_error (codes "not writable")) s new → Quiet r T ρ (write_in a x name v) s new
constant_in T ρ s new r a x name v e q = rw (ap is_some (missing x.variables name (sym e)).0) q

-- it has it as a variable
pub variable_in : (T : List Node) (s : Store) (rs : List Activation) (a i : ℕ) (x : Activation) (name : Text) (v w : Val) → Some i ≡ place_of x.variables name → i < length x.variables → w ≡ v → rs ≡ set (records_of s.records.items) a (with_value x i w)
    → (A : Answers) (g : ℕ) (k : Completion → Task) (calls : List HostCall) → walk A g (write_in a x name v >>= k) (state_in T s calls) ≡ walk A g (gives v >>= k) (record (state_in T s calls) { records = rs })
unfolding walk ◌>>=◌
variable_in T s rs a i x name v w e l h f A g k calls =
    rw (there x name i e l)
    (ap (λ y. walk A g (gives v >>= k) (record (state_in T s calls) { records = y })) (ap (set (records_of s.records.items) a) (written x name i v e ∙ ap (with_value x i) (sym h)) ∙ sym f))

-- a slice that was written back over the whole list
pub written_back : {A : Type 0} (xs ys : List A) (n : ℕ) → length xs ≡ length ys → n ≡ length ys → take n (xs ++ drop (length xs) ys) ≡ xs
written_back xs ys n e f =
    ap (λ zs. take n (xs ++ zs)) (drop_of_length-le ys (omega (arith, e)))
    ∙ (ap (take n) (append-nil xs)
    ∙ (ap (λ m. take m xs) {x = n} {y = length xs} (omega (arith, e, f))
    ∙ take-length xs))

-- ---- records and their variables

record_there : (rs : List Record) (a : ℕ) (d : Record) → a < length rs → record_at (records_of rs) a ≡ record_of (get_or rs a d)
unfolding record_at
record_there rs a d h = get_or-map record_of rs a d _ h

pub variable_there : (rs : List Record) (a i : ℕ) (d : Record) → a < length rs → i < length (record_at (records_of rs) a).variables → i < length (get_or rs a d).variables
variable_there rs a i d h l = subst (λ (y : Activation). i < length y.variables) (record_there rs a d h) l

pub assigned : (rs : List Record) (a i : ℕ) (d : Record) (bs : List (Text × Val)) (v : Val) → a < length rs → bs ≡ with_value_at (get_or rs a d).variables i v
    → records_of (set rs a (record { variables = bs; constants = (get_or rs a d).constants; outer = (get_or rs a d).outer })) ≡ set (records_of rs) a (with_value (record_at (records_of rs) a) i v)
assigned rs a i d bs v h e =
    map-set record_of rs a _
    ∙ ap (set (records_of rs) a) (ap (λ x. record { variables = x; constants = (get_or rs a d).constants; outer = (get_or rs a d).outer }) e ∙ ap (λ y. with_value y i v) (sym (record_there rs a d h)))
