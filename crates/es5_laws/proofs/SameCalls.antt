-- A call does the same from a state without sites and places.
use Rattle.std.proofs.Common.{◌≡◌, ℕ, Bool, true, false, List, [], ◌∷◌, ◌++◌, map, Option, Some, None, slice_get, sym, ap, subst}
use Rattle.std.proofs.Math.ListN.{get_or-map}
use Rattle.opal_base.specs.declared.place.Pos.{Pos}
use Rattle.es5_tree.specs.declared.tree.EsStmt.{EsStmt}
use Rattle.es5_tree.specs.Values.{Text, Val, Obj}
use Rattle.es5_tree.specs.Ends.{Host}
use Rattle.es5_tree.specs.Grammar.Spelling.{bare_stmt, no_place}
use Rattle.es5_tree.specs.Objects.Cells.{Kind, Object, Arguments, Function}
use Rattle.es5_tree.specs.Objects.Cells as kind
use Rattle.es5_tree.specs.Objects.Links.{cell_at}
use Rattle.es5_tree.specs.Intrinsics.Calls.{HostFn}
use Rattle.es5_tree.specs.Intrinsics.Rows.{Row, Gives, Sets, Makes, Throws, Invokes, Writes, Reads, row}
use Rattle.es5_tree.specs.Intrinsics.Rows as row_kind
use Rattle.es5_evaluation.specs.State.{Code, Activation, State, code_at}
use Rattle.es5_evaluation.specs.Task.{Completion, Normal, Refers, Return, Throw, Break, Continue, Scope, Execute}
use Rattle.es5_evaluation.specs.Declared.{arguments_name, new_names, own_code}
use Rattle.es5_evaluation.specs.Evaluate.{Call, activation, all, arguments_object, bound_params, enter, entered, host_functions, host_task, invoke, invoke_by, invoke_kind, left, nothing, own_name, passed, row_task, run_body, undefined_variables}
use Rattle.es5_laws.proofs.OwnCode.{bare_own_code}
use Rattle.es5_laws.proofs.SameTasks.{Alike, done, leaves, asks, looks, sets, makes, enters, prints, reads, bare_code, bare_state, alike_then, normally_alike}
use Rattle.es5_laws.proofs.SameSteps.{raise_alike}

pub all_alike : (ts : List EsStmt) (ρ : Scope) → Alike (all ts ρ) (all (map bare_stmt ts) ρ)
unfolding all
all_alike [] ρ = done nothing
all_alike (t ∷ ts) ρ = asks (Execute t ρ) (normally_alike (λ v. all_alike ts ρ))

-- ---- functions of the script

left_alike : (c : Completion) → Alike (left c) (left c)
left_alike (Normal v) = done _
left_alike (Refers p) = done _
left_alike (Return v) = done _
left_alike (Throw v) = done _
left_alike Break = done _
left_alike Continue = done _

run_body_alike : (body : List EsStmt) (this : Val) (a : Activation) → Alike (run_body body this a) (run_body (map bare_stmt body) this a)
unfolding run_body
run_body_alike body this a = enters a (λ r. alike_then (all_alike body _) left_alike)

-- the record of a call is the same
bare_activation : (c : Code) (f outer : ℕ) (vs : List Val) (arguments : List (Text × Val)) → activation (bare_code c) f outer vs arguments ≡ activation c f outer vs arguments
unfolding activation
bare_activation c f outer vs arguments = ap (λ o. record { variables = bound_params c.params vs ++ arguments ++ undefined_variables (new_names c.params o.names); constants = own_name c.name f; outer = Some outer }) (bare_own_code c.body)

run_code_alike : (c : Code) (f outer : ℕ) (this : Val) (vs : List Val) (arguments : List (Text × Val)) → Alike (run_body c.body this (activation c f outer vs arguments)) (run_body (map bare_stmt c.body) this (activation (bare_code c) f outer vs arguments))
run_code_alike c f outer this vs arguments =
    subst (λ a. Alike (run_body c.body this (activation c f outer vs arguments)) (run_body (map bare_stmt c.body) this a)) (sym (bare_activation c f outer vs arguments))
    (run_body_alike c.body this (activation c f outer vs arguments))

entered_alike : (b : Bool) (c : Code) (f outer : ℕ) (this : Val) (vs : List Val) → Alike (entered b c f outer this vs) (entered b (bare_code c) f outer this vs)
entered_alike false c f outer this vs = run_code_alike c f outer this vs []
entered_alike true c f outer this vs = makes (arguments_object vs) (λ a. run_code_alike c f outer this vs ((arguments_name, Obj a) ∷ []))

enter_alike : (c : Code) (f outer : ℕ) (this : Val) (vs : List Val) → Alike (enter c f outer this vs) (enter (bare_code c) f outer this vs)
unfolding enter
enter_alike c f outer this vs =
    subst (λ o. Alike (entered (own_code c.body).arguments c f outer this vs) (entered o.arguments (bare_code c) f outer this vs)) (sym (bare_own_code c.body))
    (entered_alike (own_code c.body).arguments c f outer this vs)

bare_code_at : (codes : List Code) (k : ℕ) → code_at (map bare_code codes) k ≡ bare_code (code_at codes k)
unfolding code_at
bare_code_at codes k = get_or-map bare_code codes k (record { name = None; params = []; body = [] })

-- ---- intrinsic functions

-- two ways to call do the same
abbrev AlikeCalls : Call → Call → Type 0
AlikeCalls a b = (f : ℕ) (this : Val) (vs : List Val) → Alike (a f this vs) (b f this vs)

row_alike : (a b : Call) → AlikeCalls a b → (p : Pos) (r : Row) → Alike (row_task a p r) (row_task b no_place r)
unfolding row_task
row_alike a b h p (Gives v) = done _
row_alike a b h p (Sets v o c) = sets o c (done _)
row_alike a b h p (Makes c) = makes c (λ o. done _)
row_alike a b h p (Throws message) = raise_alike _ _
row_alike a b h p (Invokes f this vs) = h f this vs
row_alike a b h p (row_kind.Leaves kind) = leaves kind p
row_alike a b h p (Writes text) = prints text (done _)
row_alike a b h p (Reads v n) = reads n (done _)

host_alike : (a b : Call) → AlikeCalls a b → (p : Pos) (which : Option HostFn) (s : State) (this : Val) (vs : List Val) → Alike (host_task a p which s this vs) (host_task b no_place which (bare_state s) this vs)
host_alike a b h p None s this vs = raise_alike _ _
host_alike a b h p (Some which) s this vs = row_alike a b h p (row which s.heap s.lines this vs)

kind_alike : (a b : Call) → AlikeCalls a b → (p : Pos) (k : Kind) (s : State) (f : ℕ) (this : Val) (vs : List Val) → Alike (invoke_kind a p k s f this vs) (invoke_kind b no_place k (bare_state s) f this vs)
kind_alike a b h p Object s f this vs = raise_alike _ _
kind_alike a b h p kind.Array s f this vs = raise_alike _ _
kind_alike a b h p Arguments s f this vs = raise_alike _ _
kind_alike a b h p (Function code outer) s f this vs = subst (λ c. Alike (enter (code_at s.codes code) f outer this vs) (enter c f outer this vs)) (sym (bare_code_at s.codes code)) (enter_alike (code_at s.codes code) f outer this vs)
kind_alike a b h p (kind.Host which) s f this vs = host_alike a b h p (slice_get host_functions which) s this vs
kind_alike a b h p (kind.Record outer) s f this vs = raise_alike _ _

invoke_by_alike : (a b : Call) → AlikeCalls a b → (p : Pos) → AlikeCalls (invoke_by a p) (invoke_by b no_place)
invoke_by_alike a b h p f this vs = looks (λ s. kind_alike a b h p (cell_at s.heap f).kind s f this vs)

passed_alike : (p : Pos) → AlikeCalls (passed p) (passed no_place)
unfolding passed
passed_alike p f this vs = invoke_by_alike _ _ (λ g that ws. leaves Host p) p f this vs

pub invoke_alike : (p : Pos) (v this : Val) (vs : List Val) → Alike (invoke p v this vs) (invoke no_place v this vs)
unfolding invoke
invoke_alike p (Obj f) this vs = invoke_by_alike (passed p) (passed no_place) (passed_alike p) p f this vs
invoke_alike p _ this vs = raise_alike _ _
