-- Calls of the functions of a script, step by step.
use Rattle.std.proofs.Common.{◌≡◌, ℕ, Bool, true, List, [], ◌∷◌, ◌++◌, length, map, slice_get, None, Some, Result, refl, sym, ap, subst, ◌∙◌}
use Rattle.std.proofs.lemmas.List.{get_or-map}
use Rattle.std.proofs.lemmas.Option.{get_or_from_slice_get, slice_get_within}
use Rattle.es5_tree.specs.declared.tree.EsStmt.{EsStmt}
use Rattle.es5_tree.specs.Values.{Val}
use Rattle.es5_evaluation.specs.State.{Activation, Code, code_at}
use Rattle.es5_evaluation.specs.Task.{Scope, Task, ◌>>=◌}
use Rattle.es5_evaluation.specs.Declared.{own_code}
use Rattle.es5_evaluation.specs.Evaluate.{activation, all, arguments_object, enter, entered, left, run_body}
use Rattle.es5_host.specs.Answers.{with_new}
use Rattle.es5_objects.specs.Heap.{Heap}
use Rattle.es5_code.specs.declared.node.Node.{Node}
use Rattle.es5_code.specs.declared.node.FunctionForm.{FunctionForm}
use Rattle.es5_code.specs.Sound.{Declares}
use Rattle.es5_code.specs.Trees.{code_in, code_of, stmts_in}
use Rattle.es5_store.specs.declared.effect.Effect.{Effect}
use Rattle.es5_store.specs.declared.effect.Halt.{Halt}
use Rattle.es5_store.specs.declared.store.Record.{Record}
use Rattle.es5_store.specs.declared.store.Store.{Store}
use Rattle.es5_store.specs.Store.{record_of, IsFull}
use Rattle.es5_store.specs.Steps.{Steps, Fills, Quiet}
use Rattle.es5_making.specs.Calls.{arguments_bound}
use Rattle.es5_making.proofs.Growth.{after}
use Rattle.es5_making.proofs.NewObjects.{object_full, object_made}
use Rattle.es5_making.proofs.NewRecords.{record_full, record_made}

-- ---- the body, in the record of the call

abbrev body_in : List EsStmt → Val → ℕ → Task
body_in body this r = all body (record { this = this; innermost = r }) >>= left

pub body_full : (T : List Node) (s : Store) (body : ℕ) (this : Val) (a : Activation) → IsFull s → Fills T (run_body (stmts_in T body) this a) s
unfolding run_body
body_full T s body this a h = record_full T s a (body_in (stmts_in T body) this) h

pub body_begun : (T : List Node) (s new : Store) (x : Record) (a : Activation) (body r : ℕ) (this : Val) → record_of x ≡ a → r ≡ length s.records.items → new.records.items ≡ s.records.items ++ x ∷ [] → new.heap ≡ s.heap → new.codes.items ≡ s.codes.items → new.lines ≡ s.lines → Steps T (run_body (stmts_in T body) this a) s (all (stmts_in T body) (record { this = this; innermost = r }) >>= left) new []
unfolding run_body
body_begun T s new x a body r this e n records heap codes lines = record_made T s new x a r (body_in (stmts_in T body) this) e n records heap codes lines

-- ---- first the arguments object

abbrev listed_body : Code → ℕ → ℕ → Val → List Val → ℕ → Task
listed_body c f outer this vs o = run_body c.body this (activation c f outer vs (arguments_bound (Some o)))

pub listed_full : (T : List Node) (s : Store) (c : Code) (f outer : ℕ) (this : Val) (vs : List Val) → IsFull s → Fills T (entered true c f outer this vs) s
listed_full T s c f outer this vs h = object_full T s (arguments_object vs) (listed_body c f outer this vs) h

pub listed : (T : List Node) (ρ : Scope) (s new : Store) (h : Heap) (r : Result Effect Halt) (c : Code) (f outer o : ℕ) (this : Val) (vs : List Val) → o ≡ length s.heap.cells → h ≡ with_new s.heap (arguments_object vs) → Quiet r T ρ (listed_body c f outer this vs o) (record s { heap = h }) new → Quiet r T ρ (entered true c f outer this vs) s new
listed T ρ s new h r c f outer o this vs n e q = after T ρ (entered true c f outer this vs) (listed_body c f outer this vs o) s (record s { heap = h }) new r refl (object_made T s h (arguments_object vs) o (listed_body c f outer this vs) n e) q

-- ---- the function of a code's number

code_there : (T : List Node) (codes : List ℕ) (k node : ℕ) → slice_get codes k ≡ Some node → code_at (map (code_in T) codes) k ≡ code_in T node
unfolding code_at
code_there T codes k node at = get_or-map (code_in T) codes k node (record { name = None; params = []; body = [] }) (slice_get_within codes k node at) ∙ ap (code_in T) (get_or_from_slice_get codes k node node at)

enter_by : (b : Bool) (c : Code) (f outer : ℕ) (this : Val) (vs : List Val) → (own_code c.body).arguments ≡ b → enter c f outer this vs ≡ entered b c f outer this vs
unfolding enter
enter_by b c f outer this vs e = ap (λ x. entered x c f outer this vs) e

pub enters : (T : List Node) (ρ : Scope) (s new : Store) (r : Result Effect Halt) (codes : List ℕ) (k node : ℕ) (function : FunctionForm) (b : Bool) (f outer : ℕ) (this : Val) (vs : List Val)
    → slice_get codes k ≡ Some node → code_in T node ≡ code_of T function → Declares T function → function.names_arguments ≡ b
    → Quiet r T ρ (entered b (code_of T function) f outer this vs) s new → Quiet r T ρ (enter (code_at (map (code_in T) codes) k) f outer this vs) s new
enters T ρ s new r codes k node function b f outer this vs at is d e q =
    subst (λ t. Quiet r T ρ t s new)
    (sym (ap (λ c. enter c f outer this vs) (code_there T codes k node at ∙ is) ∙ enter_by b (code_of T function) f outer this vs (sym d.arguments ∙ e)))
    q
