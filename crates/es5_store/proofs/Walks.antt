-- Steps of tasks, one after another.
use Rattle.std.proofs.Common.{◌≡◌, ℕ, ◌+◌, ◌≤◌, List, [], ◌∷◌, length, Result, Ok, Err, refl, sym, ap, ◌∙◌, subst, arith}
use Rattle.std.proofs.lemmas.List.{length-append, length-map}
use Rattle.es5_tree.specs.Values.{Text, Obj}
use Rattle.es5_tree.specs.Intrinsics.Valid.{Valid}
use Rattle.es5_tree.specs.Objects.Cells.{Cell}
use Rattle.es5_evaluation.specs.Task.{Throw, Scope, Task, Done, Make, walk, ◌>>=◌}
use Rattle.es5_evaluation.specs.Evaluate.{raise, error_object}
use Rattle.es5_evaluation.specs.Run.{at_first}
use Rattle.es5_objects.specs.Heap.{Heap}
use Rattle.es5_host.specs.Answers.{with_new}
use Rattle.es5_code.specs.declared.node.Node.{Node}
use Rattle.es5_store.specs.declared.effect.Effect.{Effect}
use Rattle.es5_store.specs.declared.effect.Halt.{Halt}
use Rattle.es5_store.specs.declared.effect.Halt.TheVariants as halt
use Rattle.es5_store.specs.declared.store.Store.{Store}
use Rattle.es5_store.specs.Store.{state_in, records_of, record_of, IsFull, Sound}
use Rattle.es5_store.specs.Steps.{Steps, Quiet}

pub no_memory : (T : List Node) (ρ : Scope) (t : Task) (s new : Store) (h : Halt) → h ≡ halt.NoMemory → Quiet (Err h) T ρ t s new
no_memory T ρ t s new h e = subst (λ x. Quiet (Err x) T ρ t s new) (sym e) tt

-- a step, and what is done behind it
pub behind : (T : List Node) (ρ : Scope) (t u : Task) (s new : Store) (r : Result Effect Halt) → Steps T t s u s [] → Quiet r T ρ u s new → Quiet r T ρ t s new
behind T ρ t u s new (Ok e) h q = λ A g k calls. h A g k calls ∙ q A g k calls
behind T ρ t u s new (Err halt.CellsFull) h q = λ A g k calls. (let m = q A g k calls in record { task = m.task; state = m.state; makes = m.makes; full = m.full; quiet = m.quiet; comes = h A g k calls ∙ m.comes })
behind T ρ t u s new (Err halt.WriteFault) h q = q
behind T ρ t u s new (Err halt.NoMemory) h q = q

-- ---- errors

full_here : (s : Store) (cells : ℕ) → IsFull s → s.limit + at_first ≤ length s.heap.cells + length (records_of s.records.items)
full_here s cells h = let e = length-map s.records.items record_of in omega (arith, e, h)

pub raise_full : (T : List Node) (ρ : Scope) (s : Store) (name message : Text) → IsFull s → Quiet (Err halt.CellsFull) T ρ (raise name message) s s
unfolding raise ◌>>=◌
raise_full T ρ s name message h = λ A g k calls. record { task = Make (error_object name message) (λ o. Done (Throw (Obj o)) >>= k); state = state_in T s calls; makes = tt; full = full_here s 0 h; quiet = refl; comes = refl }

pub raised : (T : List Node) (ρ : Scope) (s : Store) (h : Heap) (o : ℕ) (name message : Text) → o ≡ length s.heap.cells → h ≡ with_new s.heap (error_object name message) → Steps T (raise name message) s (Done (Throw (Obj o))) (record s { heap = h }) []
unfolding raise ◌>>=◌ walk
raised T ρ s h o name message e f = λ A g k calls. rw (e, f) refl

-- a new object leaves the store sound
pub sound_new : (s : Store) (h : Heap) (c : Cell) → Sound s → (IsFull s → ⊥) → h ≡ with_new s.heap c → Valid h.cells → Sound (record s { heap = h })
sound_new s h c d f e v =
    let n = ap (λ (x : Heap). length x.cells) e ∙ length-append s.heap.cells (c ∷ []) in
    let cap = ap (λ (x : Heap). x.capacity) e in
    let r = d.records in
    let w = d.within in
    let m = d.room in
    record { valid = v; records = r; within = omega (arith, n, w, f); room = omega (arith, cap, m) }
