-- Stores in which one cell more stands.
use Rattle.std.proofs.Common.{◌≡◌, ◌+◌, ◌≤◌, List, [], ◌∷◌, ◌++◌, length, map, Result, Ok, Err, refl, sym, ap, ◌∙◌, subst, arith}
use Rattle.std.proofs.lemmas.List.{length-append, length-map}
use Rattle.opal_base.specs.Shown.{HostCall}
use Rattle.es5_tree.specs.Objects.Cells.{Cell}
use Rattle.es5_tree.specs.Intrinsics.Lines.{Reading}
use Rattle.es5_tree.specs.Intrinsics.Valid.{Valid}
use Rattle.es5_evaluation.specs.State.{Activation, Code}
use Rattle.es5_evaluation.specs.Task.{Scope, Task}
use Rattle.es5_evaluation.specs.Run.{at_first}
use Rattle.es5_host.specs.Answers.{with_new}
use Rattle.es5_code.specs.declared.node.Node.{Node}
use Rattle.es5_code.specs.Trees.{code_in}
use Rattle.es5_store.specs.declared.effect.Effect.{Effect}
use Rattle.es5_store.specs.declared.effect.Halt.{Halt}
use Rattle.es5_store.specs.declared.effect.Halt.TheVariants as halt
use Rattle.es5_store.specs.declared.store.Record.{Record}
use Rattle.es5_store.specs.declared.store.Store.{Store}
use Rattle.es5_store.specs.Store.{state_in, records_of, record_of, IsFull, Sound}
use Rattle.es5_store.specs.Steps.{Steps, Quiet}

-- a full store, as its state tells
pub full_state : (s : Store) → IsFull s → s.limit + at_first ≤ length s.heap.cells + length (records_of s.records.items)
full_state s h = let e = length-map s.records.items record_of in omega (arith, e, h)

-- the state of a store by its parts
pub state_is : (T : List Node) (s : Store) (calls : List HostCall) (cells : List Cell) (codes : List Code) (records : List Activation) (lines : Reading) → s.heap.cells ≡ cells → map (code_in T) s.codes.items ≡ codes → records_of s.records.items ≡ records → s.lines ≡ lines → state_in T s calls ≡ record { heap = cells; codes = codes; records = records; lines = lines; calls = calls }
state_is T s calls cells codes records lines h c r l = rw (h, c, r, l) refl

-- one object more
pub sound_object : (s new : Store) (c : Cell) → Sound s → (IsFull s → ⊥) → new.heap ≡ with_new s.heap c → new.records.items ≡ s.records.items → new.limit ≡ s.limit → Valid new.heap.cells → Sound new
sound_object s new c d f e r l v =
    let n = ap (λ x. length x.cells) e ∙ length-append s.heap.cells (c ∷ []) in
    let cap = ap (λ x. x.capacity) e in
    let k = ap length r in
    let records = d.records in
    let within = d.within in
    let room = d.room in
    record { valid = v; records = omega (arith, k, records); within = omega (arith, n, k, l, within, f); room = omega (arith, cap, l, room) }

-- one record more
pub sound_record : (s new : Store) (x : Record) → Sound s → (IsFull s → ⊥) → new.heap ≡ s.heap → new.records.items ≡ s.records.items ++ x ∷ [] → new.limit ≡ s.limit → Sound new
sound_record s new x d f e r l =
    let n = ap (λ h. length h.cells) e in
    let cap = ap (λ h. h.capacity) e in
    let k = ap length r ∙ length-append s.records.items (x ∷ []) in
    let records = d.records in
    let within = d.within in
    let room = d.room in
    record { valid = subst (λ h. Valid h.cells) (sym e) d.valid; records = omega (arith, k, records); within = omega (arith, n, k, l, within, f); room = omega (arith, cap, l, room) }

-- a step over a new store, and what is done behind it
pub after : (T : List Node) (ρ : Scope) (t u : Task) (s mid new : Store) (r : Result Effect Halt) → mid.limit ≡ s.limit → Steps T t s u mid [] → Quiet r T ρ u mid new → Quiet r T ρ t s new
after T ρ t u s mid new (Ok e) l h q = λ A g k calls. h A g k calls ∙ q A g k calls
after T ρ t u s mid new (Err halt.CellsFull) l h q = λ A g k calls. (let m = q A g k calls in record { task = m.task; state = m.state; makes = m.makes; full = subst (λ n. n + at_first ≤ length m.state.heap + length m.state.records) l m.full; quiet = m.quiet; comes = h A g k calls ∙ m.comes })
after T ρ t u s mid new (Err halt.WriteFault) l h q = q
after T ρ t u s mid new (Err halt.NoMemory) l h q = q
