-- Properties, step by step.
use Rattle.std.proofs.Common.{◌≡◌, ℕ, ◌<◌, ◌≤◌, Bool, true, false, not, ◌&&◌, ◌||◌, is_some, List, [], length, set, Option, Some, None, Result, refl, sym, ap, ◌∙◌, subst, arith, codes}
use Rattle.std.proofs.lemmas.List.{length-set}
use Rattle.opal_base.specs.declared.place.Pos.{Pos}
use Rattle.es5_tree.specs.Values.{Text, Val, Truth, Obj}
use Rattle.es5_tree.specs.Ends.{Conversion}
use Rattle.es5_tree.specs.Objects.Cells.{Cell, put, delete, is_array_length, CanPut, IsLength}
use Rattle.es5_tree.specs.Objects.Links.{cell_at}
use Rattle.es5_tree.specs.Intrinsics.Rows.{natural_of, as_length}
use Rattle.es5_tree.specs.Intrinsics.Valid.{Valid, Names}
use Rattle.es5_evaluation.specs.Task.{Scope, Task, Done, Leaves, walk, ◌>>=◌}
use Rattle.es5_evaluation.specs.Values.{holder_of, property_from}
use Rattle.es5_evaluation.specs.Evaluate.{gives, can_put, delete_property, read_from, read_property, type_error, write_property}
use Rattle.es5_objects.specs.Heap.{Heap, with_cell}
use Rattle.es5_host.proofs.Validity.{valid_put, valid_delete}
use Rattle.es5_code.specs.declared.node.Node.{Node}
use Rattle.es5_store.specs.declared.effect.Effect.{Effect}
use Rattle.es5_store.specs.declared.effect.Halt.{Halt}
use Rattle.es5_store.specs.declared.store.Store.{Store}
use Rattle.es5_store.specs.Store.{state_in, Sound}
use Rattle.es5_store.specs.Steps.{Steps, Quiet}
use Rattle.es5_store.proofs.Walks.{behind}

-- ---- reading

pub no_holder : (T : List Node) (ρ : Scope) (s new : Store) (r : Result Effect Halt) (v : Val) (name : Text) → None ≡ holder_of v → Quiet r T ρ (type_error (codes "no properties")) s new → Quiet r T ρ (read_property v name) s new
unfolding read_property
no_holder T ρ s new r v name e q = subst (λ o. Quiet r T ρ (read_from o v name) s new) e q

pub property_read : (T : List Node) (s : Store) (o : ℕ) (v w : Val) (name : Text) → Some o ≡ holder_of v → w ≡ property_from s.heap.cells o v name → Steps T (read_property v name) s (gives w) s []
unfolding read_property walk ◌>>=◌
property_read T s o v w name e f = λ A g k calls. ap (λ x. walk A g (read_from x v name >>= k) (state_in T s calls)) (sym e) ∙ ap (λ x. walk A g (gives x >>= k) (state_in T s calls)) (sym f)

-- ---- writing

pub length_refused : (T : List Node) (s : Store) (p : Pos) (o : ℕ) (name : Text) (v : Val) → can_put (cell_at s.heap.cells o) name v ≡ false → Steps T (write_property p (Obj o) name v) s (Leaves Conversion p) s []
unfolding write_property walk ◌>>=◌ cell_at
length_refused T s p o name v e = λ A g k calls. rw e refl

pub property_written : (T : List Node) (s : Store) (h : Heap) (p : Pos) (o : ℕ) (name : Text) (v : Val) → can_put (cell_at s.heap.cells o) name v ≡ true → h ≡ with_cell s.heap o (put (cell_at s.heap.cells o) name v) → Steps T (write_property p (Obj o) name v) s (gives v) (record s { heap = h }) []
unfolding write_property walk ◌>>=◌ cell_at
property_written T s h p o name v e f = λ A g k calls. rw (e, f) refl

pub property_put : (s : Store) (h : Heap) (o : ℕ) (name : Text) (v : Val) → Sound s → o < length s.heap.cells → Names (length s.heap.cells) v → h ≡ with_cell s.heap o (put (cell_at s.heap.cells o) name v) → Sound (record s { heap = h })
property_put s h o name v d l n e =
    let count = ap (λ (x : Heap). length x.cells) e ∙ length-set s.heap.cells o (put (cell_at s.heap.cells o) name v) in
    let cap = ap (λ (x : Heap). x.capacity) e in
    let w = d.within in
    let m = d.room in
    record { valid = subst (λ (x : Heap). Valid x.cells) (sym e) (valid_put s.heap.cells o name v l n d.valid); records = d.records; within = omega (arith, count, w); room = omega (arith, cap, m) }

-- ---- deleting

pub length_kept : (T : List Node) (ρ : Scope) (s new : Store) (r : Result Effect Halt) (o : ℕ) (name : Text) → is_array_length (cell_at s.heap.cells o) name ≡ true → Quiet r T ρ (type_error (codes "not deletable")) s new → Quiet r T ρ (delete_property (Obj o) name) s new
unfolding delete_property walk ◌>>=◌ cell_at
length_kept T ρ s new r o name e q = behind T ρ (delete_property (Obj o) name) (type_error (codes "not deletable")) s new r (λ A g k calls. rw e refl) q

pub property_deleted : (T : List Node) (s : Store) (h : Heap) (o : ℕ) (name : Text) → is_array_length (cell_at s.heap.cells o) name ≡ false → h ≡ with_cell s.heap o (delete (cell_at s.heap.cells o) name) → Steps T (delete_property (Obj o) name) s (gives (Truth true)) (record s { heap = h }) []
unfolding delete_property walk ◌>>=◌ cell_at
property_deleted T s h o name e f = λ A g k calls. rw (e, f) refl

pub still_sound : (s : Store) (h : Heap) (o : ℕ) (name : Text) → Sound s → o < length s.heap.cells → h ≡ with_cell s.heap o (delete (cell_at s.heap.cells o) name) → Sound (record s { heap = h })
still_sound s h o name d l e =
    let count = ap (λ (x : Heap). length x.cells) e ∙ length-set s.heap.cells o (delete (cell_at s.heap.cells o) name) in
    let cap = ap (λ (x : Heap). x.capacity) e in
    let w = d.within in
    let m = d.room in
    record { valid = subst (λ (x : Heap). Valid x.cells) (sym e) (valid_delete s.heap.cells o name l d.valid); records = d.records; within = omega (arith, count, w); room = omega (arith, cap, m) }
