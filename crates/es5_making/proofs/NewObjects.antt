-- New objects, step by step.
use Rattle.std.proofs.Common.{◌≡◌, ℕ, List, [], length, map, Some, refl}
use Rattle.es5_tree.specs.Values.{Text, Val, Obj}
use Rattle.es5_tree.specs.Objects.Cells.{Cell, Object, new_cell}
use Rattle.es5_tree.specs.Intrinsics.Made.{object_prototype}
use Rattle.es5_tree.specs.Intrinsics.Rows.{array_of}
use Rattle.es5_evaluation.specs.Task.{Task, Make, walk, ◌>>=◌}
use Rattle.es5_evaluation.specs.Evaluate.{gives, make_array, make_object, with_properties}
use Rattle.es5_objects.specs.Heap.{Heap}
use Rattle.es5_host.specs.Answers.{with_new}
use Rattle.es5_code.specs.declared.node.Node.{Node}
use Rattle.es5_store.specs.declared.store.Store.{Store}
use Rattle.es5_store.specs.Store.{state_in, IsFull}
use Rattle.es5_store.specs.Steps.{Steps, Fills}
use Rattle.es5_making.proofs.Growth.{full_state}

pub object_full : (T : List Node) (s : Store) (c : Cell) (f : ℕ → Task) → IsFull s → Fills T (Make c f) s
unfolding ◌>>=◌
object_full T s c f h = λ A g k calls. record {
  task = Make c (λ o. f o >>= k);
  state = state_in T s calls;
  makes = tt;
  full = full_state s h;
  quiet = refl;
  comes = refl;
}

pub object_made : (T : List Node) (s : Store) (h : Heap) (c : Cell) (o : ℕ) (f : ℕ → Task) → o ≡ length s.heap.cells → h ≡ with_new s.heap c → Steps T (Make c f) s (f o) (record s { heap = h }) []
unfolding ◌>>=◌ walk
object_made T s h c o f n e = λ A g k calls. rw (n, e) refl

-- ---- arrays

pub array_full : (T : List Node) (s : Store) (vs : List Val) → IsFull s → Fills T (make_array vs) s
unfolding make_array
array_full T s vs h = object_full T s (array_of (map (λ v. Some v) vs)) (λ o. gives (Obj o)) h

pub array_made : (T : List Node) (s : Store) (h : Heap) (o : ℕ) (vs : List Val) → o ≡ length s.heap.cells → h ≡ with_new s.heap (array_of (map (λ v. Some v) vs)) → Steps T (make_array vs) s (gives (Obj o)) (record s { heap = h }) []
unfolding make_array
array_made T s h o vs n e = object_made T s h (array_of (map (λ v. Some v) vs)) o (λ p. gives (Obj p)) n e

-- ---- objects

abbrev holder : List Text → List Val → Cell
holder names vs = with_properties (new_cell Object (Some object_prototype)) names vs

pub holder_full : (T : List Node) (s : Store) (names : List Text) (vs : List Val) → IsFull s → Fills T (make_object names vs) s
unfolding make_object
holder_full T s names vs h = object_full T s (holder names vs) (λ o. gives (Obj o)) h

pub holder_made : (T : List Node) (s : Store) (h : Heap) (o : ℕ) (names : List Text) (vs : List Val) → o ≡ length s.heap.cells → h ≡ with_new s.heap (holder names vs) → Steps T (make_object names vs) s (gives (Obj o)) (record s { heap = h }) []
unfolding make_object
holder_made T s h o names vs n e = object_made T s h (holder names vs) o (λ p. gives (Obj p)) n e
