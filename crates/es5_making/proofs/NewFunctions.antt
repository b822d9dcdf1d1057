-- New functions, step by step.
use Rattle.std.proofs.Common.{◌≡◌, ℕ, List, [], ◌∷◌, ◌++◌, length, map, Some, refl, sym, ap, ◌∙◌}
use Rattle.std.proofs.lemmas.List.{map-append, length-map}
use Rattle.es5_tree.specs.Values.{Obj}
use Rattle.es5_tree.specs.Objects.Cells.{Cell, Function, new_cell}
use Rattle.es5_tree.specs.Intrinsics.Made.{function_prototype}
use Rattle.es5_evaluation.specs.Task.{Normal, Make, walk, ◌>>=◌, with_code}
use Rattle.es5_evaluation.specs.Evaluate.{gives, make_function}
use Rattle.es5_host.specs.Answers.{with_new}
use Rattle.es5_code.specs.declared.node.Node.{Node}
use Rattle.es5_code.specs.Trees.{code_in}
use Rattle.es5_store.specs.declared.store.Store.{Store}
use Rattle.es5_store.specs.Store.{state_in, records_of, IsFull}
use Rattle.es5_store.specs.Steps.{Steps, Fills}
use Rattle.es5_making.proofs.Growth.{full_state, state_is}

pub function_full : (T : List Node) (s : Store) (node r : ℕ) → IsFull s → Fills T (make_function (code_in T node) r) s
unfolding make_function ◌>>=◌ walk
function_full T s node r h = λ A g k calls. record {
  task = Make (new_cell (Function (length (map (code_in T) s.codes.items)) r) (Some function_prototype)) (λ o. gives (Obj o) >>= k);
  state = with_code (state_in T s calls) (code_in T node);
  makes = tt;
  full = full_state s h;
  quiet = refl;
  comes = refl;
}

abbrev function_cell : ℕ → ℕ → Cell
function_cell code r = new_cell (Function code r) (Some function_prototype)

pub function_made : (T : List Node) (s new : Store) (node r code o : ℕ) → code ≡ length s.codes.items → o ≡ length s.heap.cells → new.codes.items ≡ s.codes.items ++ node ∷ [] → new.heap ≡ with_new s.heap (function_cell code r) → new.records.items ≡ s.records.items → new.lines ≡ s.lines → Steps T (make_function (code_in T node) r) s (gives (Obj o)) new []
unfolding make_function ◌>>=◌ walk
function_made T s new node r code o n m codes heap records lines = λ A g k calls.
    let number : code ≡ length (map (code_in T) s.codes.items) = n ∙ sym (length-map s.codes.items (code_in T)) in
    let cells : new.heap.cells ≡ s.heap.cells ++ function_cell (length (map (code_in T) s.codes.items)) r ∷ [] = ap (λ h. h.cells) heap ∙ ap (λ i. s.heap.cells ++ function_cell i r ∷ []) number in
    let kept : map (code_in T) new.codes.items ≡ map (code_in T) s.codes.items ++ code_in T node ∷ [] = ap (map (code_in T)) codes ∙ map-append (code_in T) s.codes.items (node ∷ []) in
    ap (walk A g (k (Normal (Obj (length s.heap.cells))))) (sym (state_is T new calls _ _ _ _ cells kept (ap records_of records) lines))
    ∙ ap (λ i. walk A g (k (Normal (Obj i))) (state_in T new calls)) (sym m)
