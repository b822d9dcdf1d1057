-- Elements of arrays: lists of them, and objects into which they are put.
use Rattle.std.proofs.Common.{◌≡◌, ℕ, suc, ◌+◌, ◌<◌, ◌≤◌, List, [], ◌∷◌, ◌++◌, length, map, take, drop, set, get_or, slice_get, Option, Some, None, refl, sym, ap, subst, ◌∙◌, arith, drop-cons, drop_of_length-le, Bool, true, false, ◌↔◌, ⊎_elim}
use Rattle.std.proofs.lemmas.Bool.{cases_lt, false≢true}
use Rattle.std.specs.List.{All}
use Rattle.std.proofs.Math.Seq.{set-append_seam, get_or-append_seam}
use Rattle.std.proofs.lemmas.List.{get_or-set_same, set-set, map-append, take_more}
use Rattle.std.proofs.lemmas.Option.{get_or_from_slice_get}
use Rattle.std.proofs.lemmas.List.FromFn.{map-range_with_len_more}
use Rattle.es5_tree.specs.Values.{Text, Val, Str}
use Rattle.es5_tree.specs.Objects.Names.{decimal}
use Rattle.es5_tree.specs.Objects.Cells.{Cell, Object, new_cell}
use Rattle.es5_tree.specs.Objects.Links.{cell_at, get}
use Rattle.es5_tree.specs.Intrinsics.Rows.{elements, with_element, filled, or_undefined}
use Rattle.es5_tree.specs.Intrinsics.Valid.{NamesIf}
use Rattle.es5_objects.specs.declared.value.EsValue.{EsValue}
use Rattle.es5_objects.specs.Values.{value_if}
use Rattle.es5_objects.specs.Heap.{Heap, with_cell}
use Rattle.es5_host.specs.Answers.{with_new, HasRoom}

-- one more element
pub elements_more : (cells : List Cell) (o from i : ℕ) (xs ys : List (Option Val)) → ys ≡ xs ++ get cells o (decimal (from + i)) ∷ [] → xs ≡ elements cells o from i → ys ≡ elements cells o from (i + 1)
elements_more cells o from i xs ys e h =
    e ∙ (ap (λ zs. zs ++ get cells o (decimal (from + i)) ∷ []) h ∙ sym (map-range_with_len_more (λ k. get cells o (decimal k)) from i (from + i) refl))

-- ---- putting elements into an object

step : (c : Cell) (i : ℕ) (v : Option Val) (vs : List (Option Val)) → filled (with_element c i v) (i + 1) vs ≡ filled c i (v ∷ vs)
unfolding filled
step c i v vs = refl

no_more : (c : Cell) (i : ℕ) → filled c i [] ≡ c
unfolding filled
no_more c i = refl

cell_is : (cells : List Cell) (o : ℕ) (c : Cell) → o < length cells → cell_at (set cells o c) o ≡ c
unfolding cell_at
cell_is cells o c lt = get_or-set_same cells o c (new_cell Object None) lt

one_more : (i : ℕ) → suc i ≡ i + 1
one_more i = omega arith

pub at_step : {A : Type 0} (xs : List A) (i : ℕ) (x : A) → i < length xs → x ≡ get_or xs i x → drop i xs ≡ x ∷ drop (i + 1) xs
at_step xs i x h e = drop-cons xs i x h ∙ (ap (λ y. y ∷ drop (suc i) xs) (sym e) ∙ ap (λ n. x ∷ drop n xs) (one_more i))

-- the object after one element
pub put_in : (h k : Heap) (o : ℕ) (c : Cell) → k ≡ with_cell h o c → o < length h.cells → cell_at k.cells o ≡ c
put_in h k o c e lt = ap (λ x. cell_at x.cells o) e ∙ cell_is h.cells o c lt

pub filled_more : (h k : Heap) (o i : ℕ) (items : List (Option EsValue)) (item : Option EsValue) (all : Cell)
    → filled (cell_at h.cells o) i (map value_if (drop i items)) ≡ all
    → k ≡ with_cell h o (with_element (cell_at h.cells o) i (value_if item))
    → o < length h.cells → i < length items → item ≡ get_or items i item
    → filled (cell_at k.cells o) (i + 1) (map value_if (drop (i + 1) items)) ≡ all
filled_more h k o i items item all inv e lt in' at =
    ap (λ c. filled c (i + 1) (map value_if (drop (i + 1) items))) (put_in h k o (with_element (cell_at h.cells o) i (value_if item)) e lt)
    ∙ (step (cell_at h.cells o) i (value_if item) (map value_if (drop (i + 1) items))
    ∙ (ap (λ xs. filled (cell_at h.cells o) i (map value_if xs)) (sym (at_step items i item in' at)) ∙ inv))

-- two changes of one object
pub only_this : (h0 h k : Heap) (o : ℕ) (c d : Cell) → h ≡ with_cell h0 o c → k ≡ with_cell h o d → o < length h.cells → k ≡ with_cell h0 o (cell_at k.cells o)
only_this h0 h k o c d e f lt =
    f ∙ (ap (λ x. with_cell x o d) e ∙ (ap (λ cells. record { cells = cells; capacity = h0.capacity }) (set-set h0.cells o c d) ∙ ap (with_cell h0 o) (sym (put_in h k o d f lt))))

pub filled_whole : (h0 h : Heap) (o i : ℕ) (items : List (Option EsValue)) (all : Cell)
    → filled (cell_at h.cells o) i (map value_if (drop i items)) ≡ all
    → h ≡ with_cell h0 o (cell_at h.cells o) → length items ≤ i → h ≡ with_cell h0 o all
filled_whole h0 h o i items all inv e le =
    e ∙ ap (with_cell h0 o) (sym (no_more (cell_at h.cells o) i) ∙ (ap (λ xs. filled (cell_at h.cells o) i (map value_if xs)) (sym (drop_of_length-le items le)) ∙ inv))

-- a new object into which elements are put
pub seam : (cells : List Cell) (c d : Cell) → cell_at (cells ++ c ∷ []) (length cells) ≡ c
unfolding cell_at
seam cells c d = get_or-append_seam cells c [] (new_cell Object None)

pub made_and_filled : (old h new : Heap) (o : ℕ) (c : Cell) (vs : List (Option Val)) → h.cells ≡ old.cells ++ c ∷ [] → h.capacity ≡ old.capacity → o ≡ length old.cells
    → new ≡ with_cell h o (filled (cell_at h.cells o) 0 vs) → new ≡ with_new old (filled c 0 vs)
made_and_filled old h new o c vs cells cap number e =
    let here : cell_at h.cells o ≡ c = ap (λ x. cell_at x o) cells ∙ (ap (cell_at (old.cells ++ c ∷ [])) number ∙ seam old.cells c c) in
    let changed : set h.cells o (filled c 0 vs) ≡ old.cells ++ filled c 0 vs ∷ [] = ap (λ x. set x o (filled c 0 vs)) cells ∙ (ap (λ n. set (old.cells ++ c ∷ []) n (filled c 0 vs)) number ∙ set-append_seam old.cells c [] (filled c 0 vs)) in
    e ∙ (ap (λ x. with_cell h o (filled x 0 vs)) here ∙ (ap (λ x. record { cells = x; capacity = h.capacity }) changed ∙ ap (λ n. record { cells = old.cells ++ filled c 0 vs ∷ []; capacity = n }) cap))

-- what items name
pub item_at : (n m : ℕ) (items : List (Option EsValue)) (i : ℕ) (item : Option EsValue) → n ≡ m → All (λ x. NamesIf m (value_if x)) items → i < length items → item ≡ get_or items i item → NamesIf n (value_if item)
item_at n m items i item same h lt at = subst (λ k. NamesIf k (value_if item)) (sym same) (subst (λ x. NamesIf m (value_if x)) (sym at) (h i item lt))

pub not_full : (b : Bool) (h : Heap) → b ≡ false → (b ≡ true) ↔ (h.capacity ≤ length h.cells) → HasRoom h
not_full b h e iff = ⊎_elim (λ (lt : length h.cells < h.capacity). lt) (λ (le : h.capacity ≤ length h.cells). absurd (false≢true (sym e ∙ iff.1 le))) (cases_lt (length h.cells) h.capacity)

pub room : (h : Heap) → (false ≡ true) ↔ (h.capacity ≤ length h.cells) → HasRoom h
room h iff = not_full false h refl iff

-- one more name
pub names_more : (names : List Text) (i : ℕ) (name : Text) (xs ys : List (Option Val)) → slice_get names i ≡ Some name → i < length names → ys ≡ xs ++ Some (Str name) ∷ [] → xs ≡ map (λ n. Some (Str n)) (take i names) → ys ≡ map (λ n. Some (Str n)) (take (i + 1) names)
names_more names i name xs ys at lt e h =
    let here : get_or names i name ≡ name = get_or_from_slice_get names i name name at in
    e ∙ (ap (λ zs. zs ++ Some (Str name) ∷ []) h
    ∙ (ap (λ n. map (λ m. Some (Str m)) (take i names) ++ Some (Str n) ∷ []) (sym here)
    ∙ (sym (map-append (λ m. Some (Str m)) (take i names) (get_or names i name ∷ []))
    ∙ ap (map (λ m. Some (Str m))) (sym (take_more names i name lt)))))

-- one more argument
pub args_more : (cells : List Cell) (o i : ℕ) (name : Text) (v : Val) (xs ys : List Val) → name ≡ decimal i → v ≡ or_undefined (get cells o name) → ys ≡ xs ++ v ∷ [] → xs ≡ map or_undefined (elements cells o 0 i) → ys ≡ map or_undefined (elements cells o 0 (i + 1))
args_more cells o i name v xs ys n e f h =
    f
    ∙ (ap (λ w. xs ++ w ∷ []) (e ∙ ap (λ m. or_undefined (get cells o m)) n)
    ∙ (ap (λ zs. zs ++ or_undefined (get cells o (decimal i)) ∷ []) h
    ∙ (sym (map-append or_undefined (elements cells o 0 i) (get cells o (decimal i) ∷ []))
    ∙ ap (map or_undefined) (sym (map-range_with_len_more (λ k. get cells o (decimal k)) 0 i i (omega arith))))))
