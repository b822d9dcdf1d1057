-- Objects that get the properties of an object expression one after the other.
use Rattle.std.proofs.Common.{◌≡◌, ℕ, ◌+◌, ◌<◌, ◌≤◌, ◌⊎◌, ⊎_elim, inl, inr, min, List, [], ◌∷◌, length, map, pos, drop, slice_get, Some, refl, sym, ap, ap₂, subst, ◌∙◌, arith, drop_of_length-le}
use Rattle.std.specs.List.{All}
use Rattle.std.proofs.lemmas.Bool.{cases_lt}
use Rattle.std.proofs.lemmas.List.{drop_more}
use Rattle.std.proofs.lemmas.Option.{get_or_from_slice_get}
use Rattle.es5_tree.specs.Values.{Text, Val, Num}
use Rattle.es5_tree.specs.Objects.Cells.{Cell, Arguments, new_cell, put}
use Rattle.es5_tree.specs.Objects.Links.{cell_at}
use Rattle.es5_tree.specs.Objects.Names.{length_name}
use Rattle.es5_tree.specs.Intrinsics.Made.{object_prototype}
use Rattle.es5_tree.specs.Intrinsics.Rows.{filled}
use Rattle.es5_tree.specs.Intrinsics.Valid.{Names, Valid}
use Rattle.es5_evaluation.specs.Evaluate.{arguments_object, with_properties}
use Rattle.es5_objects.specs.Heap.{Heap, with_cell}
use Rattle.es5_host.specs.Answers.{with_new}
use Rattle.es5_host.proofs.Elements.{put_in}
use Rattle.es5_host.proofs.Making.{made_whole}
use Rattle.es5_host.proofs.Validity.{valid_put}

given_one : (c : Cell) (name : Text) (names : List Text) (v : Val) (vs : List Val) → with_properties (put c name v) names vs ≡ with_properties c (name ∷ names) (v ∷ vs)
unfolding with_properties
given_one c name names v vs = refl

no_names : (c : Cell) (vs : List Val) → with_properties c [] vs ≡ c
unfolding with_properties
no_names c vs = refl

no_values : (c : Cell) (names : List Text) → with_properties c names [] ≡ c
unfolding with_properties
no_values c [] = refl
no_values c (name ∷ names) = refl

pub at_index : {A : Type 0} (xs : List A) (i : ℕ) (x : A) → slice_get xs i ≡ Some x → i < length xs → drop i xs ≡ x ∷ drop (i + 1) xs
at_index xs i x at lt = drop_more xs i x lt ∙ ap (λ y. y ∷ drop (i + 1) xs) (get_or_from_slice_get xs i x x at)

pub given_more : (h k : Heap) (o i : ℕ) (names : List Text) (vs : List Val) (name : Text) (v : Val) (whole : Cell)
    → with_properties (cell_at h.cells o) (drop i names) (drop i vs) ≡ whole
    → k ≡ with_cell h o (put (cell_at h.cells o) name v)
    → o < length h.cells → slice_get names i ≡ Some name → i < length names → slice_get vs i ≡ Some v → i < length vs
    → with_properties (cell_at k.cells o) (drop (i + 1) names) (drop (i + 1) vs) ≡ whole
given_more h k o i names vs name v whole left e lt name_at in_names value_at in_values =
    ap (λ c. with_properties c (drop (i + 1) names) (drop (i + 1) vs)) (put_in h k o (put (cell_at h.cells o) name v) e lt)
    ∙ (given_one (cell_at h.cells o) name (drop (i + 1) names) v (drop (i + 1) vs)
    ∙ (ap₂ (with_properties (cell_at h.cells o)) (sym (at_index names i name name_at in_names)) (sym (at_index vs i v value_at in_values)) ∙ left))

none_left : (c : Cell) (i : ℕ) (names : List Text) (vs : List Val) → (length names ≤ i) ⊎ (length vs ≤ i) → with_properties c (drop i names) (drop i vs) ≡ c
none_left c i names vs h = ⊎_elim
    (λ a. ap (λ xs. with_properties c xs (drop i vs)) (drop_of_length-le names a) ∙ no_names c (drop i vs))
    (λ b. ap (with_properties c (drop i names)) (drop_of_length-le vs b) ∙ no_values c (drop i names))
    h

either : (n m i : ℕ) → min n m ≤ i → (n ≤ i) ⊎ (m ≤ i)
either n m i h = ⊎_elim (λ (lt : i < n). inr (omega (arith, h, lt))) (λ (le : n ≤ i). inl le) (cases_lt i n)

pub given_all : (h0 h : Heap) (o i : ℕ) (names : List Text) (vs : List Val) (whole : Cell)
    → with_properties (cell_at h.cells o) (drop i names) (drop i vs) ≡ whole
    → h ≡ with_cell h0 o (cell_at h.cells o) → min (length names) (length vs) ≤ i → h ≡ with_cell h0 o whole
given_all h0 h o i names vs whole left e le =
    e ∙ ap (with_cell h0 o) (sym (none_left (cell_at h.cells o) i names vs (either (length names) (length vs) i le)) ∙ left)

-- what the values name
pub named_at : (n m : ℕ) (vs : List Val) (i : ℕ) (v : Val) → n ≡ m → All (Names m) vs → slice_get vs i ≡ Some v → i < length vs → Names n v
named_at n m vs i v e a at lt = subst (λ k. Names k v) (sym e) (subst (Names m) (get_or_from_slice_get vs i v v at) (a i v lt))

pub valid_given : (h k : Heap) (o : ℕ) (name : Text) (w v : Val) → w ≡ v → k ≡ with_cell h o (put (cell_at h.cells o) name w) → o < length h.cells → Names (length h.cells) v → Valid h.cells → Valid k.cells
valid_given h k o name w v e f lt n valid = subst (λ x. Valid x.cells) (sym f) (valid_put h.cells o name w lt (subst (Names (length h.cells)) (sym e) n) valid)

-- ---- arguments objects

pub arguments_whole : (h k m : Heap) (o n : ℕ) (vs : List Val) → k ≡ with_new h (filled (new_cell Arguments (Some object_prototype)) 0 (map (λ v. Some v) vs)) → o ≡ length h.cells → n ≡ length vs → m ≡ with_cell k o (put (cell_at k.cells o) length_name (Num (pos n))) → m ≡ with_new h (arguments_object vs)
unfolding arguments_object
arguments_whole h k m o n vs e number same f =
    let listed = filled (new_cell Arguments (Some object_prototype)) 0 (map (λ v. Some v) vs) in
    made_whole h k m o listed (λ c. put c length_name (Num (pos n))) (ap (λ x. x.cells) e) (ap (λ x. x.capacity) e) number f
    ∙ ap (λ i. with_new h (put listed length_name (Num (pos i)))) same
