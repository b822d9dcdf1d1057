-- What an array of values, and the arguments of a call, have as own properties.
use Rattle.std.proofs.Common.{◌≡◌, ◌≢◌, ℕ, zero, suc, ◌+◌, ◌≤◌, true, false, List, [], ◌∷◌, length, map, Option, Some, pos, bytes_eq, slice_get, refl, sym, ap, ◌∙◌, arith, ⊎_elim}
use Rattle.std.proofs.lemmas.Slice.Eq.{bytes_eq-Decides}
use Rattle.es5_tree.specs.Values.{Text, Val, Num}
use Rattle.es5_tree.specs.Objects.Names.{decimal, index_end, is_length, length_name, number_of}
use Rattle.es5_tree.specs.Objects.Cells.{Cell, Array, Arguments, new_cell, is_array, own, put, with_value}
use Rattle.es5_tree.specs.Intrinsics.Made.{array_prototype, object_prototype}
use Rattle.es5_tree.specs.Intrinsics.Rows.{array_of, filled}
use Rattle.es5_tree.proofs.ObjectProperties.{find_other, find_written, number_decimal}
use Rattle.es5_evaluation.specs.Evaluate.{arguments_object}
use Rattle.es5_executor.specs.Memory.{plain}
use Rattle.es5_executor.proofs.Memory
use Rattle.es5_executor.proofs.Memory.{clash}

abbrev pub somes : List Val → List (Option Val)
somes vs = map (λ v. Some v) vs

pub not_length : (i : ℕ) → is_length (decimal i) ≡ false
not_length i = Memory.decimal_apart i length_name Memory.plain_length

-- a write of an element changes no other element, and no property of a name that begins with no digit but the length
pub index_apart : (i j : ℕ) → i ≢ j → clash (decimal i) (decimal j) ≡ false
index_apart i j d = Memory.clash_apart (decimal i) (decimal j) (⊎_elim (λ (t : bytes_eq (decimal i) (decimal j) ≡ true). absurd (d (sym (number_decimal i) ∙ (ap number_of (Memory.eq_of (decimal i) (decimal j) t) ∙ number_decimal j)))) (λ f. f) (Memory.either (bytes_eq (decimal i) (decimal j)))) (not_length j)

pub name_apart : (i : ℕ) (n : Text) → plain n ≡ true → is_length n ≡ false → clash (decimal i) n ≡ false
name_apart i n e f = Memory.clash_apart (decimal i) n (Memory.decimal_apart i n e) f

-- ---- filling

filled_other : (vs : List Val) (c : Cell) (i : ℕ) (n : Text) → ((j : ℕ) → i ≤ j → clash (decimal j) n ≡ false) → own (filled c i (somes vs)) n ≡ own c n
unfolding filled
filled_other [] c i n f = refl
filled_other (v ∷ vs) c i n f = filled_other vs (put c (decimal i) v) (i + 1) n (λ j l. f j (omega (arith, l))) ∙ Memory.put_other c (decimal i) n v (not_length i) (f i (omega arith))

filled_item : (vs : List Val) (c : Cell) (i j : ℕ) (v : Val) → slice_get vs j ≡ Some v → own (filled c i (somes vs)) (decimal (i + j)) ≡ Some v
unfolding filled
filled_item [] c i j v e = cc
filled_item (w ∷ ws) c i zero v e =
    let same : w ≡ v = cc in
    ap (λ k. own (filled (put c (decimal i) w) (i + 1) (somes ws)) (decimal k)) {x = i + 0} {y = i} (omega arith)
    ∙ (filled_other ws (put c (decimal i) w) (i + 1) (decimal i) (λ j l. index_apart j i (λ e. omega (arith, e, l)))
    ∙ (Memory.put_there c (decimal i) w (not_length i) ∙ ap (λ z. Some z) same))
filled_item (w ∷ ws) c i (suc j) v e = ap (λ k. own (filled (put c (decimal i) w) (i + 1) (somes ws)) (decimal k)) {x = i + suc j} {y = i + 1 + j} (omega arith) ∙ filled_item ws (put c (decimal i) w) (i + 1) j v e

pub filled_kind : (vs : List Val) (c : Cell) (i : ℕ) → (filled c i (somes vs)).kind ≡ c.kind
unfolding filled
filled_kind [] c i = refl
filled_kind (v ∷ vs) c i = filled_kind vs (put c (decimal i) v) (i + 1) ∙ Memory.put_kind c (decimal i) v

pub filled_link : (vs : List Val) (c : Cell) (i : ℕ) → (filled c i (somes vs)).link ≡ c.link
unfolding filled
filled_link [] c i = refl
filled_link (v ∷ vs) c i = filled_link vs (put c (decimal i) v) (i + 1) ∙ Memory.put_link c (decimal i) v

filled_length : (vs : List Val) (c : Cell) (i : ℕ) → c.kind ≡ Array → own c length_name ≡ Some (Num (pos i)) → i + length vs ≤ index_end → own (filled c i (somes vs)) length_name ≡ Some (Num (pos (i + length vs)))
unfolding filled
filled_length [] c i k e l = e ∙ ap (λ j. Some (Num (pos j))) {x = i} {y = i + 0} (omega arith)
filled_length (v ∷ vs) c i k e l =
    filled_length vs (put c (decimal i) v) (i + 1) (Memory.put_kind c (decimal i) v ∙ k) (Memory.put_longer c i v k e (omega (arith, l))) (omega (arith, l))
    ∙ ap (λ j. Some (Num (pos j))) {x = i + 1 + length vs} {y = i + suc (length vs)} (omega arith)

-- ---- an array

no_length : own (new_cell Array (Some array_prototype)) length_name ≡ Some (Num (pos 0))
unfolding own
no_length = refl

pub array_item : (vs : List Val) (j : ℕ) (v : Val) → slice_get vs j ≡ Some v → own (array_of (somes vs)) (decimal j) ≡ Some v
array_item vs j v e = ap (λ k. own (array_of (somes vs)) (decimal k)) {x = j} {y = 0 + j} (omega arith) ∙ filled_item vs (new_cell Array (Some array_prototype)) 0 j v e

pub array_length_is : (vs : List Val) → length vs ≤ index_end → own (array_of (somes vs)) length_name ≡ Some (Num (pos (length vs)))
array_length_is vs l = filled_length vs (new_cell Array (Some array_prototype)) 0 refl no_length (omega (arith, l)) ∙ ap (λ j. Some (Num (pos j))) {x = 0 + length vs} {y = length vs} (omega arith)

-- ---- the arguments of a call

put_length : (c : Cell) (v : Val) → is_array c.kind ≡ false → own (put c length_name v) length_name ≡ Some v
unfolding own put with_value
put_length c v e = rw e (rw e (find_written c.properties length_name v))

put_other_arguments : (c : Cell) (n : Text) (v : Val) → is_array c.kind ≡ false → bytes_eq length_name n ≡ false → own (put c length_name v) n ≡ own c n
unfolding own put with_value
put_other_arguments c n v e d = rw e (rw e (find_other c.properties length_name n v (Memory.differ length_name n d)))

bytes_apart : (j : ℕ) → bytes_eq length_name (decimal j) ≡ false
bytes_apart j = ⊎_elim (λ (t : bytes_eq length_name (decimal j) ≡ true). Memory.true_not_false (bytes_eq (decimal j) length_name) (ap (λ z. bytes_eq (decimal j) z) (Memory.eq_of length_name (decimal j) t) ∙ (bytes_eq-Decides (decimal j) (decimal j)).1 refl) (not_length j)) (λ f. f) (Memory.either (bytes_eq length_name (decimal j)))

pub arguments_length : (vs : List Val) → own (arguments_object vs) length_name ≡ Some (Num (pos (length vs)))
unfolding arguments_object
arguments_length vs = put_length (filled (new_cell Arguments (Some object_prototype)) 0 (somes vs)) (Num (pos (length vs))) (ap is_array (filled_kind vs (new_cell Arguments (Some object_prototype)) 0))

pub arguments_item : (vs : List Val) (j : ℕ) (v : Val) → slice_get vs j ≡ Some v → own (arguments_object vs) (decimal j) ≡ Some v
unfolding arguments_object
arguments_item vs j v e =
    put_other_arguments (filled (new_cell Arguments (Some object_prototype)) 0 (somes vs)) (decimal j) (Num (pos (length vs))) (ap is_array (filled_kind vs (new_cell Arguments (Some object_prototype)) 0)) (bytes_apart j)
    ∙ (ap (λ k. own (filled (new_cell Arguments (Some object_prototype)) 0 (somes vs)) (decimal k)) {x = j} {y = 0 + j} (omega arith) ∙ filled_item vs (new_cell Arguments (Some object_prototype)) 0 j v e)

pub arguments_kind : (vs : List Val) → (arguments_object vs).kind ≡ Arguments
unfolding arguments_object
arguments_kind vs = Memory.put_kind (filled (new_cell Arguments (Some object_prototype)) 0 (somes vs)) length_name (Num (pos (length vs))) ∙ filled_kind vs (new_cell Arguments (Some object_prototype)) 0
