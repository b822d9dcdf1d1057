-- An index that isn't among those gathered along the links is no property.
use Rattle.std.proofs.Common.{◌≡◌, ℕ, zero, suc, ◌+◌, ◌<◌, Bool, true, false, ◌||◌, ◌&&◌, ◌⊎◌, inl, inr, ⊎_elim, eqb, nat_le, bytes_eq, List, [], ◌∷◌, map, get_or, Option, Some, None, refl, sym, ap, ◌∙◌, arith, eq-eqb}
use Rattle.std.specs.List.{list_any}
use Rattle.std.specs.Int.Digits.{digits_of, AllBelowBase}
use Rattle.std.proofs.lemmas.Int.Digits.{all_below_base_digits_of}
use Rattle.std.proofs.lemmas.Bool.{false≢true}
use Rattle.std.proofs.lemmas.List.Folds.{list_any-append}
use Rattle.std.proofs.lemmas.Slice.Eq.{bytes_eq-Decides}
use Rattle.es5_tree.specs.Values.{Text, Val, first, find_own}
use Rattle.es5_tree.specs.Objects.Names.{decimal, index_of, index_end, is_length, length_name}
use Rattle.es5_tree.specs.Objects.Cells.{Cell, indices, own, rising, insert_number, is_array_length, is_array}
use Rattle.es5_tree.specs.Objects.Links.{cell_at, chain, first_own, get}
use Rattle.es5_tree.proofs.ObjectProperties.{spelled_index}
use Rattle.es5_objects.specs.Along.{indices_along}

true_or_false : (b : Bool) → (b ≡ true) ⊎ (b ≡ false)
true_or_false true = inl refl
true_or_false false = inr refl

neither : (a b : Bool) → (a || b) ≡ false → (a ≡ false) × (b ≡ false)
neither true b e = cc
neither false b e = (refl, e)

or_swap : (a b c : Bool) → (a || (b || c)) ≡ (b || (a || c))
or_swap true true c = refl
or_swap true false c = refl
or_swap false b c = refl

-- ---- a number stands among numbers in rising order where it stands among them in another

any_insert : (p : ℕ → Bool) (n : ℕ) (ms : List ℕ) → list_any p (insert_number n ms) ≡ (p n || list_any p ms)
any_insert p n [] = refl
any_insert p n (m ∷ ms) =
    ⊎_elim
    (λ (le : nat_le n m ≡ true). rw le refl)
    (λ (gt : nat_le n m ≡ false). rw gt (ap (λ b. p m || b) (any_insert p n ms) ∙ or_swap (p m) (p n) (list_any p ms)))
    (true_or_false (nat_le n m))

any_rising : (p : ℕ → Bool) (ns : List ℕ) → list_any p (rising ns) ≡ list_any p ns
any_rising p [] = refl
any_rising p (n ∷ ns) = any_insert p n (rising ns) ∙ ap (λ b. p n || b) (any_rising p ns)

-- ---- an index isn't `length`

no_digits : (ds : List ℕ) → AllBelowBase 10 ds → map (λ d. 48 + d) ds ≡ length_name → ⊥
no_digits [] h e = cc
no_digits (d ∷ ds) h e =
    let first_unit : 48 + d ≡ 108 = ap (λ units. get_or units 0 0) e in
    omega (arith, h.0)

no_decimal : (i : ℕ) → decimal i ≡ length_name → ⊥
unfolding decimal
no_decimal zero e = cc
no_decimal (suc n) e = no_digits (digits_of 10 (suc n)) (all_below_base_digits_of 10 (suc n) (omega arith)) e

and_false : (b : Bool) → (b && false) ≡ false
and_false true = refl
and_false false = refl

no_length : (c : Cell) (i : ℕ) → is_array_length c (decimal i) ≡ false
no_length c i =
    ⊎_elim
    (λ (l : is_length (decimal i) ≡ true). absurd (no_decimal i ((bytes_eq-Decides (decimal i) length_name).0 l)))
    (λ (n : is_length (decimal i) ≡ false). ap (λ b. is_array c.kind && b) n ∙ and_false (is_array c.kind))
    (true_or_false (is_length (decimal i)))

-- ---- one object

option_cases : (o : Option ℕ) → ((i : ℕ) × (o ≡ Some i)) ⊎ (o ≡ None)
option_cases None = inr refl
option_cases (Some i) = inl (i, refl)

later : (i : ℕ) (p : Text × Val) (ps : List (Text × Val)) → list_any (eqb i) (indices (p ∷ ps)) ≡ false → list_any (eqb i) (indices ps) ≡ false
unfolding indices
later i p ps h =
    ⊎_elim
    (λ (at : (j : ℕ) × (index_of p.0 ≡ Some j)).
    let here : list_any (eqb i) (indices (p ∷ ps)) ≡ (eqb i at.0 || list_any (eqb i) (indices ps)) = rw at.1 refl in
    (neither (eqb i at.0) (list_any (eqb i) (indices ps)) (sym here ∙ h)).1)
    (λ (none : index_of p.0 ≡ None).
    let here : list_any (eqb i) (indices (p ∷ ps)) ≡ list_any (eqb i) (indices ps) = rw none refl in
    sym here ∙ h)
    (option_cases (index_of p.0))

not_here : (i : ℕ) (p : Text × Val) (ps : List (Text × Val)) → index_of p.0 ≡ Some i → list_any (eqb i) (indices (p ∷ ps)) ≡ false → ⊥
unfolding indices
not_here i p ps at h =
    let here : list_any (eqb i) (indices (p ∷ ps)) ≡ (eqb i i || list_any (eqb i) (indices ps)) = rw at refl in
    false≢true (sym h ∙ (here ∙ ap (λ b. b || list_any (eqb i) (indices ps)) (eq-eqb i i refl)))

none_found : (ps : List (Text × Val)) (i : ℕ) → i < index_end → list_any (eqb i) (indices ps) ≡ false → find_own ps (decimal i) ≡ None
unfolding find_own
none_found [] i lt h = refl
none_found (p ∷ ps) i lt h =
    ⊎_elim
    (λ (e : bytes_eq p.0 (decimal i) ≡ true). absurd (not_here i p ps (spelled_index p.0 i ((bytes_eq-Decides p.0 (decimal i)).0 e) lt) h))
    (λ (d : bytes_eq p.0 (decimal i) ≡ false). rw d (none_found ps i lt (later i p ps h)))
    (true_or_false (bytes_eq p.0 (decimal i)))

none_own : (c : Cell) (i : ℕ) → i < index_end → list_any (eqb i) (indices c.properties) ≡ false → own c (decimal i) ≡ None
unfolding own
none_own c i lt h = rw (no_length c i) (none_found c.properties i lt h)

-- ---- those along the links

pub none_along : (cells : List Cell) (os : List ℕ) (i : ℕ) → i < index_end → list_any (eqb i) (indices_along cells os) ≡ false → first_own cells os (decimal i) ≡ None
unfolding first_own indices_along
none_along cells [] i lt h = refl
none_along cells (o ∷ os) i lt h =
    let both = neither (list_any (eqb i) (indices (cell_at cells o).properties)) (list_any (eqb i) (indices_along cells os)) (sym (list_any-append (eqb i) (indices (cell_at cells o).properties) (indices_along cells os)) ∙ h) in
    ap (λ v. first v (λ u. first_own cells os (decimal i))) (none_own (cell_at cells o) i lt both.0) ∙ none_along cells os i lt both.1

pub nothing_else : (cells : List Cell) (o i : ℕ) (found : List ℕ) → found ≡ rising (indices_along cells (chain cells (Some o))) → i < index_end → list_any (eqb i) found ≡ false → get cells o (decimal i) ≡ None
unfolding get
nothing_else cells o i found e lt h =
    none_along cells (chain cells (Some o)) i lt (sym (any_rising (eqb i) (indices_along cells (chain cells (Some o)))) ∙ (ap (list_any (eqb i)) (sym e) ∙ h))
