-- Which names are listed.
use Rattle.std.proofs.Common.{◌≡◌, ℕ, zero, suc, ◌+◌, arith, get_or, Bool, true, false, not, ◌&&◌, ◌||◌, ◌⊎◌, inl, inr, ⊎_elim, nat_le, List, [], ◌∷◌, map, is_some, Option, Some, None, refl, sym, ap, ◌∙◌, bytes_eq}
use Rattle.std.specs.List.{list_any}
use Rattle.std.proofs.lemmas.List.Folds.{list_any-append}
use Rattle.std.specs.Int.Digits.{digits_of, AllBelowBase}
use Rattle.std.proofs.lemmas.Int.Digits.{all_below_base_digits_of}
use Rattle.std.proofs.lemmas.Bool.{false≢true}
use Rattle.std.proofs.lemmas.Slice.Eq.{bytes_eq-Decides}
use Rattle.es5_tree.specs.Values.{Text, Val, find_own}
use Rattle.es5_tree.specs.Objects.Names.{decimal, index_of, is_length, length_name}
use Rattle.es5_tree.specs.Objects.Cells.{Cell, Kind, Object, Array, Arguments, Function, Host, Record, own, is_array, has_length, is_array_length, insert_number, rising, indices, other_names, keys}
use Rattle.es5_tree.proofs.ObjectProperties.{index_spelled}

true_or_false : (b : Bool) → (b ≡ true) ⊎ (b ≡ false)
true_or_false true = inl refl
true_or_false false = inr refl

or_swap : (a b c : Bool) → (a || (b || c)) ≡ (b || (a || c))
or_swap true true c = refl
or_swap true false c = refl
or_swap false b c = refl

-- ---- numbers in rising order are the same numbers

any_insert : (p : ℕ → Bool) (n : ℕ) (ms : List ℕ) → list_any p (insert_number n ms) ≡ (p n || list_any p ms)
any_insert p n [] = refl
any_insert p n (m ∷ ms) =
    ⊎_elim
    (λ (le : nat_le n m ≡ true). rw le refl)
    (λ (gt : nat_le n m ≡ false). rw gt (ap (λ b. p m || b) (any_insert p n ms) ∙ or_swap (p m) (p n) (list_any p ms)))
    (true_or_false (nat_le n m))

any_rising : (p : ℕ → Bool) (ns : List ℕ) → list_any p (rising ns) ≡ list_any p ns
any_rising p [] = refl
any_rising p (n ∷ ns) = any_insert p n (rising ns) ∙ ap (λ b. p n || b) (any_rising p ns)

any_map : {A B : Type 0} (p : B → Bool) (f : A → B) (xs : List A) → list_any p (map f xs) ≡ list_any (λ x. p (f x)) xs
any_map p f [] = refl
any_map p f (x ∷ xs) = ap (λ b. p (f x) || b) (any_map p f xs)

-- ---- one property more

-- an index
index_step : (a b l n e : Bool) → (a || b) ≡ (l && n) → (e ≡ true → n ≡ true) → ((e || a) || b) ≡ ((e || l) && n)
index_step a b l n true h k = sym (k refl)
index_step a b l n false h k = h

or_true : (a : Bool) → (a || true) ≡ true
or_true true = refl
or_true false = refl

-- another name
other_step : (a b l n e : Bool) → (a || b) ≡ (l && n) → (e ≡ true → n ≡ true) → (a || (e || b)) ≡ ((e || l) && n)
other_step a b l n true h k = or_true a ∙ sym (k refl)
other_step a b l n false h k = h

and_false : (b : Bool) → (b && false) ≡ false
and_false true = refl
and_false false = refl

-- a `length` that isn't listed
length_step : (a b l n e : Bool) → (a || b) ≡ (l && n) → (e ≡ true → n ≡ false) → (a || b) ≡ ((e || l) && n)
length_step a b l n true h k = h ∙ (ap (λ m. l && m) (k refl) ∙ (and_false l ∙ sym (k refl)))
length_step a b l n false h k = h

same_test : (a b : Text) → bytes_eq a b ≡ bytes_eq b a
same_test a b =
    ⊎_elim
    (λ (e : bytes_eq a b ≡ true). e ∙ sym ((bytes_eq-Decides b a).1 (sym ((bytes_eq-Decides a b).0 e))))
    (λ (d : bytes_eq a b ≡ false).
    ⊎_elim
    (λ (e : bytes_eq b a ≡ true). absurd (false≢true (sym d ∙ (bytes_eq-Decides a b).1 (sym ((bytes_eq-Decides b a).0 e)))))
    (λ (f : bytes_eq b a ≡ false). d ∙ sym f)
    (true_or_false (bytes_eq b a)))
    (true_or_false (bytes_eq a b))

no_digits : (ds : List ℕ) → AllBelowBase 10 ds → map (λ d. 48 + d) ds ≡ length_name → ⊥
no_digits [] h e = cc
no_digits (d ∷ ds) h e =
    let first : 48 + d ≡ 108 = ap (λ units. get_or units 0 0) e in
    omega (arith, h.0)

no_decimal : (i : ℕ) → decimal i ≡ length_name → ⊥
unfolding decimal
no_decimal zero e = cc
no_decimal (suc n) e = no_digits (digits_of 10 (suc n)) (all_below_base_digits_of 10 (suc n) (omega arith)) e

-- an index isn't `length`
index_no_length : (kind : Kind) (name : Text) (i : ℕ) → index_of name ≡ Some i → not (has_length kind && is_length name) ≡ true
index_no_length kind name i e =
    ⊎_elim
    (λ (l : is_length name ≡ true). absurd (no_decimal i (sym (index_spelled name i e).0 ∙ (bytes_eq-Decides name length_name).0 l)))
    (λ (n : is_length name ≡ false). rw n (ap not (and_false (has_length kind))))
    (true_or_false (is_length name))

abbrev listed : Kind → Text → Bool
listed kind name = not (has_length kind && is_length name)

abbrev pub stands : Text → List (Text × Val) → Bool
stands name ps = list_any (λ p. bytes_eq name p.0) ps

option_cases : (o : Option ℕ) → ((i : ℕ) × (o ≡ Some i)) ⊎ (o ≡ None)
option_cases None = inr refl
option_cases (Some i) = inl (i, refl)

parts : (kind : Kind) (name : Text) (ps : List (Text × Val))
    → (list_any (λ n. bytes_eq name (decimal n)) (indices ps) || list_any (bytes_eq name) (other_names kind ps)) ≡ (stands name ps && listed kind name)
unfolding indices other_names
parts kind name [] = refl
parts kind name (p ∷ ps) =
    ⊎_elim
    (λ (at : (i : ℕ) × (index_of p.0 ≡ Some i)).
    let spelled : decimal at.0 ≡ p.0 = sym (index_spelled p.0 at.0 at.1).0 in
    rw at.1 (rw spelled (index_step (list_any (λ n. bytes_eq name (decimal n)) (indices ps)) (list_any (bytes_eq name) (other_names kind ps)) (stands name ps) (listed kind name) (bytes_eq name p.0) (parts kind name ps) (λ e. index_no_length kind name at.0 (ap index_of ((bytes_eq-Decides name p.0).0 e) ∙ at.1)))))
    (λ (none : index_of p.0 ≡ None).
    ⊎_elim
    (λ (yes_listed : listed kind p.0 ≡ true).
    rw none (rw yes_listed (other_step (list_any (λ n. bytes_eq name (decimal n)) (indices ps)) (list_any (bytes_eq name) (other_names kind ps)) (stands name ps) (listed kind name) (bytes_eq name p.0) (parts kind name ps) (λ e. ap (listed kind) ((bytes_eq-Decides name p.0).0 e) ∙ yes_listed))))
    (λ (not_listed : listed kind p.0 ≡ false).
    rw none (rw not_listed (length_step (list_any (λ n. bytes_eq name (decimal n)) (indices ps)) (list_any (bytes_eq name) (other_names kind ps)) (stands name ps) (listed kind name) (bytes_eq name p.0) (parts kind name ps) (λ e. ap (listed kind) ((bytes_eq-Decides name p.0).0 e) ∙ not_listed))))
    (true_or_false (listed kind p.0)))
    (option_cases (index_of p.0))

found_stands : (name : Text) (ps : List (Text × Val)) → stands name ps ≡ is_some (find_own ps name)
unfolding find_own
found_stands name [] = refl
found_stands name (p ∷ ps) =
    ⊎_elim
    (λ (e : bytes_eq p.0 name ≡ true). rw (same_test name p.0) (rw e refl))
    (λ (d : bytes_eq p.0 name ≡ false). rw (same_test name p.0) (rw d (found_stands name ps)))
    (true_or_false (bytes_eq p.0 name))

array_has_length : (kind : Kind) → is_array kind ≡ true → has_length kind ≡ true
array_has_length Object e = cc
array_has_length Array e = refl
array_has_length Arguments e = refl
array_has_length (Function code scope) e = cc
array_has_length (Host which) e = cc
array_has_length (Record outer) e = cc

and_true : (a b : Bool) → (a && b) ≡ true → (a ≡ true) × (b ≡ true)
and_true true true e = (refl, refl)
and_true true false e = cc
and_true false b e = cc

own_stands : (c : Cell) (name : Text) → (stands name c.properties && listed c.kind name) ≡ (is_some (own c name) && listed c.kind name)
unfolding own
own_stands c name =
    ⊎_elim
    (λ (a : is_array_length c name ≡ true).
    let both : (is_array c.kind ≡ true) × (is_length name ≡ true) = and_true (is_array c.kind) (is_length name) a in
    let out : listed c.kind name ≡ false = ap (λ b. not (b && is_length name)) (array_has_length c.kind both.0) ∙ ap not both.1 in
    ap (λ b. stands name c.properties && b) out ∙ (and_false (stands name c.properties) ∙ (sym (and_false (is_some (own c name))) ∙ ap (λ b. is_some (own c name) && b) (sym out))))
    (λ (n : is_array_length c name ≡ false). rw n (ap (λ b. b && listed c.kind name) (found_stands name c.properties)))
    (true_or_false (is_array_length c name))

pub keys_are_names : (c : Cell) (name : Text) → list_any (bytes_eq name) (keys c) ≡ (is_some (own c name) && not (has_length c.kind && is_length name))
unfolding keys
keys_are_names c name =
    list_any-append (bytes_eq name) (map decimal (rising (indices c.properties))) (other_names c.kind c.properties)
    ∙ (ap (λ b. b || list_any (bytes_eq name) (other_names c.kind c.properties)) (any_map (bytes_eq name) decimal (rising (indices c.properties)) ∙ any_rising (λ n. bytes_eq name (decimal n)) (indices c.properties))
    ∙ (parts c.kind name c.properties ∙ own_stands c name))
