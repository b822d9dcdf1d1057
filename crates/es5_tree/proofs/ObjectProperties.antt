-- Own properties after a write and after a deletion, and the names of indices.
use Rattle.std.proofs.Common.{◌≡◌, ℕ, zero, suc, ◌+◌, ◌-◌, ◌<◌, Bool, true, false, ◌&&◌, ◌⊎◌, nat_lt, List, [], ◌∷◌, map, Option, Some, None, refl, sym, ap, subst, ◌∙◌, inl, inr, arith, ⊎_elim, bytes_eq, if◌then◌else◌, ltb-true, lt-ltb}
use Rattle.std.proofs.lemmas.Slice.Eq.{bytes_eq-Decides}
use Rattle.std.proofs.lemmas.Int.Digits.{number_digits_of}
use Rattle.std.specs.Int.Digits.{digits_of, number_from_digits}
use Rattle.es5_tree.specs.Values.{Text, Val, find_own}
use Rattle.es5_tree.specs.Objects.Names.{decimal, number_of, index_of, index_end}
use Rattle.es5_tree.specs.Objects.Cells.{Cell, own, put, delete, is_array_length, with_property, without_property, with_value}

true_or_false : (a : Bool) → (a ≡ true) ⊎ (a ≡ false)
true_or_false true = inl refl
true_or_false false = inr refl

-- ---- indices

unshifted : (ds : List ℕ) → map (λ u. u - 48) (map (λ d. 48 + d) ds) ≡ ds
unshifted [] = refl
unshifted (d ∷ ds) = grind (arith, unshifted ds)

pub number_decimal : (n : ℕ) → number_of (decimal n) ≡ n
unfolding number_of decimal
number_decimal zero = refl
number_decimal (suc n) = ap (number_from_digits 10) (unshifted (digits_of 10 (suc n))) ∙ number_digits_of 10 (suc n) (omega arith)

if_some : (a b : Bool) (n i : ℕ) → (if a && b then Some n else None) ≡ Some i → (a ≡ true) × (b ≡ true) × (n ≡ i)
if_some true true n i e = (refl, refl, cc)
if_some true false n i e = cc
if_some false b n i e = cc

pub index_spelled : (name : Text) (i : ℕ) → index_of name ≡ Some i → (name ≡ decimal i) × (i < index_end)
unfolding index_of
index_spelled name i e =
    let (spelled, below, same) = if_some _ _ _ _ e in
    ((bytes_eq-Decides name (decimal (number_of name))).0 spelled ∙ ap decimal same, subst (λ n. n < index_end) same (ltb-true _ _ below))

pub spelled_index : (name : Text) (i : ℕ) → name ≡ decimal i → i < index_end → index_of name ≡ Some i
unfolding index_of
spelled_index name i e lt =
    let n : number_of name ≡ i = ap number_of e ∙ number_decimal i in
    let a : bytes_eq name (decimal (number_of name)) ≡ true = (bytes_eq-Decides name (decimal (number_of name))).1 (e ∙ ap decimal (sym n)) in
    let b : nat_lt (number_of name) index_end ≡ true = lt-ltb _ _ (subst (λ m. m < index_end) (sym n) lt) in
    ap (λ t. if t && nat_lt (number_of name) index_end then Some (number_of name) else None) a
    ∙ (ap (λ t. if true && t then Some (number_of name) else None) b ∙ ap (λ m. Some m) n)

-- ---- a write

find_same : (b : Bool) (x : Option Val) (v : Val) → b ≡ true → (if b then Some v else x) ≡ Some v
find_same true x v e = refl
find_same false x v e = cc

pub find_written : (ps : List (Text × Val)) (name : Text) (v : Val) → find_own (with_property ps name v) name ≡ Some v
unfolding find_own with_property
find_written [] name v = find_same (bytes_eq name name) None v ((bytes_eq-Decides name name).1 refl)
find_written (p ∷ ps) name v =
    ⊎_elim
    (λ (same : bytes_eq p.0 name ≡ true). rw same (find_same (bytes_eq p.0 name) (find_own ps name) v same))
    (λ (other : bytes_eq p.0 name ≡ false). rw other (rw other (find_written ps name v)))
    (true_or_false (bytes_eq p.0 name))

differ : (a b : Text) → (a ≡ b → ⊥) → bytes_eq a b ≡ false
differ a b h = ⊎_elim (λ same. absurd (h ((bytes_eq-Decides a b).0 same))) (λ e. e) (true_or_false (bytes_eq a b))

pub find_other : (ps : List (Text × Val)) (name other : Text) (v : Val) → (name ≡ other → ⊥) → find_own (with_property ps name v) other ≡ find_own ps other
unfolding find_own with_property
find_other [] name other v h = rw (differ name other h) refl
find_other (p ∷ ps) name other v h =
    ⊎_elim
    (λ (same : bytes_eq p.0 name ≡ true).
    let far : bytes_eq p.0 other ≡ false = differ p.0 other (λ e. h (sym ((bytes_eq-Decides p.0 name).0 same) ∙ e)) in
    rw same (rw far refl))
    (λ (not_same : bytes_eq p.0 name ≡ false). rw not_same (ap (λ r. if bytes_eq p.0 other then Some p.1 else r) (find_other ps name other v h)))
    (true_or_false (bytes_eq p.0 name))

pub find_deleted : (ps : List (Text × Val)) (name : Text) → find_own (without_property ps name) name ≡ None
unfolding find_own without_property
find_deleted [] name = refl
find_deleted (p ∷ ps) name =
    ⊎_elim
    (λ (same : bytes_eq p.0 name ≡ true). rw same (find_deleted ps name))
    (λ (other : bytes_eq p.0 name ≡ false). rw other (rw other (find_deleted ps name)))
    (true_or_false (bytes_eq p.0 name))

pub find_undeleted : (ps : List (Text × Val)) (name other : Text) → (name ≡ other → ⊥) → find_own (without_property ps name) other ≡ find_own ps other
unfolding find_own without_property
find_undeleted [] name other h = refl
find_undeleted (p ∷ ps) name other h =
    ⊎_elim
    (λ (same : bytes_eq p.0 name ≡ true).
    let far : bytes_eq p.0 other ≡ false = differ p.0 other (λ e. h (sym ((bytes_eq-Decides p.0 name).0 same) ∙ e)) in
    rw same (rw far (find_undeleted ps name other h)))
    (λ (not_same : bytes_eq p.0 name ≡ false). rw not_same (ap (λ r. if bytes_eq p.0 other then Some p.1 else r) (find_undeleted ps name other h)))
    (true_or_false (bytes_eq p.0 name))

-- ---- the laws

pub put_is_read : (c : Cell) (name : Text) (v : Val) → is_array_length c name ≡ false → own (put c name v) name ≡ Some v
unfolding own put with_value
put_is_read c name v e = rw e (rw e (find_written c.properties name v))

pub others_stay : (c : Cell) (name other : Text) (v : Val) → is_array_length c name ≡ false → is_array_length c other ≡ false → (name ≡ other → ⊥) → own (put c name v) other ≡ own c other
unfolding own put with_value
others_stay c name other v e f h = rw e (rw f (find_other c.properties name other v h))

pub deleted_is_gone : (c : Cell) (name : Text) → is_array_length c name ≡ false → own (delete c name) name ≡ None
unfolding own delete
deleted_is_gone c name e = rw e (find_deleted c.properties name)

pub others_stay_undeleted : (c : Cell) (name other : Text) → (name ≡ other → ⊥) → own (delete c name) other ≡ own c other
unfolding own delete
others_stay_undeleted c name other h = rw (find_undeleted c.properties name other h) refl
