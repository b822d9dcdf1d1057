-- The first few names, and those past them, which an index holds.
use Rattle.std.proofs.Common.{◌≡◌, ℕ, zero, suc, ◌+◌, ◌<◌, ◌≤◌, Bool, true, false, if◌then◌else◌, ⊎_elim, List, [], ◌∷◌, ◌++◌, length, map, take, drop, set, get_or, position, refl, sym, ap, ◌∙◌, arith, bytes_eq, Option, Some, None}
use Rattle.std.specs.List.{drop-map}
use Rattle.std.specs.Option.{option_map}
use Rattle.std.proofs.lemmas.Cmp.{nat_list_eq_equiv}
use Rattle.std.proofs.lemmas.List.{length-map, map-append, drop-append-le}
use Rattle.std.proofs.Math.ListN.{drop_of_length-le}
use Rattle.name_set.specs.Names.{has, with_new}
use Rattle.es5_tree.specs.Values.{Text, Val}
use Rattle.es5_objects.specs.declared.value.EsValue.{EsValue}
use Rattle.es5_objects.specs.Values.{value_of}
use Rattle.es5_host.specs.declared.bindings.Binding.{Binding}
use Rattle.es5_host.specs.Bindings.{binding, bindings, few, later, place_of, with_value_at}
use Rattle.es5_host.proofs.Bound.{true_or_false, place_here, place_later, position_here, position_later, later_some, later_none, value_put}

abbrev firsts : List (Text × Val) → List Text
firsts bs = map (λ b. b.0) bs

-- the names past the first few
abbrev pub past : List (Text × Val) → List Text
past bs = firsts (drop few bs)

turned : (a b : Text) → bytes_eq a b ≡ bytes_eq b a
turned a b = nat_list_eq_equiv.symm a b

-- ---- finding

pub names_place : (bs : List (Text × Val)) (name : Text) → position (bytes_eq name) (firsts bs) ≡ place_of bs name
unfolding place_of
names_place [] name = refl
names_place (b ∷ bs) name =
    ⊎_elim
    (λ (at_it : bytes_eq name b.0 ≡ true). position_here (bytes_eq name) b.0 (firsts bs) at_it ∙ sym (place_here b bs name (turned b.0 name ∙ at_it)))
    (λ (before_it : bytes_eq name b.0 ≡ false). position_later (bytes_eq name) b.0 (firsts bs) before_it ∙ (ap later (names_place bs name) ∙ sym (place_later b bs name (turned b.0 name ∙ before_it))))
    (true_or_false (bytes_eq name b.0))

pub among_first : (n : ℕ) (bs : List (Text × Val)) (name : Text) (i : ℕ) → place_of (take n bs) name ≡ Some i → place_of bs name ≡ Some i
unfolding place_of
among_first n [] name i e = absurd (let wrong : place_of (take n []) name ≡ Some i = e in none_taken n wrong)
  where
    none_taken : (n : ℕ) → place_of (take n []) name ≡ Some i → ⊥
    none_taken zero h = cc
    none_taken (suc n) h = cc
among_first zero (b ∷ bs) name i e = absurd (let wrong : None ≡ Some i = e in cc)
among_first (suc n) (b ∷ bs) name i e =
    ⊎_elim
    (λ (at_it : bytes_eq b.0 name ≡ true). place_here b bs name at_it ∙ (sym (place_here b (take n bs) name at_it) ∙ e))
    (λ (before_it : bytes_eq b.0 name ≡ false).
    let next = later_some (place_of (take n bs) name) i (sym (place_later b (take n bs) name before_it) ∙ e) in
    place_later b bs name before_it ∙ (ap later (among_first n bs name next.0 next.1) ∙ ap (λ k. Some k) (sym next.2)))
    (true_or_false (bytes_eq b.0 name))

unshifted : (r : Option ℕ) → r ≡ option_map (λ i. i + 0) r
unshifted None = refl
unshifted (Some i) = ap (λ k. Some k) (let e : i ≡ i + 0 = omega arith in e)

shifted : (r : Option ℕ) (n : ℕ) → later (option_map (λ i. i + n) r) ≡ option_map (λ i. i + suc n) r
shifted None n = refl
shifted (Some i) n = ap (λ k. Some k) (let e : suc (i + n) ≡ i + suc n = omega arith in e)

pub past_first : (n : ℕ) (bs : List (Text × Val)) (name : Text) → place_of (take n bs) name ≡ None → place_of bs name ≡ option_map (λ i. i + n) (place_of (drop n bs) name)
unfolding place_of
past_first zero bs name e = unshifted (place_of bs name)
past_first (suc n) [] name e = refl
past_first (suc n) (b ∷ bs) name e =
    ⊎_elim
    (λ (at_it : bytes_eq b.0 name ≡ true). absurd (let wrong : Some 0 ≡ None = sym (place_here b (take n bs) name at_it) ∙ e in cc))
    (λ (before_it : bytes_eq b.0 name ≡ false).
    place_later b bs name before_it
    ∙ (ap later (past_first n bs name (later_none (place_of (take n bs) name) (sym (place_later b (take n bs) name before_it) ∙ e)))
    ∙ shifted (place_of (drop n bs) name) n))
    (true_or_false (bytes_eq b.0 name))

-- ---- writing

none_past : (bs : List Binding) → length bs ≤ few → past (bindings bs) ≡ []
none_past bs h = ap firsts (drop_of_length-le (bindings bs) (let e : length (bindings bs) ≤ few = omega (arith, length-map bs binding) in e))

length_end : {X : Type 0} (xs : List X) (x : X) → length (xs ++ x ∷ []) ≡ suc (length xs)
length_end [] x = refl
length_end (y ∷ ys) x = ap suc (length_end ys x)

pub still_few : (ok : Bool) (bs cs : List Binding) (b : Binding) (names : List Text) → length bs < few → cs ≡ (if ok then bs ++ b ∷ [] else bs) → names ≡ past (bindings bs) → names ≡ past (bindings cs)
still_few true bs cs b names lt e h =
    h ∙ (none_past bs (omega arith) ∙ sym (ap (λ xs. past (bindings xs)) e ∙ none_past (bs ++ b ∷ []) (omega (arith, length_end bs b))))
still_few false bs cs b names lt e h = h ∙ ap (λ xs. past (bindings xs)) (sym e)

comes_last : (known : List Text) (name : Text) → has known name ≡ false → with_new known name known ≡ known ++ name ∷ []
comes_last known name e = rw e refl

past_end : (bs : List Binding) (b : Binding) → few ≤ length bs → past (bindings (bs ++ b ∷ [])) ≡ past (bindings bs) ++ b.name ∷ []
past_end bs b le =
    ap past (map-append binding bs (b ∷ []))
    ∙ (ap firsts (drop-append-le few (bindings bs) (binding b ∷ []) (let e : few ≤ length (bindings bs) = omega (arith, length-map bs binding) in e))
    ∙ map-append (λ p. p.0) (drop few (bindings bs)) (binding b ∷ []))

pub one_more : (bs : List Binding) (b : Binding) (names : List Text) → few ≤ length bs → has names b.name ≡ false → names ≡ past (bindings bs)
    → with_new names b.name names ≡ past (bindings (bs ++ b ∷ []))
one_more bs b names le absent h =
    comes_last names b.name absent ∙ (ap (λ ns. ns ++ b.name ∷ []) h ∙ sym (past_end bs b le))

names_stay : (bs : List (Text × Val)) (i : ℕ) (v : Val) → firsts (with_value_at bs i v) ≡ firsts bs
unfolding with_value_at
names_stay [] i v = refl
names_stay (b ∷ bs) zero v = refl
names_stay (b ∷ bs) (suc i) v = ap (λ rest. b.0 ∷ rest) (names_stay bs i v)

pub still_past : (bs : List Binding) (i : ℕ) (x : Binding) (v : EsValue) → x ≡ get_or bs i x → i < length bs → past (bindings bs) ≡ past (bindings (set bs i (record { name = x.name; value = v })))
still_past bs i x v e lt =
    sym (ap past (value_put bs i x v e lt)
    ∙ (sym (drop-map (λ b. b.0) few (with_value_at (bindings bs) i (value_of v)))
    ∙ (ap (drop few) (names_stay (bindings bs) i (value_of v)) ∙ drop-map (λ b. b.0) few (bindings bs))))
