-- Names with their values.
use Rattle.std.proofs.Common.{◌≡◌, ℕ, zero, suc, ◌+◌, ◌<◌, ◌≤◌, Bool, true, false, cond, ◌⊎◌, inl, inr, ⊎_elim, List, [], ◌∷◌, ◌++◌, length, get_or, set, position, refl, sym, ap, subst, ◌∙◌, arith, bytes_eq, nat_lt, Option, Some, None, IfSome}
use Rattle.std.proofs.lemmas.List.{length-map}
use Rattle.std.proofs.lemmas.Bool.{lt-ltb, cases_lt}
use Rattle.std.proofs.lemmas.Bool.Decides.{nat_tests}
use Rattle.std.specs.List.{position_or_len}
use Rattle.es5_tree.specs.Values.{Text, Val, find_own}
use Rattle.es5_tree.specs.Objects.Cells.{with_property}
use Rattle.es5_objects.specs.declared.value.EsValue.{EsValue}
use Rattle.es5_objects.specs.Values.{value_of}
use Rattle.es5_host.specs.declared.bindings.Binding.{Binding}
use Rattle.es5_host.specs.Bindings.{binding, bindings, later, place_of, value_at, with_value_at}

ltb_le : (a b : ℕ) → b ≤ a → nat_lt a b ≡ false
ltb_le a b le = grind (arith, nat_tests)

pub true_or_false : (b : Bool) → (b ≡ true) ⊎ (b ≡ false)
true_or_false true = inl refl
true_or_false false = inr refl

pub place_here : (b : Text × Val) (bs : List (Text × Val)) (name : Text) → bytes_eq b.0 name ≡ true → place_of (b ∷ bs) name ≡ Some 0
unfolding place_of
place_here b bs name e = rw e refl

pub place_later : (b : Text × Val) (bs : List (Text × Val)) (name : Text) → bytes_eq b.0 name ≡ false → place_of (b ∷ bs) name ≡ later (place_of bs name)
unfolding place_of
place_later b bs name e = rw e refl

abbrev pub named : Text → Binding → Bool
named name b = bytes_eq b.name name

shift : (k n : ℕ) → cond (nat_lt (1 + k) (suc n)) (Some (1 + k)) None ≡ later (cond (nat_lt k n) (Some k) None)
shift k n =
    ⊎_elim
    (λ (lt : k < n). rw (lt-ltb k n lt, lt-ltb (1 + k) (suc n) (omega arith)) (ap (λ i. Some i) (let e : 1 + k ≡ suc k = omega arith in e)))
    (λ (le : n ≤ k). rw (ltb_le k n le, ltb_le (1 + k) (suc n) (omega arith)) refl)
    (cases_lt k n)

pub position_here : {X : Type 0} (p : X → Bool) (b : X) (bs : List X) → p b ≡ true → position p (b ∷ bs) ≡ Some 0
position_here p b bs e = rw e (rw (lt-ltb 0 (suc (length bs)) (omega arith)) refl)

pub position_later : {X : Type 0} (p : X → Bool) (b : X) (bs : List X) → p b ≡ false → position p (b ∷ bs) ≡ later (position p bs)
position_later p b bs e = rw e (shift (position_or_len p bs) (length bs))

pub place_is : (bs : List Binding) (name : Text) → position (named name) bs ≡ place_of (bindings bs) name
unfolding place_of
place_is [] name = refl
place_is (b ∷ bs) name =
    ⊎_elim
    (λ (at_it : named name b ≡ true). position_here (named name) b bs at_it ∙ sym (place_here (binding b) (bindings bs) name at_it))
    (λ (before_it : named name b ≡ false). position_later (named name) b bs before_it ∙ (ap later (place_is bs name) ∙ sym (place_later (binding b) (bindings bs) name before_it)))
    (true_or_false (named name b))

pub value_put : (bs : List Binding) (i : ℕ) (x : Binding) (v : EsValue) → x ≡ get_or bs i x → i < length bs → bindings (set bs i (record { name = x.name; value = v })) ≡ with_value_at (bindings bs) i (value_of v)
unfolding with_value_at
value_put [] i x v e lt = absurd (omega arith)
value_put (b ∷ bs) zero x v e lt = ap (λ n. (n, value_of v) ∷ bindings bs) (ap (λ y. y.name) e)
value_put (b ∷ bs) (suc i) x v e lt = ap (λ rest. binding b ∷ rest) (value_put bs i x v e (omega arith))

pub below_items : (bs : List Binding) (view : List (Text × Val)) (i : ℕ) → bindings bs ≡ view → i < length view → i < length bs
below_items bs view i e lt =
    let same : length (bindings bs) ≡ length view = ap length e in
    omega (arith, length-map bs binding)

later_within : (r : Option ℕ) (n : ℕ) → IfSome r (λ i. i < n) → IfSome (later r) (λ i. i < suc n)
later_within None n h = tt
later_within (Some i) n h = omega arith

pub place_within : (bs : List (Text × Val)) (name : Text) → IfSome (place_of bs name) (λ i. i < length bs)
unfolding place_of
place_within [] name = tt
place_within (b ∷ bs) name =
    ⊎_elim
    (λ (at_it : bytes_eq b.0 name ≡ true). subst (λ r. IfSome r (λ i. i < suc (length bs))) (sym (place_here b bs name at_it)) (omega arith))
    (λ (before_it : bytes_eq b.0 name ≡ false). subst (λ r. IfSome r (λ i. i < suc (length bs))) (sym (place_later b bs name before_it)) (later_within (place_of bs name) (length bs) (place_within bs name)))
    (true_or_false (bytes_eq b.0 name))

-- ---- what the place of a name says of its value

find_here : (b : Text × Val) (bs : List (Text × Val)) (name : Text) → bytes_eq b.0 name ≡ true → find_own (b ∷ bs) name ≡ Some b.1
unfolding find_own
find_here b bs name e = rw e refl

find_later : (b : Text × Val) (bs : List (Text × Val)) (name : Text) → bytes_eq b.0 name ≡ false → find_own (b ∷ bs) name ≡ find_own bs name
unfolding find_own
find_later b bs name e = rw e refl

put_here : (b : Text × Val) (bs : List (Text × Val)) (name : Text) (v : Val) → bytes_eq b.0 name ≡ true → with_property (b ∷ bs) name v ≡ (b.0, v) ∷ bs
unfolding with_property
put_here b bs name v e = rw e refl

put_later : (b : Text × Val) (bs : List (Text × Val)) (name : Text) (v : Val) → bytes_eq b.0 name ≡ false → with_property (b ∷ bs) name v ≡ b ∷ with_property bs name v
unfolding with_property
put_later b bs name v e = rw e refl

set_first : (b : Text × Val) (bs : List (Text × Val)) (v : Val) → with_value_at (b ∷ bs) 0 v ≡ (b.0, v) ∷ bs
unfolding with_value_at
set_first b bs v = refl

set_next : (b : Text × Val) (bs : List (Text × Val)) (i : ℕ) (v : Val) → with_value_at (b ∷ bs) (suc i) v ≡ b ∷ with_value_at bs i v
unfolding with_value_at
set_next b bs i v = refl

pub later_some : (r : Option ℕ) (i : ℕ) → later r ≡ Some i → (j : ℕ) × (r ≡ Some j) × (i ≡ suc j)
later_some None i e = cc
later_some (Some j) i e = (j, refl, cc)

pub later_none : (r : Option ℕ) → later r ≡ None → r ≡ None
later_none None e = refl
later_none (Some j) e = cc

first_is : (i : ℕ) → Some 0 ≡ Some i → 0 ≡ i
first_is i e = cc

abbrev Found : List (Text × Val) → Text → ℕ → Type 0
Found bs name i = (value_at bs i ≡ find_own bs name) × ((v : Val) → with_value_at bs i v ≡ with_property bs name v)

found_here : (b : Text × Val) (bs : List (Text × Val)) (name : Text) → bytes_eq b.0 name ≡ true → Found (b ∷ bs) name 0
found_here b bs name e = (sym (find_here b bs name e), λ v. set_first b bs v ∙ sym (put_here b bs name v e))

found_later : (b : Text × Val) (bs : List (Text × Val)) (name : Text) (j : ℕ) → bytes_eq b.0 name ≡ false → Found bs name j → Found (b ∷ bs) name (suc j)
found_later b bs name j e h = (
  h.0 ∙ sym (find_later b bs name e),
  λ v. set_next b bs j v ∙ (ap (λ rest. b ∷ rest) (h.1 v) ∙ sym (put_later b bs name v e)),
)

pub found : (bs : List (Text × Val)) (name : Text) (i : ℕ) → place_of bs name ≡ Some i → Found bs name i
unfolding place_of
found [] name i e = cc
found (b ∷ bs) name i e =
    ⊎_elim
    (λ (at_it : bytes_eq b.0 name ≡ true). subst (Found (b ∷ bs) name) (first_is i (sym (place_here b bs name at_it) ∙ e)) (found_here b bs name at_it))
    (λ (before_it : bytes_eq b.0 name ≡ false).
    let next = later_some (place_of bs name) i (sym (place_later b bs name before_it) ∙ e) in
    subst (Found (b ∷ bs) name) (sym next.2) (found_later b bs name next.0 before_it (found bs name next.0 next.1)))
    (true_or_false (bytes_eq b.0 name))

pub missing : (bs : List (Text × Val)) (name : Text) → place_of bs name ≡ None → (find_own bs name ≡ None) × ((v : Val) → with_property bs name v ≡ bs ++ (name, v) ∷ [])
unfolding place_of find_own with_property
missing [] name e = (refl, λ v. refl)
missing (b ∷ bs) name e =
    ⊎_elim
    (λ (at_it : bytes_eq b.0 name ≡ true). absurd (let wrong : Some 0 ≡ None = sym (place_here b bs name at_it) ∙ e in cc))
    (λ (before_it : bytes_eq b.0 name ≡ false).
    let rest = missing bs name (later_none (place_of bs name) (sym (place_later b bs name before_it) ∙ e)) in
    (find_later b bs name before_it ∙ rest.0, λ v. put_later b bs name v before_it ∙ ap (λ more. b ∷ more) (rest.1 v)))
    (true_or_false (bytes_eq b.0 name))
