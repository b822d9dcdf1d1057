-- The digits of a number and the units that spell them.
use Rattle.std.proofs.Common.{◌≡◌, ℕ, suc, zero, ◌+◌, ◌-◌, ◌*◌, ◌/◌, ◌%◌, ◌<◌, ◌≤◌, Bool, true, false, ◌&&◌, eqb, List, [], ◌∷◌, ◌++◌, map, refl, sym, ap, ◌∙◌, arith, bytes_eq, nat_lt, Some, None, if◌then◌else◌, lt-ltb, le-ltb, length, take, drop, get_or}
use Rattle.std.proofs.lemmas.List.{take_more, get_or_default}
use Rattle.std.proofs.Math.Seq.{take-length}
use Rattle.std.specs.Int.Digits.{digits_of, number_from_digits_after}
use Rattle.std.proofs.lemmas.Int.Digits.{digits_of_step, number_after_ge}
use Rattle.es5_objects.proofs.Loops.{at_step, past_end}
use Rattle.es5_tree.specs.Objects.Names.{decimal, index_of, number_of, index_end}

-- the units of a number's digits, none for 0
abbrev pub units_of : ℕ → List ℕ
units_of n = map (λ d. 48 + d) (digits_of 10 n)

map_push : (xs : List ℕ) (x : ℕ) → map (λ d. 48 + d) (xs ++ x ∷ []) ≡ map (λ d. 48 + d) xs ++ (48 + x) ∷ []
map_push [] x = refl
map_push (y ∷ xs) x = ap (λ zs. (48 + y) ∷ zs) (map_push xs x)

pub units_step : (n : ℕ) → 0 < n → units_of n ≡ units_of (n / 10) ++ (48 + n % 10) ∷ []
units_step n h = ap (map (λ d. 48 + d)) (digits_of_step 10 n (omega arith) h) ∙ map_push (digits_of 10 (n / 10)) (n % 10)

none_push : (ys : List ℕ) (y : ℕ) → bytes_eq [] (ys ++ y ∷ []) ≡ false
none_push [] y = refl
none_push (z ∷ ys) y = refl

push_none : (xs : List ℕ) (x : ℕ) → bytes_eq (xs ++ x ∷ []) [] ≡ false
push_none [] x = refl
push_none (z ∷ xs) x = refl

and_false : (b : Bool) → (b && false) ≡ false
and_false true = refl
and_false false = refl

and_swap : (a b c : Bool) → (a && (b && c)) ≡ (b && (a && c))
and_swap true b c = refl
and_swap false b c = sym (and_false b)

same_push : (xs ys : List ℕ) (x y : ℕ) → bytes_eq (xs ++ x ∷ []) (ys ++ y ∷ []) ≡ (eqb x y && bytes_eq xs ys)
same_push [] [] x y = refl
same_push [] (z ∷ ys) x y = ap (λ b. eqb x z && b) (none_push ys y) ∙ (and_false (eqb x z) ∙ sym (and_false (eqb x y)))
same_push (z ∷ xs) [] x y = ap (λ b. eqb z y && b) (push_none xs x) ∙ (and_false (eqb z y) ∙ sym (and_false (eqb x y)))
same_push (w ∷ xs) (z ∷ ys) x y = ap (λ b. eqb w z && b) (same_push xs ys x y) ∙ and_swap (eqb w z) (eqb x y) (bytes_eq xs ys)

pub last_digit : (n : ℕ) → 0 < n → (before : List ℕ) (last : ℕ) → bytes_eq (before ++ last ∷ []) (units_of n) ≡ (eqb last (48 + n % 10) && bytes_eq before (units_of (n / 10)))
last_digit n h before last = ap (bytes_eq (before ++ last ∷ [])) (units_step n h) ∙ same_push before (units_of (n / 10)) last (48 + n % 10)

pub no_digit : (n : ℕ) → 0 < n → bytes_eq [] (units_of n) ≡ false
no_digit n h = ap (bytes_eq []) (units_step n h) ∙ none_push (units_of (n / 10)) (48 + n % 10)

pub decimal_zero : decimal 0 ≡ 48 ∷ []
unfolding decimal
decimal_zero = refl

pub decimal_units : (n : ℕ) → 0 < n → decimal n ≡ units_of n
unfolding decimal
decimal_units zero h = absurd (omega arith)
decimal_units (suc n) h = refl

itself : (n : ℕ) → n < 10 → n % 10 ≡ n
itself n h = omega arith

small : (n : ℕ) → n < 10 → n / 10 ≡ 0
small n h = omega arith

-- a digit by itself, and the last digit behind the others
pub decimal_digit : (n : ℕ) → n < 10 → decimal n ≡ (48 + n) ∷ []
decimal_digit zero h = decimal_zero
decimal_digit (suc n) h =
    decimal_units (suc n) (omega arith) ∙ (units_step (suc n) (omega arith) ∙ (ap (λ m. units_of m ++ (48 + suc n % 10) ∷ []) (small (suc n) h) ∙ ap (λ d. (48 + d) ∷ []) (itself (suc n) h)))

pub decimal_more : (n : ℕ) → 10 ≤ n → decimal n ≡ decimal (n / 10) ++ (48 + n % 10) ∷ []
decimal_more n h =
    decimal_units n (omega arith) ∙ (units_step n (omega arith) ∙ ap (λ us. us ++ (48 + n % 10) ∷ []) (sym (decimal_units (n / 10) (omega arith))))

-- ---- the number that a name stands for

-- the number once the units so far stood for n
abbrev pub number_after : ℕ → List ℕ → ℕ
number_after n name = number_from_digits_after 10 n (map (λ u. u - 48) name)

pub number_starts : (name : List ℕ) → number_of name ≡ number_after 0 name
unfolding number_of
number_starts name = refl

no_index : (a b : Bool) (n : ℕ) → b ≡ false → (if a && b then Some n else None) ≡ None
no_index true true n e = cc
no_index true false n e = refl
no_index false b n e = refl

below_not : (n : ℕ) → index_end ≤ n → nat_lt n index_end ≡ false
below_not n h = le-ltb _ _ h

pub too_large : (name : List ℕ) (n : ℕ) (rest : List ℕ) → number_of name ≡ number_after n rest → index_end ≤ n → index_of name ≡ None
unfolding index_of
too_large name n rest e h =
    no_index (bytes_eq name (decimal (number_of name))) (nat_lt (number_of name) index_end) (number_of name)
    (below_not (number_of name) (omega (arith, number_after_ge 10 n (map (λ u. u - 48) rest) (omega arith))))

below_is : (n : ℕ) → n < index_end → nat_lt n index_end ≡ true
below_is n h = lt-ltb _ _ h

pub small_enough : (name : List ℕ) (n : ℕ) → number_of name ≡ n → n < index_end → bytes_eq name (decimal n) ≡ true → index_of name ≡ Some n
unfolding index_of
small_enough name n e h same = rw e (rw same (rw (below_is n h) refl))

pub not_spelled : (name : List ℕ) (n : ℕ) → number_of name ≡ n → bytes_eq name (decimal n) ≡ false → index_of name ≡ None
unfolding index_of
not_spelled name n e other = rw e (rw other refl)

-- ---- a name by its last unit

rest_one : (n : ℕ) → 0 < n → (n - 1) + 1 ≡ n
rest_one n h = omega arith

and_true : (b : Bool) → (b && true) ≡ b
and_true true = refl
and_true false = refl

split_last : (name : List ℕ) → 0 < length name → name ≡ take (length name - 1) name ++ get_or name (length name - 1) 0 ∷ []
split_last name h =
    let lt : length name - 1 < length name = omega arith in
    let whole : take ((length name - 1) + 1) name ≡ name = rw (rest_one (length name) h) (take-length name) in
    sym whole ∙ take_more name (length name - 1) 0 lt

pub by_last : (n : ℕ) → 0 < n → (name : List ℕ) → 0 < length name → bytes_eq name (units_of n) ≡ (eqb (get_or name (length name - 1) 0) (48 + n % 10) && bytes_eq (take (length name - 1) name) (units_of (n / 10)))
by_last n h name some = ap (λ s. bytes_eq s (units_of n)) (split_last name some) ∙ last_digit n h (take (length name - 1) name) (get_or name (length name - 1) 0)

pub by_one : (name : List ℕ) → length name ≡ 1 → eqb (get_or name 0 0) 48 ≡ bytes_eq name (decimal 0)
by_one [] e = absurd (omega arith)
by_one (x ∷ []) e = rw decimal_zero (sym (and_true (eqb x 48)))
by_one (x ∷ y ∷ name) e = absurd (omega arith)

pub by_more : (name : List ℕ) → (length name ≡ 1 → ⊥) → false ≡ bytes_eq name (decimal 0)
by_more [] e = rw decimal_zero refl
by_more (x ∷ []) e = absurd (e refl)
by_more (x ∷ y ∷ name) e = rw decimal_zero (sym (and_false (eqb x 48)))

-- ---- the loop over a name's units

same_element : (xs : List ℕ) (i d : ℕ) → i < length xs → get_or xs i d ≡ get_or xs i (get_or xs i d)
same_element xs i d h = get_or_default xs i d (get_or xs i d) h

pub number_step : (name : List ℕ) (n i : ℕ) → i < length name → number_after n (drop i name) ≡ number_after (n * 10 + (get_or name i 0 - 48)) (drop (i + 1) name)
number_step name n i h = rw (at_step name i (get_or name i 0) h (same_element name i 0 h)) refl

pub number_end : (name : List ℕ) (n i : ℕ) → length name ≤ i → number_after n (drop i name) ≡ n
number_end name n i h = rw (past_end name i h) refl
