-- A list of numbers has one arrangement in rising order.
use Rattle.std.proofs.Common.{◌≡◌, ℕ, suc, ◌+◌, ◌<◌, ◌≤◌, Bool, true, false, ◌⊎◌, inl, inr, ⊎_elim, if◌then◌else◌, eqb, nat_le, List, [], ◌∷◌, length, get_or, refl, sym, ap, subst, ◌∙◌, arith, sum_by, IsPermutation, IsSorted, leb-true, leb-false, eq-eqb, ne_eqb}
use Rattle.std.proofs.lemmas.Bool.{cases_lt}
use Rattle.std.specs.Ordering.{nat_cmp, is_lt}
use Rattle.std.specs.List.{AllByRecursion}
use Rattle.std.proofs.lemmas.List.Sums.{sum_by-cons}
use Rattle.std.proofs.lemmas.List.Sorted.{sum_by-IsPermutation}
use Rattle.es5_tree.specs.Objects.Cells.{insert_number, rising}

-- no number is below the one before it
abbrev pub Rises : List ℕ → Type 0
Rises [] = Unit {0}
Rises (x ∷ xs) = AllByRecursion (λ y. x ≤ y) xs × Rises xs

true_or_false : (b : Bool) → (b ≡ true) ⊎ (b ≡ false)
true_or_false true = inl refl
true_or_false false = inr refl

-- how often q stands in the list
abbrev pub once : ℕ → ℕ → ℕ
once q x = if eqb q x then 1 else 0

abbrev pub count : ℕ → List ℕ → ℕ
count q [] = 0
count q (x ∷ xs) = once q x + count q xs

count_is : (q : ℕ) (xs : List ℕ) → count q xs ≡ sum_by (once q) xs
count_is q [] = refl
count_is q (x ∷ xs) = ap (λ n. once q x + n) (count_is q xs) ∙ sym (sum_by-cons (once q) x xs)

-- ---- a rising list is fixed by how often each number stands in it

all_lower : (x y : ℕ) (zs : List ℕ) → x ≤ y → AllByRecursion (λ z. y ≤ z) zs → AllByRecursion (λ z. x ≤ z) zs
all_lower x y [] le h = tt
all_lower x y (z ∷ zs) le h = (omega (arith, h.0), all_lower x y zs le h.1)

none_lower : (q b : ℕ) (ys : List ℕ) → q < b → AllByRecursion (λ y. b ≤ y) ys → count q ys ≡ 0
none_lower q b [] lt h = refl
none_lower q b (y ∷ ys) lt h = rw (ne_eqb q y (λ e. omega (arith, h.0))) (omega (arith, none_lower q b ys lt h.1))

counted : (q : ℕ) (xs : List ℕ) → count q (q ∷ xs) ≡ 1 + count q xs
counted q xs = rw (eq-eqb q q refl) refl

not_below : (x y : ℕ) (xs ys : List ℕ) → AllByRecursion (λ z. y ≤ z) ys → count x (x ∷ xs) ≡ count x (y ∷ ys) → x < y → ⊥
not_below x y xs ys h e lt = omega (arith, counted x xs, e, none_lower x y (y ∷ ys) lt (omega arith, h))

neither : (x y : ℕ) → (x < y → ⊥) → (y < x → ⊥) → x ≡ y
neither x y h k = ⊎_elim (λ lt. absurd (h lt)) (λ ge. ⊎_elim (λ lt. absurd (k lt)) (λ le. omega arith) (cases_lt y x)) (cases_lt x y)

rest : (q x y m n : ℕ) → x ≡ y → once q x + m ≡ once q y + n → m ≡ n
rest q x y m n same e = omega (arith, e, ap (once q) same)

pub same_rising : (xs ys : List ℕ) → Rises xs → Rises ys → ((q : ℕ) → count q xs ≡ count q ys) → xs ≡ ys
same_rising [] [] h k e = refl
same_rising [] (y ∷ ys) h k e = absurd (omega (arith, e y, counted y ys))
same_rising (x ∷ xs) [] h k e = absurd (omega (arith, e x, counted x xs))
same_rising (x ∷ xs) (y ∷ ys) h k e =
    let xy : x < y → ⊥ = not_below x y xs ys k.0 (e x) in
    let yx : y < x → ⊥ = not_below y x ys xs h.0 (sym (e y)) in
    let same : x ≡ y = neither x y xy yx in
    ap (λ z. z ∷ xs) same ∙ ap (λ zs. y ∷ zs) (same_rising xs ys h.1 k.1 (λ q. rest q x y (count q xs) (count q ys) same (e q)))

-- ---- putting a number in

swapped : (a b c : ℕ) → a + (b + c) ≡ b + (a + c)
swapped a b c = omega arith

insert_counts : (q n : ℕ) (ms : List ℕ) → count q (insert_number n ms) ≡ once q n + count q ms
insert_counts q n [] = refl
insert_counts q n (m ∷ ms) =
    ⊎_elim
    (λ (le : nat_le n m ≡ true). rw le refl)
    (λ (gt : nat_le n m ≡ false). rw gt (ap (λ k. once q m + k) (insert_counts q n ms) ∙ swapped (once q m) (once q n) (count q ms)))
    (true_or_false (nat_le n m))

pub rising_counts : (q : ℕ) (ns : List ℕ) → count q (rising ns) ≡ count q ns
rising_counts q [] = refl
rising_counts q (n ∷ ns) = insert_counts q n (rising ns) ∙ ap (λ k. once q n + k) (rising_counts q ns)

insert_all : (b n : ℕ) (ms : List ℕ) → b ≤ n → AllByRecursion (λ y. b ≤ y) ms → AllByRecursion (λ y. b ≤ y) (insert_number n ms)
insert_all b n [] le h = (le, tt)
insert_all b n (m ∷ ms) le h =
    ⊎_elim
    (λ (yes_le : nat_le n m ≡ true). rw yes_le (le, h))
    (λ (gt : nat_le n m ≡ false). rw gt (h.0, insert_all b n ms le h.1))
    (true_or_false (nat_le n m))

insert_rises : (n : ℕ) (ms : List ℕ) → Rises ms → Rises (insert_number n ms)
insert_rises n [] h = (tt, tt)
insert_rises n (m ∷ ms) h =
    ⊎_elim
    (λ (le : nat_le n m ≡ true). rw le ((leb-true n m le, all_lower n m ms (leb-true n m le) h.0), h))
    (λ (gt : nat_le n m ≡ false). rw gt (insert_all m n ms (omega (arith, leb-false n m gt)) h.0, insert_rises n ms h.1))
    (true_or_false (nat_le n m))

pub rising_rises : (ns : List ℕ) → Rises (rising ns)
rising_rises [] = tt
rising_rises (n ∷ ns) = insert_rises n (rising ns) (rising_rises ns)

-- ---- what a sort leaves

one_later : (k : ℕ) → suc k + 1 ≡ suc (k + 1)
one_later k = omega arith

step_of : (x : ℕ) (xs : List ℕ) (k : ℕ) → ((k : ℕ) → k + 1 < length (x ∷ xs) → get_or (x ∷ xs) k 0 ≤ get_or (x ∷ xs) (k + 1) 0) → k + 1 < length xs → get_or xs k 0 ≤ get_or xs (k + 1) 0
step_of x xs k h lt = subst (λ n. get_or xs k 0 ≤ get_or (x ∷ xs) n 0) (one_later k) (h (suc k) (omega arith))

not_less : (a b : ℕ) → is_lt (nat_cmp b a) ≡ false → a ≤ b
not_less a b e = grind arith

from_steps : (xs : List ℕ) → ((k : ℕ) → k + 1 < length xs → get_or xs k 0 ≤ get_or xs (k + 1) 0) → Rises xs
from_steps [] h = tt
from_steps (x ∷ []) h = (tt, tt)
from_steps (x ∷ y ∷ xs) h =
    let r : Rises (y ∷ xs) = from_steps (y ∷ xs) (λ k lt. step_of x (y ∷ xs) k h lt) in
    let le : x ≤ y = h 0 (omega arith) in
    ((le, all_lower x y xs le r.0), r)

pub sorted_is_rising : (xs ys : List ℕ) → IsPermutation xs ys → IsSorted nat_cmp ys → ys ≡ rising xs
sorted_is_rising xs ys p s =
    same_rising ys (rising xs) (from_steps ys (λ k lt. not_less (get_or ys k 0) (get_or ys (k + 1) 0) (s k 0 (omega arith) lt))) (rising_rises xs)
    (λ q. count_is q ys ∙ (sum_by-IsPermutation (once q) xs ys p ∙ (sym (count_is q xs) ∙ sym (rising_counts q xs))))
