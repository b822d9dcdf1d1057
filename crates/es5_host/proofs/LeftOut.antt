-- The elements that aren't left out: those at each of some indices, and those at the indices of a list that has them all.
use Rattle.std.proofs.Common.{◌≡◌, ℕ, zero, suc, ◌+◌, ◌-◌, ◌^◌, ◌<◌, ◌≤◌, Bool, true, false, ◌||◌, ◌&&◌, ◌⊎◌, inl, inr, ⊎_elim, if◌then◌else◌, eqb, nat_lt, nat_le, List, [], ◌∷◌, ◌++◌, length, map, get_or, Option, Some, None, refl, sym, ap, subst, ◌∙◌, arith, append_assoc, append-nil, ne_eqb, leb-true}
use Rattle.std.specs.List.{All, AllByRecursion, list_any, range_with_len}
use Rattle.std.proofs.lemmas.List.Elements.{All-nil, All-cons, All-head, All-tail}
use Rattle.std.proofs.lemmas.List.FromFn.{map-range_with_len_more, length-map-range_with_len}
use Rattle.es5_tree.specs.Values.{Text, Val}
use Rattle.es5_tree.specs.Objects.Names.{decimal, index_end}
use Rattle.es5_tree.specs.Objects.Cells.{Cell, Array, new_cell, put, rising}
use Rattle.es5_tree.specs.Objects.Links.{get}
use Rattle.es5_tree.specs.Intrinsics.Rows.{elements, filled, array_of, where_true, Makes}
use Rattle.es5_tree.specs.Intrinsics.Valid.{Names, NamesIf}
use Rattle.es5_tree.proofs.ObjectRising.{Rises, rising_rises}
use Rattle.es5_objects.specs.Values.{value_of}
use Rattle.es5_objects.specs.Heap.{Heap}
use Rattle.es5_host.specs.declared.present.Element.{Element}
use Rattle.es5_host.specs.declared.answer.HostAnswer.{HostAnswer}
use Rattle.es5_host.specs.Answers.{Answered}
use Rattle.es5_host.specs.Items.{element, present}
use Rattle.es5_host.specs.Making.{holding}

-- ---- what they make

pub filled_present : (c : Cell) (i : ℕ) (vs : List (Option Val)) → holding c (present i vs) ≡ filled c i vs
unfolding holding filled
filled_present c i [] = refl
filled_present c i (None ∷ vs) = filled_present c (i + 1) vs
filled_present c i (Some v ∷ vs) = filled_present (put c (decimal i) v) (i + 1) vs

-- ---- what they name

abbrev Named : ℕ → Text × Val → Type 0
Named n p = Names n p.1

present_named : (n i : ℕ) (vs : List (Option Val)) → All (NamesIf n) vs → All (Named n) (present i vs)
present_named n i [] h = All-nil _
present_named n i (None ∷ vs) h = present_named n (i + 1) vs (All-tail (NamesIf n) None vs h)
present_named n i (Some v ∷ vs) h = All-cons (Named n) (decimal i, v) (present (i + 1) vs) (All-head (NamesIf n) (Some v) vs h) (present_named n (i + 1) vs (All-tail (NamesIf n) (Some v) vs h))

elements_of : (n : ℕ) (items : List Element) → All (Named n) (map element items) → All (λ item. Names n (value_of item.value)) items
elements_of n [] h = All-nil _
elements_of n (x ∷ xs) h = All-cons (λ y. Names n (value_of y.value)) x xs (All-head (Named n) (element x) (map element xs) h) (elements_of n xs (All-tail (Named n) (element x) (map element xs) h))

pub items_named : (n : ℕ) (items : List Element) (vs : List (Option Val)) → map element items ≡ present 0 vs → All (NamesIf n) vs → All (λ item. Names n (value_of item.value)) items
items_named n items vs e h = elements_of n items (subst (All (Named n)) (sym e) (present_named n 0 vs h))

-- ---- one index after the other

moved : (i n : ℕ) → (i + 1) + n ≡ i + suc n
moved i n = omega arith

one_behind : (i k : ℕ) (xs : List (Option Val)) (v : Option Val) → k ≡ i + length xs → present i (xs ++ v ∷ []) ≡ present i xs ++ present k (v ∷ [])
one_behind i k [] v e = ap (λ n. present n (v ∷ [])) (omega (arith, e))
one_behind i k (None ∷ xs) v e = one_behind (i + 1) k xs v (omega (arith, e))
one_behind i k (Some w ∷ xs) v e = ap (λ ps. (decimal i, w) ∷ ps) (one_behind (i + 1) k xs v (omega (arith, e)))

abbrev at : List Cell → ℕ → ℕ → Option Val
at cells o i = get cells o (decimal i)

pub each_more : (cells : List Cell) (o from i : ℕ) (ps qs : List (Text × Val)) → qs ≡ ps ++ present i (get cells o (decimal (from + i)) ∷ []) → ps ≡ present 0 (elements cells o from i) → qs ≡ present 0 (elements cells o from (i + 1))
each_more cells o from i ps qs e h =
    e
    ∙ (ap (λ xs. xs ++ present i (at cells o (from + i) ∷ [])) h
    ∙ (sym (one_behind 0 i (elements cells o from i) (at cells o (from + i)) (omega (arith, length-map-range_with_len (at cells o) from i)))
    ∙ ap (present 0) (sym (map-range_with_len_more (at cells o) from i (from + i) refl))))

-- ---- the indices of a list

-- what a walk along the list finds: an index counts where it is past all that came before it and before the end
abbrev pub walk : (ℕ → Option Val) → ℕ → ℕ → ℕ → List ℕ → List (Text × Val)
walk f from now end [] = []
walk f from now end (k ∷ ks) = if nat_le now k && nat_lt k end then present (k - from) (f k ∷ []) ++ walk f from (k + 1) end ks else walk f from now end ks

-- an index that isn't in the list has nothing
abbrev pub Others : (ℕ → Option Val) → ℕ → ℕ → List ℕ → Type 0
Others f now end ks = (i : ℕ) → now ≤ i → i < end → list_any (eqb i) ks ≡ false → f i ≡ None

true_or_false : (b : Bool) → (b ≡ true) ⊎ (b ≡ false)
true_or_false true = inl refl
true_or_false false = inr refl

-- indices at which nothing stands
skipped : (f : ℕ → Option Val) (m n a j : ℕ) → ((i : ℕ) → a ≤ i → i < a + m → f i ≡ None) → present j (map f (range_with_len a (m + n))) ≡ present (j + m) (map f (range_with_len (a + m) n))
skipped f zero n a j h =
    let e : 0 + n ≡ n = omega arith in
    let at_j : j ≡ j + 0 = omega arith in
    let at_a : a ≡ a + 0 = omega arith in
    ap (λ k. present j (map f (range_with_len a k))) e ∙ (ap (λ k. present k (map f (range_with_len a n))) at_j ∙ ap (λ k. present (j + 0) (map f (range_with_len k n))) at_a)
skipped f (suc m) n a j h =
    let none : f a ≡ None = h a (omega arith) (omega arith) in
    let length_is : suc m + n ≡ suc (m + n) = omega arith in
    ap (λ k. present j (map f (range_with_len a k))) length_is
    ∙ (ap (λ v. present j (v ∷ map f (range_with_len (a + 1) (m + n)))) none
    ∙ (skipped f m n (a + 1) (j + 1) (λ i le lt. h i (omega (arith, le)) (omega (arith, lt)))
    ∙ (ap (λ k. present k (map f (range_with_len (a + 1 + m) n))) (moved j m) ∙ ap (λ k. present (j + suc m) (map f (range_with_len k n))) (moved a m))))

not_below : (i k : ℕ) (ks : List ℕ) → i < k → AllByRecursion (λ y. k ≤ y) ks → list_any (eqb i) ks ≡ false
not_below i k [] lt h = refl
not_below i k (y ∷ ys) lt h = ap (λ b. b || list_any (eqb i) ys) (ne_eqb i y (λ e. omega (arith, e, h.0, lt))) ∙ not_below i k ys lt h.1

others_later : (f : ℕ → Option Val) (now later end k : ℕ) (ks : List ℕ) → Others f now end (k ∷ ks) → now ≤ later → ((i : ℕ) → later ≤ i → i < end → i ≡ k → ⊥) → Others f later end ks
others_later f now later end k ks h le apart i from lt none = h i (omega (arith, le, from)) lt (ap (λ b. b || list_any (eqb i) ks) (ne_eqb i k (apart i from lt)) ∙ none)

one_first : (j : ℕ) (v : Option Val) (vs : List (Option Val)) → present j (v ∷ []) ++ present (j + 1) vs ≡ present j (v ∷ vs)
one_first j None vs = refl
one_first j (Some w) vs = refl

and_true : (a b : Bool) → (a && b) ≡ true → (a ≡ true) × (b ≡ true)
and_true true true e = (refl, refl)
and_true true false e = cc
and_true false b e = cc

le_of : (a b : ℕ) → nat_le a b ≡ true → a ≤ b
le_of a b e = leb-true a b e

lt_of : (a b : ℕ) → nat_lt a b ≡ true → a < b
lt_of a b e = grind arith

not_between : (a k end : ℕ) → (nat_le a k && nat_lt k end) ≡ false → (i : ℕ) → a ≤ i → i < end → i ≡ k → ⊥
not_between a k end e i le lt same = grind arith

pub walked : (f : ℕ → Option Val) (from end : ℕ) (ks : List ℕ) (now j m : ℕ) → now ≡ from + j → end ≡ now + m → Rises ks → Others f now end ks → walk f from now end ks ≡ present j (map f (range_with_len now m))
walked f from end [] now j m a b r h =
    sym (ap (λ k. present j (map f (range_with_len now k))) (omega arith)
    ∙ skipped f m 0 now j (λ i le lt. h i le (omega (arith, lt, b)) refl))
walked f from end (k ∷ ks) now j m a b r h =
    ⊎_elim
    (λ (here : (nat_le now k && nat_lt k end) ≡ true).
    let le : now ≤ k = le_of now k (and_true (nat_le now k) (nat_lt k end) here).0 in
    let lt : k < end = lt_of k end (and_true (nat_le now k) (nat_lt k end) here).1 in
    let n = end - (k + 1) in
    let g = k - now in
    let rest : walk f from (k + 1) end ks ≡ present (k - from + 1) (map f (range_with_len (k + 1) n)) =
    walked f from end ks (k + 1) (k - from + 1) n (omega (arith, a, le)) (omega (arith, lt)) r.1 (others_later f now (k + 1) end k ks h (omega (arith, le)) (λ i ge less same. omega (arith, ge, same))) in
    let gap : present j (map f (range_with_len now m)) ≡ present (k - from) (map f (range_with_len k (suc n))) =
    ap (λ x. present j (map f (range_with_len now x))) (omega (arith, b, le, lt))
    ∙ (skipped f g (suc n) now j (λ i ge less. h i ge (omega (arith, less, lt, le)) (ap (λ c. c || list_any (eqb i) ks) (ne_eqb i k (λ e. omega (arith, e, less, le))) ∙ not_below i k ks (omega (arith, less, le)) r.0))
    ∙ (ap (λ x. present x (map f (range_with_len (now + g) (suc n)))) (omega (arith, a, le)) ∙ ap (λ x. present (k - from) (map f (range_with_len x (suc n)))) (omega (arith, le)))) in
    rw here (ap (λ ps. present (k - from) (f k ∷ []) ++ ps) rest ∙ (one_first (k - from) (f k) (map f (range_with_len (k + 1) n)) ∙ sym gap)))
    (λ (out : (nat_le now k && nat_lt k end) ≡ false).
    rw out (walked f from end ks now j m a b r.1 (others_later f now now end k ks h (omega arith) (not_between now k end out))))
    (true_or_false (nat_le now k && nat_lt k end))

-- ---- the steps of the walk

pub walk_starts : (f : ℕ → Option Val) (from end : ℕ) (ks : List ℕ) (ps : List (Text × Val)) → ps ≡ [] → ps ++ walk f from from end ks ≡ walk f from from end ks
walk_starts f from end ks ps e = ap (λ qs. qs ++ walk f from from end ks) e

pub walk_takes : (f : ℕ → Option Val) (from now end k i : ℕ) (ks rest : List ℕ) (ps qs all : List (Text × Val)) → ks ≡ k ∷ rest → ps ++ walk f from now end ks ≡ all → (nat_le now k && nat_lt k end) ≡ true
    → qs ≡ ps ++ present i (f (from + i) ∷ []) → i ≡ k - from → from ≤ now → qs ++ walk f from (k + 1) end rest ≡ all
walk_takes f from now end k i ks rest ps qs all e inv within more is from_le =
    let le : now ≤ k = le_of now k (and_true (nat_le now k) (nat_lt k end) within).0 in
    let here : walk f from now end (k ∷ rest) ≡ present (k - from) (f k ∷ []) ++ walk f from (k + 1) end rest = rw within refl in
    let k_is : from + i ≡ k = omega (arith, is, from_le, le) in
    let one : present i (f (from + i) ∷ []) ≡ present (k - from) (f k ∷ []) = ap (λ n. present i (f n ∷ [])) k_is ∙ ap (λ n. present n (f k ∷ [])) is in
    ap (λ xs. xs ++ walk f from (k + 1) end rest) (more ∙ ap (λ xs. ps ++ xs) one)
    ∙ (append_assoc ps (present (k - from) (f k ∷ [])) (walk f from (k + 1) end rest)
    ∙ (ap (λ xs. ps ++ xs) (sym here) ∙ (ap (λ xs. ps ++ walk f from now end xs) (sym e) ∙ inv)))

pub walk_passes : (f : ℕ → Option Val) (from now end k : ℕ) (ks rest : List ℕ) (ps all : List (Text × Val)) → ks ≡ k ∷ rest → ps ++ walk f from now end ks ≡ all → (nat_le now k && nat_lt k end) ≡ false → ps ++ walk f from now end rest ≡ all
walk_passes f from now end k ks rest ps all e inv out =
    let here : walk f from now end (k ∷ rest) ≡ walk f from now end rest = rw out refl in
    ap (λ xs. ps ++ xs) (sym here) ∙ (ap (λ xs. ps ++ walk f from now end xs) (sym e) ∙ inv)

pub walk_over : (cells : List Cell) (o from count end now : ℕ) (ks rest : List ℕ) (indices : List ℕ) (ps : List (Text × Val)) → rest ≡ [] → ks ≡ rising indices → end ≡ from + count → from + count < 2 ^ 32
    → ((i : ℕ) → i < index_end → list_any (eqb i) ks ≡ false → get cells o (decimal i) ≡ None)
    → ps ++ walk (at cells o) from now end rest ≡ walk (at cells o) from from end ks → ps ≡ present 0 (elements cells o from count)
walk_over cells o from count end now ks rest indices ps none r e small others inv =
    sym (append-nil ps)
    ∙ (ap (λ xs. ps ++ walk (at cells o) from now end xs) (sym none)
    ∙ (inv
    ∙ walked (at cells o) from end ks from 0 count (omega arith) e (subst Rises (sym r) (rising_rises indices)) (λ i le lt h. others i (omega (arith, e, small, lt)) h)))

-- ---- putting them into an object

pub element_at : (n m : ℕ) (items : List Element) (i : ℕ) (item : Element) → n ≡ m → All (λ x. Names m (value_of x.value)) items → i < length items → item ≡ get_or items i item → Names n (value_of item.value)
element_at n m items i item same h lt here = subst (λ k. Names k (value_of item.value)) (sym same) (subst (λ x. Names m (value_of x.value)) (sym here) (h i item lt))

pub made_answers : (b : Bool) (answer : HostAnswer) (old new : Heap) (items : List Element) (vs : List (Option Val)) → b ≡ true → map element items ≡ present 0 vs
    → Answered (Makes (holding (new_cell Array (Some 2)) (map element items))) answer old new → Answered (where_true b (Makes (array_of vs))) answer old new
made_answers b answer old new items vs yes_b e h =
    subst (λ row. Answered row answer old new)
    (ap (λ ps. Makes (holding (new_cell Array (Some 2)) ps)) e
    ∙ (ap Makes (filled_present (new_cell Array (Some 2)) 0 vs) ∙ ap (λ x. where_true x (Makes (array_of vs))) (sym yes_b)))
    h

pub goes_past : (now k end from further : ℕ) → (nat_le now k && nat_lt k end) ≡ true → from ≤ now → further ≡ k + 1 → from ≤ further
goes_past now k end from further within le e =
    let past : now ≤ k = le_of now k (and_true (nat_le now k) (nat_lt k end) within).0 in
    omega (arith, past, le, e)
