-- In a table whose words don't grow, the first entry that begins a text is the longest.
use Rattle.std.proofs.Common.{◌≡◌, ◌≤◌, ℕ, Bool, true, false, cond, ◌&&◌, ◌==◌, nat_le, List, [], ◌∷◌, take, length, refl, ap, sym, ◌∙◌, subst, arith, Option, Some, None, inl, inr}
use Rattle.std.proofs.lemmas.Grind.{common_steps}
use Rattle.ruby_meaning.specs.declared.token.Mark.{Mark}
use Rattle.ruby_meaning.specs.Lexing.Characters.{begins}
use Rattle.ruby_meaning.specs.Lexing.Signs.{first_of_table, signs, sign, method_signs, method_sign}
use Rattle.ruby_meaning.specs.Lexing.Laws.{IsEntry, LongestSign, LongestMethodSign, NoSign}

-- no word is longer than n, and none than one before it
abbrev pub falling : ℕ → List (List ℕ × Mark) → Bool
falling n [] = true
falling n (e ∷ es) = nat_le (length e.0) n && falling (length e.0) es

both_left : (a b : Bool) → (a && b) ≡ true → a ≡ true
both_left true b h = refl
both_left false b h = h

both_right : (a b : Bool) → (a && b) ≡ true → b ≡ true
both_right true b h = h
both_right false b h = cc

same_unit : (a b : ℕ) → (a == b) ≡ true → a ≡ b
same_unit a b h = grind (arith, common_steps)

le_of : (a b : ℕ) → nat_le a b ≡ true → a ≤ b
le_of a b h = grind (arith, common_steps)

begins_take : (word z : List ℕ) → begins word z ≡ true → word ≡ take (length word) z
begins_take [] z h = refl
begins_take (k ∷ ks) [] h = cc
begins_take (k ∷ ks) (u ∷ us) h =
    let head = same_unit k u (both_left (k == u) (begins ks us) h) in
    let tail = begins_take ks us (both_right (k == u) (begins ks us) h) in
    ap (λ x. x ∷ ks) head ∙ ap (λ x. u ∷ x) tail

entry_within : (n : ℕ) (es : List (List ℕ × Mark)) (word : List ℕ) (k : Mark) → falling n es ≡ true → IsEntry es word k → length word ≤ n
entry_within n [] word k h i = absurd i
entry_within n (e ∷ es) word k h (inl x) = let first = le_of (length e.0) n (both_left (nat_le (length e.0) n) (falling (length e.0) es) h) in omega (arith, first, ap length x.0)
entry_within n (e ∷ es) word k h (inr y) =
    let first = le_of (length e.0) n (both_left (nat_le (length e.0) n) (falling (length e.0) es) h) in
    let more = entry_within (length e.0) es word k (both_right (nat_le (length e.0) n) (falling (length e.0) es) h) y in
    omega (arith, first, more)

-- by whether the first entry begins the text
none_after : (es : List (List ℕ × Mark)) (z word : List ℕ) (k : Mark) → first_of_table es z ≡ None → IsEntry es word k → begins word z ≡ true → ⊥
none_after [] z word k e i b = i
none_after (x ∷ es) z word k e (inl y) b =
    let here : begins x.0 z ≡ true = ap (λ w. begins w z) y.0 ∙ b in
    let some : cond (begins x.0 z) (Some (x.1, length x.0)) (first_of_table es z) ≡ None = e in
    let some2 = subst (λ t. cond t (Some (x.1, length x.0)) (first_of_table es z) ≡ None) here some in cc some2
none_after (x ∷ es) z word k e (inr y) b =
    none_step (begins x.0 z) _ (first_of_table es z) e (λ rest. none_after es z word k rest y b)
  where
    none_step : (t : Bool) (a : Mark × ℕ) (r : Option (Mark × ℕ)) → cond t (Some a) r ≡ None → (r ≡ None → ⊥) → ⊥
    none_step true a r e k = cc
    none_step false a r e k = k e

some_is : (a b : Mark × ℕ) → Some a ≡ Some b → a ≡ b
some_is a b h = cc

longest_step : (t : Bool) (x : List ℕ × Mark) (es : List (List ℕ × Mark)) (z : List ℕ) (n bound : ℕ) (m : Mark)
    → begins x.0 z ≡ t → falling (length x.0) es ≡ true
    → ((word : List ℕ) (k : Mark) → IsEntry es word k → begins word z ≡ true → first_of_table es z ≡ Some (m, n) → length word ≤ n)
    → (first_of_table es z ≡ Some (m, n) → IsEntry es (take n z) m)
    → cond t (Some (x.1, length x.0)) (first_of_table es z) ≡ Some (m, n)
    → IsEntry (x ∷ es) (take n z) m × ((word : List ℕ) (k : Mark) → IsEntry (x ∷ es) word k → begins word z ≡ true → length word ≤ n)
longest_step true x es z n bound m here falls below member e =
    let pair : (x.1, length x.0) ≡ (m, n) = some_is (x.1, length x.0) (m, n) e in
    let size : length x.0 ≡ n = ap (λ p. p.1) pair in (
      inl (begins_take x.0 z here ∙ ap (λ i. take i z) size, ap (λ p. p.0) pair),
      λ word k i b. is_within size word k i,
    )
  where
    is_within : length x.0 ≡ n → (word : List ℕ) (k : Mark) → IsEntry (x ∷ es) word k → length word ≤ n
    is_within size word k (inl y) = omega (arith, size, ap length y.0)
    is_within size word k (inr y) = let more = entry_within (length x.0) es word k falls y in omega (arith, more, size)
longest_step false x es z n bound m here falls below member e =
    (inr (member e), λ word k i b. is_within word k i b)
  where
    is_within : (word : List ℕ) (k : Mark) → IsEntry (x ∷ es) word k → begins word z ≡ true → length word ≤ n
    is_within word k (inl y) b = let clash : true ≡ false = sym b ∙ ap (λ w. begins w z) (sym y.0) ∙ here in cc clash
    is_within word k (inr y) b = below word k y b e

longest_of : (bound : ℕ) (es : List (List ℕ × Mark)) (z : List ℕ) (m : Mark) (n : ℕ) → falling bound es ≡ true → first_of_table es z ≡ Some (m, n)
    → IsEntry es (take n z) m × ((word : List ℕ) (k : Mark) → IsEntry es word k → begins word z ≡ true → length word ≤ n)
longest_of bound [] z m n falls e = absurd (let x : None ≡ Some (m, n) = e in cc x)
longest_of bound (x ∷ es) z m n falls e =
    let more = both_right (nat_le (length x.0) bound) (falling (length x.0) es) falls in
    longest_step (begins x.0 z) x es z n bound m refl more
    (λ word k i b found. (longest_of (length x.0) es z m n more found).1 word k i b)
    (λ found. (longest_of (length x.0) es z m n more found).0) e

pub longest_sign : LongestSign
unfolding sign
longest_sign z m n e = longest_of 3 signs z m n refl e

pub no_sign : NoSign
unfolding sign
no_sign z word k e i b = none_after signs z word k e i b

pub longest_method_sign : LongestMethodSign
unfolding method_sign
longest_method_sign z m n e = longest_of 3 method_signs z m n refl e
