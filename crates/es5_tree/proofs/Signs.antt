-- The table of signs: no sign is empty or begins with a byte of another class, and the first that begins bytes is the longest.
use Rattle.std.proofs.Common.{◌≡◌, ◌≤◌, ◌<◌, ℕ, Bool, true, false, cond, ◌&&◌, nat_le, nat_eq, List, [], ◌∷◌, ◌++◌, take, length, refl, ap, sym, ◌∙◌, subst, arith, Some, None, inl, inr}
use Rattle.std.specs.List.{starts_with}
use Rattle.std.proofs.lemmas.Grind.{common_steps}
use Rattle.std.proofs.lemmas.Slice.Eq.{bytes_eq-Decides}
use Rattle.std.proofs.lemmas.List.{length-take}
use Rattle.es5_tree.specs.declared.sign.Sign.{Sign}
use Rattle.es5_tree.specs.declared.lexing.Class.{Class}
use Rattle.es5_tree.specs.declared.lexing.Class.TheVariants.{Blank, Letter, Digit, Quote, Other}
use Rattle.es5_tree.specs.Characters.{class_of}
use Rattle.es5_tree.specs.Signs.{first_of, signs, sign_at, IsEntry, LongestSign, NoSign}

pub and_left : (a b : Bool) → (a && b) ≡ true → a ≡ true
and_left true b h = refl
and_left false b h = h

pub and_right : (a b : Bool) → (a && b) ≡ true → b ≡ true
and_right true b h = h
and_right false b h = cc

-- ---- how a sign begins bytes

pub starts_take : (bytes word : List ℕ) → starts_with nat_eq bytes word ≡ true → word ≡ take (length word) bytes
starts_take bytes word e = (bytes_eq-Decides word (take (length word) bytes)).0 e

take_front : (xs ys : List ℕ) → take (length xs) (xs ++ ys) ≡ xs
take_front [] ys = refl
take_front (x ∷ xs) ys = ap (λ l. x ∷ l) (take_front xs ys)

starts_front : (word rest : List ℕ) → starts_with nat_eq (word ++ rest) word ≡ true
starts_front word rest = (bytes_eq-Decides word (take (length word) (word ++ rest))).1 (sym (take_front word rest))

-- ---- what holds of each entry

abbrev is_other : Class → Bool
is_other Other = true
is_other class = false

-- its first byte begins no blank, word or literal
abbrev begins_other : List ℕ → Bool
begins_other [] = false
begins_other (byte ∷ bytes) = is_other (class_of byte)

abbrev all_other : List (List ℕ × Sign) → Bool
all_other [] = true
all_other (entry ∷ entries) = begins_other entry.0 && all_other entries

signs_other : all_other signs ≡ true
signs_other = refl

other_is : (class : Class) → is_other class ≡ true → class ≡ Other
other_is Other e = refl
other_is Blank e = cc
other_is Letter e = cc
other_is Digit e = cc
other_is Quote e = cc

abbrev pub class_at : List ℕ → Class
class_at [] = Other
class_at (byte ∷ bytes) = class_of byte

word_class : (bytes word : List ℕ) → begins_other word ≡ true → starts_with nat_eq bytes word ≡ true → (class_at bytes ≡ Other) × (0 < length word) × (length word ≤ length bytes)
word_class bytes [] o e = cc
word_class [] (byte ∷ word) o e = cc
word_class (byte ∷ bytes) (first ∷ word) o e =
    let same = starts_take (byte ∷ bytes) (first ∷ word) e in
    let first_same : first ≡ byte = cc in (
      ap class_of (sym first_same) ∙ other_is (class_of first) o,
      omega arith,
      omega (arith, ap length same, length-take (length (first ∷ word)) (byte ∷ bytes)),
    )

pub some_same : (p q : Sign × ℕ) → Some p ≡ Some q → p ≡ q
some_same p q e = cc

-- what a sign of the table is like
first_class : (entries : List (List ℕ × Sign)) (bytes : List ℕ) (sign : Sign) (n : ℕ) → all_other entries ≡ true → first_of entries bytes ≡ Some (sign, n) → (class_at bytes ≡ Other) × (0 < n) × (n ≤ length bytes)
first_class [] bytes sign n o e = cc
first_class (entry ∷ entries) bytes sign n o e = by (λ f. first_class entries bytes sign n (and_right (begins_other entry.0) (all_other entries) o) f) (starts_with nat_eq bytes entry.0) refl e
  where
    by : (first_of entries bytes ≡ Some (sign, n) → (class_at bytes ≡ Other) × (0 < n) × (n ≤ length bytes)) → (b : Bool) → starts_with nat_eq bytes entry.0 ≡ b → cond b (Some (entry.1, length entry.0)) (first_of entries bytes) ≡ Some (sign, n) → (class_at bytes ≡ Other) × (0 < n) × (n ≤ length bytes)
    by more true s f =
        let found = word_class bytes entry.0 (and_left (begins_other entry.0) (all_other entries) o) s in
        let size : length entry.0 ≡ n = ap (λ p. p.1) (some_same (entry.1, length entry.0) (sign, n) f) in
        (found.0, omega (arith, found.1, size), omega (arith, found.2, size))
    by more false s f = more f

pub sign_class : (bytes : List ℕ) (sign : Sign) (n : ℕ) → sign_at bytes ≡ Some (sign, n) → class_at bytes ≡ Other
unfolding sign_at
sign_class bytes sign n e = (first_class signs bytes sign n signs_other e).0

pub sign_fits : (bytes : List ℕ) (sign : Sign) (n : ℕ) → sign_at bytes ≡ Some (sign, n) → (0 < n) × (n ≤ length bytes)
unfolding sign_at
sign_fits bytes sign n e = let found = first_class signs bytes sign n signs_other e in (found.1, found.2)

pub no_sign_at_end : sign_at [] ≡ None
unfolding sign_at
no_sign_at_end = refl

-- ---- the longest

-- no sign is longer than n, and none than one before it
abbrev falling : ℕ → List (List ℕ × Sign) → Bool
falling n [] = true
falling n (entry ∷ entries) = nat_le (length entry.0) n && falling (length entry.0) entries

le_of : (a b : ℕ) → nat_le a b ≡ true → a ≤ b
le_of a b h = grind (arith, common_steps)

entry_within : (n : ℕ) (entries : List (List ℕ × Sign)) (word : List ℕ) (sign : Sign) → falling n entries ≡ true → IsEntry entries word sign → length word ≤ n
entry_within n [] word sign h i = absurd i
entry_within n (entry ∷ entries) word sign h (inl x) = let first = le_of (length entry.0) n (and_left _ _ h) in omega (arith, first, ap length x.0)
entry_within n (entry ∷ entries) word sign h (inr y) =
    let first = le_of (length entry.0) n (and_left _ _ h) in
    let more = entry_within (length entry.0) entries word sign (and_right (nat_le (length entry.0) n) _ h) y in
    omega (arith, first, more)

-- the entry begins the bytes
starts_by : (bytes word rest : List ℕ) → bytes ≡ word ++ rest → starts_with nat_eq bytes word ≡ true
starts_by bytes word rest e = subst (λ b. starts_with nat_eq b word ≡ true) (sym e) (starts_front word rest)

none_of : (entries : List (List ℕ × Sign)) (bytes word rest : List ℕ) (sign : Sign) → first_of entries bytes ≡ None → IsEntry entries word sign → bytes ≡ word ++ rest → ⊥
none_of [] bytes word rest sign e i s = i
none_of (entry ∷ entries) bytes word rest sign e i s = by (λ f y. none_of entries bytes word rest sign f y s) (starts_with nat_eq bytes entry.0) refl e i
  where
    by : (first_of entries bytes ≡ None → IsEntry entries word sign → ⊥) → (b : Bool) → starts_with nat_eq bytes entry.0 ≡ b → cond b (Some (entry.1, length entry.0)) (first_of entries bytes) ≡ None → IsEntry (entry ∷ entries) word sign → ⊥
    by more true t f i = cc
    by more false t f (inl y) = let clash : true ≡ false = sym (starts_by bytes word rest s) ∙ ap (λ w. starts_with nat_eq bytes w) (sym y.0) ∙ t in cc
    by more false t f (inr y) = more f y

-- an entry, and no longer one begins the bytes
abbrev Longest : List (List ℕ × Sign) → List ℕ → Sign → ℕ → Type 0
Longest entries bytes sign n = IsEntry entries (take n bytes) sign × ((word rest : List ℕ) (other : Sign) → IsEntry entries word other → bytes ≡ word ++ rest → length word ≤ n)

longest_of : (bound : ℕ) (entries : List (List ℕ × Sign)) (bytes : List ℕ) (sign : Sign) (n : ℕ) → falling bound entries ≡ true → first_of entries bytes ≡ Some (sign, n) → Longest entries bytes sign n
longest_of bound [] bytes sign n h e = cc
longest_of bound (entry ∷ entries) bytes sign n h e = by (λ f. longest_of (length entry.0) entries bytes sign n (and_right (nat_le (length entry.0) bound) (falling (length entry.0) entries) h) f) (starts_with nat_eq bytes entry.0) refl e
  where
    falls : falling (length entry.0) entries ≡ true
    falls = and_right (nat_le (length entry.0) bound) (falling (length entry.0) entries) h

    within : length entry.0 ≡ n → (word : List ℕ) (other : Sign) → IsEntry (entry ∷ entries) word other → length word ≤ n
    within size word other (inl y) = omega (arith, size, ap length y.0)
    within size word other (inr y) = let more = entry_within (length entry.0) entries word other falls y in omega (arith, more, size)

    later : starts_with nat_eq bytes entry.0 ≡ false → Longest entries bytes sign n → (word rest : List ℕ) (other : Sign) → IsEntry (entry ∷ entries) word other → bytes ≡ word ++ rest → length word ≤ n
    later t l word rest other (inl y) s = let clash : true ≡ false = sym (starts_by bytes word rest s) ∙ ap (λ w. starts_with nat_eq bytes w) (sym y.0) ∙ t in cc
    later t l word rest other (inr y) s = l.1 word rest other y s

    by : (first_of entries bytes ≡ Some (sign, n) → Longest entries bytes sign n) → (b : Bool) → starts_with nat_eq bytes entry.0 ≡ b → cond b (Some (entry.1, length entry.0)) (first_of entries bytes) ≡ Some (sign, n) → Longest (entry ∷ entries) bytes sign n
    by more true t f =
        let same = some_same (entry.1, length entry.0) (sign, n) f in
        let size : length entry.0 ≡ n = ap (λ p. p.1) same in
        (inl (starts_take bytes entry.0 t ∙ ap (λ k. take k bytes) size, ap (λ p. p.0) same), λ word rest other i s. within size word other i)
    by more false t f = let found = more f in (inr found.0, later t found)

pub longest_sign_is : LongestSign
unfolding sign_at
longest_sign_is bytes sign n e = longest_of 3 signs bytes sign n refl e

pub no_sign_is : NoSign
unfolding sign_at
no_sign_is bytes word rest sign e i s = none_of signs bytes word rest sign e i s
