-- A unit that is written in a string literal is read back.
use Rattle.std.proofs.Common.{◌≡◌, ℕ, suc, ◌+◌, ◌*◌, ◌/◌, ◌%◌, ◌<◌, ◌≤◌, List, [], ◌∷◌, ◌++◌, Some, length, drop, refl, sym, ap, ◌∙◌, subst, ⊎_elim, arith, append_assoc, lt-ltb, le-ltb, le-leb}
use Rattle.std.specs.List.{flat_map, AllByRecursion}
use Rattle.std.specs.Char.{digit_char}
use Rattle.std.specs.Option.{option_and_then, option_map}
use Rattle.std.proofs.lemmas.Bool.{cases_lt, cases_eq, ne_eqb, lt-leb}
use Rattle.es5_tree.specs.Text.{hex_digits, escaped}
use Rattle.es5_tree.specs.Literals.{hex_value, hex_number, character, Characters}

-- ---- hexadecimal digits

digit_back : (d : ℕ) → d < 16 → hex_value (digit_char d) ≡ Some d
digit_back d l = ⊎_elim (λ h. low d h) (λ h. high d h l) (cases_lt d 10)
  where
    low : (d : ℕ) → d < 10 → hex_value (digit_char d) ≡ Some d
    low d h = rw (lt-ltb d 10 h, le-leb 48 (48 + d) (omega arith), le-leb (48 + d) 57 (omega arith)) (ap Some (omega arith))

    high : (d : ℕ) → 10 ≤ d → d < 16 → hex_value (digit_char d) ≡ Some d
    high d h l = rw (le-ltb d 10 h, le-leb 48 (87 + d) (omega arith), lt-leb (87 + d) 57 (omega arith), le-leb 97 (87 + d) (omega arith), le-leb (87 + d) 102 (omega arith)) (ap Some (omega arith))

next_digit : (high n byte digit : ℕ) (bytes : List ℕ) → hex_value byte ≡ Some digit → hex_number high (suc n) (byte ∷ bytes) ≡ hex_number (high * 16 + digit) n bytes
next_digit high n byte digit bytes e = ap (λ o. option_and_then (λ d. hex_number (high * 16 + d) n bytes) o) e

four_digits : (a b c d : ℕ) (rest : List ℕ) → a < 16 → b < 16 → c < 16 → d < 16 → hex_number 0 4 (digit_char a ∷ digit_char b ∷ digit_char c ∷ digit_char d ∷ rest) ≡ Some ((((0 * 16 + a) * 16 + b) * 16 + c) * 16 + d)
four_digits a b c d rest ha hb hc hd =
    next_digit 0 3 (digit_char a) a (digit_char b ∷ digit_char c ∷ digit_char d ∷ rest) (digit_back a ha)
    ∙ next_digit (0 * 16 + a) 2 (digit_char b) b (digit_char c ∷ digit_char d ∷ rest) (digit_back b hb)
    ∙ next_digit ((0 * 16 + a) * 16 + b) 1 (digit_char c) c (digit_char d ∷ rest) (digit_back c hc)
    ∙ next_digit (((0 * 16 + a) * 16 + b) * 16 + c) 0 (digit_char d) d rest (digit_back d hd)

unit_of_digits : (unit : ℕ) → unit < 65536 → ((((0 * 16 + unit / 4096) * 16 + unit / 256 % 16) * 16 + unit / 16 % 16) * 16 + unit % 16) ≡ unit
unit_of_digits unit l = omega arith

-- four hexadecimal digits are read back
pub hex_back : (unit : ℕ) (rest : List ℕ) → unit < 65536 → hex_number 0 4 (hex_digits unit ++ rest) ≡ Some unit
hex_back unit rest l = four_digits (unit / 4096) (unit / 256 % 16) (unit / 16 % 16) (unit % 16) rest (omega arith) (omega arith) (omega arith) (omega arith) ∙ ap Some (unit_of_digits unit l)

-- ---- one unit

-- the unit is read back, between double quotes
abbrev pub Back : ℕ → List ℕ → Type 0
Back unit rest = character 34 (escaped unit ++ rest) ≡ Some (unit, length (escaped unit))

back_by : (unit : ℕ) (rest bytes : List ℕ) → escaped unit ≡ bytes → character 34 (bytes ++ rest) ≡ Some (unit, length bytes) → Back unit rest
back_by unit rest bytes e h = subst (λ l. character 34 (l ++ rest) ≡ Some (unit, length l)) (sym e) h

plain_back : (unit : ℕ) (rest : List ℕ) → 32 ≤ unit → unit ≤ 126 → (unit ≡ 34 → ⊥) → (unit ≡ 92 → ⊥) → Back unit rest
unfolding character
plain_back unit rest l h n m =
    back_by unit rest (unit ∷ [])
    (rw (ne_eqb unit 34 n, ne_eqb unit 92 m, ne_eqb unit 10 (λ e. omega arith), ne_eqb unit 13 (λ e. omega arith), ne_eqb unit 9 (λ e. omega arith), le-ltb unit 32 l, le-ltb 126 unit h))
    (rw (ne_eqb unit 92 m, ne_eqb unit 34 n, ne_eqb unit 10 (λ e. omega arith), ne_eqb unit 13 (λ e. omega arith), le-ltb 127 unit (omega arith)))

coded_back : (unit : ℕ) (rest : List ℕ) → unit < 65536 → escaped unit ≡ 92 ∷ 117 ∷ hex_digits unit → Back unit rest
unfolding character
coded_back unit rest l e = back_by unit rest (92 ∷ 117 ∷ hex_digits unit) e (ap (λ o. option_map (λ u. (u, 6)) o) (hex_back unit rest l))

-- the units that have no escape of a single character
other_back : (unit : ℕ) (rest : List ℕ) → unit < 65536 → (unit ≡ 34 → ⊥) → (unit ≡ 92 → ⊥) → (unit ≡ 10 → ⊥) → (unit ≡ 13 → ⊥) → (unit ≡ 9 → ⊥) → Back unit rest
other_back unit rest l a b c d e =
    ⊎_elim
    (λ low. coded_back unit rest l (rw (ne_eqb unit 34 a, ne_eqb unit 92 b, ne_eqb unit 10 c, ne_eqb unit 13 d, ne_eqb unit 9 e, lt-ltb unit 32 low)))
    (λ from. ⊎_elim
    (λ high. coded_back unit rest l (rw (ne_eqb unit 34 a, ne_eqb unit 92 b, ne_eqb unit 10 c, ne_eqb unit 13 d, ne_eqb unit 9 e, le-ltb unit 32 from, lt-ltb 126 unit high)))
    (λ to. plain_back unit rest from to a b)
    (cases_lt 126 unit))
    (cases_lt unit 32)

-- a unit below 2^16 is read back
pub unit_back : (unit : ℕ) (rest : List ℕ) → unit < 65536 → Back unit rest
unfolding character
unit_back unit rest l =
    ⊎_elim (λ e. at 34 refl e) (λ a.
    ⊎_elim (λ e. at 92 refl e) (λ b.
    ⊎_elim (λ e. at 10 refl e) (λ c.
    ⊎_elim (λ e. at 13 refl e) (λ d.
    ⊎_elim (λ e. at 9 refl e) (λ e. other_back unit rest l a b c d e)
    (cases_eq unit 9)) (cases_eq unit 13)) (cases_eq unit 10)) (cases_eq unit 92)) (cases_eq unit 34)
  where
    at : (k : ℕ) → Back k rest → unit ≡ k → Back unit rest
    at k h e = subst (λ u. Back u rest) (sym e) h

-- ---- a text

drop_front : (xs ys : List ℕ) → drop (length xs) (xs ++ ys) ≡ ys
drop_front [] ys = refl
drop_front (x ∷ xs) ys = drop_front xs ys

-- the characters of a printed literal stand for the text
pub characters_back : (text rest : List ℕ) → AllByRecursion (λ unit. unit < 65536) text → Characters 34 text (flat_map escaped text ++ 34 ∷ rest) rest
characters_back [] rest h = refl
characters_back (unit ∷ text) rest h =
    let more = flat_map escaped text ++ 34 ∷ rest in
    let e = append_assoc (escaped unit) (flat_map escaped text) (34 ∷ rest) in (
      length (escaped unit),
      ap (character 34) e ∙ unit_back unit more h.0,
      subst (λ l. Characters 34 text l rest) (sym (drop_front (escaped unit) more) ∙ ap (drop (length (escaped unit))) (sym e)) (characters_back text rest h.1),
    )
