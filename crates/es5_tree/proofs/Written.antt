-- What a writer spells is read back.
use Rattle.std.proofs.Common.{◌≡◌, ℕ, zero, suc, ◌⊎◌, inl, inr, ⊎_elim, eq-eqb, ◌<◌, ◌≤◌, ◌^◌, Bool, true, false, cond, ◌&&◌, ◌||◌, ◌==◌, nat_lt, get_or, le-ltb, List, [], ◌∷◌, ◌++◌, Some, None, take_while, length, refl, sym, ap, ◌∙◌, subst, arith, append_assoc}
use Rattle.std.specs.Fmt.{decimal}
use Rattle.std.specs.List.{list_all, flat_map}
use Rattle.std.proofs.lemmas.Fmt.{decimal_digit, digits_decimal, digits_value-decimal, decimal-digits_value, first_decimal}
use Rattle.std.proofs.lemmas.Grind.{common_steps}
use Rattle.std.proofs.lemmas.List.Sums.{take_while-cons}
use Rattle.std.proofs.lemmas.Str.Parse.{IsNumeralModel, numerals_by_fold}
use Rattle.es5_tree.specs.declared.lexing.Class.TheVariants.{Blank, Letter, Digit, Quote, Other}
use Rattle.es5_tree.specs.Characters.{is_blank, is_letter, is_digit, is_quote, is_name_part, begins, class_of}
use Rattle.es5_tree.specs.Numerals.{value, is_no_numeral, numeral}
use Rattle.es5_tree.specs.Text.{escaped}
use Rattle.es5_tree.specs.Written.{DigitsRead, DigitsWritten, NumberStands, WordStands, TextStands}
use Rattle.es5_tree.proofs.Escapes.{characters_back}
use Rattle.es5_tree.proofs.Signs.{and_left, and_right}
use Rattle.es5_tree.proofs.Slices.{below_safe}

-- ---- runs

stops : (test : ℕ → Bool) (rest : List ℕ) → begins test rest ≡ false → take_while test rest ≡ []
stops test [] e = refl
stops test (byte ∷ rest) e = take_while-cons test byte rest ∙ ap (λ b. cond b (byte ∷ take_while test rest) []) e

-- the bytes that pass are the whole run where the next one fails
pub whole_run : (test : ℕ → Bool) (run rest : List ℕ) → list_all test run ≡ true → begins test rest ≡ false → take_while test (run ++ rest) ≡ run
whole_run test [] rest a e = stops test rest e
whole_run test (byte ∷ run) rest a e =
    take_while-cons test byte (run ++ rest)
    ∙ ap (λ b. cond b (byte ∷ take_while test (run ++ rest)) []) (and_left (test byte) (list_all test run) a)
    ∙ ap (λ l. byte ∷ l) (whole_run test run rest (and_right (test byte) (list_all test run) a) e)

-- ---- numerals

digit_range : (byte : ℕ) → is_digit byte ≡ true → (48 ≤ byte) × (byte ≤ 57)
digit_range byte e = grind (arith, common_steps)

range_digit : (byte : ℕ) → 48 ≤ byte → byte ≤ 57 → is_digit byte ≡ true
range_digit byte l h = grind (arith, common_steps)

abbrev Digits : List ℕ → Type 0
Digits digits = list_all is_digit digits ≡ true

both : (a b : Bool) → a ≡ true → b ≡ true → (a && b) ≡ true
both true true e f = refl
both true false e f = f
both false b e f = e

own : IsNumeralModel Digits (value 0)
own = numerals_by_fold Digits (record {
  empty = refl;
  parts = λ c cs p. (digit_range c (and_left (is_digit c) (list_all is_digit cs) p), and_right (is_digit c) (list_all is_digit cs) p);
  more = λ c cs r p. both (is_digit c) (list_all is_digit cs) (range_digit c r.0 r.1) p;
}) value (record { empty = λ n. refl; more = λ n c cs r. refl })

-- a run that begins with no zero is a numeral
no_zero : (digits : List ℕ) → 48 < get_or digits 0 0 → is_no_numeral digits ≡ false
no_zero [] l = absurd (omega (arith, l))
no_zero (digit ∷ []) l = refl
no_zero (digit ∷ next ∷ digits) l = other digit l
  where
    other : (digit : ℕ) → 48 < digit → (digit == 48) ≡ false
    other digit l = grind (arith, common_steps)

read_by : (a b : Bool) (v n : ℕ) → a ≡ false → b ≡ false → v ≡ n → cond (a || b) None (Some v) ≡ Some n
read_by true b v n e f g = cc
read_by false true v n e f g = cc
read_by false false v n e f g = ap Some g

pub digits_read_is : DigitsRead
unfolding numeral
digits_read_is n l =
    let same : value 0 (decimal n) ≡ n = digits_value-decimal own n (omega (arith, l)) in
    let small : nat_lt 9007199254740991 (value 0 (decimal n)) ≡ false = ap (nat_lt 9007199254740991) same ∙ le-ltb 9007199254740991 n (omega (arith, l)) in
    ⊎_elim
    (λ z. subst (λ k. numeral (decimal k) ≡ Some k) {x = 0} {y = n} (sym z) (ap numeral (decimal_digit 0 (omega arith))))
    (λ p. read_by (is_no_numeral (decimal n)) _ (value 0 (decimal n)) n (no_zero (decimal n) (first_decimal n p (omega (arith, l)))) small same)
    (zero_or_more n)
  where
    zero_or_more : (n : ℕ) → (n ≡ 0) ⊎ (0 < n)
    zero_or_more zero = inl refl
    zero_or_more (suc n) = inr (omega arith)

parts : (a b : Bool) (v n : ℕ) → cond (a || b) None (Some v) ≡ Some n → (a ≡ false) × (b ≡ false) × (v ≡ n)
parts true b v n e = absurd (let clash : None ≡ Some n = e in cc)
parts false true v n e = absurd (let clash : None ≡ Some n = e in cc)
parts false false v n e = (refl, refl, cc)

one_zero : (digits : List ℕ) → is_no_numeral digits ≡ false → (0 < length digits) × (get_or digits 0 0 ≡ 48 → length digits ≡ 1)
one_zero [] e = absurd (let clash : true ≡ false = e in cc)
one_zero (digit ∷ []) e = (omega arith, λ z. refl)
one_zero (digit ∷ next ∷ digits) e = (omega arith, λ z. absurd (let clash : true ≡ false = sym (eq-eqb digit 48 z) ∙ e in cc))

pub digits_written_is : DigitsWritten
unfolding numeral
digits_written_is digits n a e =
    let p = parts (is_no_numeral digits) (nat_lt 9007199254740991 (value 0 digits)) (value 0 digits) n e in
    let lead = one_zero digits p.0 in
    let small : value 0 digits < 2 ^ 53 = below_safe (value 0 digits) p.1 in
    (sym (decimal-digits_value own digits a lead.0 lead.1 (omega (arith, small))) ∙ ap decimal p.2, omega (arith, small, p.2))

pub number_stands_is : NumberStands
number_stands_is n rest l e g =
    let whole = whole_run is_digit (decimal n) rest (digits_decimal own n (omega (arith, l))) e in
    (ap numeral whole ∙ digits_read_is n l, ap (λ l. l ++ rest) (sym whole), g)

-- ---- words

letter_test : (a b c d : Bool) → a ≡ false → b ≡ true → cond a Blank (cond b Letter (cond c Digit (cond d Quote Other))) ≡ Letter
letter_test true b c d e f = cc
letter_test false true c d e f = refl
letter_test false false c d e f = cc

letter_no_blank : (byte : ℕ) → is_letter byte ≡ true → is_blank byte ≡ false
letter_no_blank byte e = grind (arith, common_steps)

pub letter_class : (byte : ℕ) → is_letter byte ≡ true → class_of byte ≡ Letter
letter_class byte e = letter_test (is_blank byte) (is_letter byte) (is_digit byte) (is_quote byte) (letter_no_blank byte e) e

pub word_stands_is : WordStands
word_stands_is first more rest l a e = (first, more ++ rest, refl, letter_class first l, ap (λ run. first ∷ run) (sym (whole_run is_name_part more rest a e)), refl)

-- ---- string literals

pub text_stands_is : TextStands
text_stands_is text rest h =
    (34, flat_map escaped text ++ 34 ∷ rest, ap (λ l. 34 ∷ l) (append_assoc (flat_map escaped text) (34 ∷ []) rest), refl, characters_back text rest h)
