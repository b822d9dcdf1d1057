-- How long decoded texts are, and how large their units.
use Rattle.std.proofs.Common.{◌≡◌, ℕ, ◌+◌, ◌-◌, ◌*◌, ◌/◌, ◌%◌, ◌<◌, ◌≤◌, ◌^◌, ◌⊎◌, true, List, [], ◌∷◌, ◌++◌, length, refl, sym, ap, ◌∙◌, subst, arith, length-append, ⊎_elim, le-ltb, encode_utf8_all, encode_utf8}
use Rattle.std.specs.List.{flat_map, AllByRecursion}
use Rattle.std.specs.Char.{len_utf8}
use Rattle.std.specs.Char.Escape.{encode_utf16}
use Rattle.std.proofs.Math.Utf8.{scalar, scalars, scalar_cases}
use Rattle.std.proofs.lemmas.Bool.{and_parts, cases_lt}
use Rattle.std.proofs.lemmas.Str.{length-encode, len_utf8_bounds}
use Rattle.opal_base.specs.Text.{IsDecoded}
use Rattle.opal_base.specs.Laws.{DecodedFits}
use Rattle.opal_base.proofs.Texts.{one_unit, two_units}

-- what holds of two lists' members holds of those of both
pub AllByRecursion-append : (P : ℕ → Type 0) (xs ys : List ℕ) → AllByRecursion P xs → AllByRecursion P ys → AllByRecursion P (xs ++ ys)
AllByRecursion-append P [] ys p q = q
AllByRecursion-append P (x ∷ xs) ys p q = (p.0, AllByRecursion-append P xs ys p.1 q)

four_bytes : (c : ℕ) → 0x1_0000 ≤ c → len_utf8 c ≡ 4
four_bytes c from =
    let a : 0x80 ≤ c = omega arith in
    let b : 0x800 ≤ c = omega arith in
    rw (le-ltb c 0x80 a, le-ltb c 0x800 b, le-ltb c 0x1_0000 from) refl

-- a character has no more units than bytes
shorter_char : (c : ℕ) → length (encode_utf16 c) ≤ length (encode_utf8 c)
shorter_char c = ⊎_elim
    (λ short. let e = ap length (one_unit c short) in let f = length-encode c in let b = len_utf8_bounds c in omega (arith, e, f, b.0))
    (λ long. let e = ap length (two_units c long) in let f = length-encode c in let b = four_bytes c long in omega (arith, e, f, b))
    (cases_lt c 0x1_0000)

shorter : (cs : List ℕ) → length (flat_map encode_utf16 cs) ≤ length (encode_utf8_all cs)
shorter [] = omega arith
shorter (c ∷ cs) =
    let a = length-append (encode_utf16 c) (flat_map encode_utf16 cs) in
    let b = length-append (encode_utf8 c) (encode_utf8_all cs) in
    omega (arith, shorter_char c, shorter cs, a, b)

abbrev IsUnit : ℕ → Type 0
IsUnit u = u < 2 ^ 16

-- the units of a scalar value fit 16 bits
units_of_char : (c : ℕ) → c < 0x11_0000 → AllByRecursion IsUnit (encode_utf16 c)
units_of_char c below = ⊎_elim
    (λ short. subst (AllByRecursion IsUnit) (sym (one_unit c short)) (omega arith, tt))
    (λ long. subst (AllByRecursion IsUnit) (sym (two_units c long)) (omega arith, (omega arith, tt)))
    (cases_lt c 0x1_0000)

scalar_below : (c : ℕ) → scalar c ≡ true → c < 0x11_0000
scalar_below c is = ⊎_elim (λ low. omega arith) (λ high. omega arith) (scalar_cases c is)

units_fit : (cs : List ℕ) → scalars cs ≡ true → AllByRecursion IsUnit (flat_map encode_utf16 cs)
units_fit [] are = tt
units_fit (c ∷ cs) are =
    let both = and_parts (scalar c) (scalars cs) are in
    AllByRecursion-append IsUnit (encode_utf16 c) (flat_map encode_utf16 cs) (units_of_char c (scalar_below c both.0)) (units_fit cs both.1)

pub decoded_shorter : (bytes units : List ℕ) → IsDecoded bytes units → length units ≤ length bytes
decoded_shorter bytes units d = let e = ap length d.in_utf16 in let f = ap length d.in_utf8 in omega (arith, shorter d.chars, e, f)

pub decoded_fits_is : DecodedFits
decoded_fits_is bytes units d = record { shorter = decoded_shorter bytes units d; of_16_bits = subst (AllByRecursion IsUnit) d.in_utf16 (units_fit d.chars d.are_scalars) }
