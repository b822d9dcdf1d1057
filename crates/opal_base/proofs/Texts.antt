-- Texts as characters, as bytes in UTF-8 and as units in UTF-16.
use Rattle.std.proofs.Common.{◌≡◌, ◌≤◌, ◌<◌, ◌+◌, ◌-◌, ◌/◌, ◌%◌, ◌⊎◌, List, [], ◌∷◌, ◌++◌, ℕ, Some, ap, ◌∙◌, sym, map, true, length, arith, ⊎_elim, inl, inr, unwrap_or, lt-ltb, le-ltb, le-leb, subst, encode_utf8_all}
use Rattle.std.specs.List.{flat_map}
use Rattle.std.specs.Str.{IsUtf8, chars}
use Rattle.std.specs.Char.Escape.{encode_utf16}
use Rattle.std.specs.Char.Utf16.{utf16_chars, utf16_lossy_chars, lone_unit_char, surrogate_pair_char}
use Rattle.std.proofs.Math.Seq.{take-length}
use Rattle.std.proofs.Math.Utf8.{scalar, scalars, scalar_cases}
use Rattle.std.proofs.lemmas.Bool.{and_parts, cases_lt, lt-leb}
use Rattle.std.proofs.lemmas.List.{map-id}
use Rattle.std.proofs.lemmas.Str.{encodes-chars, scalars-chars, encodes_same, utf16_chars-nil, utf16_chars_lone, utf16_chars_pair}
use Rattle.opal_base.specs.Laws.{OneText, TextPrintedBack, DecodedOrNot, OneOffset}
use Rattle.opal_base.specs.Text.{IsDecoded, utf8_of}

-- The units of the characters that a text gave one after the other.
pub decoded_from : (bytes units given : List ℕ) → IsUtf8 bytes → map (λ c. c) given ≡ chars bytes → units ≡ flat_map encode_utf16 given → IsDecoded bytes units
decoded_from bytes units given text all written = record {
  chars = chars bytes;
  are_scalars = scalars-chars bytes text;
  in_utf8 = encodes-chars bytes text;
  in_utf16 = ap (flat_map encode_utf16) (sym all ∙ map-id given) ∙ sym written;
}

-- What was decoded is UTF-8.
pub decoded_utf8 : (bytes units : List ℕ) → IsDecoded bytes units → IsUtf8 bytes
decoded_utf8 bytes units d = (d.chars, (d.are_scalars, d.in_utf8))

pub one_text_is : OneText
one_text_is bytes u v d e = sym d.in_utf16 ∙ ap (flat_map encode_utf16) (encodes_same d.chars e.chars (d.in_utf8 ∙ sym e.in_utf8)) ∙ e.in_utf16

pub decoded_or_not_is : DecodedOrNot
decoded_or_not_is bytes offset until units d = until.longest (length bytes) until.short (subst IsUtf8 (sym (take-length bytes)) (decoded_utf8 bytes units d))

pub one_offset_is : OneOffset
one_offset_is bytes m n p q = ⊎_elim
    (λ less. absurd (p.longest n less q.front))
    (λ not. ⊎_elim (λ less. absurd (q.longest m less p.front)) (λ too. omega arith) (cases_lt n m))
    (cases_lt m n)

-- ---- one character, between its units and the units behind them

lone_is : (c : ℕ) → (c < 0xD800) ⊎ (0xE000 ≤ c) → lone_unit_char c ≡ Some c
lone_is c h = ⊎_elim (λ low. rw (lt-leb 0xD800 c low)) (λ high. let above : 0xD800 ≤ c = omega arith in rw (le-leb 0xD800 c above, le-ltb c 0xE000 high)) h

pub one_unit : (c : ℕ) → c < 0x1_0000 → encode_utf16 c ≡ c ∷ []
one_unit c short = rw (lt-ltb c 0x1_0000 short)

pub two_units : (c : ℕ) → 0x1_0000 ≤ c → encode_utf16 c ≡ (0xD800 + (c - 0x1_0000) / 0x400) ∷ (0xDC00 + (c - 0x1_0000) % 0x400) ∷ []
two_units c from = rw (le-ltb c 0x1_0000 from)

pair_of : (c : ℕ) → 0x1_0000 ≤ c → surrogate_pair_char (0xD800 + (c - 0x1_0000) / 0x400) (0xDC00 + (c - 0x1_0000) % 0x400) ≡ c
pair_of c from = omega arith

short_char : (c : ℕ) (rest : List ℕ) → c < 0x1_0000 → (c < 0xD800) ⊎ (0xE000 ≤ c) → utf16_chars (encode_utf16 c ++ rest) ≡ Some c ∷ utf16_chars rest
short_char c rest short outside =
    ap (λ l. utf16_chars (l ++ rest)) (one_unit c short)
    ∙ utf16_chars_lone c rest (λ pair. ⊎_elim (λ low. omega (arith, pair.0)) (λ high. omega (arith, pair.1)) outside)
    ∙ ap (λ o. o ∷ utf16_chars rest) (lone_is c outside)

long_char : (c : ℕ) (rest : List ℕ) → 0x1_0000 ≤ c → c < 0x11_0000 → utf16_chars (encode_utf16 c ++ rest) ≡ Some c ∷ utf16_chars rest
long_char c rest from below =
    ap (λ l. utf16_chars (l ++ rest)) (two_units c from)
    ∙ utf16_chars_pair (0xD800 + (c - 0x1_0000) / 0x400) (0xDC00 + (c - 0x1_0000) % 0x400) rest (omega arith, omega arith, omega arith, omega arith)
    ∙ ap (λ x. Some x ∷ utf16_chars rest) (pair_of c from)

above_char : (c : ℕ) (rest : List ℕ) → 0xE000 ≤ c → c < 0x11_0000 → (c < 0x1_0000) ⊎ (0x1_0000 ≤ c) → utf16_chars (encode_utf16 c ++ rest) ≡ Some c ∷ utf16_chars rest
above_char c rest from below side = ⊎_elim (λ short. short_char c rest short (inr from)) (λ long. long_char c rest long below) side

char_back : (c : ℕ) (rest : List ℕ) → scalar c ≡ true → utf16_chars (encode_utf16 c ++ rest) ≡ Some c ∷ utf16_chars rest
char_back c rest is = ⊎_elim (λ low. short_char c rest (omega arith) (inl low)) (λ high. above_char c rest high.0 high.1 (cases_lt c 0x1_0000)) (scalar_cases c is)

-- The units of scalar values spell these values again.
pub chars_back : (cs : List ℕ) → scalars cs ≡ true → utf16_lossy_chars (flat_map encode_utf16 cs) ≡ cs
chars_back [] are = ap (λ l. map (λ o. unwrap_or o 0xFFFD) l) utf16_chars-nil
chars_back (c ∷ cs) are =
    let both = and_parts (scalar c) (scalars cs) are in
    ap (λ l. map (λ o. unwrap_or o 0xFFFD) l) (char_back c (flat_map encode_utf16 cs) both.0) ∙ ap (λ l. c ∷ l) (chars_back cs both.1)

pub text_printed_back_is : TextPrintedBack
text_printed_back_is bytes units d = ap utf8_of (sym d.in_utf16) ∙ ap encode_utf8_all (chars_back d.chars d.are_scalars) ∙ d.in_utf8
