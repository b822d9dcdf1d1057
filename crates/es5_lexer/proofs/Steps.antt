-- What stands at the front, and one step of the loop over the characters of a literal.
use Rattle.std.proofs.Common.{◌≡◌, ℕ, ◌+◌, ◌-◌, ◌*◌, nat_lt, lt-ltb, ◌<◌, ◌≤◌, cond, List, [], ◌∷◌, ◌++◌, Option, Some, None, true, false, take, drop, length, get_or, slice_index, take_while, refl, sym, ap, ◌∙◌, subst, arith, add-one, drop-cons, append_assoc}
use Rattle.std.specs.Prelude.{pos}
use Rattle.std.specs.List.{prefix_len}
use Rattle.std.proofs.lemmas.List.{take_rest, drop-drop, append-nil, drop_all, take-append-drop, length-take-le}
use Rattle.es5_tree.specs.declared.token.EsTokenKind.TheVariants as kind
use Rattle.es5_tree.specs.declared.token.EsMark.{EsMark}
use Rattle.es5_tree.specs.declared.lexing.Class.{Class}
use Rattle.es5_tree.specs.declared.lexing.Restriction.{Restriction}
use Rattle.es5_tree.specs.declared.lexing.Class.TheVariants.{Letter, Digit, Quote, Other}
use Rattle.es5_tree.specs.declared.sign.Sign.{Sign}
use Rattle.es5_tree.specs.declared.sign.Sign.TheVariants as sign
use Rattle.es5_tree.specs.Characters.{is_digit, is_name_part, class_of}
use Rattle.es5_tree.specs.Literals.{character, Characters, Unquoted}
use Rattle.es5_tree.specs.Numerals.{value, numeral, goes_on}
use Rattle.es5_tree.specs.Signs.{sign_at}
use Rattle.es5_tree.specs.Tokens.{Word, Num, Str, Mark, Stuck, allows, StuckAt}
use Rattle.es5_tree.proofs.Signs.{class_at, sign_fits}
use Rattle.es5_tree.proofs.Cutting.{NoMark, no_character, end_unquoted, next_unquoted, quote_stuck, digit_stuck, digits_go_on, no_numeral, digits_some, not_allowed, other_stuck, word_stands}
use Rattle.es5_lexer.specs.declared.piece.Piece.{Piece}
use Rattle.es5_lexer.specs.Pieces.{QuotedOrNot, PieceAt, PieceOrNot, CommentOrNot}

-- the bytes from an index on, as a part of a slice
abbrev pub from : List ℕ → ℕ → List ℕ
from bytes end = take (length bytes - end) (drop end bytes)

-- all but the first byte, as a part of a slice
abbrev pub tail : List ℕ → List ℕ
tail bytes = take (length bytes - 1) (drop 1 bytes)

tail_is : (byte : ℕ) (more : List ℕ) → tail (byte ∷ more) ≡ more
tail_is byte more = take_rest (byte ∷ more) 1

one_more : (size byte : ℕ) (more : List ℕ) → drop (size + 1) (byte ∷ more) ≡ drop size more
one_more size byte more = ap (λ n. drop n (byte ∷ more)) (add-one size)

-- ---- pieces

pub mark_at : (bytes : List ℕ) (s : Sign) (mark : EsMark) (size : ℕ) → sign_at bytes ≡ Some (s, size) → s ≡ sign.Mark mark → PieceAt bytes (Some (kind.Mark mark)) size
mark_at bytes s mark size found is =
    let e : sign_at bytes ≡ Some (sign.Mark mark, size) = found ∙ ap (λ k. Some (k, size)) is in
    let fits = sign_fits bytes (sign.Mark mark) size e in
    record { form = Mark mark; is = refl; stands = (size, e, refl); some = fits.0; within = fits.1 }

pub refused_mark : (bytes : List ℕ) (s : Sign) (size : ℕ) → sign_at bytes ≡ Some (s, size) → s ≡ sign.Refused → NoMark (sign_at bytes)
refused_mark bytes s size found is =
    let e : sign_at bytes ≡ Some (sign.Refused, size) = found ∙ ap (λ k. Some (k, size)) is in
    subst NoMark (sym e) tt

pub no_mark : (bytes : List ℕ) → sign_at bytes ≡ None → NoMark (sign_at bytes)
no_mark bytes e = subst NoMark (sym e) tt

class_first : (bytes : List ℕ) (class : Class) → 0 < length bytes → class_of (slice_index bytes 0) ≡ class → class_at bytes ≡ class
class_first [] class l c = absurd (omega (arith, l))
class_first (byte ∷ bytes) class l c = c

pub other_at : (bytes : List ℕ) (piece : Option Piece) → 0 < length bytes → class_of (slice_index bytes 0) ≡ Other → NoMark (sign_at bytes) → CommentOrNot bytes piece → PieceOrNot bytes piece
other_at bytes None l c n h = other_stuck bytes (class_first bytes Other l c) n h
other_at bytes (Some piece) l c n h = h

-- ---- numerals

pub number_at : (bytes : List ℕ) (size value : ℕ) → size ≡ prefix_len is_digit bytes → size ≤ length bytes → goes_on (from bytes size) ≡ false → numeral (take size bytes) ≡ Some value → PieceAt bytes (Some (kind.Num (pos value))) size
number_at bytes size value e w g n =
    let digits : take size bytes ≡ take_while is_digit bytes = ap (λ k. take k bytes) e in
    record {
      form = Num value;
      is = refl;
      stands = (
        ap numeral (sym digits) ∙ n,
        sym (take-append-drop size bytes) ∙ ap (λ d. d ++ drop size bytes) digits,
        ap goes_on (sym (take_rest bytes size)) ∙ g,
      );
      some = positive size (take size bytes) value n (length-take-le size bytes w);
      within = w;
    }
  where
    positive : (size : ℕ) (digits : List ℕ) (value : ℕ) → numeral digits ≡ Some value → length digits ≡ size → 0 < size
    positive size digits value n l = omega (arith, l, digits_some digits value n)

pub no_number : (bytes : List ℕ) (size : ℕ) → 0 < length bytes → class_of (slice_index bytes 0) ≡ Digit → size ≡ prefix_len is_digit bytes → numeral (take size bytes) ≡ None → Stuck bytes
no_number bytes size l c e n = digit_stuck bytes (class_first bytes Digit l c) (no_numeral bytes (ap (λ k. numeral (take k bytes)) (sym e) ∙ n))

pub number_goes_on : (bytes : List ℕ) (size : ℕ) → 0 < length bytes → class_of (slice_index bytes 0) ≡ Digit → size ≡ prefix_len is_digit bytes → goes_on (from bytes size) ≡ true → Stuck bytes
number_goes_on bytes size l c e g = digit_stuck bytes (class_first bytes Digit l c) (digits_go_on bytes (ap goes_on (ap (λ k. drop k bytes) (sym e) ∙ sym (take_rest bytes size)) ∙ g))

-- ---- words and string literals

pub word_at : (bytes text : List ℕ) (size : ℕ) → 0 < length bytes → class_of (slice_index bytes 0) ≡ Letter → size ≡ prefix_len is_name_part (tail bytes) → size ≤ length (tail bytes) → text ≡ take (size + 1) bytes → PieceAt bytes (Some (kind.Word text)) (size + 1)
word_at [] text size l c e w t = absurd (omega (arith, l))
word_at (byte ∷ more) text size l c e w t =
    let count : size ≡ prefix_len is_name_part more = e ∙ ap (prefix_len is_name_part) (tail_is byte more) in
    let name : text ≡ byte ∷ take_while is_name_part more = t ∙ ap (λ n. take n (byte ∷ more)) (add-one size) ∙ ap (λ n. byte ∷ take n more) count in
    let rest : drop (size + 1) (byte ∷ more) ≡ drop (prefix_len is_name_part more) more = one_more size byte more ∙ ap (λ n. drop n more) count in
    let whole = word_stands byte more c in
    record {
      form = Word (byte ∷ take_while is_name_part more);
      is = ap (λ n. Some (kind.Word n)) name;
      stands = (byte, more, refl, c, refl, whole.5 ∙ ap (λ r. byte ∷ take_while is_name_part more ++ r) (sym rest));
      some = omega arith;
      within = omega (arith, w, ap length (tail_is byte more));
    }

pub string_at : (bytes text : List ℕ) (size : ℕ) → 0 < length bytes → class_of (slice_index bytes 0) ≡ Quote → QuotedOrNot (slice_index bytes 0) (tail bytes) (Some (text, size)) → PieceAt bytes (Some (kind.Str text)) (size + 1)
string_at [] text size l c h = absurd (omega (arith, l))
string_at (byte ∷ more) text size l c h = record {
  form = Str text;
  is = refl;
  stands = (
    byte,
    more,
    refl,
    c,
    subst (λ r. Characters byte text more r) (sym (one_more size byte more)) (subst (λ b. Characters byte text b (drop size b)) (tail_is byte more) h.0),
  );
  some = omega arith;
  within = omega (arith, h.1, ap length (tail_is byte more));
}

pub no_string : (bytes : List ℕ) → 0 < length bytes → class_of (slice_index bytes 0) ≡ Quote → QuotedOrNot (slice_index bytes 0) (tail bytes) None → Stuck bytes
no_string [] l c h = absurd (omega (arith, l))
no_string (byte ∷ more) l c h = quote_stuck byte more c (subst (λ b. Unquoted byte b) (tail_is byte more) h)

-- ---- the characters of a literal

next_byte : (bytes : List ℕ) (end : ℕ) → end < length bytes → drop end bytes ≡ get_or bytes end 0 ∷ drop (end + 1) bytes
next_byte bytes end l = drop-cons bytes end 0 l ∙ ap (λ n. get_or bytes end 0 ∷ drop n bytes) (sym (add-one end))

abbrev SoFar : ℕ → List ℕ → List ℕ → ℕ → Type 0
SoFar quote text bytes end = (more rest : List ℕ) → Characters quote more (drop end bytes) rest → Characters quote (text ++ more) bytes rest

pub quote_closes : (quote : ℕ) (text bytes : List ℕ) (end : ℕ) → SoFar quote text bytes end → end < length bytes → get_or bytes end 0 ≡ quote → Characters quote text bytes (drop (end + 1) bytes)
quote_closes quote text bytes end so_far l e =
    subst (λ t. Characters quote t bytes (drop (end + 1) bytes)) (append-nil text)
    (so_far [] (drop (end + 1) bytes) (next_byte bytes end l ∙ ap (λ b. b ∷ drop (end + 1) bytes) e))

pub no_text_here : (quote : ℕ) (bytes : List ℕ) (end : ℕ) → end < length bytes → (get_or bytes end 0 ≡ quote → ⊥) → character quote (from bytes end) ≡ None → Unquoted quote (drop end bytes)
no_text_here quote bytes end l n e =
    let here = next_byte bytes end l in
    subst (Unquoted quote) (sym here) (no_character quote (get_or bytes end 0) (drop (end + 1) bytes) n (ap (character quote) (sym (take_rest bytes end ∙ here)) ∙ e))

pub no_text_at_end : (quote : ℕ) (bytes : List ℕ) (end : ℕ) → length bytes ≤ end → Unquoted quote (drop end bytes)
no_text_at_end quote bytes end l = subst (Unquoted quote) (sym (drop_all end bytes l)) (end_unquoted quote)

pub so_far_more : (quote unit size : ℕ) (text bytes : List ℕ) (end : ℕ) → SoFar quote text bytes end → character quote (from bytes end) ≡ Some (unit, size) → SoFar quote (text ++ unit ∷ []) bytes (end + size)
so_far_more quote unit size text bytes end so_far e more rest h =
    subst (λ t. Characters quote t bytes rest) (sym (append_assoc text (unit ∷ []) more))
    (so_far (unit ∷ more) rest (size, ap (character quote) (sym (take_rest bytes end)) ∙ e, subst (λ b. Characters quote more b rest) (sym (drop-drop size end bytes)) h))

pub none_more : (quote unit size : ℕ) (bytes : List ℕ) (end : ℕ) → end < length bytes → (get_or bytes end 0 ≡ quote → ⊥) → character quote (from bytes end) ≡ Some (unit, size) → Unquoted quote (drop (end + size) bytes) → Unquoted quote (drop end bytes)
none_more quote unit size bytes end l n e none =
    let here = next_byte bytes end l in
    subst (Unquoted quote) (sym here)
    (next_unquoted quote (get_or bytes end 0) unit size (drop (end + 1) bytes) n (ap (character quote) (sym (take_rest bytes end ∙ here)) ∙ e)
    (subst (λ b. Unquoted quote (drop size b)) here (subst (Unquoted quote) (sym (drop-drop size end bytes)) none)))

-- ---- the value of digits

pub value_grows : (digits : List ℕ) (high : ℕ) → high ≤ value high digits
value_grows [] high = omega arith
value_grows (digit ∷ digits) high = omega (arith, value_grows digits (high * 10 + (digit - 48)))

pub too_large : (rest : List ℕ) (high whole : ℕ) → 1 ≤ length rest → value high rest ≡ whole → 9007199254740991 < high * 10 + (get_or rest 0 0 - 48) → None ≡ cond (nat_lt 9007199254740991 whole) None (Some whole)
too_large [] high whole l e h = absurd (omega (arith, l))
too_large (digit ∷ digits) high whole l e h =
    let test = lt-ltb 9007199254740991 whole (omega (arith, e, h, value_grows digits (high * 10 + (digit - 48)))) in
    ap (λ b. cond b None (Some whole)) (sym test)

-- ---- what may come

pub not_allowed_at : (restriction : Restriction) (bytes : List ℕ) (piece : Piece) → PieceAt bytes piece.kind piece.size → false ≡ allows restriction piece.kind → StuckAt restriction bytes
not_allowed_at restriction bytes piece h e = not_allowed restriction bytes h.form _ h.stands (ap (allows restriction) (sym h.is) ∙ sym e)
