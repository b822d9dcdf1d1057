-- What is known of the tokens that bytes are cut into.
use Rattle.std.proofs.Common.{◌≡◌, ℕ, zero, suc, ◌+◌, ◌-◌, ◌*◌, ◌<◌, ◌^◌, Bool, true, false, cond, ◌&&◌, ◌||◌, ◌==◌, nat_lt, List, [], ◌∷◌, ◌++◌, length, take_while, drop, pos, Option, Some, None, ⊎_elim, refl, ap, ◌∙◌, subst, arith}
use Rattle.std.specs.Prelude.{if◌then◌else◌, nat_le}
use Rattle.std.specs.List.{list_all, AllByRecursion}
use Rattle.std.specs.Option.{option_and_then, option_map}
use Rattle.std.proofs.lemmas.Grind.{common_steps}
use Rattle.std.proofs.lemmas.List.Sums.{take_while-cons}
use Rattle.grammar.proofs.Lists.{cases_if, none_some, some_inj}
use Rattle.es5_tree.specs.declared.lexing.Class.TheVariants.{Blank, Digit, Letter, Other, Quote}
use Rattle.es5_tree.specs.declared.lexing.Restriction.{Restriction}
use Rattle.es5_tree.specs.declared.token.EsToken.{EsToken}
use Rattle.es5_tree.specs.declared.token.EsTokenKind.{EsTokenKind}
use Rattle.es5_tree.specs.declared.token.EsTokenKind.TheVariants as token
use Rattle.es5_tree.specs.Characters.{begins, class_of, ends_line, is_blank, is_digit, is_letter, is_name_part, is_quote}
use Rattle.es5_tree.specs.Lexed.{token_if, tokens_from}
use Rattle.es5_tree.specs.Literals.{begins_with_digit, character, Characters, escape, hex_number, hex_value, single_escape}
use Rattle.es5_tree.specs.Tokens.{after_piece, Comment, Form, kind_of, Mark, Num, Piece, Reaches, Space, Stands, Str, Word}
use Rattle.es5_tree.proofs.Written.{digits_written_is}
use Rattle.es5_spelling.specs.Spellable.{IsText}

-- a name of letters and digits, a number up to 2^53-1, a text of 16-bit units
abbrev pub IsSoundKind : EsTokenKind → Type 0
IsSoundKind (token.Word name) = (begins is_letter name && list_all is_name_part name) ≡ true
IsSoundKind (token.Num number) = (value : ℕ) × (number ≡ pos value) × (value < 2 ^ 53)
IsSoundKind (token.Str text) = IsText text
IsSoundKind other = Unit {0}

abbrev pub Sound : List EsToken → Type 0
Sound tokens = AllByRecursion (λ t. IsSoundKind t.kind) tokens

pub sound_parts : (u v w : List EsToken) → u ≡ v ++ w → Sound u → Sound v × Sound w
sound_parts u v w e s = by v w (subst Sound e s)
  where
    by : (v w : List EsToken) → Sound (v ++ w) → Sound v × Sound w
    by [] w s = (tt, s)
    by (t ∷ v) w s = let rest = by v w s.1 in ((s.0, rest.0), rest.1)

sound_joined : (v w : List EsToken) → Sound v → Sound w → Sound (v ++ w)
sound_joined [] w a b = b
sound_joined (t ∷ v) w a b = (a.0, sound_joined v w a.1 b)

-- ---- runs of bytes that pass a test

all_taken : (test : ℕ → Bool) (bytes : List ℕ) → list_all test (take_while test bytes) ≡ true
all_taken test [] = refl
all_taken test (c ∷ cs) = by (test c) refl (all_taken test cs)
  where
    by : (b : Bool) → test c ≡ b → list_all test (take_while test cs) ≡ true → list_all test (take_while test (c ∷ cs)) ≡ true
    by true e rest = ap (list_all test) (take_while-cons test c cs ∙ ap (λ b. cond b (c ∷ take_while test cs) []) e) ∙ (ap (λ b. b && list_all test (take_while test cs)) e ∙ rest)
    by false e rest = ap (list_all test) (take_while-cons test c cs ∙ ap (λ b. cond b (c ∷ take_while test cs) []) e)

-- ---- units of literals

hex_small : (byte d : ℕ) → hex_value byte ≡ Some d → d < 16
hex_small byte d e = ⊎_elim
    (λ x. digit_small byte d x.0 (some_inj x.1))
    (λ x. ⊎_elim (λ y. low_small byte d y.0 (some_inj y.1)) (λ y. ⊎_elim (λ z. high_small byte d z.0 (some_inj z.1)) (λ z. none_some z.1) (cases_if _ _ _ _ y.1)) (cases_if _ _ _ _ x.1))
    (cases_if _ _ _ _ e)
  where
    digit_small : (byte d : ℕ) → is_digit byte ≡ true → byte - 48 ≡ d → d < 16
    digit_small byte d h e = grind (arith, common_steps)

    low_small : (byte d : ℕ) → (nat_le 97 byte && nat_le byte 102) ≡ true → byte - 87 ≡ d → d < 16
    low_small byte d h e = grind (arith, common_steps)

    high_small : (byte d : ℕ) → (nat_le 65 byte && nat_le byte 70) ≡ true → byte - 55 ≡ d → d < 16
    high_small byte d h e = grind (arith, common_steps)

abbrev scaled : ℕ → ℕ → ℕ
scaled zero bound = bound
scaled (suc n) bound = scaled n (bound * 16)

number_small : (n high bound unit : ℕ) (bytes : List ℕ) → high < bound → hex_number high n bytes ≡ Some unit → unit < scaled n bound
number_small zero high bound unit bytes h e = let same : high ≡ unit = some_inj e in omega (arith, h, same)
number_small (suc n) high bound unit [] h e = none_some e
number_small (suc n) high bound unit (byte ∷ bytes) h e = by (hex_value byte) refl e (λ d l f. number_small n (high * 16 + d) (bound * 16) unit bytes (omega (arith, h, l)) f)
  where
    by : (o : Option ℕ) → hex_value byte ≡ o → option_and_then (λ d. hex_number (high * 16 + d) n bytes) o ≡ Some unit → ((d : ℕ) → d < 16 → hex_number (high * 16 + d) n bytes ≡ Some unit → unit < scaled n (bound * 16)) → unit < scaled n (bound * 16)
    by None g e rest = none_some e
    by (Some d) g e rest = rest d (hex_small byte d g) e

single_small : (byte unit : ℕ) → single_escape byte ≡ Some unit → unit < 65536
single_small byte unit e = grind (arith, common_steps)

abbrev with_size : ℕ → ℕ → ℕ × ℕ
with_size n unit = (unit, n)

-- each unit that an option may hold is small
abbrev Small : Option (ℕ × ℕ) → Type 0
Small None = Unit {0}
Small (Some p) = p.0 < 65536

if_small : (c : Bool) (x y : Option (ℕ × ℕ)) → Small x → Small y → Small (if c then x else y)
if_small true x y a b = a
if_small false x y a b = b

map_small : (o : Option ℕ) (n : ℕ) → ((unit : ℕ) → o ≡ Some unit → unit < 65536) → Small (option_map (with_size n) o)
map_small None n h = tt
map_small (Some unit) n h = h unit refl

escape_small : (bytes : List ℕ) → Small (escape bytes)
escape_small [] = tt
escape_small (byte ∷ bytes) =
    if_small (byte == 117) (option_map (with_size 6) (hex_number 0 4 bytes)) _ (map_small (hex_number 0 4 bytes) 6 (λ unit e. number_small 4 0 1 unit bytes (omega arith) e))
    (if_small (byte == 120) (option_map (with_size 4) (hex_number 0 2 bytes)) _ (map_small (hex_number 0 2 bytes) 4 (λ unit e. let small : unit < 256 = number_small 2 0 1 unit bytes (omega arith) e in omega (arith, small)))
    (if_small (byte == 48) _ (option_map (with_size 2) (single_escape byte)) (if_small (begins_with_digit bytes) None (Some (0, 2)) tt (omega arith)) (map_small (single_escape byte) 2 (λ unit e. single_small byte unit e))))

plain_small : (c : Bool) (byte : ℕ) → (c ≡ false → byte < 65536) → Small (if c then None else Some (byte, 1))
plain_small true byte h = tt
plain_small false byte h = h refl

seven_bits : (quote byte : ℕ) → ((byte == quote) || ends_line byte || nat_lt 127 byte) ≡ false → byte < 65536
seven_bits quote byte h = grind (arith, common_steps)

some_small : (o : Option (ℕ × ℕ)) (unit n : ℕ) → Small o → o ≡ Some (unit, n) → unit < 65536
some_small None unit n h e = none_some e
some_small (Some p) unit n h e = let same : p.0 ≡ unit = ap (λ (p : ℕ × ℕ). p.0) (some_inj e) in omega (arith, h, same)

character_small : (quote : ℕ) (bytes : List ℕ) → Small (character quote bytes)
unfolding character
character_small quote [] = tt
character_small quote (byte ∷ bytes) = if_small (byte == 92) (escape bytes) _ (escape_small bytes) (plain_small ((byte == quote) || ends_line byte || nat_lt 127 byte) byte (seven_bits quote byte))

text_small : (quote : ℕ) (text bytes rest : List ℕ) → Characters quote text bytes rest → IsText text
text_small quote [] bytes rest h = tt
text_small quote (unit ∷ text) bytes rest (n, e, h) = (some_small (character quote bytes) unit n (character_small quote bytes) e, text_small quote text (drop n bytes) rest h)

-- ---- the tokens of pieces

letter_of : (byte : ℕ) → class_of byte ≡ Letter → is_letter byte ≡ true
letter_of byte e = by (is_blank byte) (is_letter byte) (is_digit byte) (is_quote byte) e
  where
    by : (a b c d : Bool) → (if a then Blank else (if b then Letter else (if c then Digit else (if d then Quote else Other)))) ≡ Letter → b ≡ true
    by true b c d e = cc
    by false true c d e = refl
    by false false true d e = cc
    by false false false true e = cc
    by false false false false e = cc

word_sound : (byte : ℕ) (name more : List ℕ) → name ≡ byte ∷ take_while is_name_part more → is_letter byte ≡ true → (begins is_letter name && list_all is_name_part name) ≡ true
word_sound byte name more e l = ap (λ n. begins is_letter n && list_all is_name_part n) e ∙ (ap (λ b. b && ((b || is_digit byte) && list_all is_name_part (take_while is_name_part more))) l ∙ all_taken is_name_part more)

form_sound : (form : Form) (bytes rest : List ℕ) (all : List ℕ) (from size : ℕ) → Stands form bytes rest → Sound (token_if all from size (kind_of form))
form_sound Space bytes rest all from size h = tt
form_sound Comment bytes rest all from size h = tt
form_sound (Word name) bytes rest all from size (byte, more, e, c, is, f) = (word_sound byte name more is (letter_of byte c), tt)
form_sound (Num value) bytes rest all from size (n, e, g) = ((value, refl, (digits_written_is (take_while is_digit bytes) value (all_taken is_digit bytes) n).1), tt)
form_sound (Str text) bytes rest all from size (quote, more, e, c, h) = (text_small quote text more rest h, tt)
form_sound (Mark m) bytes rest all from size h = (tt, tt)

pub pieces_sound : (pieces : List Piece) (start : Restriction) (bytes behind all : List ℕ) (from : ℕ) → Reaches start bytes pieces behind → Sound (tokens_from all from pieces)
pieces_sound [] start bytes behind all from h = tt
pieces_sound (x ∷ pieces) start bytes behind all from (rest, e, s, h) =
    sound_joined (token_if all from (length x.slice) (kind_of x.form)) (tokens_from all (from + length x.slice) pieces) (form_sound x.form bytes rest all from (length x.slice) s.stands)
    (pieces_sound pieces (after_piece start x) rest behind all (from + length x.slice) h)
