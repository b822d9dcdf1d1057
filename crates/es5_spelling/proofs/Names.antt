-- Identifiers of the profile as bytes and as terminals.
use Rattle.std.proofs.Common.{◌≡◌, ℕ, ◌<◌, Bool, true, false, not, ◌&&◌, ◌||◌, List, [], ◌∷◌, ◌++◌, Option, Some, None, codes, refl, sym, ap, ◌∙◌, arith, true≢false, lt-ltb, encode_utf8_all}
use Rattle.std.specs.Prelude.{if◌then◌else◌, bytes_eq}
use Rattle.std.specs.List.{flat_map, list_all}
use Rattle.std.specs.Char.Escape.{encode_utf16}
use Rattle.std.specs.Char.Utf16.{utf16_lossy_chars}
use Rattle.std.specs.Char.{encode_utf8}
use Rattle.std.proofs.Math.Utf8.{scalars, low_scalar}
use Rattle.std.proofs.lemmas.Bool.{and_parts, false_from_ne_true}
use Rattle.std.proofs.lemmas.Grind.{common_steps}
use Rattle.std.proofs.lemmas.Slice.Eq.{bytes_eq-Decides}
use Rattle.opal_base.specs.Text.{utf8_of}
use Rattle.opal_base.proofs.Texts.{chars_back, one_unit}
use Rattle.es5_tree.specs.declared.terminal.Keyword.{Keyword}
use Rattle.es5_tree.specs.declared.terminal.Terminal.{Terminal}
use Rattle.es5_tree.specs.declared.terminal.Terminal.TheVariants as terminal
use Rattle.es5_tree.specs.Characters.{begins, is_letter, is_name_part}
use Rattle.es5_tree.specs.Grammar.Terminals.{keyword_in, keyword_or, keywords, terminal_of_word}
use Rattle.es5_tree.specs.Reserved.{is_reserved}
use Rattle.es5_tree.specs.Tokens.{is_restricted}
use Rattle.es5_spelling.specs.Spellable.{is_identifier, is_binding}

-- ---- ASCII

name_part_small : (byte : ℕ) → is_name_part byte ≡ true → byte < 128
name_part_small byte e = grind (arith, common_steps)

one_byte : (c : ℕ) → c < 128 → encode_utf8 c ≡ c ∷ []
unfolding encode_utf8
one_byte c h = rw (lt-ltb c 128 h) refl

all_scalars : (name : List ℕ) → list_all is_name_part name ≡ true → scalars name ≡ true
all_scalars [] e = refl
all_scalars (c ∷ name) e =
    let both = and_parts (is_name_part c) (list_all is_name_part name) e in
    let small : c < 128 = name_part_small c both.0 in
    ap (λ b. b && scalars name) (low_scalar c (omega (arith, small))) ∙ all_scalars name both.1

one_each : (name : List ℕ) → list_all is_name_part name ≡ true → flat_map encode_utf16 name ≡ name
one_each [] e = refl
one_each (c ∷ name) e =
    let both = and_parts (is_name_part c) (list_all is_name_part name) e in
    let small : c < 128 = name_part_small c both.0 in
    ap (λ l. l ++ flat_map encode_utf16 name) (one_unit c (omega (arith, small))) ∙ ap (λ l. c ∷ l) (one_each name both.1)

bytes_each : (name : List ℕ) → list_all is_name_part name ≡ true → encode_utf8_all name ≡ name
bytes_each [] e = refl
bytes_each (c ∷ name) e =
    let both = and_parts (is_name_part c) (list_all is_name_part name) e in
    ap (λ l. l ++ encode_utf8_all name) (one_byte c (name_part_small c both.0)) ∙ ap (λ l. c ∷ l) (bytes_each name both.1)

name_kept : (name : List ℕ) → list_all is_name_part name ≡ true → utf8_of name ≡ name
name_kept name e = ap encode_utf8_all (ap utf16_lossy_chars (sym (one_each name e)) ∙ chars_back name (all_scalars name e)) ∙ bytes_each name e

-- ---- reserved words

pub not_true : (b : Bool) → not b ≡ true → b ≡ false
not_true true e = sym e
not_true false e = refl

not_reserved : (word name : List ℕ) → is_reserved word ≡ true → is_reserved name ≡ false → bytes_eq word name ≡ false
not_reserved word name r n = false_from_ne_true (bytes_eq word name) (λ e. true≢false (sym r ∙ (ap is_reserved ((bytes_eq-Decides word name).0 e) ∙ n)))

no_keyword : (entries : List (List ℕ × Keyword)) (name : List ℕ) → list_all (λ entry. is_reserved entry.0) entries ≡ true → is_reserved name ≡ false → keyword_in entries name ≡ None
no_keyword [] name a n = refl
no_keyword (entry ∷ entries) name a n =
    let both = and_parts (is_reserved entry.0) (list_all (λ entry. is_reserved entry.0) entries) a in
    ap (λ b. if b then Some entry.1 else keyword_in entries name) (not_reserved entry.0 name both.0 n) ∙ no_keyword entries name both.1 n

keywords_reserved : list_all (λ entry. is_reserved entry.0) keywords ≡ true
unfolding is_reserved
keywords_reserved = refl

return_reserved : is_reserved (codes "return") ≡ true
unfolding is_reserved
return_reserved = refl

throw_reserved : is_reserved (codes "throw") ≡ true
unfolding is_reserved
throw_reserved = refl

-- ---- identifiers

pub record Word (name : List ℕ) : Type 0 where
  pub first : ℕ
  pub more : List ℕ
  pub is : name ≡ first ∷ more
  pub letter : is_letter first ≡ true
  pub parts : list_all is_name_part more ≡ true
  pub bytes : utf8_of name ≡ first ∷ more
  pub free : is_restricted name ≡ false
  pub terminal : terminal_of_word name ≡ (if bytes_eq (codes "arguments") name then terminal.Arguments else terminal.Name)

abbrev terminal_if : Option Keyword → Bool → Bool → Bool → Terminal
terminal_if k a b r = keyword_or k (if a then terminal.Arguments else (if b || r then terminal.Refused else terminal.Name))

terminal_by : (k : Option Keyword) (a b r : Bool) → k ≡ None → b ≡ false → r ≡ false → terminal_if k a b r ≡ (if a then terminal.Arguments else terminal.Name)
terminal_by k a b r e f g = ap (λ k. terminal_if k a b r) e ∙ (ap (λ b. terminal_if None a b r) f ∙ ap (λ r. terminal_if None a false r) g)

pub identifier_word : (name : List ℕ) → is_identifier name ≡ true → Word name
unfolding is_identifier terminal_of_word
identifier_word [] e = absurd (true≢false (sym e))
identifier_word (first ∷ more) e =
    let name : List ℕ = first ∷ more in
    let outer = and_parts (begins is_letter name && list_all is_name_part name && not (is_reserved name)) (not (bytes_eq (codes "eval") name)) e in
    let inner = and_parts (begins is_letter name && list_all is_name_part name) (not (is_reserved name)) outer.0 in
    let spelled = and_parts (begins is_letter name) (list_all is_name_part name) inner.0 in
    let more_parts = and_parts (is_name_part first) (list_all is_name_part more) spelled.1 in
    let own : is_reserved name ≡ false = not_true (is_reserved name) inner.1 in
    record {
      first = first;
      more = more;
      is = refl;
      letter = spelled.0;
      parts = more_parts.1;
      bytes = name_kept name spelled.1;
      free =
          ap (λ b. b || bytes_eq (codes "throw") name) (not_reserved (codes "return") name return_reserved own)
          ∙ not_reserved (codes "throw") name throw_reserved own;
      terminal = terminal_by (keyword_in keywords name) (bytes_eq (codes "arguments") name) (bytes_eq (codes "eval") name) (is_reserved name) (no_keyword keywords name keywords_reserved own) (not_true (bytes_eq (codes "eval") name) outer.1) own;
    }

pub binding_parts : (name : List ℕ) → is_binding name ≡ true → (is_identifier name ≡ true) × (bytes_eq (codes "arguments") name ≡ false)
unfolding is_binding
binding_parts name e =
    let both = and_parts (is_identifier name) (not (bytes_eq (codes "arguments") name)) e in
    (both.0, not_true (bytes_eq (codes "arguments") name) both.1)
