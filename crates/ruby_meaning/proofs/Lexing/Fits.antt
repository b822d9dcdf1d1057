-- What stands at a place is a part of the text.
use Rattle.std.proofs.Common.{◌≡◌, ◌<◌, ◌≤◌, ℕ, zero, suc, ◌+◌, Bool, true, false, cond, not, ◌&&◌, ◌||◌, ◌==◌, nat_le, nat_lt, List, [], ◌∷◌, take, drop, length, slice_index, refl, ap, sym, ◌∙◌, subst, arith, length-drop, Option, Some, None}
use Rattle.std.proofs.lemmas.Grind.{common_steps}
use Rattle.std.proofs.lemmas.List.{length-take}
use Rattle.ruby_meaning.specs.declared.form.Form.{Form}
use Rattle.ruby_meaning.specs.declared.form.Form.TheVariants as form
use Rattle.ruby_meaning.specs.declared.form.Ending.{Ending}
use Rattle.ruby_meaning.specs.declared.form.Ending.TheVariants as ending_
use Rattle.ruby_meaning.specs.declared.form.Class.{Class}
use Rattle.ruby_meaning.specs.declared.form.Class.TheVariants as class
use Rattle.ruby_meaning.specs.declared.form.Spelling.TheVariants as spelling
use Rattle.ruby_meaning.specs.declared.form.Stand.{Stand}
use Rattle.ruby_meaning.specs.declared.form.Stand.TheVariants as stand
use Rattle.ruby_meaning.specs.declared.form.Bracket.{Bracket}
use Rattle.ruby_meaning.specs.declared.form.MethodPlace.{MethodPlace}
use Rattle.ruby_meaning.specs.declared.form.Mode.{Mode}
use Rattle.ruby_meaning.specs.declared.form.Mode.TheVariants as mode
use Rattle.ruby_meaning.specs.declared.form.Place.{Place}
use Rattle.ruby_meaning.specs.declared.form.Reserved.{Reserved}
use Rattle.ruby_meaning.specs.declared.form.Reserved.TheVariants as reserved_
use Rattle.ruby_meaning.specs.declared.construct.Construct.{Construct}
use Rattle.ruby_meaning.specs.declared.construct.Construct.TheVariants as construct
use Rattle.ruby_meaning.specs.declared.table.TheConstants.{BLOCK_BEGIN}
use Rattle.ruby_meaning.specs.declared.token.Mark.{Mark}
use Rattle.unicode_ident.proofs.IdentLemmas.{is_xid_start-is_xid_continue}
use Rattle.unicode_ident.specs.Ident.{is_xid_start, is_xid_continue}
use Rattle.ruby_meaning.specs.Lexing.Before.{method_place, begins_list, begins_symbol, allows_label}
use Rattle.ruby_meaning.specs.Lexing.Characters.{begins, blank_len, is_digit, is_hex, is_letter, is_scalar, is_pair, code, code_len, newline_len, line_len, starts_name, goes_on_name}
use Rattle.ruby_meaning.specs.Lexing.Numbers.{radix, has_prefix, number_start, number_end, number_value, of_value, number, is_negative}
use Rattle.ruby_meaning.specs.Lexing.Signs.{first_of_table, each_some, signs, sign, method_signs, method_sign, is_ambiguous, of_literal, of_sign, is_match, signed, of_method_sign, method_signed, of_symbol_sign, symbol}
use Rattle.ruby_meaning.specs.Lexing.Words.{reserved, word_end, is_suffix, of_reserved, of_word, is_label_end, is_const, word, ivar, of_global, gvar}
use Rattle.ruby_meaning.specs.Lexing.Runs.{run, step}
use Rattle.ruby_meaning.specs.Lexing.Stands.{is_over, is_end_line, newline, block, literal, of_method_place, token, piece, in_code, in_mode, stands}
use Rattle.ruby_meaning.specs.Lexing.Texts.{is_cut, ending, of_quoted, quoted, raw_text, at_ending, in_text, opens_list, of_inside, list, in_list}
use Rattle.ruby_meaning.proofs.Lexing.Runs.{run_within, run_moves}

abbrev pub Fits : Stand → List ℕ → Type 0
Fits (stand.Form f n) z = (0 < n) × (n ≤ length z)
Fits (stand.Refused c n) z = n ≤ length z
Fits stand.Endless z = Unit {0}
Fits stand.Cut z = Unit {0}
Fits stand.End z = is_over z ≡ true

fits_if : (b : Bool) (s t : Stand) (z : List ℕ) → (b ≡ true → Fits s z) → (b ≡ false → Fits t z) → Fits (cond b s t) z
fits_if true s t z h k = h refl
fits_if false s t z h k = k refl

same_unit : (a b : ℕ) → (a == b) ≡ true → a ≡ b
same_unit a b h = grind (arith, common_steps)

other_unit : (a b : ℕ) → (a == b) ≡ false → (a ≡ b → ⊥)
other_unit a b h = grind (arith, common_steps)

both_left : (a b : Bool) → (a && b) ≡ true → a ≡ true
both_left true b h = refl
both_left false b h = h

both_right : (a b : Bool) → (a && b) ≡ true → b ≡ true
both_right true b h = h
both_right false b h = cc

not_true : (b : Bool) → not b ≡ true → b ≡ false
not_true true h = cc
not_true false h = refl

or_elim : (a b : Bool) {P : Type 0} → (a || b) ≡ true → (a ≡ true → P) → (b ≡ true → P) → P
or_elim true b h k l = k refl
or_elim false b h k l = l h

-- a unit that isn't 0 stands in the text
some_within : (z : List ℕ) (i : ℕ) → (slice_index z i ≡ 0 → ⊥) → i < length z
some_within [] i h = absurd (h refl)
some_within (u ∷ us) zero h = omega arith
some_within (u ∷ us) (suc i) h = let more : i < length us = some_within us i h in omega (arith, more)

unit_within : (z : List ℕ) (i k : ℕ) → (slice_index z i == k) ≡ true → (k ≡ 0 → ⊥) → i < length z
unit_within z i k e some = some_within z i (λ h. some (sym (same_unit _ _ e) ∙ h))

either_within : (z : List ℕ) (i k l : ℕ) → (slice_index z i == k || slice_index z i == l) ≡ true → (k ≡ 0 → ⊥) → (l ≡ 0 → ⊥) → i < length z
either_within z i k l e a b = or_elim (slice_index z i == k) (slice_index z i == l) e (λ h. unit_within z i k h a) (λ h. unit_within z i l h b)

run_fits : (c : Class) (z : List ℕ) → run c z ≤ length z
run_fits c z = run_within (step c) 0 z

-- ---- texts

abbrev pub EndsWithin : Ending → List ℕ → Type 0
EndsWithin ending_.Quote z = 1 ≤ length z
EndsWithin ending_.Part z = 2 ≤ length z
EndsWithin ending_.Cut z = Unit {0}
EndsWithin ending_.Bad z = Unit {0}

ends_if : (b : Bool) (s t : Ending) (z : List ℕ) → (b ≡ true → EndsWithin s z) → (b ≡ false → EndsWithin t z) → EndsWithin (cond b s t) z
ends_if true s t z h k = h refl
ends_if false s t z h k = k refl

ending_within : (z : List ℕ) → EndsWithin (ending z) z
unfolding ending
ending_within z =
    ends_if (slice_index z 0 == 34) _ _ z (λ e. omega (arith, unit_within z 0 34 e (λ h. omega arith)))
    (λ _. ends_if (slice_index z 0 == 35 && slice_index z 1 == 123) _ _ z (λ e. omega (arith, unit_within z 1 123 (both_right _ _ e) (λ h. omega arith)))
    (λ _. ends_if (is_cut z) _ _ z (λ _. tt) (λ _. tt)))

at_ending_fits : (e : Ending) (z : List ℕ) → EndsWithin e z → Fits (at_ending e) z
at_ending_fits ending_.Quote z h = (omega arith, h)
at_ending_fits ending_.Part z h = (omega arith, h)
at_ending_fits ending_.Cut z h = tt
at_ending_fits ending_.Bad z h = omega arith

in_text_fits : (z : List ℕ) → Fits (in_text z) z
unfolding in_text
in_text_fits z =
    fits_if (run (class.Char spelling.Double) z == 0) _ _ z (λ _. at_ending_fits (ending z) z (ending_within z))
    (λ e. (omega (arith, other_unit _ 0 e), run_fits (class.Char spelling.Double) z))

of_quoted_fits : (whole : Form) (at : ℕ) (e : Ending) (n : ℕ) (z : List ℕ) → n + (at + 1) ≤ length z → EndsWithin e (drop (n + (at + 1)) z) → Fits (of_quoted whole at e n) z
of_quoted_fits whole at ending_.Quote n z h w = (omega arith, omega (arith, h, w, length-drop (n + (at + 1)) z))
of_quoted_fits whole at ending_.Part n z h w = (omega arith, omega (arith, h))
of_quoted_fits whole at ending_.Cut n z h w = tt
of_quoted_fits whole at ending_.Bad n z h w = h

quoted_fits : (whole : Form) (at : ℕ) (z : List ℕ) → at < length z → Fits (quoted whole at z) z
unfolding quoted
quoted_fits whole at z h =
    let n = run (class.Char spelling.Double) (drop (at + 1) z) in
    of_quoted_fits whole at (ending (drop (n + (at + 1)) z)) n z
    (omega (arith, h, run_fits (class.Char spelling.Double) (drop (at + 1) z), length-drop (at + 1) z)) (ending_within (drop (n + (at + 1)) z))

pub raw_text_fits : (z : List ℕ) → Fits (raw_text z) z
unfolding raw_text
raw_text_fits z =
    let n = run (class.Char spelling.Single) (drop 1 z) in
    fits_if (slice_index z (n + 1) == 39) _ stand.Endless z (λ e. (omega arith, omega (arith, unit_within z (n + 1) 39 e (λ h. omega arith)))) (λ _. tt)

of_inside_fits : (z : List ℕ) (b : Bracket) (o : Option ℕ) → 3 ≤ length z → Fits (of_inside z b o) z
of_inside_fits z b None h = tt
of_inside_fits z b (Some n) h = (omega arith, h)

list_fits : (z : List ℕ) → opens_list z ≡ true → Fits (list z) z
unfolding list opens_list
list_fits z e = of_inside_fits z _ _ (omega (arith, either_within z 2 40 91 (both_right _ _ e) (λ h. omega arith) (λ h. omega arith)))

in_list_fits : (b : Bracket) (left : ℕ) (z : List ℕ) → Fits (in_list b left z) z
unfolding in_list
in_list_fits b left z =
    let words = take left z in
    let within : length words ≤ length z = omega (arith, length-take left z) in
    let separators = run class.Separator words in
    let n = run (class.Char (spelling.Word b)) words in
    fits_if (length words == 0) _ _ z (λ _. fits_if (length z == 0) stand.Cut _ z (λ _. tt) (λ e. (omega arith, omega (arith, other_unit _ 0 e))))
    (λ _. fits_if (not (separators == 0)) _ _ z (λ e. (omega (arith, other_unit _ 0 (not_true _ e)), omega (arith, within, run_fits class.Separator words)))
    (λ _. fits_if (n == 0) stand.Cut _ z (λ _. tt) (λ e. (omega (arith, other_unit _ 0 e), omega (arith, within, run_fits (class.Char (spelling.Word b)) words)))))

-- ---- integers

index_drop : (z : List ℕ) (at : ℕ) → slice_index (drop at z) 0 ≡ slice_index z at
index_drop [] zero = refl
index_drop [] (suc at) = refl
index_drop (u ∷ us) zero = refl
index_drop (u ∷ us) (suc at) = index_drop us at

cond_within : (b : Bool) (x y m : ℕ) → (b ≡ true → x ≤ m) → (b ≡ false → y ≤ m) → cond b x y ≤ m
cond_within true x y m h k = h refl
cond_within false x y m h k = k refl

cond_some : (b : Bool) (x y : ℕ) → (b ≡ true → 0 < x) → (b ≡ false → 0 < y) → 0 < cond b x y
cond_some true x y h k = h refl
cond_some false x y h k = k refl

prefix_within : (z : List ℕ) (at : ℕ) → has_prefix z at ≡ true → at + 2 ≤ length z
unfolding has_prefix
prefix_within z at e =
    let v = slice_index z (at + 1) in
    let within : at + 1 < length z = or_elim (v == 120 || v == 98) (v == 111) (both_right _ _ e)
    (λ h. either_within z (at + 1) 120 98 h (λ g. omega arith) (λ g. omega arith)) (λ h. unit_within z (at + 1) 111 h (λ g. omega arith)) in
    omega (arith, within)

start_within : (z : List ℕ) (at : ℕ) → at ≤ length z → number_start z at ≤ length z
start_within z at h = cond_within (has_prefix z at) (at + 2) at (length z) (λ e. prefix_within z at e) (λ _. h)

end_within : (z : List ℕ) (at : ℕ) → at ≤ length z → number_end z at ≤ length z
end_within z at h =
    let start = number_start z at in
    let runs : cond (radix z at == 16) (run class.Hex (drop start z)) (run class.Digit (drop start z)) ≤ length (drop start z) =
    cond_within (radix z at == 16) _ _ (length (drop start z)) (λ _. run_fits class.Hex (drop start z)) (λ _. run_fits class.Digit (drop start z)) in
    omega (arith, runs, start_within z at h, length-drop start z)

abbrev pub one_if : Bool → ℕ
one_if b = cond b 1 0

digit_some : (u : ℕ) → is_digit u ≡ true → (one_if (is_digit u || u == 95) ≡ 0 → ⊥)
digit_some u e h = let more : one_if (true || u == 95) ≡ 0 = subst (λ b. one_if (b || u == 95) ≡ 0) e h in omega (arith, more)

hex_some : (u : ℕ) → is_digit u ≡ true → (one_if (is_hex u || u == 95) ≡ 0 → ⊥)
hex_some u e h =
    let more : one_if (true || (nat_le 65 u && nat_le u 70) || (nat_le 97 u && nat_le u 102) || u == 95) ≡ 0 =
    subst (λ b. one_if (b || (nat_le 65 u && nat_le u 70) || (nat_le 97 u && nat_le u 102) || u == 95) ≡ 0) e h in omega (arith, more)

end_some : (z : List ℕ) (at : ℕ) → at < length z → is_digit (slice_index z at) ≡ true → 0 < number_end z at
end_some z at within e = by_prefix (has_prefix z at) refl
  where
    digit : is_digit (slice_index (drop at z) 0) ≡ true
    digit = ap is_digit (index_drop z at) ∙ e

    some : 0 < length (drop at z)
    some = omega (arith, within, length-drop at z)

    runs : 0 < cond (radix z at == 16) (run class.Hex (drop at z)) (run class.Digit (drop at z))
    runs =
        cond_some (radix z at == 16) (run class.Hex (drop at z)) (run class.Digit (drop at z))
        (λ _. run_moves (step class.Hex) (drop at z) some (hex_some (slice_index (drop at z) 0) digit))
        (λ _. run_moves (step class.Digit) (drop at z) some (digit_some (slice_index (drop at z) 0) digit))

    by_prefix : (b : Bool) → has_prefix z at ≡ b
        → 0 < cond b (at + 2) at + cond (radix z at == 16) (run class.Hex (drop (cond b (at + 2) at) z)) (run class.Digit (drop (cond b (at + 2) at) z))
    by_prefix true h = omega arith
    by_prefix false h = omega (arith, runs)

of_value_fits : (o : Option ℕ) (end : ℕ) (z : List ℕ) → 0 < end → end ≤ length z → Fits (of_value o end) z
of_value_fits None end z h k = omega arith
of_value_fits (Some n) end z h k = (h, k)

number_fits : (z : List ℕ) (at : ℕ) → at < length z → is_digit (slice_index z at) ≡ true → Fits (number z at) z
unfolding number
number_fits z at h e =
    let next = slice_index z (number_end z at) in
    let float = (next == 46 && is_digit (slice_index z (number_end z at + 1))) || next == 101 in
    fits_if float (stand.Refused construct.Float 0) _ z (λ _. omega arith)
    (λ _. fits_if (next == 114 || next == 105) (stand.Refused construct.RationalOrComplex 0) _ z (λ _. omega arith)
    (λ _. of_value_fits (number_value z at) (number_end z at) z (end_some z at h e) (end_within z at (omega (arith, h)))))

-- ---- words

starts_some : (z : List ℕ) → starts_name z ≡ true → 0 < length z
unfolding starts_name
starts_some [] e = cc e
starts_some (u ∷ us) e = omega arith

or_more : (a b c : Bool) → (a || c) ≡ true → (a || b || c) ≡ true
or_more true b c h = refl
or_more false true c h = refl
or_more false false c h = h

and_more : (a b c : Bool) → (a && b) ≡ true → (b ≡ true → c ≡ true) → (a && c) ≡ true
and_more true b c h k = k h
and_more false b c h k = h

cond_more : (t : Bool) (a b c d : Bool) → cond t a b ≡ true → (a ≡ true → c ≡ true) → (b ≡ true → d ≡ true) → cond t c d ≡ true
cond_more true a b c d h k l = k h
cond_more false a b c d h k l = l h

name_goes_on : (z : List ℕ) → starts_name z ≡ true → goes_on_name z ≡ true
unfolding starts_name goes_on_name
name_goes_on z e =
    let u = slice_index z 0 in
    cond_more (nat_lt u 128) (is_letter u || u == 95) (is_scalar (code z) && is_xid_start (code z)) _ _ e
    (λ h. or_more (is_letter u) (is_digit u) (u == 95) h)
    (λ h. and_more (is_scalar (code z)) (is_xid_start (code z)) (is_xid_continue (code z)) h (λ g. is_xid_start-is_xid_continue (code z) g))

name_some : (z : List ℕ) → starts_name z ≡ true → 0 < run class.Name z
name_some z e = run_moves (step class.Name) z (starts_some z e)
    (λ h. let more : cond true (code_len z) 0 ≡ 0 = subst (λ b. cond b (code_len z) 0 ≡ 0) (name_goes_on z e) h in
    omega (arith, more, cond_some (is_pair z) 2 1 (λ _. omega arith) (λ _. omega arith)))

word_some : (z : List ℕ) → starts_name z ≡ true → 0 < word_end z
unfolding word_end
word_some z e = cond_some (is_suffix z (run class.Name z)) _ _ (λ _. omega arith) (λ _. name_some z e)

word_within : (z : List ℕ) → word_end z ≤ length z
unfolding word_end
word_within z =
    let n = run class.Name z in
    cond_within (is_suffix z n) (n + 1) n (length z)
    (λ e. omega (arith, either_within z n 63 33 (both_left _ _ e) (λ h. omega arith) (λ h. omega arith))) (λ _. run_fits class.Name z)

of_reserved_fits : (o : Option Reserved) (const : Bool) (n : ℕ) (z : List ℕ) → 0 < n → n ≤ length z → Fits (of_reserved o const n) z
of_reserved_fits None const n z h k = (h, k)
of_reserved_fits (Some (reserved_.Keyword w)) const n z h k = (h, k)
of_reserved_fits (Some (reserved_.Refused c)) const n z h k = omega arith

of_word_fits : (o : Option MethodPlace) (z : List ℕ) (n : ℕ) → 0 < n → n ≤ length z → Fits (of_word o z n) z
of_word_fits None z n h k = of_reserved_fits (reserved (take n z)) (is_const z n) n z h k
of_word_fits (Some place) z n h k = (h, k)

word_fits : (last : Form) (z : List ℕ) → starts_name z ≡ true → Fits (word last z) z
unfolding word
word_fits last z e =
    let n = word_end z in
    fits_if (allows_label last && is_label_end z n) _ _ z
    (λ h. (omega arith, omega (arith, unit_within z n 58 (both_left _ _ (both_right _ _ h)) (λ g. omega arith))))
    (λ _. of_word_fits (method_place last) z n (word_some z e) (word_within z))

variable_within : (z : List ℕ) → starts_name (drop 1 z) ≡ true → 1 + run class.Name (drop 1 z) ≤ length z
variable_within z e = omega (arith, starts_some (drop 1 z) e, run_fits class.Name (drop 1 z), length-drop 1 z)

ivar_fits : (z : List ℕ) → Fits (ivar z) z
unfolding ivar
ivar_fits z =
    fits_if (slice_index z 1 == 64) _ _ z (λ _. omega arith)
    (λ _. fits_if (starts_name (drop 1 z)) _ _ z (λ e. (omega arith, variable_within z e)) (λ _. omega arith))

of_global_fits : (o : Option Reserved) (n : ℕ) (z : List ℕ) → 0 < n → n ≤ length z → Fits (of_global o n) z
of_global_fits None n z h k = (h, k)
of_global_fits (Some (reserved_.Keyword w)) n z h k = (h, k)
of_global_fits (Some (reserved_.Refused c)) n z h k = omega arith

gvar_fits : (z : List ℕ) → Fits (gvar z) z
unfolding gvar
gvar_fits z =
    let n = 1 + run class.Name (drop 1 z) in
    fits_if (starts_name (drop 1 z)) _ _ z (λ e. of_global_fits (reserved (take n z)) n z (omega arith) (variable_within z e)) (λ _. omega arith)

-- ---- signs

begins_within : (word z : List ℕ) → begins word z ≡ true → length word ≤ length z
begins_within [] z h = omega arith
begins_within (k ∷ ks) [] h = cc h
begins_within (k ∷ ks) (u ∷ us) h = let more : length ks ≤ length us = begins_within ks us (both_right _ _ h) in omega (arith, more)

abbrev pub SignFits : Option (Mark × ℕ) → List ℕ → Type 0
SignFits None z = Unit {0}
SignFits (Some e) z = (0 < e.1) × (e.1 ≤ length z)

sign_if : (b : Bool) (s t : Option (Mark × ℕ)) (z : List ℕ) → (b ≡ true → SignFits s z) → (b ≡ false → SignFits t z) → SignFits (cond b s t) z
sign_if true s t z h k = h refl
sign_if false s t z h k = k refl

table_fits : (es : List (List ℕ × Mark)) (z : List ℕ) → each_some es ≡ true → SignFits (first_of_table es z) z
table_fits [] z h = tt
table_fits (e ∷ es) z h =
    sign_if (begins e.0 z) _ _ z (λ b. (omega (arith, other_unit (length e.0) 0 (not_true _ (both_left _ _ h))), begins_within e.0 z b)) (λ _. table_fits es z (both_right _ _ h))

sign_fits : (z : List ℕ) → SignFits (sign z) z
unfolding sign
sign_fits z = table_fits signs z refl

method_sign_fits : (z : List ℕ) → SignFits (method_sign z) z
unfolding method_sign
method_sign_fits z = table_fits method_signs z refl

of_literal_fits : (o : Option Construct) (p : Place) (e : Mark × ℕ) (z : List ℕ) → 0 < e.1 → e.1 ≤ length z → Fits (of_literal o p e) z
of_literal_fits None p e z h k = (h, k)
of_literal_fits (Some c) p e z h k = omega arith

of_sign_fits : (p : Place) (o : Option (Mark × ℕ)) (z : List ℕ) → SignFits o z → Fits (of_sign p o z) z
of_sign_fits p None z h = omega arith
of_sign_fits p (Some e) z h =
    fits_if (p.blank && blank_len (drop e.1 z) == 0 && is_ambiguous p.last e.0) (stand.Refused construct.AmbiguousArgument 0) _ z (λ _. omega arith) (λ _. of_literal_fits _ p e z h.0 h.1)

signed_fits : (p : Place) (z : List ℕ) → Fits (signed p z) z
unfolding signed
signed_fits p z =
    fits_if (is_match z) _ _ z (λ _. omega arith) (λ _. fits_if (slice_index z 0 == 96) _ _ z (λ _. omega arith) (λ _. of_sign_fits p (sign z) z (sign_fits z)))

of_method_sign_fits : (place : MethodPlace) (p : Place) (o : Option (Mark × ℕ)) (z : List ℕ) → SignFits o z → Fits (of_method_sign place p o z) z
of_method_sign_fits place p None z h = signed_fits p z
of_method_sign_fits place p (Some e) z h = h

method_signed_fits : (place : MethodPlace) (p : Place) (z : List ℕ) → Fits (method_signed place p z) z
unfolding method_signed
method_signed_fits place p z = of_method_sign_fits place p (method_sign z) z (method_sign_fits z)

of_symbol_sign_fits : (p : Place) (o : Option (Mark × ℕ)) (z : List ℕ) → SignFits o (drop 1 z) → Fits (of_symbol_sign p o z) z
of_symbol_sign_fits p None z h = signed_fits p z
of_symbol_sign_fits p (Some e) z h = (omega arith, omega (arith, h.0, h.1, length-drop 1 z))

symbol_fits : (p : Place) (z : List ℕ) → Fits (symbol p z) z
unfolding symbol
symbol_fits p z =
    let behind = drop 1 z in
    fits_if (starts_name behind) _ _ z (λ e. (omega arith, omega (arith, word_some behind e, word_within behind, length-drop 1 z)))
    (λ _. fits_if (slice_index z 1 == 34) _ _ z (λ e. quoted_fits form.QuotedSymbol 1 z (unit_within z 1 34 e (λ h. omega arith)))
    (λ _. of_symbol_sign_fits p (method_sign behind) z (method_sign_fits behind)))

-- ---- every piece

newline_within : (z : List ℕ) → newline_len z 0 ≤ length z
unfolding newline_len
newline_within z =
    cond_within (slice_index z 0 == 10) 1 _ (length z) (λ e. omega (arith, unit_within z 0 10 e (λ h. omega arith)))
    (λ _. cond_within (slice_index z 0 == 13 && slice_index z 1 == 10) 2 0 (length z) (λ e. omega (arith, unit_within z 1 10 (both_right _ _ e) (λ h. omega arith))) (λ _. omega arith))

newline_fits : (last : Form) (z : List ℕ) → (newline_len z 0 ≡ 0 → ⊥) → Fits (newline last z) z
unfolding newline
newline_fits last z h = (omega (arith, h), newline_within z)

line_within : (z : List ℕ) → line_len z ≤ length z
line_within [] = omega arith
line_within (u ∷ us) = cond_within (u == 10) 1 (suc (line_len us)) (suc (length us)) (λ _. omega arith) (λ _. let more : line_len us ≤ length us = line_within us in omega (arith, more))

line_some : (z : List ℕ) → (length z ≡ 0 → ⊥) → 0 < line_len z
line_some [] h = absurd (h refl)
line_some (u ∷ us) h = cond_some (u == 10) 1 (suc (line_len us)) (λ _. omega arith) (λ _. omega arith)

block_fits : (z : List ℕ) → Fits (block z) z
unfolding block
block_fits z =
    let n = run class.Block z in
    fits_if (length (drop n z) == 0) stand.Endless _ z (λ _. tt)
    (λ e. (omega (arith, line_some (drop n z) (other_unit _ 0 e)), omega (arith, run_fits class.Block z, line_within (drop n z), length-drop n z)))

negative_within : (last : Form) (z : List ℕ) → is_negative last z ≡ true → (1 < length z) × (is_digit (slice_index z 1) ≡ true)
unfolding is_negative
negative_within last z e =
    let digit : is_digit (slice_index z 1) ≡ true = both_right _ _ (both_left _ _ e) in
    (some_within z 1 (λ h. let none : is_digit 0 ≡ true = subst (λ u. is_digit u ≡ true) h digit in cc none), digit)

digit_within : (z : List ℕ) → is_digit (slice_index z 0) ≡ true → 0 < length z
digit_within z e = some_within z 0 (λ h. let none : is_digit 0 ≡ true = subst (λ u. is_digit u ≡ true) h e in cc none)

literal_fits : (p : Place) (z : List ℕ) → Fits (literal p z) z
unfolding literal
literal_fits p z =
    let u = slice_index z 0 in
    fits_if (u == 34) _ _ z (λ e. quoted_fits form.Text 0 z (unit_within z 0 34 e (λ h. omega arith)))
    (λ _. fits_if (u == 39) _ _ z (λ _. raw_text_fits z)
    (λ _. fits_if (is_digit u) _ _ z (λ e. number_fits z 0 (digit_within z e) e)
    (λ _. fits_if (is_negative p.last z) _ _ z (λ e. let w = negative_within p.last z e in number_fits z 1 w.0 w.1)
    (λ _. fits_if (begins_list p && opens_list z) _ _ z (λ e. list_fits z (both_right _ _ e))
    (λ _. fits_if (begins_symbol p && u == 58) _ _ z (λ _. symbol_fits p z) (λ _. signed_fits p z))))))

of_method_place_fits : (o : Option MethodPlace) (p : Place) (z : List ℕ) → Fits (of_method_place o p z) z
of_method_place_fits None p z = literal_fits p z
of_method_place_fits (Some place) p z = method_signed_fits place p z

token_fits : (p : Place) (z : List ℕ) → Fits (token p z) z
unfolding token
token_fits p z =
    let u = slice_index z 0 in
    fits_if (starts_name z) _ _ z (λ e. word_fits p.last z e)
    (λ _. fits_if (u == 64) _ _ z (λ _. ivar_fits z)
    (λ _. fits_if (u == 36) _ _ z (λ _. gvar_fits z) (λ _. of_method_place_fits (method_place p.last) p z)))

comment_some : (z : List ℕ) → (slice_index z 0 == 35) ≡ true → newline_len z 0 ≡ 0 → 0 < run class.Line z
comment_some z e none =
    run_moves (step class.Line) z (unit_within z 0 35 e (λ h. omega arith))
    (λ h. let more : one_if (0 == 0) ≡ 0 = subst (λ n. one_if (n == 0) ≡ 0) none h in omega (arith, more))

piece_fits : (p : Place) (z : List ℕ) → Fits (piece p z) z
unfolding piece
piece_fits p z =
    let blanks = run class.Blank z in
    fits_if (not (blanks == 0)) _ _ z (λ e. (omega (arith, other_unit _ 0 (not_true _ e)), run_fits class.Blank z))
    (λ _. fits_if (not (newline_len z 0 == 0)) _ _ z (λ e. newline_fits p.last z (other_unit _ 0 (not_true _ e)))
    (λ n. fits_if (slice_index z 0 == 35) _ _ z (λ e. (comment_some z e (same_unit _ 0 (not_false _ n)), run_fits class.Line z))
    (λ _. token_fits p z)))
  where
    not_false : (b : Bool) → not b ≡ false → b ≡ true
    not_false true h = refl
    not_false false h = cc h

over_or : (a b c : Bool) → (a || (b && c)) ≡ true → (a || c) ≡ true
over_or true b c h = refl
over_or false true c h = h
over_or false false c h = cc h

in_code_fits : (p : Place) (z : List ℕ) → Fits (in_code p z) z
unfolding in_code
in_code_fits p z =
    fits_if (length z == 0 || (p.line_start && is_end_line z)) stand.End _ z (λ e. over_or (length z == 0) p.line_start (is_end_line z) e)
    (λ _. fits_if (p.text_start && slice_index z 0 == 0xFEFF) _ _ z (λ e. (omega arith, omega (arith, unit_within z 0 0xFEFF (both_right _ _ e) (λ h. omega arith))))
    (λ _. fits_if (p.line_start && begins BLOCK_BEGIN.now z) _ _ z (λ _. block_fits z) (λ _. piece_fits p z)))

in_mode_fits : (m : Mode) (p : Place) (z : List ℕ) → Fits (in_mode m p z) z
in_mode_fits mode.Code p z = in_code_fits p z
in_mode_fits mode.Text p z = in_text_fits z
in_mode_fits (mode.List b left) p z = in_list_fits b left z

pub stands_fits : (p : Place) (z : List ℕ) → Fits (stands p z) z
unfolding stands
stands_fits p z = in_mode_fits p.mode p z
