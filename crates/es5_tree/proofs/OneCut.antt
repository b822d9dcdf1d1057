-- Bytes are cut into pieces in one way at most.
use Rattle.std.proofs.Common.{◌≡◌, ℕ, ◌⊎◌, Bool, true, false, cond, ◌||◌, ◌==◌, List, [], ◌∷◌, ◌++◌, Option, Some, None, drop, take_while, refl, sym, ap, ap₂, ◌∙◌, subst, inl, inr, ⊎_elim, arith}
use Rattle.std.proofs.lemmas.List.{append_cancel_left, append_cancel_right}
use Rattle.std.proofs.lemmas.Bool.{or_cases, eqb-true}
use Rattle.es5_tree.specs.declared.sign.Sign.{Sign}
use Rattle.es5_tree.specs.declared.sign.Sign.TheVariants as sign
use Rattle.es5_tree.specs.declared.token.EsMark.{EsMark}
use Rattle.es5_tree.specs.declared.lexing.Class.{Class}
use Rattle.es5_tree.specs.declared.lexing.Class.TheVariants.{Blank, Letter, Digit, Quote, Other}
use Rattle.es5_tree.specs.declared.lexing.Restriction.{Restriction}
use Rattle.es5_tree.specs.declared.lexing.Restriction.TheVariants.{Free}
use Rattle.es5_tree.specs.Characters.{is_blank, is_letter, is_digit, is_quote, is_name_part, class_of}
use Rattle.es5_tree.specs.Literals.{comment_size, character, Characters, is_star, line_end, block_end}
use Rattle.es5_tree.specs.Numerals.{numeral}
use Rattle.es5_tree.specs.Signs.{sign_at}
use Rattle.es5_tree.specs.Tokens.{Form, Space, Comment, Word, Num, Str, Mark, Stands, StandsAt, StuckAt, after_piece, after_all, Piece, Reaches, Lexes}
use Rattle.std.proofs.lemmas.Grind.{common_steps}
use Rattle.std.proofs.lemmas.List.Sums.{take_while-cons}
use Rattle.es5_tree.proofs.Signs.{class_at, sign_class, some_same, no_sign_at_end}

-- ---- the class of the first byte

abbrev pub class_in : Form → Class
class_in Space = Blank
class_in Comment = Other
class_in (Mark mark) = Other
class_in (Word name) = Letter
class_in (Num value) = Digit
class_in (Str text) = Quote

-- the tests of a digit's class
digit_class : (a b c d : Bool) → c ≡ true → a ≡ false → b ≡ false → cond a Blank (cond b Letter (cond c Digit (cond d Quote Other))) ≡ Digit
digit_class true b c d e f g = cc
digit_class false true c d e f g = cc
digit_class false false true d e f g = refl
digit_class false false false d e f g = cc

-- a digit is neither a blank nor a letter
digit_no_blank : (byte : ℕ) → is_digit byte ≡ true → is_blank byte ≡ false
digit_no_blank byte e = grind (arith, common_steps)

digit_no_letter : (byte : ℕ) → is_digit byte ≡ true → is_letter byte ≡ false
digit_no_letter byte e = grind (arith, common_steps)

pub is_digit_class : (byte : ℕ) → is_digit byte ≡ true → class_of byte ≡ Digit
is_digit_class byte e = digit_class (is_blank byte) (is_letter byte) (is_digit byte) (is_quote byte) e (digit_no_blank byte e) (digit_no_letter byte e)

-- no run of digits is empty
pub no_digits : numeral [] ≡ None
unfolding numeral
no_digits = refl

numeral_class : (bytes : List ℕ) (value : ℕ) → numeral (take_while is_digit bytes) ≡ Some value → class_at bytes ≡ Digit
numeral_class [] value e = absurd (let n : None ≡ Some value = sym no_digits ∙ e in cc)
numeral_class (byte ∷ bytes) value e = by (is_digit byte) refl
  where
    by : (b : Bool) → is_digit byte ≡ b → class_of byte ≡ Digit
    by true f = is_digit_class byte f
    by false f =
        let none : take_while is_digit (byte ∷ bytes) ≡ [] = take_while-cons is_digit byte bytes ∙ ap (λ b. cond b (byte ∷ take_while is_digit bytes) []) f in
        absurd (let n : None ≡ Some value = sym no_digits ∙ ap numeral (sym none) ∙ e in cc)

pub stands_class : (form : Form) (bytes rest : List ℕ) → Stands form bytes rest → class_at bytes ≡ class_in form
stands_class Space bytes rest (byte, e, c) = ap class_at e ∙ c
stands_class Comment bytes rest (more, n, e, s, r) = ap class_at e
stands_class (Mark mark) bytes rest (n, e, r) = sign_class bytes (sign.Mark mark) n e
stands_class (Word name) bytes rest (byte, more, e, c, n, r) = ap class_at e ∙ c
stands_class (Num value) bytes rest (e, r, g) = numeral_class bytes value e
stands_class (Str text) bytes rest (byte, more, e, c, w) = ap class_at e ∙ c

-- ---- comments and signs

abbrev pub begins_comment : List ℕ → Bool
begins_comment [] = false
begins_comment (byte ∷ bytes) = (byte == 47) || is_star byte

by_tests : (a b : Bool) (o p : Option ℕ) (n : ℕ) → cond a o (cond b p None) ≡ Some n → (a || b) ≡ true
by_tests true b o p n e = refl
by_tests false true o p n e = refl
by_tests false false o p n e = cc

comment_begins : (more : List ℕ) (n : ℕ) → comment_size more ≡ Some n → begins_comment more ≡ true
unfolding comment_size
comment_begins [] n e = cc
comment_begins (byte ∷ more) n e = by_tests (byte == 47) (is_star byte) (line_end 1 more) (block_end 1 more) n e

-- the beginning of a comment is no token
begun_refused : (more : List ℕ) → begins_comment more ≡ true → sign_at (47 ∷ more) ≡ Some (sign.Refused, 2)
unfolding sign_at
begun_refused [] e = cc
begun_refused (byte ∷ more) e =
    ⊎_elim
    (λ h. subst (λ b. sign_at (47 ∷ b ∷ more) ≡ Some (sign.Refused, 2)) {x = 47} {y = byte} (sym (eqb-true byte 47 h)) refl)
    (λ h. subst (λ b. sign_at (47 ∷ b ∷ more) ≡ Some (sign.Refused, 2)) {x = 42} {y = byte} (sym (eqb-true byte 42 h)) refl)
    (or_cases (byte == 47) (byte == 42) e)

refused_not : (mark : EsMark) → sign.Refused ≡ sign.Mark mark → ⊥
refused_not mark e = cc

-- no token stands where a comment does
apart : (mark : EsMark) (bytes rest rest' : List ℕ) → Stands Comment bytes rest → Stands (Mark mark) bytes rest' → ⊥
apart mark bytes rest rest' (more, n, e, s, r) (m, f, r') = refused_not mark (ap (λ p. p.0) (some_same (sign.Refused, 2) (sign.Mark mark, m) (sym (begun_refused more (comment_begins more n s)) ∙ ap sign_at (sym e) ∙ f)))

none_at_end : (found : Sign × ℕ) → None ≡ Some found → ⊥
none_at_end found e = cc

-- no piece stands at the end of the bytes
pub stands_some : (form : Form) (rest : List ℕ) → Stands form [] rest → ⊥
stands_some Comment rest (more, n, e, s, r) = cc
stands_some (Mark mark) rest (n, e, r) = none_at_end (sign.Mark mark, n) (sym no_sign_at_end ∙ e)
stands_some form rest h = let e : Other ≡ class_in form = stands_class form [] rest h in cc

-- ---- string literals

quote_test : (a b c d : Bool) → cond a Blank (cond b Letter (cond c Digit (cond d Quote Other))) ≡ Quote → d ≡ true
quote_test true b c d e = cc
quote_test false true c d e = cc
quote_test false false true d e = cc
quote_test false false false true e = refl
quote_test false false false false e = cc

pub quote_is : (byte : ℕ) → class_of byte ≡ Quote → (byte ≡ 34) ⊎ (byte ≡ 39)
quote_is byte e =
    let t = quote_test (is_blank byte) (is_letter byte) (is_digit byte) (is_quote byte) e in
    ⊎_elim (λ h. inl (eqb-true byte 34 h)) (λ h. inr (eqb-true byte 39 h)) (or_cases (byte == 34) (byte == 39) t)

-- no character stands at the closing quote
pub closes : (quote : ℕ) (rest : List ℕ) → (quote ≡ 34) ⊎ (quote ≡ 39) → character quote (quote ∷ rest) ≡ None
unfolding character
closes quote rest h =
    ⊎_elim
    (λ e. subst (λ q. character q (q ∷ rest) ≡ None) {x = 34} {y = quote} (sym e) refl)
    (λ e. subst (λ q. character q (q ∷ rest) ≡ None) {x = 39} {y = quote} (sym e) refl)
    h

abbrev unit_in : Option (ℕ × ℕ) → ℕ
unit_in None = 0
unit_in (Some p) = p.0

abbrev size_in : Option (ℕ × ℕ) → ℕ
size_in None = 0
size_in (Some p) = p.1

pub none_some : (o : Option (ℕ × ℕ)) (p : ℕ × ℕ) → o ≡ None → o ≡ Some p → ⊥
none_some o p e f = cc

pub same_cons : (x y : ℕ) (xs ys : List ℕ) → x ∷ xs ≡ y ∷ ys → (x ≡ y) × (xs ≡ ys)
same_cons x y xs ys e = (cc, cc)

-- a string literal stands for one text
characters_one : (quote : ℕ) (text other bytes rest rest' : List ℕ) → (quote ≡ 34) ⊎ (quote ≡ 39) → Characters quote text bytes rest → Characters quote other bytes rest' → (text ≡ other) × (rest ≡ rest')
characters_one quote [] [] bytes rest rest' q e f = (refl, (same_cons quote quote rest rest' (sym e ∙ f)).1)
characters_one quote [] (unit ∷ other) bytes rest rest' q e (n, c, w) = absurd (none_some _ (unit, n) (ap (character quote) e ∙ closes quote rest q) c)
characters_one quote (unit ∷ text) [] bytes rest rest' q (n, c, w) e = absurd (none_some _ (unit, n) (ap (character quote) e ∙ closes quote rest' q) c)
characters_one quote (unit ∷ text) (unit' ∷ other) bytes rest rest' q (n, c, w) (n', c', w') =
    let same = sym c ∙ c' in
    let i = characters_one quote text other (drop n bytes) rest rest' q w (subst (λ k. Characters quote other (drop k bytes) rest') {x = n'} {y = n} (sym (ap size_in same)) w') in
    (ap₂ (λ (x : ℕ) (xs : List ℕ). x ∷ xs) (ap unit_in same) i.0, i.1)

-- ---- pieces

word_at : List ℕ → List ℕ
word_at [] = []
word_at (byte ∷ more) = byte ∷ take_while is_name_part more

abbrev size_or : Option ℕ → ℕ
size_or None = 0
size_or (Some n) = n

mark_same : (mark other : EsMark) → sign.Mark mark ≡ sign.Mark other → mark ≡ other
mark_same mark other e = cc

value_same : (value other : ℕ) → Some value ≡ Some other → value ≡ other
value_same value other e = cc

-- a form stands at the front of the bytes, with what is behind it, in one way at most
pub stands_one : (form other : Form) (bytes rest rest' : List ℕ) → Stands form bytes rest → Stands other bytes rest' → (form ≡ other) × (rest ≡ rest')
unfolding word_at
stands_one Space Space bytes rest rest' (byte, e, c) (byte', e', c') = (refl, (same_cons byte byte' rest rest' (sym e ∙ e')).1)
stands_one Comment Comment bytes rest rest' (more, n, e, s, r) (more', n', e', s', r') =
    let mores = (same_cons 47 47 more more' (sym e ∙ e')).1 in
    let sizes : n ≡ n' = ap size_or (sym s ∙ ap comment_size mores ∙ s') in
    (refl, r ∙ ap₂ (λ k l. drop k l) sizes mores ∙ sym r')
stands_one Comment (Mark mark) bytes rest rest' h h' = absurd (apart mark bytes rest rest' h h')
stands_one (Mark mark) Comment bytes rest rest' h h' = absurd (apart mark bytes rest' rest h' h)
stands_one (Mark mark) (Mark other) bytes rest rest' (n, e, r) (n', e', r') =
    let same = some_same (sign.Mark mark, n) (sign.Mark other, n') (sym e ∙ e') in
    (ap Mark (mark_same mark other (ap (λ p. p.0) same)), r ∙ ap (λ p. drop p.1 bytes) same ∙ sym r')
stands_one (Word name) (Word other) bytes rest rest' (byte, more, e, c, n, r) (byte', more', e', c', n', r') =
    let same : name ≡ other = n ∙ sym (ap word_at e) ∙ ap word_at e' ∙ sym n' in
    (ap Word same, append_cancel_left other rest rest' (ap (λ l. l ++ rest) (sym same) ∙ sym r ∙ r'))
stands_one (Num value) (Num other) bytes rest rest' (e, r, g) (e', r', g') =
    (ap Num (value_same value other (sym e ∙ e')), append_cancel_left (take_while is_digit bytes) rest rest' (sym r ∙ r'))
stands_one (Str text) (Str other) bytes rest rest' (quote, more, e, c, w) (quote', more', e', c', w') =
    let same = same_cons quote quote' more more' (sym e ∙ e') in
    let v = subst (λ l. Characters quote other l rest') (sym same.1) (subst (λ q. Characters q other more' rest') (sym same.0) w') in
    let i = characters_one quote text other more rest rest' (quote_is quote c) w v in
    (ap Str i.0, i.1)
stands_one form other bytes rest rest' h h' = absurd (let e : class_in form ≡ class_in other = sym (stands_class form bytes rest h) ∙ stands_class other bytes rest' h' in cc)

-- bytes are cut into pieces, up to where none stands, in one way at most
pub reaches_one : (pieces others : List Piece) (restriction : Restriction) (bytes rest rest' : List ℕ) → Reaches restriction bytes pieces rest → Reaches restriction bytes others rest' → StuckAt (after_all restriction pieces) rest → StuckAt (after_all restriction others) rest' → (pieces ≡ others) × (rest ≡ rest')
reaches_one [] [] restriction bytes rest rest' h h' s s' = (refl, sym h ∙ h')
reaches_one [] (other ∷ others) restriction bytes rest rest' e (mid, r, st, l) s s' = absurd (s other.form mid (subst (λ b. StandsAt restriction other.form b mid) e st))
reaches_one (piece ∷ pieces) [] restriction bytes rest rest' (mid, r, st, l) e s s' = absurd (s' piece.form mid (subst (λ b. StandsAt restriction piece.form b mid) e st))
reaches_one (piece ∷ pieces) (other ∷ others) restriction bytes rest rest' (mid, r, st, l) (mid', r', st', l') s s' =
    let one = stands_one piece.form other.form bytes mid mid' st.stands st'.stands in
    let slices : piece.slice ≡ other.slice = append_cancel_right piece.slice other.slice mid (sym r ∙ r' ∙ ap (λ x. other.slice ++ x) (sym one.1)) in
    let same : piece ≡ other = ap₂ (λ (f : Form) (s : List ℕ). let p : Piece = record { form = f; slice = s } in p) one.0 slices in
    let next : after_piece restriction other ≡ after_piece restriction piece = ap (after_piece restriction) (sym same) in
    let more : Reaches (after_piece restriction piece) mid others rest' = subst (λ p. Reaches p mid others rest') next (subst (λ b. Reaches (after_piece restriction other) b others rest') (sym one.1) l') in
    let i = reaches_one pieces others (after_piece restriction piece) mid rest rest' l more s (subst (λ p. StuckAt (after_all p others) rest') next s') in
    (ap₂ (λ (p : Piece) (ps : List Piece). p ∷ ps) same i.0, i.1)

pub end_stuck : (restriction : Restriction) → StuckAt restriction []
end_stuck restriction form behind h = stands_some form behind h.stands

-- bytes are cut into pieces in one way at most
pub lexes_one : (pieces others : List Piece) (bytes : List ℕ) → Lexes bytes pieces → Lexes bytes others → pieces ≡ others
lexes_one pieces others bytes h h' = (reaches_one pieces others Free bytes [] [] h h' (end_stuck _) (end_stuck _)).0
