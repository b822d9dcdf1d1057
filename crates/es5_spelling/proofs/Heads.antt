-- What the pieces of an expression begin with, so that no sign before it grows longer.
use Rattle.std.proofs.Common.{◌≡◌, ℕ, ◌<◌, ◌^◌, Bool, true, false, cond, nat_eq, List, [], ◌∷◌, ◌++◌, take_while, pos, Option, Some, None, codes, refl, sym, ap, ◌∙◌, subst, arith}
use Rattle.std.specs.Prelude.{if◌then◌else◌, nat_le}
use Rattle.std.specs.Fmt.{decimal}
use Rattle.std.proofs.lemmas.Grind.{common_steps, flat_map-append}
use Rattle.std.proofs.lemmas.List.Sums.{take_while-cons}
use Rattle.es5_tree.specs.declared.sign.Sign.TheVariants as sign
use Rattle.es5_tree.specs.declared.token.EsMark.TheVariants as mark
use Rattle.es5_tree.specs.declared.tree.EsExpr.{EsExpr}
use Rattle.es5_tree.specs.declared.tree.EsKind.{EsKind}
use Rattle.es5_tree.specs.declared.tree.Operator.{Operator}
use Rattle.es5_tree.specs.declared.tree.Operator.TheVariants as operator
use Rattle.es5_tree.specs.Characters.{is_digit, is_letter}
use Rattle.es5_tree.specs.Numerals.{numeral}
use Rattle.es5_tree.specs.Signs.{sign_at}
use Rattle.es5_tree.proofs.OneCut.{no_digits}
use Rattle.es5_tree.proofs.Written.{number_stands_is}
use Rattle.es5_printer.specs.declared.level.Level.{Level}
use Rattle.es5_printer.specs.declared.level.Level.TheVariants as level
use Rattle.es5_printer.specs.Forms.{at_level, bracketed, Form, operand_behind, Part, sign_of}
use Rattle.es5_printer.specs.Levels.{of_operator, of_right, tightness}
use Rattle.es5_printer.specs.Pieces.{bytes_of, marked, Piece, piece_bytes}
use Rattle.es5_printer.specs.Text.{expr_part, kind_form}
use Rattle.es5_printer.proofs.Equations.{expr_layer}
use Rattle.es5_spelling.specs.Spellable.{and, array, assign, binary, call, cond as cond_, delete, false_, function, index, IsForm, member, name, neg, not_, null, num, object, or, str, this, true_, typeof}
use Rattle.es5_spelling.proofs.Names.{identifier_word}
use Rattle.es5_spelling.proofs.Shapes.{form_and, form_array, form_assign, form_binary, form_call, form_cond, form_delete, form_false_, form_function, form_index, form_member, form_name, form_neg, form_not_, form_null, form_num, form_object, form_or, form_str, form_this, form_true_, form_typeof}

-- with a `-` in front or without one
pub data Opens : Bool → List ℕ → Type 0 where
  letter : (m : Bool) (byte : ℕ) (more : List ℕ) → is_letter byte ≡ true → Opens m (byte ∷ more)
  digit : (m : Bool) (byte : ℕ) (more : List ℕ) → is_digit byte ≡ true → Opens m (byte ∷ more)
  quote : (m : Bool) (more : List ℕ) → Opens m (34 ∷ more)
  paren : (m : Bool) (more : List ℕ) → Opens m (40 ∷ more)
  bracket : (m : Bool) (more : List ℕ) → Opens m (91 ∷ more)
  brace : (m : Bool) (more : List ℕ) → Opens m (123 ∷ more)
  exclamation : (m : Bool) (more : List ℕ) → Opens m (33 ∷ more)
  dash : (more : List ℕ) → Opens true (45 ∷ more)

opens_more : (m : Bool) (b rest : List ℕ) → Opens m b → Opens m (b ++ rest)
opens_more m _ rest (letter _ byte more h) = letter m byte (more ++ rest) h
opens_more m _ rest (digit _ byte more h) = digit m byte (more ++ rest) h
opens_more m _ rest (quote _ more) = quote m (more ++ rest)
opens_more m _ rest (paren _ more) = paren m (more ++ rest)
opens_more m _ rest (bracket _ more) = bracket m (more ++ rest)
opens_more m _ rest (brace _ more) = brace m (more ++ rest)
opens_more m _ rest (exclamation _ more) = exclamation m (more ++ rest)
opens_more _ _ rest (dash more) = dash (more ++ rest)

opens_too : (m n : Bool) (b : List ℕ) → (m ≡ true → n ≡ true) → Opens m b → Opens n b
opens_too _ n _ h (letter _ byte more l) = letter n byte more l
opens_too _ n _ h (digit _ byte more l) = digit n byte more l
opens_too _ n _ h (quote _ more) = quote n more
opens_too _ n _ h (paren _ more) = paren n more
opens_too _ n _ h (bracket _ more) = bracket n more
opens_too _ n _ h (brace _ more) = brace n more
opens_too _ n _ h (exclamation _ more) = exclamation n more
opens_too _ n _ h (dash more) = subst (λ b. Opens b (45 ∷ more)) (sym (h refl)) (dash more)

-- ---- no sign grows longer

letter_no_equals : (byte : ℕ) → is_letter byte ≡ true → nat_eq 61 byte ≡ false
letter_no_equals byte e = grind (arith, common_steps)

digit_no_equals : (byte : ℕ) → is_digit byte ≡ true → nat_eq 61 byte ≡ false
digit_no_equals byte e = grind (arith, common_steps)

letter_no_minus : (byte : ℕ) → is_letter byte ≡ true → nat_eq 45 byte ≡ false
letter_no_minus byte e = grind (arith, common_steps)

digit_no_minus : (byte : ℕ) → is_digit byte ≡ true → nat_eq 45 byte ≡ false
digit_no_minus byte e = grind (arith, common_steps)

not_before : (byte : ℕ) (more : List ℕ) → nat_eq 61 byte ≡ false → sign_at (33 ∷ byte ∷ more) ≡ Some (sign.Mark mark.Not, 1)
unfolding sign_at
not_before byte more e = rw e refl

minus_alone : (byte : ℕ) (more : List ℕ) → nat_eq 45 byte ≡ false → sign_at (45 ∷ byte ∷ more) ≡ Some (sign.Mark mark.Minus, 1)
unfolding sign_at
minus_alone byte more e = rw e refl

pub not_sign : (m : Bool) (b rest : List ℕ) → Opens m b → sign_at (33 ∷ (b ++ rest)) ≡ Some (sign.Mark mark.Not, 1)
not_sign _ _ rest (letter _ byte more h) = not_before byte (more ++ rest) (letter_no_equals byte h)
not_sign _ _ rest (digit _ byte more h) = not_before byte (more ++ rest) (digit_no_equals byte h)
not_sign _ _ rest (quote _ more) = not_before 34 (more ++ rest) refl
not_sign _ _ rest (paren _ more) = not_before 40 (more ++ rest) refl
not_sign _ _ rest (bracket _ more) = not_before 91 (more ++ rest) refl
not_sign _ _ rest (brace _ more) = not_before 123 (more ++ rest) refl
not_sign _ _ rest (exclamation _ more) = not_before 33 (more ++ rest) refl
not_sign _ _ rest (dash more) = not_before 45 (more ++ rest) refl

pub minus_sign : (b rest : List ℕ) → Opens false b → sign_at (45 ∷ (b ++ rest)) ≡ Some (sign.Mark mark.Minus, 1)
minus_sign _ rest (letter _ byte more h) = minus_alone byte (more ++ rest) (letter_no_minus byte h)
minus_sign _ rest (digit _ byte more h) = minus_alone byte (more ++ rest) (digit_no_minus byte h)
minus_sign _ rest (quote _ more) = minus_alone 34 (more ++ rest) refl
minus_sign _ rest (paren _ more) = minus_alone 40 (more ++ rest) refl
minus_sign _ rest (bracket _ more) = minus_alone 91 (more ++ rest) refl
minus_sign _ rest (brace _ more) = minus_alone 123 (more ++ rest) refl
minus_sign _ rest (exclamation _ more) = minus_alone 33 (more ++ rest) refl

-- ---- which levels may begin with a `-`

abbrev pub may_minus : Level → Bool
may_minus level.Primary = false
may_minus level.Call = false
may_minus level.Numeral = false
may_minus level.Unary = false
may_minus _ = true

-- those from the numerals on don't
high_no_minus : (l : Level) → nat_le 10 (tightness l) ≡ true → may_minus l ≡ false
high_no_minus level.Primary e = refl
high_no_minus level.Call e = refl
high_no_minus level.Numeral e = refl
high_no_minus level.Unary e = refl
high_no_minus level.Negation e = sym e
high_no_minus level.Multiplicative e = sym e
high_no_minus level.Additive e = sym e
high_no_minus level.Relational e = sym e
high_no_minus level.Equality e = sym e
high_no_minus level.And e = sym e
high_no_minus level.Or e = sym e
high_no_minus level.Conditional e = sym e
high_no_minus level.Assignment e = sym e

-- of those from the unary ones on, only a `-` before a value does
unary_no_minus : (l : Level) → nat_le 8 (tightness l) ≡ true → nat_eq (tightness l) 9 ≡ false → may_minus l ≡ false
unary_no_minus level.Primary e f = refl
unary_no_minus level.Call e f = refl
unary_no_minus level.Numeral e f = refl
unary_no_minus level.Unary e f = refl
unary_no_minus level.Negation e f = f
unary_no_minus level.Multiplicative e f = sym e
unary_no_minus level.Additive e f = sym e
unary_no_minus level.Relational e f = sym e
unary_no_minus level.Equality e f = sym e
unary_no_minus level.And e f = sym e
unary_no_minus level.Or e f = sym e
unary_no_minus level.Conditional e f = sym e
unary_no_minus level.Assignment e f = sym e

-- ---- expressions at a level

abbrev pub Head : Form → Type 0
Head f = (o : Option ℕ) → Opens (may_minus f.0) (bytes_of (f.1.1 o))

at_by : (w l : Level) (ps : List Piece) (m c : Bool) → nat_le (tightness w) (tightness l) ≡ c → (nat_le (tightness w) (tightness l) ≡ true → may_minus l ≡ true → m ≡ true) → Opens (may_minus l) (bytes_of ps) → Opens m (bytes_of (if c then ps else bracketed ps))
at_by w l ps m true e h o = opens_too (may_minus l) m (bytes_of ps) (h e) o
at_by w l ps m false e h o = paren m _

abbrev HeadAt : Bool → Level → Part → Type 0
HeadAt m w p = Opens m (bytes_of (at_level w p))

head_at : (m : Bool) (w : Level) (e : EsExpr) → (nat_le (tightness w) (tightness (kind_form e.kind).0) ≡ true → may_minus (kind_form e.kind).0 ≡ true → m ≡ true) → Head (kind_form e.kind) → Opens m (bytes_of (at_level w (expr_part e)))
head_at m w e h head =
    let f : Form = kind_form e.kind in
    subst (HeadAt m w) (sym (expr_layer e)) (at_by w f.0 (f.1.1 e.origin) m (nat_le (tightness w) (tightness f.0)) refl h (head e.origin))

-- a left operand, before which any sign may stand
left_head : (w : Level) (e : EsExpr) → Head (kind_form e.kind) → Opens true (bytes_of (at_level w (expr_part e)))
left_head w e head = head_at true w e (λ t m. refl) head

clash : (b : Bool) → b ≡ false → b ≡ true → false ≡ true
clash b e f = sym e ∙ f

-- of a member, an index or a call
call_head : (e : EsExpr) → Head (kind_form e.kind) → Opens false (bytes_of (at_level level.Numeral (expr_part e)))
call_head e head = head_at false level.Numeral e (λ t m. clash _ (high_no_minus (kind_form e.kind).0 t) m) head

from_ten : (l : Level) → nat_le 11 (tightness l) ≡ true → nat_le 10 (tightness l) ≡ true
from_ten level.Primary e = refl
from_ten level.Call e = refl
from_ten level.Numeral e = refl
from_ten level.Unary e = e
from_ten level.Negation e = e
from_ten level.Multiplicative e = e
from_ten level.Additive e = e
from_ten level.Relational e = e
from_ten level.Equality e = e
from_ten level.And e = e
from_ten level.Or e = e
from_ten level.Conditional e = e
from_ten level.Assignment e = e

member_head : (e : EsExpr) → Head (kind_form e.kind) → Opens false (bytes_of (at_level level.Call (expr_part e)))
member_head e head = head_at false level.Call e (λ t m. clash _ (high_no_minus (kind_form e.kind).0 (from_ten (kind_form e.kind).0 t)) m) head

-- behind a `-` that no blank follows
pub negated_head : (e : EsExpr) → nat_eq (tightness (kind_form e.kind).0) 9 ≡ false → Head (kind_form e.kind) → Opens false (bytes_of (at_level level.Unary (expr_part e)))
negated_head e n head = head_at false level.Unary e (λ t m. clash _ (unary_no_minus (kind_form e.kind).0 t n) m) head

-- behind a `!`
pub unary_head : (e : EsExpr) → Head (kind_form e.kind) → Opens true (bytes_of (at_level level.Unary (expr_part e)))
unary_head e head = left_head level.Unary e head

joined : (m : Bool) (ps qs : List Piece) → Opens m (bytes_of ps) → Opens m (bytes_of (ps ++ qs))
joined m ps qs o = subst (Opens m) (sym (flat_map-append piece_bytes ps qs)) (opens_more m (bytes_of ps) (bytes_of qs) o)

marks : (m : Bool) (o : Option ℕ) (ps : List Piece) → Opens m (bytes_of ps) → Opens m (bytes_of (marked o ++ ps))
marks m None ps h = h
marks m (Some o) ps h = h

-- ---- the forms

digits_open : (n : ℕ) (digits : List ℕ) → numeral (take_while is_digit digits) ≡ Some n → Opens false digits
digits_open n [] e = absurd (let no : None ≡ Some n = sym no_digits ∙ e in cc)
digits_open n (c ∷ cs) e = by (is_digit c) refl
  where
    by : (b : Bool) → is_digit c ≡ b → Opens false (c ∷ cs)
    by true h = digit false c cs h
    by false h = absurd (let no : None ≡ Some n = sym no_digits ∙ (sym (ap numeral (take_while-cons is_digit c cs ∙ ap (λ b. cond b (c ∷ take_while is_digit cs) []) h)) ∙ e) in cc)

number_opens : (n : ℕ) → n < 2 ^ 53 → Opens false (decimal n ++ [])
number_opens n h = digits_open n (decimal n ++ []) (number_stands_is n [] h refl refl).0

operator_minus : (o : Operator) → may_minus (of_operator o) ≡ true
operator_minus operator.Same = refl
operator_minus operator.Different = refl
operator_minus operator.Less = refl
operator_minus operator.Greater = refl
operator_minus operator.LessOrEqual = refl
operator_minus operator.GreaterOrEqual = refl
operator_minus operator.Add = refl
operator_minus operator.Subtract = refl
operator_minus operator.Multiply = refl
operator_minus operator.Divide = refl
operator_minus operator.Remainder = refl

minus_opens : (b : Bool) (more : List ℕ) → Opens true ((if b then codes "- " else codes "-") ++ more)
minus_opens true more = dash (32 ∷ more)
minus_opens false more = dash more

pub heads : (k : EsKind) → IsForm k → Head (kind_form k)
heads _ (num v h) = subst Head (sym (form_num (pos v))) (λ o. marks false o _ (number_opens v h))
heads _ (str u h) = subst Head (sym (form_str u)) (λ o. marks false o _ (quote false _))
heads _ true_ = subst Head (sym form_true_) (λ o. marks false o _ (letter false 116 _ refl))
heads _ false_ = subst Head (sym form_false_) (λ o. marks false o _ (letter false 102 _ refl))
heads _ null = subst Head (sym form_null) (λ o. marks false o _ (letter false 110 _ refl))
heads _ this = subst Head (sym form_this) (λ o. marks false o _ (letter false 116 _ refl))
heads _ (name u h) =
    let w = identifier_word u h in
    subst Head (sym (form_name u)) (λ o. marks false o _ (subst (λ b. Opens false (b ++ [])) (sym w.bytes) (letter false w.first _ w.letter)))
heads _ (array es h) = subst Head (sym (form_array es)) (λ o. marks false o _ (bracket false _))
heads _ (object ks es a b c h) = subst Head (sym (form_object ks es)) (λ o. marks false o _ (brace false _))
heads _ (function n ps b x y z h) = subst Head (sym (form_function n ps b)) (λ o. marks false o _ (letter false 102 _ refl))
heads _ (member e u m h i) = subst Head (sym (form_member e u m)) (λ o. joined false (at_level level.Call (expr_part e)) _ (member_head e (heads e.kind h)))
heads _ (index e k m h i) = subst Head (sym (form_index e k m)) (λ o. joined false (at_level level.Numeral (expr_part e)) _ (call_head e (heads e.kind h)))
heads _ (call e es h i) = subst Head (sym (form_call e es)) (λ o. marks false o _ (joined false (at_level level.Numeral (expr_part e)) _ (call_head e (heads e.kind h))))
heads _ (not_ e h) = subst Head (sym (form_not_ e)) (λ o. marks false o _ (exclamation false _))
heads _ (neg e h) = subst Head (sym (form_neg e)) (λ o. marks true o _ (minus_opens (nat_eq (tightness (expr_part e).0) 9) _))
heads _ (typeof e h) = subst Head (sym (form_typeof e)) (λ o. marks false o _ (letter false 116 _ refl))
heads _ (delete e m h) = subst Head (sym (form_delete e)) (λ o. marks false o _ (letter false 100 _ refl))
heads _ (binary p l r h i) =
    subst Head (sym (form_binary p l r))
    (λ o. subst (λ m. Opens m (bytes_of (marked o ++ (at_level (of_operator p) (expr_part l) ++ operand_behind (sign_of p) (of_right p) (expr_part r))))) (sym (operator_minus p)) (marks true o _ (joined true (at_level (of_operator p) (expr_part l)) _ (left_head (of_operator p) l (heads l.kind h)))))
heads _ (and l r h i) = subst Head (sym (form_and l r)) (λ o. marks true o _ (joined true (at_level level.And (expr_part l)) _ (left_head level.And l (heads l.kind h))))
heads _ (or l r h i) = subst Head (sym (form_or l r)) (λ o. marks true o _ (joined true (at_level level.Or (expr_part l)) _ (left_head level.Or l (heads l.kind h))))
heads _ (cond_ t l r h i j) = subst Head (sym (form_cond t l r)) (λ o. marks true o _ (joined true (at_level level.Or (expr_part t)) _ (left_head level.Or t (heads t.kind h))))
heads _ (assign l r m h i) = subst Head (sym (form_assign l r)) (λ o. marks true o _ (joined true (at_level level.Call (expr_part l)) _ (left_head level.Call l (heads l.kind h))))
