-- The pieces of each form of expression, from those of its parts: what they are cut into, and what that spells.
use Rattle.std.proofs.Common.{◌≡◌, ℕ, ◌<◌, ◌^◌, Bool, true, false, nat_eq, List, [], ◌∷◌, ◌++◌, length, map, pos, Option, Some, None, codes, refl, sym, ap, ◌∙◌, subst, arith}
use Rattle.std.specs.Prelude.{if◌then◌else◌, bytes_eq}
use Rattle.std.specs.Fmt.{decimal}
use Rattle.std.specs.List.{AllByRecursion}
use Rattle.opal_base.specs.declared.place.Pos.{Pos}
use Rattle.opal_base.specs.Text.{utf8_of}
use Rattle.es5_tree.specs.declared.lexing.Restriction.{Restriction}
use Rattle.es5_tree.specs.declared.lexing.Restriction.TheVariants.{Free, SameLine}
use Rattle.es5_tree.specs.declared.terminal.Keyword.TheVariants as keyword
use Rattle.es5_tree.specs.declared.terminal.Terminal.TheVariants as terminal
use Rattle.es5_tree.specs.declared.token.EsMark.{EsMark}
use Rattle.es5_tree.specs.declared.token.EsMark.TheVariants as mark
use Rattle.es5_tree.specs.declared.token.EsToken.{EsToken}
use Rattle.es5_tree.specs.declared.token.EsTokenKind.{EsTokenKind}
use Rattle.es5_tree.specs.declared.token.EsTokenKind.TheVariants as token
use Rattle.es5_tree.specs.declared.tree.EsExpr.{EsExpr}
use Rattle.es5_tree.specs.declared.tree.EsKind.{EsKind, out-EsKind}
use Rattle.es5_tree.specs.declared.tree.EsKind.TheVariants as kind
use Rattle.es5_tree.specs.declared.tree.EsStmt.{EsStmt}
use Rattle.es5_tree.specs.declared.tree.Operator.{Operator}
use Rattle.es5_tree.specs.declared.tree.Operator.TheVariants as operator
use Rattle.es5_tree.specs.Characters.{begins, is_name_part}
use Rattle.es5_tree.specs.Grammar.Expressions.{block, statement_list}
use Rattle.es5_tree.specs.Grammar.Nodes.{is_member_form, is_target_form, token_kind, word_kind}
use Rattle.es5_tree.specs.Grammar.Statements.{begins_no_other}
use Rattle.es5_tree.specs.Grammar.Terminals.{a, code_of, identifier, key, terminal_of, terminal_of_word}
use Rattle.es5_tree.specs.Text.{literal}
use Rattle.es5_tree.specs.Tokens.{after, Num, Str}
use Rattle.es5_tree.proofs.Written.{number_stands_is, text_stands_is}
use Rattle.es5_printer.specs.declared.level.Level.{Level}
use Rattle.es5_printer.specs.declared.level.Level.TheVariants as level
use Rattle.es5_printer.specs.Forms.{arguments, array, at_level, conditional, Form, index, infixed, key_behind, lines, member, minus_before, name_if, of_one_token, opens_at, operand_behind, pair, pairs, param, Part, pieces, value_behind, question_sign}
use Rattle.es5_printer.specs.Forms as printed
use Rattle.es5_printer.specs.Levels.{tightness}
use Rattle.es5_printer.specs.Pieces.{bytes_of, listed, marked, more_listed, Piece, plain, text}
use Rattle.es5_printer.specs.Text.{expr_part, kind_form, stmt_pieces}
use Rattle.es5_spelling.specs.Spellable.{IsBinding, IsBindingIf, IsIdentifier, IsText, none_twice}
use Rattle.es5_spelling.proofs.Bare.{same_neg, same_not, same_typeof}
use Rattle.es5_spelling.proofs.Bodies.{all_pairs, all_params, block_spelled, BodySpelled, function_spelled, NameIf, no_name, no_pair, no_pairs, no_param, no_params, object_spelled, one_pair, one_param, Pairs, PairsSpelled, Params, ParamsSpelled, some_name, some_pairs, some_params}
use Rattle.es5_spelling.proofs.Cuts.{AreTokens, both, Cut, cut_as, end, free, next, Ready, Then}
use Rattle.es5_spelling.proofs.Heads.{minus_sign, not_sign, Opens}
use Rattle.es5_spelling.proofs.Levels.{at_all, at_wanted, close_bracket, close_brace, close_paren, comma, dot, dotted, Follows, follows_dotted, looseness, no_digit, no_name_part, no_point, open_bracket, open_paren, Own, raised, space, Spelled}
use Rattle.es5_spelling.proofs.Names.{binding_parts, identifier_word, Word}
use Rattle.es5_spelling.proofs.Operators.{and_spelled, Arguments, assign_spelled, call_spelled, cond_spelled, delete_spelled, equality_spelled, index_spelled, member_spelled, or_spelled, product_spelled, relation_spelled, sum_spelled, unary_class, unary_spelled}
use Rattle.es5_spelling.proofs.Primaries.{array_spelled, item, Items, ListSpelled, no_arguments, no_item, no_items, one_spelled, simple_class, some_arguments, some_items}
use Rattle.es5_spelling.proofs.Shapes.{form_and, form_array, form_assign, form_binary, form_call, form_cond, form_delete, form_false_, form_function, form_index, form_member, form_name, form_neg, form_not_, form_null, form_num, form_object, form_or, form_str, form_this, form_true_, form_typeof}
use Rattle.es5_spelling.proofs.Texts.{a_mark, a_space, a_word, behind, join_cut, marked_cut, nothing, one_token, plain_cut, Spaced, text_cut}
use Rattle.es5_spelling.proofs.Texts as piece

-- ---- names

pub a_name : (start : Restriction) (name rest : List ℕ) → Ready start → IsIdentifier name → begins is_name_part rest ≡ false → Cut start (utf8_of name) rest Free (AreTokens (token.Word name ∷ []))
a_name start name rest ready h e =
    let w : Word name = identifier_word name h in
    subst (λ b. Cut start b rest Free (AreTokens (token.Word name ∷ []))) (sym w.bytes)
    (subst (λ r. Cut start (w.first ∷ w.more) rest r (AreTokens (token.Word name ∷ []))) (ap (λ b. if b then SameLine else Free) w.free)
    (subst (λ n. Cut start (w.first ∷ w.more) rest (after start (Some (token.Word n)) (w.first ∷ w.more)) (AreTokens (token.Word n ∷ []))) (sym w.is) (a_word start w.first w.more rest ready w.letter w.parts e)))

class_by : (b : Bool) → identifier (code_of (if b then terminal.Arguments else terminal.Name)) ≡ true
class_by true = refl
class_by false = refl

simple_by : (b : Bool) → simple_class (code_of (if b then terminal.Arguments else terminal.Name)) ≡ true
simple_by true = refl
simple_by false = refl

begins_by : (b : Bool) → begins_no_other (code_of (if b then terminal.Arguments else terminal.Name)) ≡ true
begins_by true = refl
begins_by false = refl

kind_by : (b : Bool) (name : List ℕ) → word_kind (if b then terminal.Arguments else terminal.Name) name ≡ kind.Name name
kind_by true name = refl
kind_by false name = refl

pub identifier_class : (name : List ℕ) → IsIdentifier name → identifier (code_of (terminal_of_word name)) ≡ true
identifier_class name h = ap (λ t. identifier (code_of t)) (identifier_word name h).terminal ∙ class_by (bytes_eq (codes "arguments") name)

pub binding_class : (name : List ℕ) → IsBinding name → a terminal.Name (code_of (terminal_of_word name)) ≡ true
binding_class name h =
    let parts = binding_parts name h in
    ap (λ t. a terminal.Name (code_of t)) ((identifier_word name parts.0).terminal ∙ ap (λ b. if b then terminal.Arguments else terminal.Name) parts.1)

pub binding_name : (start : Restriction) (name rest : List ℕ) → Ready start → IsBinding name → begins is_name_part rest ≡ false → Cut start (utf8_of name) rest Free (AreTokens (token.Word name ∷ []))
binding_name start name rest ready h e = a_name start name rest ready (binding_parts name h).0 e

-- ---- one token

token_own : (t : List ℕ) (k : EsTokenKind) (form : EsKind) → simple_class (code_of (terminal_of k)) ≡ true → begins_no_other (code_of (terminal_of k)) ≡ true → token_kind k ≡ form
    → ((start : Restriction) (rest : List ℕ) → Ready start → Follows true rest → Cut start t rest Free (AreTokens (k ∷ []))) → Own (of_one_token level.Primary t) form
token_own t k form c b is cut o start rest ready follows = marked_cut o (plain t) (plain_cut t (cut_as (λ u x. one_spelled k form u c b is x) (cut start rest ready follows)))

word_own : (first : ℕ) (more : List ℕ) (form : EsKind) → simple_class (code_of (terminal_of_word (first ∷ more))) ≡ true → begins_no_other (code_of (terminal_of_word (first ∷ more))) ≡ true → token_kind (token.Word (first ∷ more)) ≡ form
    → ((start : Restriction) (rest : List ℕ) → Ready start → begins is_name_part rest ≡ false → Cut start (first ∷ more) rest Free (AreTokens (token.Word (first ∷ more) ∷ []))) → Own (of_one_token level.Primary (first ∷ more)) form
word_own first more form c b is cut = token_own (first ∷ more) (token.Word (first ∷ more)) form c b is (λ start rest ready follows. cut start rest ready (no_name_part true rest follows))

pub own_true : Own (kind_form kind.True) kind.True
unfolding terminal_of_word token_kind
own_true = subst (λ f. Own f kind.True) (sym form_true_) (word_own 116 (codes "rue") kind.True refl refl refl (λ start rest ready e. a_word start 116 (codes "rue") rest ready refl refl e))

pub own_false : Own (kind_form kind.False) kind.False
unfolding terminal_of_word token_kind
own_false = subst (λ f. Own f kind.False) (sym form_false_) (word_own 102 (codes "alse") kind.False refl refl refl (λ start rest ready e. a_word start 102 (codes "alse") rest ready refl refl e))

pub own_null : Own (kind_form kind.Null) kind.Null
unfolding terminal_of_word token_kind
own_null = subst (λ f. Own f kind.Null) (sym form_null) (word_own 110 (codes "ull") kind.Null refl refl refl (λ start rest ready e. a_word start 110 (codes "ull") rest ready refl refl e))

pub own_this : Own (kind_form kind.This) kind.This
unfolding terminal_of_word token_kind
own_this = subst (λ f. Own f kind.This) (sym form_this) (word_own 116 (codes "his") kind.This refl refl refl (λ start rest ready e. a_word start 116 (codes "his") rest ready refl refl e))

pub own_name : (name : List ℕ) → IsIdentifier name → Own (kind_form (kind.Name name)) (kind.Name name)
unfolding token_kind
own_name name h =
    let w : Word name = identifier_word name h in
    let b : Bool = bytes_eq (codes "arguments") name in
    subst (λ f. Own f (kind.Name name)) (sym (form_name name))
    (token_own (utf8_of name) (token.Word name) (kind.Name name) (ap (λ t. simple_class (code_of t)) w.terminal ∙ simple_by b) (ap (λ t. begins_no_other (code_of t)) w.terminal ∙ begins_by b) (ap (λ t. word_kind t name) w.terminal ∙ kind_by b name)
    (λ start rest ready follows. a_name start name rest ready h (no_name_part true rest follows)))

pub own_str : (value : List ℕ) → IsText value → Own (kind_form (kind.Str value)) (kind.Str value)
unfolding token_kind
own_str value h =
    subst (λ f. Own f (kind.Str value)) (sym (form_str value))
    (token_own (literal value) (token.Str value) (kind.Str value) refl refl refl (λ start rest ready follows. one_token start (Str value) (token.Str value) (literal value) rest ready refl (text_stands_is value rest h)))

pub own_num : (value : ℕ) → value < 2 ^ 53 → Own (kind_form (kind.Num (pos value))) (kind.Num (pos value))
unfolding token_kind
own_num value h =
    subst (λ f. Own f (kind.Num (pos value))) (sym (form_num (pos value)))
    (λ o start rest ready follows. marked_cut o (plain (decimal value)) (plain_cut (decimal value) (cut_as (λ u x. raised 0 2 false (kind.Num (pos value)) u (omega arith) (one_spelled (token.Num (pos value)) (kind.Num (pos value)) u refl refl refl x))
    (one_token start (Num value) (token.Num (pos value)) (decimal value) rest ready refl (number_stands_is value rest h (no_digit false rest follows) (no_point rest follows))))))

-- ---- lists

abbrev pub Owns : List EsExpr → Type 0
Owns es = AllByRecursion (λ e. Own (kind_form e.kind) e.kind) es

follows_items : (es : List EsExpr) (rest : List ℕ) → Follows false rest → Follows false (bytes_of (more_listed (map pieces (map expr_part es))) ++ rest)
follows_items [] rest f = f
follows_items (e ∷ es) rest f = comma false _

to_item : (opens : Bool) (e : EsExpr) (es : List EsExpr) (u : List EsToken) → Then (AreTokens (token.Mark mark.Comma ∷ [])) (Then (Spelled 12 opens e.kind) (Items es)) u → Items (e ∷ es) u
to_item opens e es _ (both _ _ (next t k end) (both v w s more)) = item t opens e es v w k s more

to_no_item : (u : List EsToken) → AreTokens [] u → Items [] u
to_no_item _ end = no_item

items_cut : (es : List EsExpr) (rest : List ℕ) → Owns es → Follows false rest → Cut Free (bytes_of (more_listed (map pieces (map expr_part es)))) rest Free (Items es)
items_cut [] rest h f = cut_as to_no_item (nothing Free rest)
items_cut (e ∷ es) rest h f =
    let more : List Piece = more_listed (map pieces (map expr_part es)) in
    cut_as (to_item (expr_part e).1.0 e es)
    (text_cut (codes ", ") (pieces (expr_part e) ++ more) rest (piece.comma Free _ free)
    (join_cut (pieces (expr_part e)) more rest (at_all e h.0 Free (bytes_of more ++ rest) free (follows_items es rest f)) (items_cut es rest h.1 f)))

to_no_items : (u : List EsToken) → AreTokens [] u → ListSpelled [] u
to_no_items _ end = no_items

to_no_arguments : (u : List EsToken) → AreTokens [] u → Arguments [] u
to_no_arguments _ end = no_arguments

list_cut : (es : List EsExpr) (rest : List ℕ) → Owns es → Follows false rest → Cut Free (bytes_of (listed (map pieces (map expr_part es)))) rest Free (ListSpelled es)
list_cut [] rest h f = cut_as to_no_items (nothing Free rest)
list_cut (e ∷ es) rest h f =
    let more : List Piece = more_listed (map pieces (map expr_part es)) in
    cut_as (some_items (expr_part e).1.0 e es) (join_cut (pieces (expr_part e)) more rest (at_all e h.0 Free (bytes_of more ++ rest) free (follows_items es rest f)) (items_cut es rest h.1 f))

arguments_cut : (es : List EsExpr) (rest : List ℕ) → Owns es → Follows false rest → Cut Free (bytes_of (listed (map pieces (map expr_part es)))) rest Free (Arguments es)
arguments_cut [] rest h f = cut_as to_no_arguments (nothing Free rest)
arguments_cut (e ∷ es) rest h f =
    let more : List Piece = more_listed (map pieces (map expr_part es)) in
    cut_as (some_arguments (expr_part e).1.0 e es) (join_cut (pieces (expr_part e)) more rest (at_all e h.0 Free (bytes_of more ++ rest) free (follows_items es rest f)) (items_cut es rest h.1 f))

pub own_array : (es : List EsExpr) → Owns es → Own (kind_form (kind.Array es)) (kind.Array es)
own_array es h =
    subst (λ f. Own f (kind.Array es)) (sym (form_array es))
    (λ o start rest ready follows. marked_cut o (array (map expr_part es))
    (cut_as (array_spelled es)
    (text_cut (codes "[") (listed (map pieces (map expr_part es)) ++ plain (codes "]")) rest (piece.open_bracket start _ ready)
    (join_cut (listed (map pieces (map expr_part es))) (plain (codes "]")) rest (list_cut es (93 ∷ rest) h (close_bracket false rest)) (plain_cut (codes "]") (piece.close_bracket Free rest free))))))

-- ---- objects

follows_pairs : (ks : List (List ℕ)) (vs : List Part) (rest : List ℕ) → Follows false rest → Follows false (bytes_of (more_listed (pairs ks vs)) ++ rest)
follows_pairs [] vs rest f = f
follows_pairs (k ∷ ks) [] rest f = f
follows_pairs (k ∷ ks) (v ∷ vs) rest f = comma false _

pair_cut : (k : List ℕ) (e : EsExpr) (rest : List ℕ) → IsIdentifier k → Own (kind_form e.kind) e.kind → Follows false rest
    → Cut Free (bytes_of (pair k (expr_part e))) rest Free (Then (AreTokens (token.Word k ∷ [])) (Then (AreTokens (token.Mark mark.Colon ∷ [])) (Spelled 12 (expr_part e).1.0 e.kind)))
pair_cut k e rest i own f =
    text_cut (utf8_of k) (text (codes ": ") ∷ pieces (expr_part e)) rest (a_name Free k _ free i refl)
    (text_cut (codes ": ") (pieces (expr_part e)) rest (piece.colon Free _ free) (at_all e own Free rest free f))

to_pair : (opens : Bool) (k : List ℕ) (ks : List (List ℕ)) (e : EsExpr) (es : List EsExpr) (u : List EsToken) → IsIdentifier k
    → Then (AreTokens (token.Mark mark.Comma ∷ [])) (Then (Then (AreTokens (token.Word k ∷ [])) (Then (AreTokens (token.Mark mark.Colon ∷ [])) (Spelled 12 opens e.kind))) (Pairs ks es)) u → Pairs (k ∷ ks) (e ∷ es) u
to_pair opens k ks e es _ i (both _ _ (next t c end) (both _ w (both _ _ (next n m end) (both _ v (next d q end) s)) more)) = one_pair t n d opens k ks e es v w c m q (identifier_class k i) s more

to_no_pair : (u : List EsToken) → AreTokens [] u → Pairs [] [] u
to_no_pair _ end = no_pair

pairs_cut : (ks : List (List ℕ)) (es : List EsExpr) (rest : List ℕ) → AllByRecursion IsIdentifier ks → length ks ≡ length es → Owns es → Follows false rest → Cut Free (bytes_of (more_listed (pairs ks (map expr_part es)))) rest Free (Pairs ks es)
pairs_cut [] [] rest i l h f = cut_as to_no_pair (nothing Free rest)
pairs_cut [] (e ∷ es) rest i l h f = absurd (omega (arith, l))
pairs_cut (k ∷ ks) [] rest i l h f = absurd (omega (arith, l))
pairs_cut (k ∷ ks) (e ∷ es) rest i l h f =
    let more : List Piece = more_listed (pairs ks (map expr_part es)) in
    cut_as (λ u x. to_pair (expr_part e).1.0 k ks e es u i.0 x)
    (text_cut (codes ", ") (pair k (expr_part e) ++ more) rest (piece.comma Free _ free)
    (join_cut (pair k (expr_part e)) more rest (pair_cut k e (bytes_of more ++ rest) i.0 h.0 (follows_pairs ks (map expr_part es) rest f)) (pairs_cut ks es rest i.1 (omega (arith, l)) h.1 f)))

to_no_pairs : (u : List EsToken) → AreTokens [] u → PairsSpelled all_pairs [] [] u
to_no_pairs _ end = no_pairs

object_cut : (ks : List (List ℕ)) (es : List EsExpr) (rest : List ℕ) → AllByRecursion IsIdentifier ks → none_twice ks ≡ true → length ks ≡ length es → Owns es → Follows false rest → Cut Free (bytes_of (listed (pairs ks (map expr_part es)))) rest Free (PairsSpelled all_pairs ks es)
object_cut [] [] rest i n l h f = cut_as to_no_pairs (nothing Free rest)
object_cut [] (e ∷ es) rest i n l h f = absurd (omega (arith, l))
object_cut (k ∷ ks) [] rest i n l h f = absurd (omega (arith, l))
object_cut (k ∷ ks) (e ∷ es) rest i n l h f =
    let more : List Piece = more_listed (pairs ks (map expr_part es)) in
    cut_as (λ u x. some_pairs (expr_part e).1.0 k ks e es u (identifier_class k i.0) n x)
    (join_cut (pair k (expr_part e)) more rest (pair_cut k e (bytes_of more ++ rest) i.0 h.0 (follows_pairs ks (map expr_part es) rest f)) (pairs_cut ks es rest i.1 (omega (arith, l)) h.1 f))

pub own_object : (ks : List (List ℕ)) (es : List EsExpr) → AllByRecursion IsIdentifier ks → none_twice ks ≡ true → length ks ≡ length es → Owns es → Own (kind_form (kind.Object ks es)) (kind.Object ks es)
own_object ks es i n l h =
    subst (λ f. Own f (kind.Object ks es)) (sym (form_object ks es))
    (λ o start rest ready follows. marked_cut o (printed.object ks (map expr_part es))
    (cut_as (object_spelled ks es)
    (text_cut (codes "{") (listed (pairs ks (map expr_part es)) ++ plain (codes "}")) rest (piece.open_brace start _ ready)
    (join_cut (listed (pairs ks (map expr_part es))) (plain (codes "}")) rest (object_cut ks es (125 ∷ rest) i n l h (close_brace false rest)) (plain_cut (codes "}") (piece.close_brace Free rest free))))))

-- ---- functions

-- the statements of a body, each on a line of its own
abbrev pub Lines : Bool → Bool → List EsStmt → Type 0
Lines f l ss = (rest : List ℕ) → Cut Free (bytes_of (lines (map stmt_pieces ss))) rest Free (BodySpelled (statement_list f l) ss)

pub block_cut : (f l : Bool) (ss : List EsStmt) (rest : List ℕ) → Lines f l ss → Cut Free (bytes_of (printed.block (map stmt_pieces ss))) rest Free (BodySpelled (block f l) ss)
block_cut f l ss rest h =
    cut_as (block_spelled f l ss)
    (text_cut (codes "{\n") (lines (map stmt_pieces ss) ++ plain (codes "}")) rest (piece.open_brace_line _)
    (join_cut (lines (map stmt_pieces ss)) (plain (codes "}")) rest (h (125 ∷ rest)) (plain_cut (codes "}") (piece.close_brace Free rest free))))

follows_params : (ps : List (List ℕ)) (rest : List ℕ) → begins is_name_part rest ≡ false → begins is_name_part (bytes_of (more_listed (map param ps)) ++ rest) ≡ false
follows_params [] rest f = f
follows_params (p ∷ ps) rest f = refl

to_param : (p : List ℕ) (ps : List (List ℕ)) (u : List EsToken) → IsBinding p → Then (AreTokens (token.Mark mark.Comma ∷ [])) (Then (AreTokens (token.Word p ∷ [])) (Params ps)) u → Params (p ∷ ps) u
to_param p ps _ i (both _ _ (next t c end) (both _ w (next n m end) more)) = one_param t n p ps w c m (binding_class p i) more

to_no_param : (u : List EsToken) → AreTokens [] u → Params [] u
to_no_param _ end = no_param

params_cut : (ps : List (List ℕ)) (rest : List ℕ) → AllByRecursion IsBinding ps → begins is_name_part rest ≡ false → Cut Free (bytes_of (more_listed (map param ps))) rest Free (Params ps)
params_cut [] rest i f = cut_as to_no_param (nothing Free rest)
params_cut (p ∷ ps) rest i f =
    let more : List Piece = more_listed (map param ps) in
    cut_as (λ u x. to_param p ps u i.0 x)
    (text_cut (codes ", ") (param p ++ more) rest (piece.comma Free _ free)
    (join_cut (param p) more rest (plain_cut (utf8_of p) (binding_name Free p (bytes_of more ++ rest) free i.0 (follows_params ps rest f))) (params_cut ps rest i.1 f)))

to_no_params : (u : List EsToken) → AreTokens [] u → ParamsSpelled all_params [] u
to_no_params _ end = no_params

all_params_cut : (ps : List (List ℕ)) (rest : List ℕ) → AllByRecursion IsBinding ps → none_twice ps ≡ true → begins is_name_part rest ≡ false → Cut Free (bytes_of (listed (map param ps))) rest Free (ParamsSpelled all_params ps)
all_params_cut [] rest i n f = cut_as to_no_params (nothing Free rest)
all_params_cut (p ∷ ps) rest i n f =
    let more : List Piece = more_listed (map param ps) in
    cut_as (λ u x. some_params p ps u (binding_class p i.0) n x)
    (join_cut (param p) more rest (plain_cut (utf8_of p) (binding_name Free p (bytes_of more ++ rest) free i.0 (follows_params ps rest f))) (params_cut ps rest i.1 f))

to_name : (name : List ℕ) (u : List EsToken) → IsBinding name → Then (AreTokens []) (AreTokens (token.Word name ∷ [])) u → NameIf (Some name) u
to_name name _ i (both _ w end x) = some_name name w (binding_class name i) x

to_no_name : (u : List EsToken) → AreTokens [] u → NameIf None u
to_no_name _ end = no_name

name_cut : (name : Option (List ℕ)) (rest : List ℕ) → IsBindingIf name → begins is_name_part rest ≡ false → Cut Free (bytes_of (name_if name)) rest Free (NameIf name)
name_cut None rest i f = cut_as to_no_name (nothing Free rest)
name_cut (Some name) rest i f = cut_as (λ u x. to_name name u i x) (text_cut (codes " ") (plain (utf8_of name)) rest (a_space Free _ free) (plain_cut (utf8_of name) (binding_name Free name rest free i f)))

name_behind : (name : Option (List ℕ)) (ps : List Piece) (rest : List ℕ) → begins is_name_part (bytes_of (name_if name ++ text (codes "(") ∷ ps) ++ rest) ≡ false
name_behind None ps rest = refl
name_behind (Some name) ps rest = refl

function_class : key keyword.Function (code_of (terminal_of_word (codes "function"))) ≡ true
unfolding terminal_of_word
function_class = refl

pub own_function : (name : Option (List ℕ)) (ps : List (List ℕ)) (ss : List EsStmt) → IsBindingIf name → AllByRecursion IsBinding ps → none_twice ps ≡ true → Lines true false ss → Own (kind_form (kind.Function name ps ss)) (kind.Function name ps ss)
own_function name ps ss i j n h =
    let body : List Piece = printed.block (map stmt_pieces ss) in
    let behind_params : List Piece = text (codes ") ") ∷ body in
    let behind_paren : List Piece = listed (map param ps) ++ behind_params in
    subst (λ f. Own f (kind.Function name ps ss)) (sym (form_function name ps ss))
    (λ o start rest ready follows. marked_cut o (printed.function name ps (map stmt_pieces ss))
    (cut_as (λ u x. function_spelled (token.Word (codes "function")) name ps ss u function_class x)
    (text_cut (codes "function") (name_if name ++ text (codes "(") ∷ behind_paren) rest (a_word start 102 (codes "unction") _ ready refl refl (name_behind name behind_paren rest))
    (join_cut (name_if name) (text (codes "(") ∷ behind_paren) rest (name_cut name _ i refl)
    (text_cut (codes "(") behind_paren rest (piece.open_paren Free _ free)
    (join_cut (listed (map param ps)) behind_params rest (all_params_cut ps _ j n refl)
    (text_cut (codes ") ") body rest (piece.close_paren_space _) (block_cut true false ss rest h))))))))

-- ---- members, indices and calls

pub own_member : (e : EsExpr) (name : List ℕ) (m : Pos) → Own (kind_form e.kind) e.kind → IsIdentifier name → Own (kind_form (kind.Member e name m)) (kind.Member e name m)
own_member e name m h i =
    subst (λ f. Own f (kind.Member e name m)) (sym (form_member e name m))
    (λ o start rest ready follows. cut_as (λ u x. member_spelled (opens_at level.Call (expr_part e)) e name m u (identifier_class name i) x)
    (join_cut (at_level level.Call (expr_part e)) (text (codes ".") ∷ (marked o ++ plain (utf8_of name))) rest (at_wanted level.Call e h start _ ready (dot _))
    (text_cut (codes ".") (marked o ++ plain (utf8_of name)) rest (piece.dot Free _ free)
    (marked_cut o (plain (utf8_of name)) (plain_cut (utf8_of name) (a_name Free name rest free i (no_name_part true rest follows)))))))

pub own_index : (e k : EsExpr) (m : Pos) → Own (kind_form e.kind) e.kind → Own (kind_form k.kind) k.kind → Own (kind_form (kind.Index e k m)) (kind.Index e k m)
own_index e k m h i =
    subst (λ f. Own f (kind.Index e k m)) (sym (form_index e k m))
    (λ o start rest ready follows. cut_as (index_spelled (opens_at level.Numeral (expr_part e)) (expr_part k).1.0 e k m)
    (join_cut (at_level level.Numeral (expr_part e)) (key_behind (expr_part k) o) rest (at_wanted level.Numeral e h start _ ready (open_bracket false _))
    (text_cut (codes "[") (marked o ++ (pieces (expr_part k) ++ plain (codes "]"))) rest (piece.open_bracket Free _ free)
    (marked_cut o (pieces (expr_part k) ++ plain (codes "]"))
    (join_cut (pieces (expr_part k)) (plain (codes "]")) rest (at_all k i Free (93 ∷ rest) free (close_bracket false rest)) (plain_cut (codes "]") (piece.close_bracket Free rest free)))))))

pub own_call : (e : EsExpr) (es : List EsExpr) → Own (kind_form e.kind) e.kind → Owns es → Own (kind_form (kind.Call e es)) (kind.Call e es)
own_call e es h i =
    subst (λ f. Own f (kind.Call e es)) (sym (form_call e es))
    (λ o start rest ready follows. marked_cut o (printed.call (expr_part e) (map expr_part es))
    (cut_as (call_spelled (opens_at level.Numeral (expr_part e)) e es)
    (join_cut (at_level level.Numeral (expr_part e)) (arguments (map expr_part es)) rest (at_wanted level.Numeral e h start _ ready (open_paren false _))
    (text_cut (codes "(") (listed (map pieces (map expr_part es)) ++ plain (codes ")")) rest (piece.open_paren Free _ free)
    (join_cut (listed (map pieces (map expr_part es))) (plain (codes ")")) rest (arguments_cut es (41 ∷ rest) i (close_paren false rest)) (plain_cut (codes ")") (piece.close_paren Free rest free)))))))

-- ---- operators with one operand

pub own_not : (e : EsExpr) → Own (kind_form e.kind) e.kind → Opens true (bytes_of (at_level level.Unary (expr_part e))) → Own (kind_form (kind.Not e)) (kind.Not e)
own_not e h head =
    let value : List Piece = at_level level.Unary (expr_part e) in
    subst (λ f. Own f (kind.Not e)) (sym (form_not_ e))
    (λ o start rest ready follows. marked_cut o (text (codes "!") ∷ value)
    (cut_as (λ u x. raised 3 4 false (kind.Not e) u (omega arith) (unary_spelled (token.Mark mark.Not) kind.Not (opens_at level.Unary (expr_part e)) e u refl refl (λ f. refl) same_not x))
    (text_cut (codes "!") value rest (a_mark start mark.Not 1 (codes "!") _ ready (not_sign true (bytes_of value) rest head) refl) (at_wanted level.Unary e h Free rest free follows))))

minus_cut : (start : Restriction) (b rest : List ℕ) (c : Bool) → Ready start → (c ≡ false → Opens false b) → Cut start (if c then codes "- " else codes "-") (b ++ rest) Free (AreTokens (token.Mark mark.Minus ∷ []))
minus_cut start b rest true ready h = piece.minus_space start (b ++ rest) ready
minus_cut start b rest false ready h = a_mark start mark.Minus 1 (codes "-") (b ++ rest) ready (minus_sign b rest (h refl)) refl

pub own_neg : (e : EsExpr) → Own (kind_form e.kind) e.kind → (nat_eq (tightness (expr_part e).0) 9 ≡ false → Opens false (bytes_of (at_level level.Unary (expr_part e)))) → Own (kind_form (kind.Neg e)) (kind.Neg e)
own_neg e h head =
    let value : List Piece = at_level level.Unary (expr_part e) in
    subst (λ f. Own f (kind.Neg e)) (sym (form_neg e))
    (λ o start rest ready follows. marked_cut o (text (minus_before (expr_part e)) ∷ value)
    (cut_as (λ u x. unary_spelled (token.Mark mark.Minus) kind.Neg (opens_at level.Unary (expr_part e)) e u refl refl (λ f. refl) same_neg x)
    (text_cut (minus_before (expr_part e)) value rest (minus_cut start (bytes_of value) rest (nat_eq (tightness (expr_part e).0) 9) ready head) (at_wanted level.Unary e h Free rest free follows))))

typeof_class : key keyword.Typeof (code_of (terminal_of_word (codes "typeof"))) ≡ true
unfolding terminal_of_word
typeof_class = refl

delete_class : key keyword.Delete (code_of (terminal_of_word (codes "delete"))) ≡ true
unfolding terminal_of_word
delete_class = refl

unary_typeof : unary_class (code_of (terminal_of_word (codes "typeof"))) ≡ true
unfolding terminal_of_word
unary_typeof = refl

no_other_typeof : begins_no_other (code_of (terminal_of_word (codes "typeof"))) ≡ true
unfolding terminal_of_word
no_other_typeof = refl

no_other_delete : begins_no_other (code_of (terminal_of_word (codes "delete"))) ≡ true
unfolding terminal_of_word
no_other_delete = refl

pub own_typeof : (e : EsExpr) → Own (kind_form e.kind) e.kind → Own (kind_form (kind.Typeof e)) (kind.Typeof e)
own_typeof e h =
    let value : List Piece = at_level level.Unary (expr_part e) in
    subst (λ f. Own f (kind.Typeof e)) (sym (form_typeof e))
    (λ o start rest ready follows. marked_cut o (text (codes "typeof ") ∷ value)
    (cut_as (λ u x. raised 3 4 false (kind.Typeof e) u (omega arith) (unary_spelled (token.Word (codes "typeof")) kind.Typeof (opens_at level.Unary (expr_part e)) e u unary_typeof no_other_typeof (λ f. refl) same_typeof x))
    (text_cut (codes "typeof ") value rest (piece.typeof start _ ready) (at_wanted level.Unary e h Free rest free follows))))

pub own_delete : (e : EsExpr) → is_member_form (out-EsKind e.kind) ≡ true → Own (kind_form e.kind) e.kind → Own (kind_form (kind.Delete e)) (kind.Delete e)
own_delete e m h =
    let value : List Piece = at_level level.Call (expr_part e) in
    subst (λ f. Own f (kind.Delete e)) (sym (form_delete e))
    (λ o start rest ready follows. marked_cut o (text (codes "delete ") ∷ value)
    (cut_as (λ u x. delete_spelled (token.Word (codes "delete")) (opens_at level.Call (expr_part e)) e u delete_class no_other_delete m x)
    (text_cut (codes "delete ") value rest (piece.delete start _ ready) (at_wanted level.Call e h Free rest free (follows_dotted rest follows)))))

-- ---- operators between two operands

infix_own : (tight on_left on_right : Level) (s : List ℕ) (m : EsMark) (l r : EsExpr) (k : EsKind) → Spaced (32 ∷ s) m → Own (kind_form l.kind) l.kind → Own (kind_form r.kind) r.kind
    → ((u : List EsToken) → Then (Spelled (looseness on_left) (opens_at on_left (expr_part l)) l.kind) (Then (AreTokens (token.Mark m ∷ [])) (Spelled (looseness on_right) (opens_at on_right (expr_part r)) r.kind)) u → Spelled (looseness tight) (opens_at on_left (expr_part l)) k u)
    → ((rest : List ℕ) → Follows (dotted tight) rest → Follows (dotted on_right) rest) → Own (infixed tight on_left (expr_part l) (32 ∷ s) on_right (expr_part r)) k
infix_own tight on_left on_right s m l r k sign h i spelled further o start rest ready follows =
    let right : List Piece = at_level on_right (expr_part r) in
    marked_cut o (at_level on_left (expr_part l) ++ operand_behind (32 ∷ s) on_right (expr_part r))
    (cut_as spelled
    (join_cut (at_level on_left (expr_part l)) (text (32 ∷ s) ∷ right) rest (at_wanted on_left l h start _ ready (space (dotted on_left) _))
    (text_cut (32 ∷ s) right rest (sign (bytes_of right ++ rest)) (at_wanted on_right r i Free rest free (further rest follows)))))

pub own_binary : (p : Operator) (l r : EsExpr) → Own (kind_form l.kind) l.kind → Own (kind_form r.kind) r.kind → Own (kind_form (kind.Binary p l r)) (kind.Binary p l r)
own_binary operator.Same l r h i =
    subst (λ f. Own f (kind.Binary operator.Same l r)) (sym (form_binary operator.Same l r))
    (infix_own level.Equality level.Equality level.Relational (codes "=== ") mark.Same l r (kind.Binary operator.Same l r) piece.same h i (λ u x. equality_spelled mark.Same operator.Same refl (opens_at level.Equality (expr_part l)) (opens_at level.Relational (expr_part r)) l r u refl x) (λ rest f. f))
own_binary operator.Different l r h i =
    subst (λ f. Own f (kind.Binary operator.Different l r)) (sym (form_binary operator.Different l r))
    (infix_own level.Equality level.Equality level.Relational (codes "!== ") mark.Different l r (kind.Binary operator.Different l r) piece.different h i (λ u x. equality_spelled mark.Different operator.Different refl (opens_at level.Equality (expr_part l)) (opens_at level.Relational (expr_part r)) l r u refl x) (λ rest f. f))
own_binary operator.Less l r h i =
    subst (λ f. Own f (kind.Binary operator.Less l r)) (sym (form_binary operator.Less l r))
    (infix_own level.Relational level.Relational level.Additive (codes "< ") mark.Less l r (kind.Binary operator.Less l r) piece.less h i (λ u x. relation_spelled mark.Less operator.Less refl (opens_at level.Relational (expr_part l)) (opens_at level.Additive (expr_part r)) l r u refl x) (λ rest f. f))
own_binary operator.Greater l r h i =
    subst (λ f. Own f (kind.Binary operator.Greater l r)) (sym (form_binary operator.Greater l r))
    (infix_own level.Relational level.Relational level.Additive (codes "> ") mark.Greater l r (kind.Binary operator.Greater l r) piece.greater h i (λ u x. relation_spelled mark.Greater operator.Greater refl (opens_at level.Relational (expr_part l)) (opens_at level.Additive (expr_part r)) l r u refl x) (λ rest f. f))
own_binary operator.LessOrEqual l r h i =
    subst (λ f. Own f (kind.Binary operator.LessOrEqual l r)) (sym (form_binary operator.LessOrEqual l r))
    (infix_own level.Relational level.Relational level.Additive (codes "<= ") mark.LessOrEqual l r (kind.Binary operator.LessOrEqual l r) piece.less_or_equal h i (λ u x. relation_spelled mark.LessOrEqual operator.LessOrEqual refl (opens_at level.Relational (expr_part l)) (opens_at level.Additive (expr_part r)) l r u refl x) (λ rest f. f))
own_binary operator.GreaterOrEqual l r h i =
    subst (λ f. Own f (kind.Binary operator.GreaterOrEqual l r)) (sym (form_binary operator.GreaterOrEqual l r))
    (infix_own level.Relational level.Relational level.Additive (codes ">= ") mark.GreaterOrEqual l r (kind.Binary operator.GreaterOrEqual l r) piece.greater_or_equal h i (λ u x. relation_spelled mark.GreaterOrEqual operator.GreaterOrEqual refl (opens_at level.Relational (expr_part l)) (opens_at level.Additive (expr_part r)) l r u refl x) (λ rest f. f))
own_binary operator.Add l r h i =
    subst (λ f. Own f (kind.Binary operator.Add l r)) (sym (form_binary operator.Add l r))
    (infix_own level.Additive level.Additive level.Multiplicative (codes "+ ") mark.Plus l r (kind.Binary operator.Add l r) piece.plus h i (λ u x. sum_spelled mark.Plus operator.Add refl (opens_at level.Additive (expr_part l)) (opens_at level.Multiplicative (expr_part r)) l r u refl x) (λ rest f. f))
own_binary operator.Subtract l r h i =
    subst (λ f. Own f (kind.Binary operator.Subtract l r)) (sym (form_binary operator.Subtract l r))
    (infix_own level.Additive level.Additive level.Multiplicative (codes "- ") mark.Minus l r (kind.Binary operator.Subtract l r) piece.minus h i (λ u x. sum_spelled mark.Minus operator.Subtract refl (opens_at level.Additive (expr_part l)) (opens_at level.Multiplicative (expr_part r)) l r u refl x) (λ rest f. f))
own_binary operator.Multiply l r h i =
    subst (λ f. Own f (kind.Binary operator.Multiply l r)) (sym (form_binary operator.Multiply l r))
    (infix_own level.Multiplicative level.Multiplicative level.Unary (codes "* ") mark.Times l r (kind.Binary operator.Multiply l r) piece.times h i (λ u x. product_spelled mark.Times operator.Multiply refl (opens_at level.Multiplicative (expr_part l)) (opens_at level.Unary (expr_part r)) l r u refl x) (λ rest f. f))
own_binary operator.Divide l r h i =
    subst (λ f. Own f (kind.Binary operator.Divide l r)) (sym (form_binary operator.Divide l r))
    (infix_own level.Multiplicative level.Multiplicative level.Unary (codes "/ ") mark.Divide l r (kind.Binary operator.Divide l r) piece.divide h i (λ u x. product_spelled mark.Divide operator.Divide refl (opens_at level.Multiplicative (expr_part l)) (opens_at level.Unary (expr_part r)) l r u refl x) (λ rest f. f))
own_binary operator.Remainder l r h i =
    subst (λ f. Own f (kind.Binary operator.Remainder l r)) (sym (form_binary operator.Remainder l r))
    (infix_own level.Multiplicative level.Multiplicative level.Unary (codes "% ") mark.Remainder l r (kind.Binary operator.Remainder l r) piece.remainder h i (λ u x. product_spelled mark.Remainder operator.Remainder refl (opens_at level.Multiplicative (expr_part l)) (opens_at level.Unary (expr_part r)) l r u refl x) (λ rest f. f))

pub own_and : (l r : EsExpr) → Own (kind_form l.kind) l.kind → Own (kind_form r.kind) r.kind → Own (kind_form (kind.And l r)) (kind.And l r)
own_and l r h i =
    subst (λ f. Own f (kind.And l r)) (sym (form_and l r))
    (infix_own level.And level.And level.Equality (codes "&& ") mark.And l r (kind.And l r) piece.and h i (and_spelled (opens_at level.And (expr_part l)) (opens_at level.Equality (expr_part r)) l r) (λ rest f. f))

pub own_or : (l r : EsExpr) → Own (kind_form l.kind) l.kind → Own (kind_form r.kind) r.kind → Own (kind_form (kind.Or l r)) (kind.Or l r)
own_or l r h i =
    subst (λ f. Own f (kind.Or l r)) (sym (form_or l r))
    (infix_own level.Or level.Or level.And (codes "|| ") mark.Or l r (kind.Or l r) piece.or h i (or_spelled (opens_at level.Or (expr_part l)) (opens_at level.And (expr_part r)) l r) (λ rest f. f))

pub own_assign : (l r : EsExpr) → is_target_form (out-EsKind l.kind) ≡ true → Own (kind_form l.kind) l.kind → Own (kind_form r.kind) r.kind → Own (kind_form (kind.Assign l r)) (kind.Assign l r)
own_assign l r m h i =
    subst (λ f. Own f (kind.Assign l r)) (sym (form_assign l r))
    (infix_own level.Assignment level.Call level.Assignment (codes "= ") mark.Assign l r (kind.Assign l r) piece.assign h i (λ u x. assign_spelled (opens_at level.Call (expr_part l)) (opens_at level.Assignment (expr_part r)) l r u m x) (λ rest f. f))

pub own_cond : (t l r : EsExpr) → Own (kind_form t.kind) t.kind → Own (kind_form l.kind) l.kind → Own (kind_form r.kind) r.kind → Own (kind_form (kind.Cond t l r)) (kind.Cond t l r)
own_cond t l r h i j =
    let first : List Piece = value_behind question_sign (expr_part l) in
    let second : List Piece = value_behind (codes " : ") (expr_part r) in
    subst (λ f. Own f (kind.Cond t l r)) (sym (form_cond t l r))
    (λ o start rest ready follows. marked_cut o (conditional (expr_part t) (expr_part l) (expr_part r))
    (cut_as (cond_spelled (opens_at level.Or (expr_part t)) (expr_part l).1.0 (expr_part r).1.0 t l r)
    (join_cut (at_level level.Or (expr_part t)) (first ++ second) rest (at_wanted level.Or t h start _ ready (space false _))
    (join_cut first second rest
    (text_cut question_sign (pieces (expr_part l)) (bytes_of second ++ rest) (piece.question _) (at_all l i Free (bytes_of second ++ rest) free (space false _)))
    (text_cut (codes " : ") (pieces (expr_part r)) rest (piece.spaced_colon _) (at_all r j Free rest free follows))))))
