-- A tree that is the same as a spellable one but for sites and places is spellable, and its text is the same.
use Rattle.std.proofs.Common.{◌≡◌, ℕ, Bool, true, false, List, [], ◌∷◌, ◌++◌, length, map, pos, Option, Some, None, codes, refl, sym, ap, ◌∙◌, subst}
use Rattle.std.specs.Option.{option_map}
use Rattle.std.specs.Prelude.{if◌then◌else◌}
use Rattle.std.proofs.lemmas.List.{length-map}
use Rattle.opal_base.specs.declared.place.Pos.{Pos}
use Rattle.opal_base.specs.Text.{utf8_of}
use Rattle.es5_tree.specs.declared.tree.Catch.{Catch, out-Catch, out-roll-Catch, roll-out-Catch}
use Rattle.es5_tree.specs.declared.tree.EsExpr.{EsExpr}
use Rattle.es5_tree.specs.declared.tree.EsKind.{EsKind}
use Rattle.es5_tree.specs.declared.tree.EsKind.TheVariants as kind
use Rattle.es5_tree.specs.declared.tree.EsStmt.{EsStmt}
use Rattle.es5_tree.specs.declared.tree.EsStmt.TheVariants as stmt
use Rattle.es5_tree.specs.declared.tree.Script.{Script}
use Rattle.es5_tree.specs.Grammar.Spelling.{bare, bare_stmt}
use Rattle.es5_tree.proofs.Grammar.Scripts.{one_spelled_is}
use Rattle.es5_tree.proofs.Bare.{bare_catch, bare_expr}
use Rattle.es5_tree.proofs.Bare as b
use Rattle.es5_printer.specs.declared.level.Level.{Level}
use Rattle.es5_printer.specs.declared.level.Level.TheVariants as level
use Rattle.es5_printer.specs.Forms as printed
use Rattle.es5_printer.specs.Forms.{at_level, bracketed, ended, Form, lines, of_one_token, pieces, value_behind, question_sign}
use Rattle.es5_printer.specs.Levels.{of_operator, of_right}
use Rattle.es5_printer.specs.Pieces.{bytes_of, listed, marked, Piece, plain, text}
use Rattle.es5_printer.specs.Text.{catch_pieces, expr_part, kind_form, stmt_pieces}
use Rattle.es5_printer.proofs.Equations.{catch_is, expr_layer, stmt_block, stmt_expr, stmt_if, stmt_return, stmt_throw, stmt_try, stmt_var, stmt_while}
use Rattle.es5_spelling.specs.Laws.{SameBytesSameText, SpelledIsSpellable}
use Rattle.es5_spelling.specs.Spellable as s
use Rattle.es5_spelling.specs.Spellable.{AreExprs, AreStatements, IsBinding, IsForm, IsStatement, Spellable}
use Rattle.es5_spelling.proofs.Bare.{Same, same_members, same_targets, SameStmt}
use Rattle.es5_spelling.proofs.Likeness as like
use Rattle.es5_spelling.proofs.ReadBack.{read_is_spellable_is}
use Rattle.es5_spelling.proofs.SameText.{more_lines, more_parts, no_lines, no_parts, same_at, same_behind, same_block, same_infixed, same_joined, same_lines, same_listed, same_marked, same_minus, same_opens, same_pairs, same_prefixed, same_value, SameBytes, SameForm, SameLines, SamePart, SameParts}
use Rattle.es5_spelling.proofs.Shapes.{form_and, form_array, form_assign, form_binary, form_call, form_cond, form_delete, form_false_, form_function, form_index, form_member, form_name, form_neg, form_not_, form_null, form_num, form_object, form_or, form_str, form_this, form_true_, form_typeof}

-- ---- parts

-- the same forms make the same parts
part_of : (v e : EsExpr) → SameForm (kind_form v.kind) (kind_form e.kind) → SamePart (expr_part v) (expr_part e)
part_of v e h = record {
  level = ap (λ p. p.0) (expr_layer v) ∙ (h.level ∙ sym (ap (λ p. p.0) (expr_layer e)));
  opens = ap (λ p. p.1.0) (expr_layer v) ∙ (h.opens ∙ sym (ap (λ p. p.1.0) (expr_layer e)));
  bytes = ap (λ p. bytes_of (pieces p)) (expr_layer v) ∙ (h.bytes v.origin e.origin ∙ sym (ap (λ p. bytes_of (pieces p)) (expr_layer e)));
}

back : (v e : EsExpr) → bare_expr v ≡ bare_expr e → Same v.kind e.kind
back v e h = record { is = ap (λ (x : EsExpr). x.kind) (sym (b.expr_layer v) ∙ (h ∙ b.expr_layer e)) }

same_forms : (f g f' g' : Form) → f ≡ f' → g ≡ g' → SameForm f' g' → SameForm f g
same_forms f g f' g' e i h = subst (λ x. SameForm x g) (sym e) (subst (SameForm f') (sym i) h)

same_token : (l : Level) (t : List ℕ) → SameForm (of_one_token l t) (of_one_token l t)
same_token l t = record { level = refl; opens = refl; bytes = λ o i. same_marked o i (plain t) (plain t) refl }

abbrev Alike : EsKind → EsKind → Type 0
Alike k m = IsForm m × SameForm (kind_form m) (kind_form k)

leaf : (k m : EsKind) (l : Level) (t : List ℕ) → kind_form k ≡ of_one_token l t → IsForm k → m ≡ k → Alike k m
leaf k m l t e i h = subst (Alike k) (sym h) (i, same_forms (kind_form k) (kind_form k) (of_one_token l t) (of_one_token l t) e e (same_token l t))

abbrev AlikeExpr : EsExpr → EsExpr → Type 0
AlikeExpr e v = IsForm v.kind × SamePart (expr_part v) (expr_part e)

alike_expr : (e v : EsExpr) → Alike e.kind v.kind → AlikeExpr e v
alike_expr e v h = (h.0, part_of v e h.1)

abbrev AlikeList : List EsExpr → List EsExpr → Type 0
AlikeList es fs = AreExprs fs × SameParts (map expr_part fs) (map expr_part es)

abbrev AlikeBody : Bool → Bool → List EsStmt → List EsStmt → Type 0
AlikeBody f l ss ts = AreStatements f l ts × SameLines (map stmt_pieces ts) (map stmt_pieces ss)

abbrev AlikeStmt : Bool → Bool → Bool → EsStmt → EsStmt → Type 0
AlikeStmt f l short t u = IsStatement f l short u × SameBytes (stmt_pieces u) (stmt_pieces t)

-- ---- forms

pub array_alike : (es fs : List EsExpr) → SameParts (map expr_part fs) (map expr_part es) → SameForm (kind_form (kind.Array fs)) (kind_form (kind.Array es))
array_alike es fs h =
    same_forms _ _ _ _ (form_array fs) (form_array es) (record {
      level = refl;
      opens = refl;
      bytes = λ o i. same_marked o i (printed.array (map expr_part fs)) (printed.array (map expr_part es))
          (same_behind (codes "[") (codes "[") (listed (map pieces (map expr_part fs)) ++ plain (codes "]")) (listed (map pieces (map expr_part es)) ++ plain (codes "]")) refl
          (same_joined (listed (map pieces (map expr_part fs))) (listed (map pieces (map expr_part es))) (plain (codes "]")) (plain (codes "]")) (same_listed (map expr_part fs) (map expr_part es) h) refl));
    })

object_alike : (ks : List (List ℕ)) (es fs : List EsExpr) → SameParts (map expr_part fs) (map expr_part es) → SameForm (kind_form (kind.Object ks fs)) (kind_form (kind.Object ks es))
object_alike ks es fs h =
    same_forms _ _ _ _ (form_object ks fs) (form_object ks es) (record {
      level = refl;
      opens = refl;
      bytes = λ o i. same_marked o i (printed.object ks (map expr_part fs)) (printed.object ks (map expr_part es))
          (same_behind (codes "{") (codes "{") (listed (printed.pairs ks (map expr_part fs)) ++ plain (codes "}")) (listed (printed.pairs ks (map expr_part es)) ++ plain (codes "}")) refl
          (same_joined (listed (printed.pairs ks (map expr_part fs))) (listed (printed.pairs ks (map expr_part es))) (plain (codes "}")) (plain (codes "}")) (same_pairs ks (map expr_part fs) (map expr_part es) h) refl));
    })

function_alike : (n : Option (List ℕ)) (ps : List (List ℕ)) (ss ts : List EsStmt) → SameLines (map stmt_pieces ts) (map stmt_pieces ss) → SameForm (kind_form (kind.Function n ps ts)) (kind_form (kind.Function n ps ss))
function_alike n ps ss ts h =
    let first : List Piece = printed.block (map stmt_pieces ts) in
    let second : List Piece = printed.block (map stmt_pieces ss) in
    let params : List Piece = listed (map printed.param ps) in
    same_forms _ _ _ _ (form_function n ps ts) (form_function n ps ss) (record {
      level = refl;
      opens = refl;
      bytes = λ o i. same_marked o i (printed.function n ps (map stmt_pieces ts)) (printed.function n ps (map stmt_pieces ss))
          (same_behind (codes "function") (codes "function") (printed.name_if n ++ text (codes "(") ∷ (params ++ text (codes ") ") ∷ first)) (printed.name_if n ++ text (codes "(") ∷ (params ++ text (codes ") ") ∷ second)) refl
          (same_joined (printed.name_if n) (printed.name_if n) (text (codes "(") ∷ (params ++ text (codes ") ") ∷ first)) (text (codes "(") ∷ (params ++ text (codes ") ") ∷ second)) refl
          (same_behind (codes "(") (codes "(") (params ++ text (codes ") ") ∷ first) (params ++ text (codes ") ") ∷ second) refl
          (same_joined params params (text (codes ") ") ∷ first) (text (codes ") ") ∷ second) refl
          (same_behind (codes ") ") (codes ") ") first second refl (same_block (map stmt_pieces ts) (map stmt_pieces ss) h))))));
    })

member_alike : (e v : EsExpr) (u : List ℕ) (p q : Pos) → SamePart (expr_part v) (expr_part e) → SameForm (kind_form (kind.Member v u q)) (kind_form (kind.Member e u p))
member_alike e v u p q h =
    same_forms _ _ _ _ (form_member v u q) (form_member e u p) (record {
      level = refl;
      opens = same_opens level.Call (expr_part v) (expr_part e) h;
      bytes = λ o i. same_joined (at_level level.Call (expr_part v)) (at_level level.Call (expr_part e)) (text (codes ".") ∷ (marked o ++ plain (utf8_of u))) (text (codes ".") ∷ (marked i ++ plain (utf8_of u))) (same_at level.Call (expr_part v) (expr_part e) h)
          (same_behind (codes ".") (codes ".") (marked o ++ plain (utf8_of u)) (marked i ++ plain (utf8_of u)) refl (same_marked o i (plain (utf8_of u)) (plain (utf8_of u)) refl));
    })

index_alike : (e v k w : EsExpr) (p q : Pos) → SamePart (expr_part v) (expr_part e) → SamePart (expr_part w) (expr_part k) → SameForm (kind_form (kind.Index v w q)) (kind_form (kind.Index e k p))
index_alike e v k w p q h j =
    same_forms _ _ _ _ (form_index v w q) (form_index e k p) (record {
      level = refl;
      opens = same_opens level.Numeral (expr_part v) (expr_part e) h;
      bytes = λ o i. same_joined (at_level level.Numeral (expr_part v)) (at_level level.Numeral (expr_part e)) (printed.key_behind (expr_part w) o) (printed.key_behind (expr_part k) i) (same_at level.Numeral (expr_part v) (expr_part e) h)
          (same_behind (codes "[") (codes "[") (marked o ++ (pieces (expr_part w) ++ plain (codes "]"))) (marked i ++ (pieces (expr_part k) ++ plain (codes "]"))) refl
          (same_marked o i (pieces (expr_part w) ++ plain (codes "]")) (pieces (expr_part k) ++ plain (codes "]"))
          (same_joined (pieces (expr_part w)) (pieces (expr_part k)) (plain (codes "]")) (plain (codes "]")) j.bytes refl)));
    })

call_alike : (e v : EsExpr) (es fs : List EsExpr) → SamePart (expr_part v) (expr_part e) → SameParts (map expr_part fs) (map expr_part es) → SameForm (kind_form (kind.Call v fs)) (kind_form (kind.Call e es))
call_alike e v es fs h j =
    same_forms _ _ _ _ (form_call v fs) (form_call e es) (record {
      level = refl;
      opens = same_opens level.Numeral (expr_part v) (expr_part e) h;
      bytes = λ o i. same_marked o i (printed.call (expr_part v) (map expr_part fs)) (printed.call (expr_part e) (map expr_part es))
          (same_joined (at_level level.Numeral (expr_part v)) (at_level level.Numeral (expr_part e)) (printed.arguments (map expr_part fs)) (printed.arguments (map expr_part es)) (same_at level.Numeral (expr_part v) (expr_part e) h)
          (same_behind (codes "(") (codes "(") (listed (map pieces (map expr_part fs)) ++ plain (codes ")")) (listed (map pieces (map expr_part es)) ++ plain (codes ")")) refl
          (same_joined (listed (map pieces (map expr_part fs))) (listed (map pieces (map expr_part es))) (plain (codes ")")) (plain (codes ")")) (same_listed (map expr_part fs) (map expr_part es) j) refl)));
    })

cond_alike : (t u e v k w : EsExpr) → SamePart (expr_part u) (expr_part t) → SamePart (expr_part v) (expr_part e) → SamePart (expr_part w) (expr_part k) → SameForm (kind_form (kind.Cond u v w)) (kind_form (kind.Cond t e k))
cond_alike t u e v k w g h j =
    same_forms _ _ _ _ (form_cond u v w) (form_cond t e k) (record {
      level = refl;
      opens = same_opens level.Or (expr_part u) (expr_part t) g;
      bytes = λ o i. same_marked o i (printed.conditional (expr_part u) (expr_part v) (expr_part w)) (printed.conditional (expr_part t) (expr_part e) (expr_part k))
          (same_joined (at_level level.Or (expr_part u)) (at_level level.Or (expr_part t)) (value_behind question_sign (expr_part v) ++ value_behind (codes " : ") (expr_part w)) (value_behind question_sign (expr_part e) ++ value_behind (codes " : ") (expr_part k)) (same_at level.Or (expr_part u) (expr_part t) g)
          (same_joined (value_behind question_sign (expr_part v)) (value_behind question_sign (expr_part e)) (value_behind (codes " : ") (expr_part w)) (value_behind (codes " : ") (expr_part k)) (same_value question_sign (expr_part v) (expr_part e) h) (same_value (codes " : ") (expr_part w) (expr_part k) j)));
    })

-- ---- statements

said : (u t : EsStmt) (a c : List Piece) → stmt_pieces u ≡ a → stmt_pieces t ≡ c → SameBytes a c → SameBytes (stmt_pieces u) (stmt_pieces t)
said u t a c e i h = ap bytes_of e ∙ (h ∙ sym (ap bytes_of i))

same_ended : (a c : List Piece) → SameBytes a c → SameBytes (ended a) (ended c)
same_ended a c h = same_joined a c (plain (codes ";")) (plain (codes ";")) h refl

var_alike : (n : List ℕ) (e v : EsExpr) → SamePart (expr_part v) (expr_part e) → SameBytes (stmt_pieces (stmt.Var n (Some v))) (stmt_pieces (stmt.Var n (Some e)))
var_alike n e v h =
    said _ _ _ _ (stmt_var n (Some v)) (stmt_var n (Some e))
    (same_behind (codes "var ") (codes "var ") (text (utf8_of n) ∷ ended (value_behind (codes " = ") (expr_part v))) (text (utf8_of n) ∷ ended (value_behind (codes " = ") (expr_part e))) refl
    (same_behind (utf8_of n) (utf8_of n) (ended (value_behind (codes " = ") (expr_part v))) (ended (value_behind (codes " = ") (expr_part e))) refl (same_ended (value_behind (codes " = ") (expr_part v)) (value_behind (codes " = ") (expr_part e)) (same_value (codes " = ") (expr_part v) (expr_part e) h))))

statement_alike : (e v : EsExpr) → SamePart (expr_part v) (expr_part e) → SameBytes (stmt_pieces (stmt.Expr v)) (stmt_pieces (stmt.Expr e))
statement_alike e v h =
    said _ _ _ _ (stmt_expr v) (stmt_expr e) (same_ended (printed.of_expression (expr_part v)) (printed.of_expression (expr_part e)) (by (expr_part v).1.0 (expr_part e).1.0 h.opens))
  where
    by : (c d : Bool) → c ≡ d → SameBytes (if c then bracketed (pieces (expr_part v)) else pieces (expr_part v)) (if d then bracketed (pieces (expr_part e)) else pieces (expr_part e))
    by true true i = same_behind (codes "(") (codes "(") (pieces (expr_part v) ++ plain (codes ")")) (pieces (expr_part e) ++ plain (codes ")")) refl (same_joined (pieces (expr_part v)) (pieces (expr_part e)) (plain (codes ")")) (plain (codes ")")) h.bytes refl)
    by false false i = h.bytes
    by true false i = cc
    by false true i = cc

block_alike : (ss ts : List EsStmt) → SameLines (map stmt_pieces ts) (map stmt_pieces ss) → SameBytes (stmt_pieces (stmt.Block ts)) (stmt_pieces (stmt.Block ss))
block_alike ss ts h = said _ _ _ _ (stmt_block ts) (stmt_block ss) (same_block (map stmt_pieces ts) (map stmt_pieces ss) h)

tested_alike : (word : List ℕ) (e v : EsExpr) → SamePart (expr_part v) (expr_part e) → SameBytes (printed.test word (expr_part v)) (printed.test word (expr_part e))
tested_alike word e v h =
    same_behind word word (pieces (expr_part v) ++ plain (codes ") ")) (pieces (expr_part e) ++ plain (codes ") ")) refl (same_joined (pieces (expr_part v)) (pieces (expr_part e)) (plain (codes ") ")) (plain (codes ") ")) h.bytes refl)

if_alike : (e v : EsExpr) (a d : EsStmt) → SamePart (expr_part v) (expr_part e) → SameBytes (stmt_pieces d) (stmt_pieces a) → SameBytes (stmt_pieces (stmt.If v d None)) (stmt_pieces (stmt.If e a None))
if_alike e v a d h i =
    said _ _ _ _ (stmt_if v d None) (stmt_if e a None)
    (same_joined (printed.test (codes "if (") (expr_part v)) (printed.test (codes "if (") (expr_part e)) (stmt_pieces d ++ []) (stmt_pieces a ++ []) (tested_alike (codes "if (") e v h) (same_joined (stmt_pieces d) (stmt_pieces a) [] [] i refl))

if_else_alike : (e v : EsExpr) (a d c g : EsStmt) → SamePart (expr_part v) (expr_part e) → SameBytes (stmt_pieces d) (stmt_pieces a) → SameBytes (stmt_pieces g) (stmt_pieces c) → SameBytes (stmt_pieces (stmt.If v d (Some g))) (stmt_pieces (stmt.If e a (Some c)))
if_else_alike e v a d c g h i j =
    said _ _ _ _ (stmt_if v d (Some g)) (stmt_if e a (Some c))
    (same_joined (printed.test (codes "if (") (expr_part v)) (printed.test (codes "if (") (expr_part e)) (stmt_pieces d ++ text (codes " else ") ∷ stmt_pieces g) (stmt_pieces a ++ text (codes " else ") ∷ stmt_pieces c) (tested_alike (codes "if (") e v h)
    (same_joined (stmt_pieces d) (stmt_pieces a) (text (codes " else ") ∷ stmt_pieces g) (text (codes " else ") ∷ stmt_pieces c) i (same_behind (codes " else ") (codes " else ") (stmt_pieces g) (stmt_pieces c) refl j)))

while_alike : (e v : EsExpr) (a d : EsStmt) → SamePart (expr_part v) (expr_part e) → SameBytes (stmt_pieces d) (stmt_pieces a) → SameBytes (stmt_pieces (stmt.While v d)) (stmt_pieces (stmt.While e a))
while_alike e v a d h i =
    said _ _ _ _ (stmt_while v d) (stmt_while e a)
    (same_joined (printed.test (codes "while (") (expr_part v)) (printed.test (codes "while (") (expr_part e)) (stmt_pieces d) (stmt_pieces a) (tested_alike (codes "while (") e v h) i)

return_alike : (e v : EsExpr) → SamePart (expr_part v) (expr_part e) → SameBytes (stmt_pieces (stmt.Return (Some v))) (stmt_pieces (stmt.Return (Some e)))
return_alike e v h =
    said _ _ _ _ (stmt_return (Some v)) (stmt_return (Some e))
    (same_behind (codes "return") (codes "return") (ended (value_behind (codes " ") (expr_part v))) (ended (value_behind (codes " ") (expr_part e))) refl (same_ended (value_behind (codes " ") (expr_part v)) (value_behind (codes " ") (expr_part e)) (same_value (codes " ") (expr_part v) (expr_part e) h)))

throw_alike : (e v : EsExpr) → SamePart (expr_part v) (expr_part e) → SameBytes (stmt_pieces (stmt.Throw v)) (stmt_pieces (stmt.Throw e))
throw_alike e v h = said _ _ _ _ (stmt_throw v) (stmt_throw e) (same_ended (value_behind (codes "throw ") (expr_part v)) (value_behind (codes "throw ") (expr_part e)) (same_value (codes "throw ") (expr_part v) (expr_part e) h))

-- what was caught
catch_back : (d c : Catch) → bare_catch d ≡ bare_catch c → (d.name ≡ c.name) × (map bare_stmt d.body ≡ map bare_stmt c.body)
catch_back d c h =
    let out : (x : Catch) → out-Catch (bare_catch x) ≡ record { name = x.name; body = map bare_stmt x.body } = λ x. ap (λ y. out-Catch (bare_catch y)) (sym (roll-out-Catch x)) ∙ (ap out-Catch (b.catch_layer (out-Catch x)) ∙ out-roll-Catch (record { name = x.name; body = map bare_stmt x.body })) in
    let same = sym (out d) ∙ (ap out-Catch h ∙ out c) in
    (ap (λ x. x.name) same, ap (λ x. x.body) same)

catch_alike : (d c : Catch) → d.name ≡ c.name → SameLines (map stmt_pieces d.body) (map stmt_pieces c.body) → SameBytes (catch_pieces d) (catch_pieces c)
catch_alike d c e h =
    ap bytes_of (catch_is d)
    ∙ (same_behind (codes " catch (") (codes " catch (") (text (utf8_of d.name) ∷ text (codes ") ") ∷ printed.block (map stmt_pieces d.body)) (text (utf8_of c.name) ∷ text (codes ") ") ∷ printed.block (map stmt_pieces c.body)) refl
    (same_behind (utf8_of d.name) (utf8_of c.name) (text (codes ") ") ∷ printed.block (map stmt_pieces d.body)) (text (codes ") ") ∷ printed.block (map stmt_pieces c.body)) (ap utf8_of e)
    (same_behind (codes ") ") (codes ") ") (printed.block (map stmt_pieces d.body)) (printed.block (map stmt_pieces c.body)) refl (same_block (map stmt_pieces d.body) (map stmt_pieces c.body) h)))
    ∙ sym (ap bytes_of (catch_is c)))

block_behind_alike : (word : List ℕ) (ss ts : List EsStmt) → SameLines (map stmt_pieces ts) (map stmt_pieces ss) → SameBytes (printed.block_behind word (map stmt_pieces ts)) (printed.block_behind word (map stmt_pieces ss))
block_behind_alike word ss ts h = same_behind word word (printed.block (map stmt_pieces ts)) (printed.block (map stmt_pieces ss)) refl (same_block (map stmt_pieces ts) (map stmt_pieces ss) h)

try_alike : (ss ts : List EsStmt) (c d : Option Catch) (m n : Option (List EsStmt)) → SameLines (map stmt_pieces ts) (map stmt_pieces ss) → SameBytes (printed.of_catch_if (option_map catch_pieces d)) (printed.of_catch_if (option_map catch_pieces c))
    → SameBytes (printed.of_finally (option_map (map stmt_pieces) n)) (printed.of_finally (option_map (map stmt_pieces) m)) → SameBytes (stmt_pieces (stmt.Try ts d n)) (stmt_pieces (stmt.Try ss c m))
try_alike ss ts c d m n h i j =
    said _ _ _ _ (stmt_try ts d n) (stmt_try ss c m)
    (same_joined (printed.block_behind (codes "try ") (map stmt_pieces ts)) (printed.block_behind (codes "try ") (map stmt_pieces ss)) (printed.of_catch_if (option_map catch_pieces d) ++ printed.of_finally (option_map (map stmt_pieces) n)) (printed.of_catch_if (option_map catch_pieces c) ++ printed.of_finally (option_map (map stmt_pieces) m)) (block_behind_alike (codes "try ") ss ts h)
    (same_joined (printed.of_catch_if (option_map catch_pieces d)) (printed.of_catch_if (option_map catch_pieces c)) (printed.of_finally (option_map (map stmt_pieces) n)) (printed.of_finally (option_map (map stmt_pieces) m)) i j))

-- ---- whole trees

as_long : (es fs : List EsExpr) → map bare_expr fs ≡ map bare_expr es → length fs ≡ length es
as_long es fs h = sym (length-map fs bare_expr) ∙ (ap length h ∙ length-map es bare_expr)

-- of an operator between two operands
infix_alike : (k m : EsKind) (tight on_left on_right : Level) (sign : List ℕ) (e v f w : EsExpr) → kind_form m ≡ printed.infixed tight on_left (expr_part v) sign on_right (expr_part w) → kind_form k ≡ printed.infixed tight on_left (expr_part e) sign on_right (expr_part f)
    → SamePart (expr_part v) (expr_part e) → SamePart (expr_part w) (expr_part f) → SameForm (kind_form m) (kind_form k)
infix_alike k m tight on_left on_right sign e v f w i j g h = same_forms _ _ _ _ i j (same_infixed tight on_left on_right sign (expr_part v) (expr_part e) (expr_part w) (expr_part f) g h)

mutual
  forms : (k : EsKind) → IsForm k → (m : EsKind) → Same m k → Alike k m
  forms _ (s.num n h) m e = let x = like.like_num (pos n) m e in leaf _ m level.Numeral _ (form_num (pos n)) (s.num n h) (x.1 ∙ ap kind.Num x.2)
  forms _ (s.str t h) m e = let x = like.like_str t m e in leaf _ m level.Primary _ (form_str t) (s.str t h) (x.1 ∙ ap kind.Str x.2)
  forms _ s.true_ m e = leaf _ m level.Primary _ form_true_ s.true_ (like.like_true_ m e)
  forms _ s.false_ m e = leaf _ m level.Primary _ form_false_ s.false_ (like.like_false_ m e)
  forms _ s.null m e = leaf _ m level.Primary _ form_null s.null (like.like_null m e)
  forms _ s.this m e = leaf _ m level.Primary _ form_this s.this (like.like_this m e)
  forms _ (s.name n h) m e = let x = like.like_name n m e in leaf _ m level.Primary _ (form_name n) (s.name n h) (x.1 ∙ ap kind.Name x.2)
  forms _ (s.array es h) m e =
      let x = like.like_array es m e in
      let items = exprs es h x.0 x.2 in
      subst (Alike (kind.Array es)) (sym x.1) (s.array x.0 items.0, array_alike es x.0 items.1)
  forms _ (s.object ks es i t n h) m e =
      let x = like.like_object ks es m e in
      let values = exprs es h x.1 x.4 in
      subst (Alike (kind.Object ks es)) (sym (x.2 ∙ ap (λ ks. kind.Object ks x.1) x.3)) (s.object ks x.1 i t (n ∙ sym (as_long es x.1 x.4)) values.0, object_alike ks es x.1 values.1)
  forms _ (s.function n ps ss i j t h) m e =
      let x = like.like_function n ps ss m e in
      let body = bodies true false ss h x.2 x.6 in
      subst (Alike (kind.Function n ps ss)) (sym (x.3 ∙ (ap (λ n. kind.Function n x.1 x.2) x.4 ∙ ap (λ ps. kind.Function n ps x.2) x.5))) (s.function n ps x.2 i j t body.0, function_alike n ps ss x.2 body.1)
  forms _ (s.member f n p h i) m e =
      let x = like.like_member f n p m e in
      let base = alike_expr f x.0 (forms f.kind h (x.0).kind (back x.0 f x.4)) in
      subst (Alike (kind.Member f n p)) (sym (x.3 ∙ ap (λ n. kind.Member x.0 n x.2) x.5)) (s.member x.0 n x.2 base.0 i, member_alike f x.0 n p x.2 base.1)
  forms _ (s.index f g p h i) m e =
      let x = like.like_index f g p m e in
      let base = alike_expr f x.0 (forms f.kind h (x.0).kind (back x.0 f x.4)) in
      let key = alike_expr g x.1 (forms g.kind i (x.1).kind (back x.1 g x.5)) in
      subst (Alike (kind.Index f g p)) (sym x.3) (s.index x.0 x.1 x.2 base.0 key.0, index_alike f x.0 g x.1 p x.2 base.1 key.1)
  forms _ (s.call f es h i) m e =
      let x = like.like_call f es m e in
      let callee = alike_expr f x.0 (forms f.kind h (x.0).kind (back x.0 f x.3)) in
      let args = exprs es i x.1 x.4 in
      subst (Alike (kind.Call f es)) (sym x.2) (s.call x.0 x.1 callee.0 args.0, call_alike f x.0 es x.1 callee.1 args.1)
  forms _ (s.not_ f h) m e =
      let x = like.like_not_ f m e in
      let value = alike_expr f x.0 (forms f.kind h (x.0).kind (back x.0 f x.2)) in
      subst (Alike (kind.Not f)) (sym x.1) (s.not_ x.0 value.0, same_forms _ _ _ _ (form_not_ x.0) (form_not_ f) (same_prefixed level.Unary level.Unary (codes "!") (codes "!") (expr_part x.0) (expr_part f) refl value.1))
  forms _ (s.neg f h) m e =
      let x = like.like_neg f m e in
      let value = alike_expr f x.0 (forms f.kind h (x.0).kind (back x.0 f x.2)) in
      subst (Alike (kind.Neg f)) (sym x.1)
      (s.neg x.0 value.0, same_forms _ _ _ _ (form_neg x.0) (form_neg f) (same_prefixed level.Negation level.Unary (printed.minus_before (expr_part x.0)) (printed.minus_before (expr_part f)) (expr_part x.0) (expr_part f) (same_minus (expr_part x.0) (expr_part f) value.1) value.1))
  forms _ (s.typeof f h) m e =
      let x = like.like_typeof f m e in
      let value = alike_expr f x.0 (forms f.kind h (x.0).kind (back x.0 f x.2)) in
      subst (Alike (kind.Typeof f)) (sym x.1)
      (s.typeof x.0 value.0, same_forms _ _ _ _ (form_typeof x.0) (form_typeof f) (same_prefixed level.Unary level.Unary (codes "typeof ") (codes "typeof ") (expr_part x.0) (expr_part f) refl value.1))
  forms _ (s.delete f d h) m e =
      let x = like.like_delete f m e in
      let value = alike_expr f x.0 (forms f.kind h (x.0).kind (back x.0 f x.2)) in
      subst (Alike (kind.Delete f)) (sym x.1)
      (s.delete x.0 (same_members (x.0).kind f.kind (back x.0 f x.2) ∙ d) value.0, same_forms _ _ _ _ (form_delete x.0) (form_delete f) (same_prefixed level.Unary level.Call (codes "delete ") (codes "delete ") (expr_part x.0) (expr_part f) refl value.1))
  forms _ (s.binary o f g h i) m e =
      let x = like.like_binary o f g m e in
      let left = alike_expr f x.1 (forms f.kind h (x.1).kind (back x.1 f x.5)) in
      let right = alike_expr g x.2 (forms g.kind i (x.2).kind (back x.2 g x.6)) in
      subst (Alike (kind.Binary o f g)) (sym (x.3 ∙ ap (λ o. kind.Binary o x.1 x.2) x.4))
      (s.binary o x.1 x.2 left.0 right.0, infix_alike _ _ (of_operator o) (of_operator o) (of_right o) (printed.sign_of o) f x.1 g x.2 (form_binary o x.1 x.2) (form_binary o f g) left.1 right.1)
  forms _ (s.and f g h i) m e =
      let x = like.like_and f g m e in
      let left = alike_expr f x.0 (forms f.kind h (x.0).kind (back x.0 f x.3)) in
      let right = alike_expr g x.1 (forms g.kind i (x.1).kind (back x.1 g x.4)) in
      subst (Alike (kind.And f g)) (sym x.2)
      (s.and x.0 x.1 left.0 right.0, infix_alike _ _ level.And level.And level.Equality (codes " && ") f x.0 g x.1 (form_and x.0 x.1) (form_and f g) left.1 right.1)
  forms _ (s.or f g h i) m e =
      let x = like.like_or f g m e in
      let left = alike_expr f x.0 (forms f.kind h (x.0).kind (back x.0 f x.3)) in
      let right = alike_expr g x.1 (forms g.kind i (x.1).kind (back x.1 g x.4)) in
      subst (Alike (kind.Or f g)) (sym x.2)
      (s.or x.0 x.1 left.0 right.0, infix_alike _ _ level.Or level.Or level.And (codes " || ") f x.0 g x.1 (form_or x.0 x.1) (form_or f g) left.1 right.1)
  forms _ (s.cond t f g i h j) m e =
      let x = like.like_cond t f g m e in
      let test = alike_expr t x.0 (forms t.kind i (x.0).kind (back x.0 t x.4)) in
      let first = alike_expr f x.1 (forms f.kind h (x.1).kind (back x.1 f x.5)) in
      let second = alike_expr g x.2 (forms g.kind j (x.2).kind (back x.2 g x.6)) in
      subst (Alike (kind.Cond t f g)) (sym x.3) (s.cond x.0 x.1 x.2 test.0 first.0 second.0, cond_alike t x.0 f x.1 g x.2 test.1 first.1 second.1)
  forms _ (s.assign f g d h i) m e =
      let x = like.like_assign f g m e in
      let left = alike_expr f x.0 (forms f.kind h (x.0).kind (back x.0 f x.3)) in
      let right = alike_expr g x.1 (forms g.kind i (x.1).kind (back x.1 g x.4)) in
      subst (Alike (kind.Assign f g)) (sym x.2)
      (s.assign x.0 x.1 (same_targets (x.0).kind f.kind (back x.0 f x.3) ∙ d) left.0 right.0, infix_alike _ _ level.Assignment level.Call level.Assignment (codes " = ") f x.0 g x.1 (form_assign x.0 x.1) (form_assign f g) left.1 right.1)

  exprs : (es : List EsExpr) → AreExprs es → (fs : List EsExpr) → map bare_expr fs ≡ map bare_expr es → AlikeList es fs
  exprs _ s.none [] e = (s.none, no_parts)
  exprs _ s.none (v ∷ fs) e = cc
  exprs _ (s.more f es h i) [] e = cc
  exprs _ (s.more f es h i) (v ∷ fs) e =
      let first : bare_expr v ≡ bare_expr f = cc in
      let rest : map bare_expr fs ≡ map bare_expr es = cc in
      let one = alike_expr f v (forms f.kind h v.kind (back v f first)) in
      let others = exprs es i fs rest in
      (s.more v fs one.0 others.0, more_parts (expr_part v) (expr_part f) one.1 others.1)

  statements : (f l short : Bool) (t : EsStmt) → IsStatement f l short t → (u : EsStmt) → SameStmt u t → AlikeStmt f l short t u
  statements _ _ _ _ (s.var f l n i) u e =
      let x = like.like_stmt_var n u e in
      subst (AlikeStmt f l false (stmt.Var n None)) (sym (x.1 ∙ ap (λ n. stmt.Var n None) x.2)) (s.var f l n i, refl)
  statements _ _ _ _ (s.var_set f l n g i h) u e =
      let x = like.like_stmt_var_set n g u e in
      let value = alike_expr g x.1 (forms g.kind h (x.1).kind (back x.1 g x.4)) in
      subst (AlikeStmt f l false (stmt.Var n (Some g))) (sym (x.2 ∙ ap (λ n. stmt.Var n (Some x.1)) x.3)) (s.var_set f l n x.1 i value.0, var_alike n g x.1 value.1)
  statements _ _ _ _ (s.expr f l g h) u e =
      let x = like.like_stmt_expr g u e in
      let value = alike_expr g x.0 (forms g.kind h (x.0).kind (back x.0 g x.2)) in
      subst (AlikeStmt f l false (stmt.Expr g)) (sym x.1) (s.expr f l x.0 value.0, statement_alike g x.0 value.1)
  statements _ _ _ _ (s.block f l ss h) u e =
      let x = like.like_stmt_block ss u e in
      let body = bodies f l ss h x.0 x.2 in
      subst (AlikeStmt f l false (stmt.Block ss)) (sym x.1) (s.block f l x.0 body.0, block_alike ss x.0 body.1)
  statements _ _ _ _ (s.if_ f l short g a h i) u e =
      let x = like.like_stmt_if g a u e in
      let test = alike_expr g x.0 (forms g.kind h (x.0).kind (back x.0 g x.3)) in
      let first = statements f l short a i x.1 (record { is = x.4 }) in
      subst (AlikeStmt f l true (stmt.If g a None)) (sym x.2) (s.if_ f l short x.0 x.1 test.0 first.0, if_alike g x.0 a x.1 test.1 first.1)
  statements _ _ _ _ (s.if_else f l short g a c h i j) u e =
      let x = like.like_stmt_if_else g a c u e in
      let test = alike_expr g x.0 (forms g.kind h (x.0).kind (back x.0 g x.4)) in
      let first = statements f l false a i x.1 (record { is = x.5 }) in
      let second = statements f l short c j x.2 (record { is = x.6 }) in
      subst (AlikeStmt f l short (stmt.If g a (Some c))) (sym x.3) (s.if_else f l short x.0 x.1 x.2 test.0 first.0 second.0, if_else_alike g x.0 a x.1 c x.2 test.1 first.1 second.1)
  statements _ _ _ _ (s.while f l short g a h i) u e =
      let x = like.like_stmt_while g a u e in
      let test = alike_expr g x.0 (forms g.kind h (x.0).kind (back x.0 g x.3)) in
      let body = statements f true short a i x.1 (record { is = x.4 }) in
      subst (AlikeStmt f l short (stmt.While g a)) (sym x.2) (s.while f l short x.0 x.1 test.0 body.0, while_alike g x.0 a x.1 test.1 body.1)
  statements _ _ _ _ (s.return l) u e = subst (AlikeStmt true l false (stmt.Return None)) (sym (like.like_stmt_return u e)) (s.return l, refl)
  statements _ _ _ _ (s.return_value l g h) u e =
      let x = like.like_stmt_return_value g u e in
      let value = alike_expr g x.0 (forms g.kind h (x.0).kind (back x.0 g x.2)) in
      subst (AlikeStmt true l false (stmt.Return (Some g))) (sym x.1) (s.return_value l x.0 value.0, return_alike g x.0 value.1)
  statements _ _ _ _ (s.break f) u e = subst (AlikeStmt f true false stmt.Break) (sym (like.like_stmt_break u e)) (s.break f, refl)
  statements _ _ _ _ (s.continue f) u e = subst (AlikeStmt f true false stmt.Continue) (sym (like.like_stmt_continue u e)) (s.continue f, refl)
  statements _ _ _ _ (s.throw f l g h) u e =
      let x = like.like_stmt_throw g u e in
      let value = alike_expr g x.0 (forms g.kind h (x.0).kind (back x.0 g x.2)) in
      subst (AlikeStmt f l false (stmt.Throw g)) (sym x.1) (s.throw f l x.0 value.0, throw_alike g x.0 value.1)
  statements _ _ _ _ (s.try_catch f l ss c h i j) u e =
      let x = like.like_stmt_try_catch ss c u e in
      let body = bodies f l ss h x.0 x.3 in
      let same = catch_back x.1 c x.4 in
      let handler = bodies f l c.body j (x.1).body same.1 in
      subst (AlikeStmt f l false (stmt.Try ss (Some c) None)) (sym x.2)
      (s.try_catch f l x.0 x.1 body.0 (subst IsBinding (sym same.0) i) handler.0, try_alike ss x.0 (Some c) (Some x.1) None None body.1 (catch_alike x.1 c same.0 handler.1) refl)
  statements _ _ _ _ (s.try_finally f l ss d h i) u e =
      let x = like.like_stmt_try_finally ss d u e in
      let body = bodies f l ss h x.0 x.3 in
      let last = bodies f l d i x.1 x.4 in
      subst (AlikeStmt f l false (stmt.Try ss None (Some d))) (sym x.2) (s.try_finally f l x.0 x.1 body.0 last.0, try_alike ss x.0 None None (Some d) (Some x.1) body.1 refl (block_behind_alike (codes " finally ") d x.1 last.1))
  statements _ _ _ _ (s.try_both f l ss c d h i j k) u e =
      let x = like.like_stmt_try_both ss c d u e in
      let body = bodies f l ss h x.0 x.4 in
      let same = catch_back x.1 c x.5 in
      let handler = bodies f l c.body j (x.1).body same.1 in
      let last = bodies f l d k x.2 x.6 in
      subst (AlikeStmt f l false (stmt.Try ss (Some c) (Some d))) (sym x.3)
      (s.try_both f l x.0 x.1 x.2 body.0 (subst IsBinding (sym same.0) i) handler.0 last.0, try_alike ss x.0 (Some c) (Some x.1) (Some d) (Some x.2) body.1 (catch_alike x.1 c same.0 handler.1) (block_behind_alike (codes " finally ") d x.2 last.1))
  statements _ _ _ _ (s.empty f l) u e = subst (AlikeStmt f l false stmt.Empty) (sym (like.like_stmt_empty u e)) (s.empty f l, refl)

  bodies : (f l : Bool) (ss : List EsStmt) → AreStatements f l ss → (ts : List EsStmt) → map bare_stmt ts ≡ map bare_stmt ss → AlikeBody f l ss ts
  bodies _ _ _ (s.no_statement f l) [] e = (s.no_statement f l, no_lines)
  bodies _ _ _ (s.no_statement f l) (u ∷ ts) e = cc
  bodies _ _ _ (s.statement f l short t ss h i) [] e = cc
  bodies _ _ _ (s.statement f l short t ss h i) (u ∷ ts) e =
      let first : bare_stmt u ≡ bare_stmt t = cc in
      let rest : map bare_stmt ts ≡ map bare_stmt ss = cc in
      let one = statements f l short t h u (record { is = first }) in
      let others = bodies f l ss i ts rest in
      (s.statement f l short u ts one.0 others.0, more_lines (stmt_pieces u) (stmt_pieces t) one.1 others.1)

-- ---- scripts

script_alike : (script other : Script) → Spellable other → bare script ≡ bare other → AlikeBody false false other.body script.body
script_alike script other h e = bodies false false other.body h script.body (ap (λ (x : Script). x.body) e)

pub spelled_is_spellable_is : SpelledIsSpellable
spelled_is_spellable_is script bytes e = (script_alike script e.read (read_is_spellable_is bytes e.read e.reads) e.same).0

pub same_bytes_same_text_is : SameBytesSameText
same_bytes_same_text_is script other bytes e i =
    let lines_are = (script_alike script other (spelled_is_spellable_is other bytes i) (one_spelled_is bytes script other e i)).1 in
    ap (λ l. codes "\"use strict\";\n" ++ l) (same_lines (map stmt_pieces script.body) (map stmt_pieces other.body) lines_are)
