-- The pieces of each form, from those of its parts.
use Rattle.std.proofs.Common.{◌≡◌, ℕ, ℤ, List, [], ◌∷◌, ◌++◌, map, Option, Some, None, codes, refl, sym, ap, ◌∙◌}
use Rattle.std.specs.Fmt.{signed_decimal}
use Rattle.std.specs.Option.{option_map}
use Rattle.opal_base.specs.declared.place.Pos.{Pos}
use Rattle.opal_base.specs.Text.{utf8_of}
use Rattle.es5_tree.specs.declared.tree.Catch.{Catch, Catch-F, out-Catch, roll-Catch, roll-out-Catch, map-Catch, fold-roll-Catch}
use Rattle.es5_tree.specs.declared.tree.EsExpr.{EsExpr, fold-roll-EsExpr}
use Rattle.es5_tree.specs.declared.tree.EsKind.{EsKind, EsKind-F, roll-EsKind, map-EsKind, fold-roll-EsKind}
use Rattle.es5_tree.specs.declared.tree.EsKind.TheVariants as kind
use Rattle.es5_tree.specs.declared.tree.EsStmt.{EsStmt, EsStmt-F, roll-EsStmt, map-EsStmt, fold-roll-EsStmt}
use Rattle.es5_tree.specs.declared.tree.EsStmt.TheVariants as stmt
use Rattle.es5_tree.specs.declared.tree.Operator.{Operator}
use Rattle.es5_tree.specs.Text.{literal}
use Rattle.es5_printer.specs.declared.level.Level.TheVariants as level
use Rattle.es5_printer.specs.Forms as f
use Rattle.es5_printer.specs.Forms.{Form, Part, pieces, of_kind, of_stmt, of_catch, of_expr}
use Rattle.es5_printer.specs.Levels.{of_operator, of_right}
use Rattle.es5_printer.specs.Pieces.{Piece, marked, plain, text}
use Rattle.es5_printer.specs.Text.{catch_pieces, expr_part, kind_form, stmt_pieces}

pub expr_layer : (e : EsExpr) → expr_part e ≡ ((kind_form e.kind).0, ((kind_form e.kind).1.0, (kind_form e.kind).1.1 e.origin))
unfolding expr_part kind_form
expr_layer e = fold-roll-EsExpr Form (List Piece) (List Piece) Part of_kind of_stmt of_catch of_expr (record { kind = e.kind; origin = e.origin; pos = e.pos })

pub kind_layer : (l : EsKind-F EsKind EsStmt Catch EsExpr) → kind_form (roll-EsKind l) ≡ of_kind (map-EsKind EsKind EsStmt Catch EsExpr Form (List Piece) (List Piece) Part kind_form stmt_pieces catch_pieces expr_part l)
unfolding expr_part kind_form stmt_pieces catch_pieces
kind_layer l = fold-roll-EsKind Form (List Piece) (List Piece) Part of_kind of_stmt of_catch of_expr l

pub stmt_layer : (l : EsStmt-F EsKind EsStmt Catch EsExpr) → stmt_pieces (roll-EsStmt l) ≡ of_stmt (map-EsStmt EsKind EsStmt Catch EsExpr Form (List Piece) (List Piece) Part kind_form stmt_pieces catch_pieces expr_part l)
unfolding expr_part kind_form stmt_pieces catch_pieces
stmt_layer l = fold-roll-EsStmt Form (List Piece) (List Piece) Part of_kind of_stmt of_catch of_expr l

pub catch_layer : (l : Catch-F EsKind EsStmt Catch EsExpr) → catch_pieces (roll-Catch l) ≡ of_catch (map-Catch EsKind EsStmt Catch EsExpr Form (List Piece) (List Piece) Part kind_form stmt_pieces catch_pieces expr_part l)
unfolding expr_part kind_form stmt_pieces catch_pieces
catch_layer l = fold-roll-Catch Form (List Piece) (List Piece) Part of_kind of_stmt of_catch of_expr l

pub expr_is : (e : EsExpr) → f.pieces (expr_part e) ≡ (kind_form e.kind).1.1 e.origin
expr_is e = ap pieces (expr_layer e)

pub catch_is : (c : Catch) → catch_pieces c ≡ text (codes " catch (") ∷ text (utf8_of c.name) ∷ text (codes ") ") ∷ f.block (map stmt_pieces c.body)
catch_is c = ap catch_pieces (sym (roll-out-Catch c)) ∙ catch_layer (out-Catch c)

pub of_num : (v : ℤ) (o : Option ℕ) → (kind_form (kind.Num v)).1.1 o ≡ marked o ++ plain (signed_decimal v)
of_num v o = ap (λ x. (kind_form x).1.1 o) (sym (kind.rolls-Num v)) ∙ ap (λ x. x.1.1 o) (kind_layer (EsKind-F.Num v))

pub of_str : (u : List ℕ) (o : Option ℕ) → (kind_form (kind.Str u)).1.1 o ≡ marked o ++ plain (literal u)
of_str u o = ap (λ x. (kind_form x).1.1 o) (sym (kind.rolls-Str u)) ∙ ap (λ x. x.1.1 o) (kind_layer (EsKind-F.Str u))

pub of_true_ : (o : Option ℕ) → (kind_form kind.True).1.1 o ≡ marked o ++ plain (codes "true")
of_true_ o = ap (λ x. (kind_form x).1.1 o) (sym kind.rolls-True) ∙ ap (λ x. x.1.1 o) (kind_layer EsKind-F.True)

pub of_false_ : (o : Option ℕ) → (kind_form kind.False).1.1 o ≡ marked o ++ plain (codes "false")
of_false_ o = ap (λ x. (kind_form x).1.1 o) (sym kind.rolls-False) ∙ ap (λ x. x.1.1 o) (kind_layer EsKind-F.False)

pub of_null : (o : Option ℕ) → (kind_form kind.Null).1.1 o ≡ marked o ++ plain (codes "null")
of_null o = ap (λ x. (kind_form x).1.1 o) (sym kind.rolls-Null) ∙ ap (λ x. x.1.1 o) (kind_layer EsKind-F.Null)

pub of_this : (o : Option ℕ) → (kind_form kind.This).1.1 o ≡ marked o ++ plain (codes "this")
of_this o = ap (λ x. (kind_form x).1.1 o) (sym kind.rolls-This) ∙ ap (λ x. x.1.1 o) (kind_layer EsKind-F.This)

pub of_name : (u : List ℕ) (o : Option ℕ) → (kind_form (kind.Name u)).1.1 o ≡ marked o ++ plain (utf8_of u)
of_name u o = ap (λ x. (kind_form x).1.1 o) (sym (kind.rolls-Name u)) ∙ ap (λ x. x.1.1 o) (kind_layer (EsKind-F.Name u))

pub of_array : (es : List EsExpr) (o : Option ℕ) → (kind_form (kind.Array es)).1.1 o ≡ marked o ++ f.array (map expr_part es)
of_array es o = ap (λ x. (kind_form x).1.1 o) (sym (kind.rolls-Array es)) ∙ ap (λ x. x.1.1 o) (kind_layer (EsKind-F.Array es))

pub of_object : (ks : List (List ℕ)) (es : List EsExpr) (o : Option ℕ) → (kind_form (kind.Object ks es)).1.1 o ≡ marked o ++ f.object ks (map expr_part es)
of_object ks es o = ap (λ x. (kind_form x).1.1 o) (sym (kind.rolls-Object ks es)) ∙ ap (λ x. x.1.1 o) (kind_layer (EsKind-F.Object ks es))

pub of_function : (n : Option (List ℕ)) (ps : List (List ℕ)) (b : List EsStmt) (o : Option ℕ) → (kind_form (kind.Function n ps b)).1.1 o ≡ marked o ++ f.function n ps (map stmt_pieces b)
of_function n ps b o = ap (λ x. (kind_form x).1.1 o) (sym (kind.rolls-Function n ps b)) ∙ ap (λ x. x.1.1 o) (kind_layer (EsKind-F.Function n ps b))

pub of_member : (b : EsExpr) (u : List ℕ) (m : Pos) (o : Option ℕ) → (kind_form (kind.Member b u m)).1.1 o ≡ f.member (expr_part b) u o
of_member b u m o = ap (λ x. (kind_form x).1.1 o) (sym (kind.rolls-Member b u m)) ∙ ap (λ x. x.1.1 o) (kind_layer (EsKind-F.Member b u m))

pub of_index : (b k : EsExpr) (m : Pos) (o : Option ℕ) → (kind_form (kind.Index b k m)).1.1 o ≡ f.at_level level.Numeral (expr_part b) ++ f.key_behind (expr_part k) o
of_index b k m o = ap (λ x. (kind_form x).1.1 o) (sym (kind.rolls-Index b k m)) ∙ ap (λ x. x.1.1 o) (kind_layer (EsKind-F.Index b k m))

pub of_call : (c : EsExpr) (es : List EsExpr) (o : Option ℕ) → (kind_form (kind.Call c es)).1.1 o ≡ marked o ++ (f.at_level level.Numeral (expr_part c) ++ f.arguments (map expr_part es))
of_call c es o = ap (λ x. (kind_form x).1.1 o) (sym (kind.rolls-Call c es)) ∙ ap (λ x. x.1.1 o) (kind_layer (EsKind-F.Call c es))

pub of_not_ : (e : EsExpr) (o : Option ℕ) → (kind_form (kind.Not e)).1.1 o ≡ f.unary o (codes "!") level.Unary (expr_part e)
of_not_ e o = ap (λ x. (kind_form x).1.1 o) (sym (kind.rolls-Not e)) ∙ ap (λ x. x.1.1 o) (kind_layer (EsKind-F.Not e))

pub of_neg : (e : EsExpr) (o : Option ℕ) → (kind_form (kind.Neg e)).1.1 o ≡ f.unary o (f.minus_before (expr_part e)) level.Unary (expr_part e)
of_neg e o = ap (λ x. (kind_form x).1.1 o) (sym (kind.rolls-Neg e)) ∙ ap (λ x. x.1.1 o) (kind_layer (EsKind-F.Neg e))

pub of_typeof : (e : EsExpr) (o : Option ℕ) → (kind_form (kind.Typeof e)).1.1 o ≡ f.unary o (codes "typeof ") level.Unary (expr_part e)
of_typeof e o = ap (λ x. (kind_form x).1.1 o) (sym (kind.rolls-Typeof e)) ∙ ap (λ x. x.1.1 o) (kind_layer (EsKind-F.Typeof e))

pub of_delete : (e : EsExpr) (o : Option ℕ) → (kind_form (kind.Delete e)).1.1 o ≡ f.unary o (codes "delete ") level.Call (expr_part e)
of_delete e o = ap (λ x. (kind_form x).1.1 o) (sym (kind.rolls-Delete e)) ∙ ap (λ x. x.1.1 o) (kind_layer (EsKind-F.Delete e))

pub of_binary : (op : Operator) (l r : EsExpr) (o : Option ℕ) → (kind_form (kind.Binary op l r)).1.1 o ≡ marked o ++ (f.at_level (of_operator op) (expr_part l) ++ f.operand_behind (f.sign_of op) (of_right op) (expr_part r))
of_binary op l r o = ap (λ x. (kind_form x).1.1 o) (sym (kind.rolls-Binary op l r)) ∙ ap (λ x. x.1.1 o) (kind_layer (EsKind-F.Binary op l r))

pub of_and_ : (l r : EsExpr) (o : Option ℕ) → (kind_form (kind.And l r)).1.1 o ≡ marked o ++ (f.at_level level.And (expr_part l) ++ f.operand_behind (codes " && ") level.Equality (expr_part r))
of_and_ l r o = ap (λ x. (kind_form x).1.1 o) (sym (kind.rolls-And l r)) ∙ ap (λ x. x.1.1 o) (kind_layer (EsKind-F.And l r))

pub of_or_ : (l r : EsExpr) (o : Option ℕ) → (kind_form (kind.Or l r)).1.1 o ≡ marked o ++ (f.at_level level.Or (expr_part l) ++ f.operand_behind (codes " || ") level.And (expr_part r))
of_or_ l r o = ap (λ x. (kind_form x).1.1 o) (sym (kind.rolls-Or l r)) ∙ ap (λ x. x.1.1 o) (kind_layer (EsKind-F.Or l r))

pub of_cond : (t l r : EsExpr) (o : Option ℕ) → (kind_form (kind.Cond t l r)).1.1 o ≡ marked o ++ (f.at_level level.Or (expr_part t) ++ (f.value_behind f.question_sign (expr_part l) ++ f.value_behind (codes " : ") (expr_part r)))
of_cond t l r o = ap (λ x. (kind_form x).1.1 o) (sym (kind.rolls-Cond t l r)) ∙ ap (λ x. x.1.1 o) (kind_layer (EsKind-F.Cond t l r))

pub of_assign : (l r : EsExpr) (o : Option ℕ) → (kind_form (kind.Assign l r)).1.1 o ≡ marked o ++ (f.at_level level.Call (expr_part l) ++ f.operand_behind (codes " = ") level.Assignment (expr_part r))
of_assign l r o = ap (λ x. (kind_form x).1.1 o) (sym (kind.rolls-Assign l r)) ∙ ap (λ x. x.1.1 o) (kind_layer (EsKind-F.Assign l r))

pub stmt_var : (u : List ℕ) (v : Option EsExpr) → stmt_pieces (stmt.Var u v) ≡ f.var_statement u (option_map expr_part v)
stmt_var u None = ap stmt_pieces (sym (stmt.rolls-Var u None)) ∙ stmt_layer (EsStmt-F.Var u None)
stmt_var u (Some v) = ap stmt_pieces (sym (stmt.rolls-Var u (Some v))) ∙ stmt_layer (EsStmt-F.Var u (Some v))

pub stmt_expr : (e : EsExpr) → stmt_pieces (stmt.Expr e) ≡ f.ended (f.of_expression (expr_part e))
stmt_expr e = ap stmt_pieces (sym (stmt.rolls-Expr e)) ∙ stmt_layer (EsStmt-F.Expr e)

pub stmt_block : (b : List EsStmt) → stmt_pieces (stmt.Block b) ≡ f.block (map stmt_pieces b)
stmt_block b = ap stmt_pieces (sym (stmt.rolls-Block b)) ∙ stmt_layer (EsStmt-F.Block b)

pub stmt_while : (t : EsExpr) (a : EsStmt) → stmt_pieces (stmt.While t a) ≡ f.test (codes "while (") (expr_part t) ++ stmt_pieces a
stmt_while t a = ap stmt_pieces (sym (stmt.rolls-While t a)) ∙ stmt_layer (EsStmt-F.While t a)

pub stmt_return : (v : Option EsExpr) → stmt_pieces (stmt.Return v) ≡ f.return_statement (option_map expr_part v)
stmt_return None = ap stmt_pieces (sym (stmt.rolls-Return None)) ∙ stmt_layer (EsStmt-F.Return None)
stmt_return (Some v) = ap stmt_pieces (sym (stmt.rolls-Return (Some v))) ∙ stmt_layer (EsStmt-F.Return (Some v))

pub stmt_break : stmt_pieces stmt.Break ≡ plain (codes "break;")
stmt_break = ap stmt_pieces (sym stmt.rolls-Break) ∙ stmt_layer EsStmt-F.Break

pub stmt_continue : stmt_pieces stmt.Continue ≡ plain (codes "continue;")
stmt_continue = ap stmt_pieces (sym stmt.rolls-Continue) ∙ stmt_layer EsStmt-F.Continue

pub stmt_throw : (e : EsExpr) → stmt_pieces (stmt.Throw e) ≡ f.throw_statement (expr_part e)
stmt_throw e = ap stmt_pieces (sym (stmt.rolls-Throw e)) ∙ stmt_layer (EsStmt-F.Throw e)

pub stmt_empty : stmt_pieces stmt.Empty ≡ plain (codes ";")
stmt_empty = ap stmt_pieces (sym stmt.rolls-Empty) ∙ stmt_layer EsStmt-F.Empty

pub stmt_if : (t : EsExpr) (a : EsStmt) (b : Option EsStmt) → stmt_pieces (stmt.If t a b) ≡ f.test (codes "if (") (expr_part t) ++ (stmt_pieces a ++ f.otherwise (option_map stmt_pieces b))
stmt_if t a None = ap stmt_pieces (sym (stmt.rolls-If t a None)) ∙ stmt_layer (EsStmt-F.If t a None)
stmt_if t a (Some b) = ap stmt_pieces (sym (stmt.rolls-If t a (Some b))) ∙ stmt_layer (EsStmt-F.If t a (Some b))

pub stmt_try : (b : List EsStmt) (c : Option Catch) (l : Option (List EsStmt)) → stmt_pieces (stmt.Try b c l) ≡ f.block_behind (codes "try ") (map stmt_pieces b) ++ (f.of_catch_if (option_map catch_pieces c) ++ f.of_finally (option_map (map stmt_pieces) l))
stmt_try b None None = ap stmt_pieces (sym (stmt.rolls-Try b None None)) ∙ stmt_layer (EsStmt-F.Try b None None)
stmt_try b None (Some l) = ap stmt_pieces (sym (stmt.rolls-Try b None (Some l))) ∙ stmt_layer (EsStmt-F.Try b None (Some l))
stmt_try b (Some c) None = ap stmt_pieces (sym (stmt.rolls-Try b (Some c) None)) ∙ stmt_layer (EsStmt-F.Try b (Some c) None)
stmt_try b (Some c) (Some l) = ap stmt_pieces (sym (stmt.rolls-Try b (Some c) (Some l))) ∙ stmt_layer (EsStmt-F.Try b (Some c) (Some l))
