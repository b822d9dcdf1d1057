-- The printed form of each expression, from the printed parts.
use Rattle.std.proofs.Common.{◌≡◌, ℕ, ℤ, List, map, Option, sym, ap, ◌∙◌}
use Rattle.opal_base.specs.declared.place.Pos.{Pos}
use Rattle.es5_tree.specs.declared.tree.EsExpr.{EsExpr}
use Rattle.es5_tree.specs.declared.tree.EsKind.{EsKind-F}
use Rattle.es5_tree.specs.declared.tree.EsKind.TheVariants as kind
use Rattle.es5_tree.specs.declared.tree.EsStmt.{EsStmt}
use Rattle.es5_tree.specs.declared.tree.Operator.{Operator}
use Rattle.es5_printer.specs.Forms.{of_kind}
use Rattle.es5_printer.specs.Text.{expr_part, kind_form, stmt_pieces}
use Rattle.es5_printer.proofs.Equations.{kind_layer}

pub form_num : (v : ℤ) → kind_form (kind.Num v) ≡ of_kind (EsKind-F.Num v)
form_num v = ap kind_form (sym (kind.rolls-Num v)) ∙ kind_layer (EsKind-F.Num v)

pub form_str : (u : List ℕ) → kind_form (kind.Str u) ≡ of_kind (EsKind-F.Str u)
form_str u = ap kind_form (sym (kind.rolls-Str u)) ∙ kind_layer (EsKind-F.Str u)

pub form_true_ : kind_form kind.True ≡ of_kind EsKind-F.True
form_true_ = ap kind_form (sym kind.rolls-True) ∙ kind_layer EsKind-F.True

pub form_false_ : kind_form kind.False ≡ of_kind EsKind-F.False
form_false_ = ap kind_form (sym kind.rolls-False) ∙ kind_layer EsKind-F.False

pub form_null : kind_form kind.Null ≡ of_kind EsKind-F.Null
form_null = ap kind_form (sym kind.rolls-Null) ∙ kind_layer EsKind-F.Null

pub form_this : kind_form kind.This ≡ of_kind EsKind-F.This
form_this = ap kind_form (sym kind.rolls-This) ∙ kind_layer EsKind-F.This

pub form_name : (u : List ℕ) → kind_form (kind.Name u) ≡ of_kind (EsKind-F.Name u)
form_name u = ap kind_form (sym (kind.rolls-Name u)) ∙ kind_layer (EsKind-F.Name u)

pub form_array : (es : List EsExpr) → kind_form (kind.Array es) ≡ of_kind (EsKind-F.Array (map expr_part es))
form_array es = ap kind_form (sym (kind.rolls-Array es)) ∙ kind_layer (EsKind-F.Array es)

pub form_object : (ks : List (List ℕ)) (es : List EsExpr) → kind_form (kind.Object ks es) ≡ of_kind (EsKind-F.Object ks (map expr_part es))
form_object ks es = ap kind_form (sym (kind.rolls-Object ks es)) ∙ kind_layer (EsKind-F.Object ks es)

pub form_function : (n : Option (List ℕ)) (ps : List (List ℕ)) (b : List EsStmt) → kind_form (kind.Function n ps b) ≡ of_kind (EsKind-F.Function n ps (map stmt_pieces b))
form_function n ps b = ap kind_form (sym (kind.rolls-Function n ps b)) ∙ kind_layer (EsKind-F.Function n ps b)

pub form_member : (e : EsExpr) (u : List ℕ) (m : Pos) → kind_form (kind.Member e u m) ≡ of_kind (EsKind-F.Member (expr_part e) u m)
form_member e u m = ap kind_form (sym (kind.rolls-Member e u m)) ∙ kind_layer (EsKind-F.Member e u m)

pub form_index : (e k : EsExpr) (m : Pos) → kind_form (kind.Index e k m) ≡ of_kind (EsKind-F.Index (expr_part e) (expr_part k) m)
form_index e k m = ap kind_form (sym (kind.rolls-Index e k m)) ∙ kind_layer (EsKind-F.Index e k m)

pub form_call : (e : EsExpr) (es : List EsExpr) → kind_form (kind.Call e es) ≡ of_kind (EsKind-F.Call (expr_part e) (map expr_part es))
form_call e es = ap kind_form (sym (kind.rolls-Call e es)) ∙ kind_layer (EsKind-F.Call e es)

pub form_not_ : (e : EsExpr) → kind_form (kind.Not e) ≡ of_kind (EsKind-F.Not (expr_part e))
form_not_ e = ap kind_form (sym (kind.rolls-Not e)) ∙ kind_layer (EsKind-F.Not e)

pub form_neg : (e : EsExpr) → kind_form (kind.Neg e) ≡ of_kind (EsKind-F.Neg (expr_part e))
form_neg e = ap kind_form (sym (kind.rolls-Neg e)) ∙ kind_layer (EsKind-F.Neg e)

pub form_typeof : (e : EsExpr) → kind_form (kind.Typeof e) ≡ of_kind (EsKind-F.Typeof (expr_part e))
form_typeof e = ap kind_form (sym (kind.rolls-Typeof e)) ∙ kind_layer (EsKind-F.Typeof e)

pub form_delete : (e : EsExpr) → kind_form (kind.Delete e) ≡ of_kind (EsKind-F.Delete (expr_part e))
form_delete e = ap kind_form (sym (kind.rolls-Delete e)) ∙ kind_layer (EsKind-F.Delete e)

pub form_binary : (o : Operator) (l r : EsExpr) → kind_form (kind.Binary o l r) ≡ of_kind (EsKind-F.Binary o (expr_part l) (expr_part r))
form_binary o l r = ap kind_form (sym (kind.rolls-Binary o l r)) ∙ kind_layer (EsKind-F.Binary o l r)

pub form_and : (l r : EsExpr) → kind_form (kind.And l r) ≡ of_kind (EsKind-F.And (expr_part l) (expr_part r))
form_and l r = ap kind_form (sym (kind.rolls-And l r)) ∙ kind_layer (EsKind-F.And l r)

pub form_or : (l r : EsExpr) → kind_form (kind.Or l r) ≡ of_kind (EsKind-F.Or (expr_part l) (expr_part r))
form_or l r = ap kind_form (sym (kind.rolls-Or l r)) ∙ kind_layer (EsKind-F.Or l r)

pub form_cond : (t l r : EsExpr) → kind_form (kind.Cond t l r) ≡ of_kind (EsKind-F.Cond (expr_part t) (expr_part l) (expr_part r))
form_cond t l r = ap kind_form (sym (kind.rolls-Cond t l r)) ∙ kind_layer (EsKind-F.Cond t l r)

pub form_assign : (l r : EsExpr) → kind_form (kind.Assign l r) ≡ of_kind (EsKind-F.Assign (expr_part l) (expr_part r))
form_assign l r = ap kind_form (sym (kind.rolls-Assign l r)) ∙ kind_layer (EsKind-F.Assign l r)
