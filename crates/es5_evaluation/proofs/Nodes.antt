-- What a node of each form does when it begins.
use Rattle.std.proofs.Common.{◌≡◌, ℤ, true, false, List, [], ◌∷◌, Option, Some, codes, refl, sym, ap, ◌∙◌}
use Rattle.std.specs.Prelude.{not}
use Rattle.opal_base.specs.declared.place.Pos.{Pos}
use Rattle.es5_tree.specs.declared.tree.Catch.{Catch, Catch-F, roll-Catch}
use Rattle.es5_tree.specs.declared.tree.EsExpr.{EsExpr}
use Rattle.es5_tree.specs.declared.tree.EsKind.{EsKind, EsKind-F, out-EsKind}
use Rattle.es5_tree.specs.declared.tree.EsKind.TheVariants as kind
use Rattle.es5_tree.specs.declared.tree.EsStmt.{EsStmt, EsStmt-F, out-EsStmt}
use Rattle.es5_tree.specs.declared.tree.EsStmt.TheVariants as stmt
use Rattle.es5_tree.specs.declared.tree.Operator.{Operator}
use Rattle.es5_tree.specs.Values.{Text, Val, Undefined, Null, Truth, Num, Str}
use Rattle.es5_evaluation.specs.Task.{Variable, Refers, Return, Throw, Break, Continue, Scope, Evaluate, Refer, Execute, Turn, Done, Ask, Enter, ◌>>=◌}
use Rattle.es5_evaluation.specs.Values.{truthy, negated, binary}
use Rattle.es5_evaluation.specs.Evaluate.{Layer, Statement, ItsValue, ItsPlace, access, access_at, all, and_then, branch, call_place, call_with, caught_by, choose, delete_place, eval_node, evaluated, exec_node, gather, gives, initialized, make_array, make_function, make_object, normally, nothing, operated, or_else, perform, read_name, refer_node, referred, tried, turn, type_error, type_of, type_of_place, write_place}
use Rattle.es5_evaluation.proofs.Layers as layer

-- ---- by a layer

pub evaluates : (e : EsExpr) (l : Layer) (ρ : Scope) → out-EsKind e.kind ≡ l → perform (Evaluate e ρ) ≡ eval_node l e.pos ρ
unfolding perform
evaluates e l ρ h = ap (λ x. eval_node x e.pos ρ) h

pub refers : (e : EsExpr) (l : Layer) (ρ : Scope) → out-EsKind e.kind ≡ l → perform (Refer e ρ) ≡ refer_node l e.pos ρ
unfolding perform
refers e l ρ h = ap (λ x. refer_node x e.pos ρ) h

pub executes : (t : EsStmt) (l : Statement) (ρ : Scope) → out-EsStmt t ≡ l → perform (Execute t ρ) ≡ exec_node l ρ
unfolding perform
executes t l ρ h = ap (λ x. exec_node x ρ) h

-- the test of a loop
pub turns : (e : EsExpr) (b : EsStmt) (ρ : Scope) → perform (Turn e b ρ) ≡ perform (Evaluate e ρ) >>= turn e b ρ
unfolding perform
turns e b ρ = refl

-- ---- expressions for their values

pub eval_num : (e : EsExpr) (n : ℤ) (ρ : Scope) → e.kind ≡ kind.Num n → perform (Evaluate e ρ) ≡ gives (Num n)
unfolding eval_node
eval_num e n ρ h = evaluates e (EsKind-F.Num n) ρ (ap out-EsKind h ∙ layer.out_num n)

pub eval_str : (e : EsExpr) (text : Text) (ρ : Scope) → e.kind ≡ kind.Str text → perform (Evaluate e ρ) ≡ gives (Str text)
unfolding eval_node
eval_str e text ρ h = evaluates e (EsKind-F.Str text) ρ (ap out-EsKind h ∙ layer.out_str text)

pub eval_true_ : (e : EsExpr) (ρ : Scope) → e.kind ≡ kind.True → perform (Evaluate e ρ) ≡ gives (Truth true)
unfolding eval_node
eval_true_ e ρ h = evaluates e EsKind-F.True ρ (ap out-EsKind h ∙ layer.out_true_)

pub eval_false_ : (e : EsExpr) (ρ : Scope) → e.kind ≡ kind.False → perform (Evaluate e ρ) ≡ gives (Truth false)
unfolding eval_node
eval_false_ e ρ h = evaluates e EsKind-F.False ρ (ap out-EsKind h ∙ layer.out_false_)

pub eval_null : (e : EsExpr) (ρ : Scope) → e.kind ≡ kind.Null → perform (Evaluate e ρ) ≡ gives Null
unfolding eval_node
eval_null e ρ h = evaluates e EsKind-F.Null ρ (ap out-EsKind h ∙ layer.out_null)

pub eval_this : (e : EsExpr) (ρ : Scope) → e.kind ≡ kind.This → perform (Evaluate e ρ) ≡ gives ρ.this
unfolding eval_node
eval_this e ρ h = evaluates e EsKind-F.This ρ (ap out-EsKind h ∙ layer.out_this)

pub eval_name : (e : EsExpr) (name : Text) (ρ : Scope) → e.kind ≡ kind.Name name → perform (Evaluate e ρ) ≡ read_name ρ.innermost name
unfolding eval_node
eval_name e name ρ h = evaluates e (EsKind-F.Name name) ρ (ap out-EsKind h ∙ layer.out_name name)

pub eval_array : (e : EsExpr) (items : List EsExpr) (ρ : Scope) → e.kind ≡ kind.Array items → perform (Evaluate e ρ) ≡ gather items ρ [] make_array
unfolding eval_node
eval_array e items ρ h = evaluates e (EsKind-F.Array items) ρ (ap out-EsKind h ∙ layer.out_array items)

pub eval_object : (e : EsExpr) (keys : List Text) (values : List EsExpr) (ρ : Scope) → e.kind ≡ kind.Object keys values → perform (Evaluate e ρ) ≡ gather values ρ [] (make_object keys)
unfolding eval_node
eval_object e keys values ρ h = evaluates e (EsKind-F.Object keys values) ρ (ap out-EsKind h ∙ layer.out_object keys values)

pub eval_function : (e : EsExpr) (name : Option Text) (params : List Text) (body : List EsStmt) (ρ : Scope) → e.kind ≡ kind.Function name params body → perform (Evaluate e ρ) ≡ make_function (record { name = name; params = params; body = body }) ρ.innermost
unfolding eval_node
eval_function e name params body ρ h = evaluates e (EsKind-F.Function name params body) ρ (ap out-EsKind h ∙ layer.out_function name params body)

pub eval_member : (e base : EsExpr) (name : Text) (mark : Pos) (ρ : Scope) → e.kind ≡ kind.Member base name mark → perform (Evaluate e ρ) ≡ Ask (Evaluate base ρ) (normally (λ v. access ItsValue v name))
unfolding eval_node
eval_member e base name mark ρ h = evaluates e (EsKind-F.Member base name mark) ρ (ap out-EsKind h ∙ layer.out_member base name mark)

pub eval_index : (e base key : EsExpr) (mark : Pos) (ρ : Scope) → e.kind ≡ kind.Index base key mark → perform (Evaluate e ρ) ≡ Ask (Evaluate base ρ) (normally (λ v. Ask (Evaluate key ρ) (normally (λ w. access_at e.pos ItsValue v w))))
unfolding eval_node
eval_index e base key mark ρ h = evaluates e (EsKind-F.Index base key mark) ρ (ap out-EsKind h ∙ layer.out_index base key mark)

pub eval_call : (e callee : EsExpr) (args : List EsExpr) (ρ : Scope) → e.kind ≡ kind.Call callee args → perform (Evaluate e ρ) ≡ Ask (Refer callee ρ) (referred (call_place e.pos args ρ) (call_with e.pos args ρ Undefined))
unfolding eval_node
eval_call e callee args ρ h = evaluates e (EsKind-F.Call callee args) ρ (ap out-EsKind h ∙ layer.out_call callee args)

pub eval_not_ : (e a : EsExpr) (ρ : Scope) → e.kind ≡ kind.Not a → perform (Evaluate e ρ) ≡ Ask (Evaluate a ρ) (normally (λ v. gives (Truth (not (truthy v)))))
unfolding eval_node
eval_not_ e a ρ h = evaluates e (EsKind-F.Not a) ρ (ap out-EsKind h ∙ layer.out_not_ a)

pub eval_neg : (e a : EsExpr) (ρ : Scope) → e.kind ≡ kind.Neg a → perform (Evaluate e ρ) ≡ Ask (Evaluate a ρ) (normally (λ v. operated e.pos (negated v)))
unfolding eval_node
eval_neg e a ρ h = evaluates e (EsKind-F.Neg a) ρ (ap out-EsKind h ∙ layer.out_neg a)

pub eval_typeof : (e a : EsExpr) (ρ : Scope) → e.kind ≡ kind.Typeof a → perform (Evaluate e ρ) ≡ Ask (Refer a ρ) (referred (type_of_place ρ.innermost) type_of)
unfolding eval_node
eval_typeof e a ρ h = evaluates e (EsKind-F.Typeof a) ρ (ap out-EsKind h ∙ layer.out_typeof a)

pub eval_delete : (e a : EsExpr) (ρ : Scope) → e.kind ≡ kind.Delete a → perform (Evaluate e ρ) ≡ Ask (Refer a ρ) (referred delete_place (λ v. gives (Truth true)))
unfolding eval_node
eval_delete e a ρ h = evaluates e (EsKind-F.Delete a) ρ (ap out-EsKind h ∙ layer.out_delete a)

pub eval_binary : (e : EsExpr) (operator : Operator) (a b : EsExpr) (ρ : Scope) → e.kind ≡ kind.Binary operator a b → perform (Evaluate e ρ) ≡ Ask (Evaluate a ρ) (normally (λ v. Ask (Evaluate b ρ) (normally (λ w. operated e.pos (binary operator v w)))))
unfolding eval_node
eval_binary e operator a b ρ h = evaluates e (EsKind-F.Binary operator a b) ρ (ap out-EsKind h ∙ layer.out_binary operator a b)

pub eval_and : (e a b : EsExpr) (ρ : Scope) → e.kind ≡ kind.And a b → perform (Evaluate e ρ) ≡ Ask (Evaluate a ρ) (normally (λ v. and_then (truthy v) v b ρ))
unfolding eval_node
eval_and e a b ρ h = evaluates e (EsKind-F.And a b) ρ (ap out-EsKind h ∙ layer.out_and a b)

pub eval_or : (e a b : EsExpr) (ρ : Scope) → e.kind ≡ kind.Or a b → perform (Evaluate e ρ) ≡ Ask (Evaluate a ρ) (normally (λ v. or_else (truthy v) v b ρ))
unfolding eval_node
eval_or e a b ρ h = evaluates e (EsKind-F.Or a b) ρ (ap out-EsKind h ∙ layer.out_or a b)

pub eval_cond : (e test a b : EsExpr) (ρ : Scope) → e.kind ≡ kind.Cond test a b → perform (Evaluate e ρ) ≡ Ask (Evaluate test ρ) (normally (λ v. Ask (Evaluate (choose (truthy v) a b) ρ) Done))
unfolding eval_node
eval_cond e test a b ρ h = evaluates e (EsKind-F.Cond test a b) ρ (ap out-EsKind h ∙ layer.out_cond test a b)

pub eval_assign : (e target a : EsExpr) (ρ : Scope) → e.kind ≡ kind.Assign target a → perform (Evaluate e ρ) ≡ Ask (Refer target ρ) (referred (λ place. Ask (Evaluate a ρ) (normally (write_place e.pos ρ.innermost place))) (λ v. type_error (codes "not writable")))
unfolding eval_node
eval_assign e target a ρ h = evaluates e (EsKind-F.Assign target a) ρ (ap out-EsKind h ∙ layer.out_assign target a)

-- ---- expressions for their places

pub refer_name : (e : EsExpr) (name : Text) (ρ : Scope) → e.kind ≡ kind.Name name → perform (Refer e ρ) ≡ Done (Refers (Variable name))
unfolding refer_node
refer_name e name ρ h = refers e (EsKind-F.Name name) ρ (ap out-EsKind h ∙ layer.out_name name)

pub refer_member : (e base : EsExpr) (name : Text) (mark : Pos) (ρ : Scope) → e.kind ≡ kind.Member base name mark → perform (Refer e ρ) ≡ Ask (Evaluate base ρ) (normally (λ v. access ItsPlace v name))
unfolding refer_node
refer_member e base name mark ρ h = refers e (EsKind-F.Member base name mark) ρ (ap out-EsKind h ∙ layer.out_member base name mark)

pub refer_index : (e base key : EsExpr) (mark : Pos) (ρ : Scope) → e.kind ≡ kind.Index base key mark → perform (Refer e ρ) ≡ Ask (Evaluate base ρ) (normally (λ v. Ask (Evaluate key ρ) (normally (λ w. access_at e.pos ItsPlace v w))))
unfolding refer_node
refer_index e base key mark ρ h = refers e (EsKind-F.Index base key mark) ρ (ap out-EsKind h ∙ layer.out_index base key mark)

-- the other forms have none, and give their values

pub refer_num : (e : EsExpr) (n : ℤ) (ρ : Scope) → e.kind ≡ kind.Num n → perform (Refer e ρ) ≡ perform (Evaluate e ρ)
unfolding refer_node
refer_num e n ρ h = let o = ap out-EsKind h ∙ layer.out_num n in refers e (EsKind-F.Num n) ρ o ∙ sym (evaluates e (EsKind-F.Num n) ρ o)

pub refer_str : (e : EsExpr) (text : Text) (ρ : Scope) → e.kind ≡ kind.Str text → perform (Refer e ρ) ≡ perform (Evaluate e ρ)
unfolding refer_node
refer_str e text ρ h = let o = ap out-EsKind h ∙ layer.out_str text in refers e (EsKind-F.Str text) ρ o ∙ sym (evaluates e (EsKind-F.Str text) ρ o)

pub refer_true_ : (e : EsExpr) (ρ : Scope) → e.kind ≡ kind.True → perform (Refer e ρ) ≡ perform (Evaluate e ρ)
unfolding refer_node
refer_true_ e ρ h = let o = ap out-EsKind h ∙ layer.out_true_ in refers e EsKind-F.True ρ o ∙ sym (evaluates e EsKind-F.True ρ o)

pub refer_false_ : (e : EsExpr) (ρ : Scope) → e.kind ≡ kind.False → perform (Refer e ρ) ≡ perform (Evaluate e ρ)
unfolding refer_node
refer_false_ e ρ h = let o = ap out-EsKind h ∙ layer.out_false_ in refers e EsKind-F.False ρ o ∙ sym (evaluates e EsKind-F.False ρ o)

pub refer_null : (e : EsExpr) (ρ : Scope) → e.kind ≡ kind.Null → perform (Refer e ρ) ≡ perform (Evaluate e ρ)
unfolding refer_node
refer_null e ρ h = let o = ap out-EsKind h ∙ layer.out_null in refers e EsKind-F.Null ρ o ∙ sym (evaluates e EsKind-F.Null ρ o)

pub refer_this : (e : EsExpr) (ρ : Scope) → e.kind ≡ kind.This → perform (Refer e ρ) ≡ perform (Evaluate e ρ)
unfolding refer_node
refer_this e ρ h = let o = ap out-EsKind h ∙ layer.out_this in refers e EsKind-F.This ρ o ∙ sym (evaluates e EsKind-F.This ρ o)

pub refer_array : (e : EsExpr) (items : List EsExpr) (ρ : Scope) → e.kind ≡ kind.Array items → perform (Refer e ρ) ≡ perform (Evaluate e ρ)
unfolding refer_node
refer_array e items ρ h = let o = ap out-EsKind h ∙ layer.out_array items in refers e (EsKind-F.Array items) ρ o ∙ sym (evaluates e (EsKind-F.Array items) ρ o)

pub refer_object : (e : EsExpr) (keys : List Text) (values : List EsExpr) (ρ : Scope) → e.kind ≡ kind.Object keys values → perform (Refer e ρ) ≡ perform (Evaluate e ρ)
unfolding refer_node
refer_object e keys values ρ h = let o = ap out-EsKind h ∙ layer.out_object keys values in refers e (EsKind-F.Object keys values) ρ o ∙ sym (evaluates e (EsKind-F.Object keys values) ρ o)

pub refer_function : (e : EsExpr) (name : Option Text) (params : List Text) (body : List EsStmt) (ρ : Scope) → e.kind ≡ kind.Function name params body → perform (Refer e ρ) ≡ perform (Evaluate e ρ)
unfolding refer_node
refer_function e name params body ρ h = let o = ap out-EsKind h ∙ layer.out_function name params body in refers e (EsKind-F.Function name params body) ρ o ∙ sym (evaluates e (EsKind-F.Function name params body) ρ o)

pub refer_call : (e callee : EsExpr) (args : List EsExpr) (ρ : Scope) → e.kind ≡ kind.Call callee args → perform (Refer e ρ) ≡ perform (Evaluate e ρ)
unfolding refer_node
refer_call e callee args ρ h = let o = ap out-EsKind h ∙ layer.out_call callee args in refers e (EsKind-F.Call callee args) ρ o ∙ sym (evaluates e (EsKind-F.Call callee args) ρ o)

pub refer_not_ : (e a : EsExpr) (ρ : Scope) → e.kind ≡ kind.Not a → perform (Refer e ρ) ≡ perform (Evaluate e ρ)
unfolding refer_node
refer_not_ e a ρ h = let o = ap out-EsKind h ∙ layer.out_not_ a in refers e (EsKind-F.Not a) ρ o ∙ sym (evaluates e (EsKind-F.Not a) ρ o)

pub refer_neg : (e a : EsExpr) (ρ : Scope) → e.kind ≡ kind.Neg a → perform (Refer e ρ) ≡ perform (Evaluate e ρ)
unfolding refer_node
refer_neg e a ρ h = let o = ap out-EsKind h ∙ layer.out_neg a in refers e (EsKind-F.Neg a) ρ o ∙ sym (evaluates e (EsKind-F.Neg a) ρ o)

pub refer_typeof : (e a : EsExpr) (ρ : Scope) → e.kind ≡ kind.Typeof a → perform (Refer e ρ) ≡ perform (Evaluate e ρ)
unfolding refer_node
refer_typeof e a ρ h = let o = ap out-EsKind h ∙ layer.out_typeof a in refers e (EsKind-F.Typeof a) ρ o ∙ sym (evaluates e (EsKind-F.Typeof a) ρ o)

pub refer_delete : (e a : EsExpr) (ρ : Scope) → e.kind ≡ kind.Delete a → perform (Refer e ρ) ≡ perform (Evaluate e ρ)
unfolding refer_node
refer_delete e a ρ h = let o = ap out-EsKind h ∙ layer.out_delete a in refers e (EsKind-F.Delete a) ρ o ∙ sym (evaluates e (EsKind-F.Delete a) ρ o)

pub refer_binary : (e : EsExpr) (operator : Operator) (a b : EsExpr) (ρ : Scope) → e.kind ≡ kind.Binary operator a b → perform (Refer e ρ) ≡ perform (Evaluate e ρ)
unfolding refer_node
refer_binary e operator a b ρ h = let o = ap out-EsKind h ∙ layer.out_binary operator a b in refers e (EsKind-F.Binary operator a b) ρ o ∙ sym (evaluates e (EsKind-F.Binary operator a b) ρ o)

pub refer_and : (e a b : EsExpr) (ρ : Scope) → e.kind ≡ kind.And a b → perform (Refer e ρ) ≡ perform (Evaluate e ρ)
unfolding refer_node
refer_and e a b ρ h = let o = ap out-EsKind h ∙ layer.out_and a b in refers e (EsKind-F.And a b) ρ o ∙ sym (evaluates e (EsKind-F.And a b) ρ o)

pub refer_or : (e a b : EsExpr) (ρ : Scope) → e.kind ≡ kind.Or a b → perform (Refer e ρ) ≡ perform (Evaluate e ρ)
unfolding refer_node
refer_or e a b ρ h = let o = ap out-EsKind h ∙ layer.out_or a b in refers e (EsKind-F.Or a b) ρ o ∙ sym (evaluates e (EsKind-F.Or a b) ρ o)

pub refer_cond : (e test a b : EsExpr) (ρ : Scope) → e.kind ≡ kind.Cond test a b → perform (Refer e ρ) ≡ perform (Evaluate e ρ)
unfolding refer_node
refer_cond e test a b ρ h = let o = ap out-EsKind h ∙ layer.out_cond test a b in refers e (EsKind-F.Cond test a b) ρ o ∙ sym (evaluates e (EsKind-F.Cond test a b) ρ o)

pub refer_assign : (e target a : EsExpr) (ρ : Scope) → e.kind ≡ kind.Assign target a → perform (Refer e ρ) ≡ perform (Evaluate e ρ)
unfolding refer_node
refer_assign e target a ρ h = let o = ap out-EsKind h ∙ layer.out_assign target a in refers e (EsKind-F.Assign target a) ρ o ∙ sym (evaluates e (EsKind-F.Assign target a) ρ o)

-- ---- statements

pub exec_var : (name : Text) (value : Option EsExpr) (ρ : Scope) → perform (Execute (stmt.Var name value) ρ) ≡ initialized value name ρ
unfolding exec_node
exec_var name value ρ = executes _ (EsStmt-F.Var name value) ρ (layer.out_var name value)

pub exec_expr : (e : EsExpr) (ρ : Scope) → perform (Execute (stmt.Expr e) ρ) ≡ Ask (Evaluate e ρ) Done
unfolding exec_node
exec_expr e ρ = executes _ (EsStmt-F.Expr e) ρ (layer.out_expr e)

pub exec_block : (body : List EsStmt) (ρ : Scope) → perform (Execute (stmt.Block body) ρ) ≡ all body ρ
unfolding exec_node
exec_block body ρ = executes _ (EsStmt-F.Block body) ρ (layer.out_block body)

pub exec_if_ : (test : EsExpr) (first : EsStmt) (second : Option EsStmt) (ρ : Scope) → perform (Execute (stmt.If test first second) ρ) ≡ Ask (Evaluate test ρ) (normally (λ v. branch (truthy v) first second ρ))
unfolding exec_node
exec_if_ test first second ρ = executes _ (EsStmt-F.If test first second) ρ (layer.out_if_ test first second)

pub exec_while : (test : EsExpr) (body : EsStmt) (ρ : Scope) → perform (Execute (stmt.While test body) ρ) ≡ Ask (Evaluate test ρ) (turn test body ρ)
unfolding exec_node
exec_while test body ρ = executes _ (EsStmt-F.While test body) ρ (layer.out_while test body)

pub exec_return : (value : Option EsExpr) (ρ : Scope) → perform (Execute (stmt.Return value) ρ) ≡ evaluated value ρ (λ v. Done (Return v))
unfolding exec_node
exec_return value ρ = executes _ (EsStmt-F.Return value) ρ (layer.out_return value)

pub exec_break : (ρ : Scope) → perform (Execute stmt.Break ρ) ≡ Done Break
unfolding exec_node
exec_break ρ = executes _ EsStmt-F.Break ρ layer.out_break

pub exec_continue : (ρ : Scope) → perform (Execute stmt.Continue ρ) ≡ Done Continue
unfolding exec_node
exec_continue ρ = executes _ EsStmt-F.Continue ρ layer.out_continue

pub exec_throw : (e : EsExpr) (ρ : Scope) → perform (Execute (stmt.Throw e) ρ) ≡ Ask (Evaluate e ρ) (normally (λ v. Done (Throw v)))
unfolding exec_node
exec_throw e ρ = executes _ (EsStmt-F.Throw e) ρ (layer.out_throw e)

pub exec_try : (body : List EsStmt) (catch : Option Catch) (finally : Option (List EsStmt)) (ρ : Scope) → perform (Execute (stmt.Try body catch finally) ρ) ≡ all body ρ >>= tried catch finally ρ
unfolding exec_node
exec_try body catch finally ρ = executes _ (EsStmt-F.Try body catch finally) ρ (layer.out_try body catch finally)

pub exec_empty : (ρ : Scope) → perform (Execute stmt.Empty ρ) ≡ Done nothing
unfolding exec_node
exec_empty ρ = executes _ EsStmt-F.Empty ρ layer.out_empty

-- the part of a `try` that takes what was thrown
pub catches : (part : Catch-F EsKind EsStmt Catch EsExpr) (ρ : Scope) (v : Val) → caught_by (roll-Catch part) ρ v ≡ Enter (record { variables = (part.name, v) ∷ []; constants = []; outer = Some ρ.innermost }) (λ r. all part.body (record { this = ρ.this; innermost = r }))
catches part ρ v = ap (λ x. Enter (record { variables = (x.name, v) ∷ []; constants = []; outer = Some ρ.innermost }) (λ r. all x.body (record { this = ρ.this; innermost = r }))) (layer.out_catch part)
