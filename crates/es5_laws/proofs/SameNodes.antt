-- A node that begins does the same as one without sites and places.
use Rattle.std.proofs.Common.{Bool, true, false, List, [], ◌∷◌, ◌++◌, map, Option, Some, None, sym, subst}
use Rattle.std.specs.Option.{option_map}
use Rattle.opal_base.specs.declared.place.Pos.{Pos}
use Rattle.es5_tree.specs.declared.tree.Catch.{Catch, out-Catch}
use Rattle.es5_tree.specs.declared.tree.EsExpr.{EsExpr}
use Rattle.es5_tree.specs.declared.tree.EsKind.{EsKind-F}
use Rattle.es5_tree.specs.declared.tree.EsStmt.{EsStmt, EsStmt-F, out-EsStmt}
use Rattle.es5_tree.specs.Values.{Val, Undefined}
use Rattle.es5_tree.specs.Grammar.Spelling.{bare_stmt, no_place}
use Rattle.es5_tree.proofs.Bare.{KindLayer, StmtLayer, placeless, bare_catch, bare_expr, bare_layer, bare_stmt_layer, bare_catch_is, expr_layer, out_bare, out_bare_stmt}
use Rattle.es5_evaluation.specs.Task.{Place, Completion, Normal, Refers, Return, Throw, Break, Continue, Scope, Request, Evaluate, Refer, Execute, Turn, Task, Done, Ask}
use Rattle.es5_evaluation.specs.Values.{truthy, negated, binary}
use Rattle.es5_evaluation.specs.Evaluate.{ItsValue, ItsPlace, again, and_then, at_last, branch, call_place, call_with, caught_by, choose, eval_node, exec_node, gather, instead, layer, or_else, perform, refer_node, this_of, tried, turn, turned}
use Rattle.es5_laws.proofs.SameTasks.{Alike, done, asks, enters, bare_request, alike_then, normally_alike, referred_alike}
use Rattle.es5_laws.proofs.SameSteps.{raise_alike, operated_alike, read_name_alike, write_name_alike, read_place_alike, write_place_alike, access_alike, access_at_alike, make_array_alike, make_object_alike, make_function_alike, type_of_alike, type_of_place_alike, delete_place_alike}
use Rattle.es5_laws.proofs.SameCalls.{all_alike, invoke_alike}

-- ---- expressions

gather_alike : (es : List EsExpr) (ρ : Scope) (vs : List Val) {k l : List Val → Task} → ((ws : List Val) → Alike (k ws) (l ws)) → Alike (gather es ρ vs k) (gather (map bare_expr es) ρ vs l)
unfolding gather
gather_alike [] ρ vs h = h vs
gather_alike (e ∷ es) ρ vs h = asks (Evaluate e ρ) (normally_alike (λ v. gather_alike es ρ (vs ++ v ∷ []) h))

call_with_alike : (p : Pos) (args : List EsExpr) (ρ : Scope) (this f : Val) → Alike (call_with p args ρ this f) (call_with no_place (map bare_expr args) ρ this f)
call_with_alike p args ρ this f = gather_alike args ρ [] (λ vs. invoke_alike p f this vs)

call_place_alike : (p : Pos) (args : List EsExpr) (ρ : Scope) (place : Place) → Alike (call_place p args ρ place) (call_place no_place (map bare_expr args) ρ place)
call_place_alike p args ρ place = alike_then (read_place_alike ρ.innermost place) (normally_alike (call_with_alike p args ρ (this_of place)))

and_then_alike : (b : Bool) (v : Val) (e : EsExpr) (ρ : Scope) → Alike (and_then b v e ρ) (and_then b v (bare_expr e) ρ)
and_then_alike true v e ρ = asks (Evaluate e ρ) done
and_then_alike false v e ρ = done _

or_else_alike : (b : Bool) (v : Val) (e : EsExpr) (ρ : Scope) → Alike (or_else b v e ρ) (or_else b v (bare_expr e) ρ)
or_else_alike true v e ρ = done _
or_else_alike false v e ρ = asks (Evaluate e ρ) done

chosen_alike : (b : Bool) (e f : EsExpr) (ρ : Scope) → Alike (Ask (Evaluate (choose b e f) ρ) Done) (Ask (Evaluate (choose b (bare_expr e) (bare_expr f)) ρ) Done)
chosen_alike true e f ρ = asks (Evaluate e ρ) done
chosen_alike false e f ρ = asks (Evaluate f ρ) done

eval_alike : (l : KindLayer) (p : Pos) (ρ : Scope) → Alike (eval_node l p ρ) (eval_node (placeless (bare_layer l)) no_place ρ)
unfolding eval_node
eval_alike (EsKind-F.Num n) p ρ = done _
eval_alike (EsKind-F.Str text) p ρ = done _
eval_alike EsKind-F.True p ρ = done _
eval_alike EsKind-F.False p ρ = done _
eval_alike EsKind-F.Null p ρ = done _
eval_alike EsKind-F.This p ρ = done _
eval_alike (EsKind-F.Name name) p ρ = read_name_alike ρ.innermost name
eval_alike (EsKind-F.Array items) p ρ = gather_alike items ρ [] make_array_alike
eval_alike (EsKind-F.Object keys values) p ρ = gather_alike values ρ [] (make_object_alike keys)
eval_alike (EsKind-F.Function name params body) p ρ = make_function_alike (record { name = name; params = params; body = body }) ρ.innermost
eval_alike (EsKind-F.Member base name mark) p ρ = asks (Evaluate base ρ) (normally_alike (λ v. access_alike ItsValue v name))
eval_alike (EsKind-F.Index base key mark) p ρ = asks (Evaluate base ρ) (normally_alike (λ v. asks (Evaluate key ρ) (normally_alike (λ w. access_at_alike p ItsValue v w))))
eval_alike (EsKind-F.Call callee args) p ρ = asks (Refer callee ρ) (referred_alike (call_place_alike p args ρ) (call_with_alike p args ρ Undefined))
eval_alike (EsKind-F.Not e) p ρ = asks (Evaluate e ρ) (normally_alike (λ v. done _))
eval_alike (EsKind-F.Neg e) p ρ = asks (Evaluate e ρ) (normally_alike (λ v. operated_alike p (negated v)))
eval_alike (EsKind-F.Typeof e) p ρ = asks (Refer e ρ) (referred_alike (type_of_place_alike ρ.innermost) type_of_alike)
eval_alike (EsKind-F.Delete e) p ρ = asks (Refer e ρ) (referred_alike delete_place_alike (λ v. done _))
eval_alike (EsKind-F.Binary operator a b) p ρ = asks (Evaluate a ρ) (normally_alike (λ v. asks (Evaluate b ρ) (normally_alike (λ w. operated_alike p (binary operator v w)))))
eval_alike (EsKind-F.And a b) p ρ = asks (Evaluate a ρ) (normally_alike (λ v. and_then_alike (truthy v) v b ρ))
eval_alike (EsKind-F.Or a b) p ρ = asks (Evaluate a ρ) (normally_alike (λ v. or_else_alike (truthy v) v b ρ))
eval_alike (EsKind-F.Cond test a b) p ρ = asks (Evaluate test ρ) (normally_alike (λ v. chosen_alike (truthy v) a b ρ))
eval_alike (EsKind-F.Assign target e) p ρ = asks (Refer target ρ) (referred_alike (λ place. asks (Evaluate e ρ) (normally_alike (write_place_alike p ρ.innermost place))) (λ v. raise_alike _ _))

refer_alike : (l : KindLayer) (p : Pos) (ρ : Scope) → Alike (refer_node l p ρ) (refer_node (placeless (bare_layer l)) no_place ρ)
unfolding refer_node
refer_alike (EsKind-F.Name name) p ρ = done _
refer_alike (EsKind-F.Member base name mark) p ρ = asks (Evaluate base ρ) (normally_alike (λ v. access_alike ItsPlace v name))
refer_alike (EsKind-F.Index base key mark) p ρ = asks (Evaluate base ρ) (normally_alike (λ v. asks (Evaluate key ρ) (normally_alike (λ w. access_at_alike p ItsPlace v w))))
refer_alike form p ρ = eval_alike form p ρ

-- what is done with the form and the place of an expression
expr_alike : (f : KindLayer → Pos → Scope → Task) → ((l : KindLayer) (p : Pos) (ρ : Scope) → Alike (f l p ρ) (f (placeless (bare_layer l)) no_place ρ)) → (e : EsExpr) (ρ : Scope) → Alike (f (layer e) e.pos ρ) (f (layer (bare_expr e)) (bare_expr e).pos ρ)
expr_alike f h e ρ =
    subst (λ x. Alike (f (layer e) e.pos ρ) (f (layer x) x.pos ρ)) (sym (expr_layer e))
    (subst (λ l. Alike (f (layer e) e.pos ρ) (f l no_place ρ)) (sym (out_bare e.kind)) (h (layer e) e.pos ρ))

-- ---- statements

branch_alike : (b : Bool) (first : EsStmt) (second : Option EsStmt) (ρ : Scope) → Alike (branch b first second ρ) (branch b (bare_stmt first) (option_map bare_stmt second) ρ)
branch_alike true first second ρ = asks (Execute first ρ) done
branch_alike false first None ρ = done _
branch_alike false first (Some second) ρ = asks (Execute second ρ) done

again_alike : (e : EsExpr) (b : EsStmt) (ρ : Scope) (c : Completion) → Alike (again e b ρ c) (again (bare_expr e) (bare_stmt b) ρ c)
again_alike e b ρ (Normal v) = asks (Turn e b ρ) done
again_alike e b ρ (Refers p) = done _
again_alike e b ρ (Return v) = done _
again_alike e b ρ (Throw v) = done _
again_alike e b ρ Break = done _
again_alike e b ρ Continue = asks (Turn e b ρ) done

turned_alike : (t : Bool) (e : EsExpr) (b : EsStmt) (ρ : Scope) → Alike (turned t e b ρ) (turned t (bare_expr e) (bare_stmt b) ρ)
turned_alike true e b ρ = asks (Execute b ρ) (again_alike e b ρ)
turned_alike false e b ρ = done _

turn_alike : (e : EsExpr) (b : EsStmt) (ρ : Scope) (c : Completion) → Alike (turn e b ρ c) (turn (bare_expr e) (bare_stmt b) ρ c)
turn_alike e b ρ = normally_alike (λ v. turned_alike (truthy v) e b ρ)

caught_alike : (c : Catch) (ρ : Scope) (v : Val) → Alike (caught_by c ρ v) (caught_by (bare_catch c) ρ v)
caught_alike c ρ v = subst (λ x. Alike (caught_by c ρ v) (caught_by x ρ v)) (sym (bare_catch_is c)) (enters _ (λ r. all_alike (out-Catch c).body _))

instead_alike : (c d : Completion) → Alike (instead c d) (instead c d)
instead_alike c (Normal v) = done _
instead_alike c (Refers p) = done _
instead_alike c (Return v) = done _
instead_alike c (Throw v) = done _
instead_alike c Break = done _
instead_alike c Continue = done _

at_last_alike : (finally : Option (List EsStmt)) (ρ : Scope) (c : Completion) → Alike (at_last finally ρ c) (at_last (option_map (map bare_stmt) finally) ρ c)
at_last_alike None ρ c = done c
at_last_alike (Some body) ρ c = alike_then (all_alike body ρ) (instead_alike c)

tried_alike : (catch : Option Catch) (finally : Option (List EsStmt)) (ρ : Scope) (c : Completion) → Alike (tried catch finally ρ c) (tried (option_map bare_catch catch) (option_map (map bare_stmt) finally) ρ c)
tried_alike None finally ρ c = at_last_alike finally ρ c
tried_alike (Some part) finally ρ (Throw v) = alike_then (caught_alike part ρ v) (at_last_alike finally ρ)
tried_alike (Some part) finally ρ (Normal v) = at_last_alike finally ρ (Normal v)
tried_alike (Some part) finally ρ (Refers p) = at_last_alike finally ρ (Refers p)
tried_alike (Some part) finally ρ (Return v) = at_last_alike finally ρ (Return v)
tried_alike (Some part) finally ρ Break = at_last_alike finally ρ Break
tried_alike (Some part) finally ρ Continue = at_last_alike finally ρ Continue

exec_alike : (l : StmtLayer) (ρ : Scope) → Alike (exec_node l ρ) (exec_node (bare_stmt_layer l) ρ)
unfolding exec_node
exec_alike (EsStmt-F.Var name None) ρ = done _
exec_alike (EsStmt-F.Var name (Some e)) ρ = asks (Evaluate e ρ) (normally_alike (write_name_alike ρ.innermost name))
exec_alike (EsStmt-F.Expr e) ρ = asks (Evaluate e ρ) done
exec_alike (EsStmt-F.Block body) ρ = all_alike body ρ
exec_alike (EsStmt-F.If test first None) ρ = asks (Evaluate test ρ) (normally_alike (λ v. branch_alike (truthy v) first None ρ))
exec_alike (EsStmt-F.If test first (Some second)) ρ = asks (Evaluate test ρ) (normally_alike (λ v. branch_alike (truthy v) first (Some second) ρ))
exec_alike (EsStmt-F.While test body) ρ = asks (Evaluate test ρ) (turn_alike test body ρ)
exec_alike (EsStmt-F.Return None) ρ = done _
exec_alike (EsStmt-F.Return (Some e)) ρ = asks (Evaluate e ρ) (normally_alike (λ v. done (Return v)))
exec_alike EsStmt-F.Break ρ = done _
exec_alike EsStmt-F.Continue ρ = done _
exec_alike (EsStmt-F.Throw e) ρ = asks (Evaluate e ρ) (normally_alike (λ v. done (Throw v)))
exec_alike (EsStmt-F.Try body None None) ρ = alike_then (all_alike body ρ) (tried_alike None None ρ)
exec_alike (EsStmt-F.Try body None (Some last)) ρ = alike_then (all_alike body ρ) (tried_alike None (Some last) ρ)
exec_alike (EsStmt-F.Try body (Some part) None) ρ = alike_then (all_alike body ρ) (tried_alike (Some part) None ρ)
exec_alike (EsStmt-F.Try body (Some part) (Some last)) ρ = alike_then (all_alike body ρ) (tried_alike (Some part) (Some last) ρ)
exec_alike EsStmt-F.Empty ρ = done _

-- ---- a node that begins

pub perform_alike : (q : Request) → Alike (perform q) (perform (bare_request q))
unfolding perform
perform_alike (Evaluate e ρ) = expr_alike eval_node eval_alike e ρ
perform_alike (Refer e ρ) = expr_alike refer_node refer_alike e ρ
perform_alike (Execute t ρ) = subst (λ l. Alike (exec_node (out-EsStmt t) ρ) (exec_node l ρ)) (sym (out_bare_stmt t)) (exec_alike (out-EsStmt t) ρ)
perform_alike (Turn e b ρ) = alike_then (expr_alike eval_node eval_alike e ρ) (turn_alike e b ρ)
