-- How deep the statements and expressions are that the productions make.
use Rattle.std.proofs.Common.{◌≡◌, ℕ, ℤ, zero, suc, ◌-◌, ◌≤◌, max, List, [], ◌∷◌, map, Option, Some, None, refl, sym, ap, ◌∙◌, ap₂, arith}
use Rattle.std.specs.Option.{option_map}
use Rattle.opal_base.specs.declared.place.Pos.{Pos}
use Rattle.grammar.specs.Forms.{deepest}
use Rattle.grammar.specs.Rules.{deep_if}
use Rattle.es5_tree.specs.declared.token.EsMark.{EsMark}
use Rattle.es5_tree.specs.declared.token.EsToken.{EsToken}
use Rattle.es5_tree.specs.declared.token.EsTokenKind.{EsTokenKind}
use Rattle.es5_tree.specs.declared.token.EsTokenKind.TheVariants as token
use Rattle.es5_tree.specs.declared.tree.Catch.{Catch, Catch-F, roll-Catch, fold-roll-Catch}
use Rattle.es5_tree.specs.declared.tree.EsExpr.{EsExpr, fold-roll-EsExpr}
use Rattle.es5_tree.specs.declared.tree.EsKind.{EsKind, EsKind-F, roll-EsKind, map-EsKind, fold-roll-EsKind}
use Rattle.es5_tree.specs.declared.tree.EsKind.TheVariants as kind
use Rattle.es5_tree.specs.declared.tree.EsStmt.{EsStmt, EsStmt-F, out-EsStmt, roll-EsStmt, roll-out-EsStmt, map-EsStmt, fold-roll-EsStmt}
use Rattle.es5_tree.specs.declared.tree.EsStmt.TheVariants as stmt
use Rattle.es5_tree.specs.declared.tree.Operator.{Operator}
use Rattle.es5_tree.specs.Depth.{highest, of_kind, of_stmt, of_catch, expr_depth, kind_depth, stmt_depth, catch_depth}
use Rattle.es5_tree.specs.Grammar.Nodes.{Node, statement, expression, depth, place, expr_at, nots, blocks, expr_of, stmt_of, exprs, stmts, expr_if, name_of, names_of, word_kind, token_kind, object, function, access, unary_kind, caught, tried, branched}
use Rattle.es5_tree.specs.Grammar.Terminals.{terminal_of_word}
use Rattle.es5_tree.specs.declared.terminal.Keyword.TheVariants as keyword
use Rattle.es5_tree.specs.declared.terminal.Terminal.{Terminal}
use Rattle.es5_tree.specs.declared.terminal.Terminal.TheVariants as terminal
use Rattle.es5_tree.specs.declared.token.EsMark.TheVariants as mark

expr_layer : (k : EsKind) (origin : Option ℕ) (p : Pos) → expr_depth (record { kind = k; origin = origin; pos = p }) ≡ suc (kind_depth k)
unfolding expr_depth kind_depth
expr_layer k origin p = fold-roll-EsExpr ℕ ℕ ℕ ℕ of_kind of_stmt of_catch (λ e. suc e.kind) (record { kind = k; origin = origin; pos = p })

at_depth : (p : Pos) (k : EsKind) → expr_depth (expr_at p k) ≡ suc (kind_depth k)
at_depth p k = expr_layer k None p

kind_layer : (l : EsKind-F EsKind EsStmt Catch EsExpr) → kind_depth (roll-EsKind l) ≡ of_kind (map-EsKind EsKind EsStmt Catch EsExpr ℕ ℕ ℕ ℕ kind_depth stmt_depth catch_depth expr_depth l)
unfolding expr_depth kind_depth stmt_depth catch_depth
kind_layer l = fold-roll-EsKind ℕ ℕ ℕ ℕ of_kind of_stmt of_catch (λ e. suc e.kind) l

stmt_layer : (l : EsStmt-F EsKind EsStmt Catch EsExpr) → stmt_depth (roll-EsStmt l) ≡ of_stmt (map-EsStmt EsKind EsStmt Catch EsExpr ℕ ℕ ℕ ℕ kind_depth stmt_depth catch_depth expr_depth l)
unfolding expr_depth kind_depth stmt_depth catch_depth
stmt_layer l = fold-roll-EsStmt ℕ ℕ ℕ ℕ of_kind of_stmt of_catch (λ e. suc e.kind) l

catch_layer : (l : Catch-F EsKind EsStmt Catch EsExpr) → catch_depth (roll-Catch l) ≡ highest (map stmt_depth l.body)
unfolding expr_depth kind_depth stmt_depth catch_depth
catch_layer l = fold-roll-Catch ℕ ℕ ℕ ℕ of_kind of_stmt of_catch (λ e. suc e.kind) l

pub highest_of_all : {A : Type 0} (d : A → ℕ) (xs : List A) → highest (map d xs) ≡ deepest d xs
highest_of_all d [] = refl
highest_of_all d (x ∷ xs) = ap (max (d x)) (highest_of_all d xs)

pub some_expr_level : (e : EsExpr) → 1 ≤ expr_depth e
some_expr_level e = omega (arith, expr_layer e.kind e.origin e.pos)

pub some_stmt_level : (s : EsStmt) → 1 ≤ stmt_depth s
some_stmt_level s = omega (arith, ap stmt_depth (sym (roll-out-EsStmt s)), stmt_layer (out-EsStmt s))

-- ---- expressions

pub num_depth : (value : ℤ) (p : Pos) → expr_depth (expr_at p (kind.Num value)) ≡ 1
num_depth value p = omega (arith, at_depth p (kind.Num value), ap kind_depth (sym (kind.rolls-Num value)), kind_layer (EsKind-F.Num value))

pub str_depth : (text : List ℕ) (p : Pos) → expr_depth (expr_at p (kind.Str text)) ≡ 1
str_depth text p = omega (arith, at_depth p (kind.Str text), ap kind_depth (sym (kind.rolls-Str text)), kind_layer (EsKind-F.Str text))

pub true_depth : (p : Pos) → expr_depth (expr_at p kind.True) ≡ 1
true_depth p = omega (arith, at_depth p kind.True, ap kind_depth (sym kind.rolls-True), kind_layer EsKind-F.True)

pub false_depth : (p : Pos) → expr_depth (expr_at p kind.False) ≡ 1
false_depth p = omega (arith, at_depth p kind.False, ap kind_depth (sym kind.rolls-False), kind_layer EsKind-F.False)

pub null_depth : (p : Pos) → expr_depth (expr_at p kind.Null) ≡ 1
null_depth p = omega (arith, at_depth p kind.Null, ap kind_depth (sym kind.rolls-Null), kind_layer EsKind-F.Null)

pub this_depth : (p : Pos) → expr_depth (expr_at p kind.This) ≡ 1
this_depth p = omega (arith, at_depth p kind.This, ap kind_depth (sym kind.rolls-This), kind_layer EsKind-F.This)

pub name_depth : (name : List ℕ) (p : Pos) → expr_depth (expr_at p (kind.Name name)) ≡ 1
name_depth name p = omega (arith, at_depth p (kind.Name name), ap kind_depth (sym (kind.rolls-Name name)), kind_layer (EsKind-F.Name name))

pub array_depth : (items : List EsExpr) (p : Pos) → expr_depth (expr_at p (kind.Array items)) ≡ suc (deepest expr_depth items)
array_depth items p = omega (arith, at_depth p (kind.Array items), ap kind_depth (sym (kind.rolls-Array items)), kind_layer (EsKind-F.Array items), highest_of_all expr_depth items)

pub object_depth : (keys : List (List ℕ)) (values : List EsExpr) (p : Pos) → expr_depth (expr_at p (kind.Object keys values)) ≡ suc (deepest expr_depth values)
object_depth keys values p = omega (arith, at_depth p (kind.Object keys values), ap kind_depth (sym (kind.rolls-Object keys values)), kind_layer (EsKind-F.Object keys values), highest_of_all expr_depth values)

pub function_depth : (name : Option (List ℕ)) (params : List (List ℕ)) (body : List EsStmt) (p : Pos) → expr_depth (expr_at p (kind.Function name params body)) ≡ suc (deepest stmt_depth body)
function_depth name params body p = omega (arith, at_depth p (kind.Function name params body), ap kind_depth (sym (kind.rolls-Function name params body)), kind_layer (EsKind-F.Function name params body), highest_of_all stmt_depth body)

pub member_depth : (base : EsExpr) (name : List ℕ) (at : Pos) (p : Pos) → expr_depth (expr_at p (kind.Member base name at)) ≡ suc (expr_depth base)
member_depth base name at p = omega (arith, at_depth p (kind.Member base name at), ap kind_depth (sym (kind.rolls-Member base name at)), kind_layer (EsKind-F.Member base name at))

pub index_depth : (base : EsExpr) (key : EsExpr) (at : Pos) (p : Pos) → expr_depth (expr_at p (kind.Index base key at)) ≡ suc (max (expr_depth base) (expr_depth key))
index_depth base key at p = omega (arith, at_depth p (kind.Index base key at), ap kind_depth (sym (kind.rolls-Index base key at)), kind_layer (EsKind-F.Index base key at))

pub call_depth : (callee : EsExpr) (args : List EsExpr) (p : Pos) → expr_depth (expr_at p (kind.Call callee args)) ≡ suc (max (expr_depth callee) (deepest expr_depth args))
call_depth callee args p = omega (arith, at_depth p (kind.Call callee args), ap kind_depth (sym (kind.rolls-Call callee args)), kind_layer (EsKind-F.Call callee args), highest_of_all expr_depth args)

pub not_depth : (value : EsExpr) (p : Pos) → expr_depth (expr_at p (kind.Not value)) ≡ suc (expr_depth value)
not_depth value p = omega (arith, at_depth p (kind.Not value), ap kind_depth (sym (kind.rolls-Not value)), kind_layer (EsKind-F.Not value))

pub neg_depth : (value : EsExpr) (p : Pos) → expr_depth (expr_at p (kind.Neg value)) ≡ suc (expr_depth value)
neg_depth value p = omega (arith, at_depth p (kind.Neg value), ap kind_depth (sym (kind.rolls-Neg value)), kind_layer (EsKind-F.Neg value))

pub typeof_depth : (value : EsExpr) (p : Pos) → expr_depth (expr_at p (kind.Typeof value)) ≡ suc (expr_depth value)
typeof_depth value p = omega (arith, at_depth p (kind.Typeof value), ap kind_depth (sym (kind.rolls-Typeof value)), kind_layer (EsKind-F.Typeof value))

pub delete_depth : (value : EsExpr) (p : Pos) → expr_depth (expr_at p (kind.Delete value)) ≡ suc (expr_depth value)
delete_depth value p = omega (arith, at_depth p (kind.Delete value), ap kind_depth (sym (kind.rolls-Delete value)), kind_layer (EsKind-F.Delete value))

pub binary_depth : (operator : Operator) (left right : EsExpr) (p : Pos) → expr_depth (expr_at p (kind.Binary operator left right)) ≡ suc (max (expr_depth left) (expr_depth right))
binary_depth operator left right p = omega (arith, at_depth p (kind.Binary operator left right), ap kind_depth (sym (kind.rolls-Binary operator left right)), kind_layer (EsKind-F.Binary operator left right))

pub and_depth : (left right : EsExpr) (p : Pos) → expr_depth (expr_at p (kind.And left right)) ≡ suc (max (expr_depth left) (expr_depth right))
and_depth left right p = omega (arith, at_depth p (kind.And left right), ap kind_depth (sym (kind.rolls-And left right)), kind_layer (EsKind-F.And left right))

pub or_depth : (left right : EsExpr) (p : Pos) → expr_depth (expr_at p (kind.Or left right)) ≡ suc (max (expr_depth left) (expr_depth right))
or_depth left right p = omega (arith, at_depth p (kind.Or left right), ap kind_depth (sym (kind.rolls-Or left right)), kind_layer (EsKind-F.Or left right))

pub cond_depth : (test first second : EsExpr) (p : Pos) → expr_depth (expr_at p (kind.Cond test first second)) ≡ suc (max (expr_depth test) (max (expr_depth first) (expr_depth second)))
cond_depth test first second p = omega (arith, at_depth p (kind.Cond test first second), ap kind_depth (sym (kind.rolls-Cond test first second)), kind_layer (EsKind-F.Cond test first second))

pub assign_depth : (target value : EsExpr) (p : Pos) → expr_depth (expr_at p (kind.Assign target value)) ≡ suc (max (expr_depth target) (expr_depth value))
assign_depth target value p = omega (arith, at_depth p (kind.Assign target value), ap kind_depth (sym (kind.rolls-Assign target value)), kind_layer (EsKind-F.Assign target value))

-- ---- statements

pub expr_statement_depth : (value : EsExpr) → stmt_depth (stmt.Expr value) ≡ suc (expr_depth value)
expr_statement_depth value = omega (arith, ap stmt_depth (sym (stmt.rolls-Expr value)), stmt_layer (EsStmt-F.Expr value))

pub block_statement_depth : (body : List EsStmt) → stmt_depth (stmt.Block body) ≡ suc (deepest stmt_depth body)
block_statement_depth body = omega (arith, ap stmt_depth (sym (stmt.rolls-Block body)), stmt_layer (EsStmt-F.Block body), highest_of_all stmt_depth body)

pub while_statement_depth : (test : EsExpr) (body : EsStmt) → stmt_depth (stmt.While test body) ≡ suc (max (expr_depth test) (stmt_depth body))
while_statement_depth test body = omega (arith, ap stmt_depth (sym (stmt.rolls-While test body)), stmt_layer (EsStmt-F.While test body))

pub break_statement_depth : stmt_depth stmt.Break ≡ 1
break_statement_depth = omega (arith, ap stmt_depth (sym stmt.rolls-Break), stmt_layer EsStmt-F.Break)

pub continue_statement_depth : stmt_depth stmt.Continue ≡ 1
continue_statement_depth = omega (arith, ap stmt_depth (sym stmt.rolls-Continue), stmt_layer EsStmt-F.Continue)

pub throw_statement_depth : (value : EsExpr) → stmt_depth (stmt.Throw value) ≡ suc (expr_depth value)
throw_statement_depth value = omega (arith, ap stmt_depth (sym (stmt.rolls-Throw value)), stmt_layer (EsStmt-F.Throw value))

pub empty_statement_depth : stmt_depth stmt.Empty ≡ 1
empty_statement_depth = omega (arith, ap stmt_depth (sym stmt.rolls-Empty), stmt_layer EsStmt-F.Empty)

pub var_statement_depth : (name : List ℕ) (value : Option EsExpr) → stmt_depth (stmt.Var name value) ≡ suc (deep_if expr_depth value)
var_statement_depth name None = omega (arith, ap stmt_depth (sym (stmt.rolls-Var name None)), stmt_layer (EsStmt-F.Var name None))
var_statement_depth name (Some value) = omega (arith, ap stmt_depth (sym (stmt.rolls-Var name (Some value))), stmt_layer (EsStmt-F.Var name (Some value)))

pub return_statement_depth : (value : Option EsExpr) → stmt_depth (stmt.Return value) ≡ suc (deep_if expr_depth value)
return_statement_depth None = omega (arith, ap stmt_depth (sym (stmt.rolls-Return None)), stmt_layer (EsStmt-F.Return None))
return_statement_depth (Some value) = omega (arith, ap stmt_depth (sym (stmt.rolls-Return (Some value))), stmt_layer (EsStmt-F.Return (Some value)))

pub if_statement_depth : (test : EsExpr) (first : EsStmt) (second : Option EsStmt) → stmt_depth (stmt.If test first second) ≡ suc (max (max (expr_depth test) (stmt_depth first)) (deep_if stmt_depth second))
if_statement_depth test first None = omega (arith, ap stmt_depth (sym (stmt.rolls-If test first None)), stmt_layer (EsStmt-F.If test first None))
if_statement_depth test first (Some second) = omega (arith, ap stmt_depth (sym (stmt.rolls-If test first (Some second))), stmt_layer (EsStmt-F.If test first (Some second)))

-- what was thrown and the last part
pub catch_depth_of : (name : List ℕ) (body : List EsStmt) → catch_depth (roll-Catch (record { name = name; body = body })) ≡ deepest stmt_depth body
catch_depth_of name body = catch_layer (record { name = name; body = body }) ∙ highest_of_all stmt_depth body

pub try_statement_depth : (body : List EsStmt) (catch : Option Catch) (finally : Option (List EsStmt)) → stmt_depth (stmt.Try body catch finally) ≡ suc (max (deepest stmt_depth body) (max (deep_if catch_depth catch) (deep_if (deepest stmt_depth) finally)))
try_statement_depth body None None = omega (arith, ap stmt_depth (sym (stmt.rolls-Try body None None)), stmt_layer (EsStmt-F.Try body None None), highest_of_all stmt_depth body)
try_statement_depth body None (Some last) = omega (arith, ap stmt_depth (sym (stmt.rolls-Try body None (Some last))), stmt_layer (EsStmt-F.Try body None (Some last)), highest_of_all stmt_depth body, highest_of_all stmt_depth last)
try_statement_depth body (Some catch) None = omega (arith, ap stmt_depth (sym (stmt.rolls-Try body (Some catch) None)), stmt_layer (EsStmt-F.Try body (Some catch) None), highest_of_all stmt_depth body)
try_statement_depth body (Some catch) (Some last) = omega (arith, ap stmt_depth (sym (stmt.rolls-Try body (Some catch) (Some last))), stmt_layer (EsStmt-F.Try body (Some catch) (Some last)), highest_of_all stmt_depth body, highest_of_all stmt_depth last)

-- ---- nodes

nots_depth : (n : ℕ) → expr_depth (nots n) ≡ suc n
nots_depth zero = this_depth (record { line = 0; col = 0 })
nots_depth (suc n) = omega (arith, nots_depth n, not_depth (nots n) (record { line = 0; col = 0 }))

blocks_depth : (n : ℕ) → stmt_depth (blocks n) ≡ suc n
blocks_depth zero = empty_statement_depth
blocks_depth (suc n) = omega (arith, blocks_depth n, block_statement_depth (blocks n ∷ []))

pub expr_of_depth : (n : Node) → expr_depth (expr_of n) ≡ depth n
unfolding expr_of
expr_of_depth (expression e) = refl
expr_of_depth (statement s) = omega (arith, nots_depth (stmt_depth s - 1), some_stmt_level s)

pub stmt_of_depth : (n : Node) → stmt_depth (stmt_of n) ≡ depth n
unfolding stmt_of
stmt_of_depth (statement s) = refl
stmt_of_depth (expression e) = omega (arith, blocks_depth (expr_depth e - 1), some_expr_level e)

pub exprs_depth : (ns : List Node) → deepest expr_depth (exprs ns) ≡ deepest depth ns
exprs_depth [] = refl
exprs_depth (n ∷ ns) = ap₂ max (expr_of_depth n) (exprs_depth ns)

pub stmts_depth : (ns : List Node) → deepest stmt_depth (stmts ns) ≡ deepest depth ns
stmts_depth [] = refl
stmts_depth (n ∷ ns) = ap₂ max (stmt_of_depth n) (stmts_depth ns)

pub expr_if_depth : (o : Option Node) → deep_if expr_depth (expr_if o) ≡ deep_if depth o
expr_if_depth None = refl
expr_if_depth (Some n) = expr_of_depth n

-- ---- what the productions make

pub token_depth : (k : EsTokenKind) (p : Pos) → expr_depth (expr_at p (token_kind k)) ≡ 1
unfolding token_kind
token_depth (token.Word name) p = by (terminal_of_word name)
  where
    by : (t : Terminal) → expr_depth (expr_at p (word_kind t name)) ≡ 1
    by (terminal.Keyword keyword.This) = this_depth p
    by (terminal.Keyword keyword.Null) = null_depth p
    by (terminal.Keyword keyword.True) = true_depth p
    by (terminal.Keyword keyword.False) = false_depth p
    by _ = name_depth name p
token_depth (token.Num value) p = num_depth value p
token_depth (token.Str text) p = str_depth text p
token_depth (token.Mark m) p = null_depth p
token_depth token.End p = null_depth p

values_depth : (pairs : List (EsToken × Node)) → deepest expr_depth (map (λ p. expr_of p.1) pairs) ≡ deepest (λ p. max 0 (depth p.1)) pairs
values_depth [] = refl
values_depth (p ∷ ps) = omega (arith, expr_of_depth p.1, values_depth ps)

pub object_pairs_depth : (pairs : List (EsToken × Node)) (p : Pos) → expr_depth (expr_at p (object pairs)) ≡ suc (deepest (λ p. max 0 (depth p.1)) pairs)
object_pairs_depth pairs p = omega (arith, object_depth (map (λ p. name_of p.0) pairs) (map (λ p. expr_of p.1) pairs) p, values_depth pairs)

pub function_of_depth : (name : Option EsToken) (params : List EsToken) (body : List Node) (p : Pos) → expr_depth (expr_at p (function name params body)) ≡ suc (deepest depth body)
function_of_depth name params body p = omega (arith, function_depth (option_map name_of name) (names_of params) (stmts body) p, stmts_depth body)

pub access_depth : (e : EsExpr) (t : EsToken) (args : List EsExpr) (n : ℕ) (p : Pos) → expr_depth (expr_at p (access e t args n)) ≡ suc (max (expr_depth e) (deepest expr_depth args))
unfolding access
access_depth e t [] zero p = omega (arith, member_depth e (name_of t) (place t) p)
access_depth e t [] (suc n) p = call_depth e [] p
access_depth e t (key ∷ []) zero p = call_depth e (key ∷ []) p
access_depth e t (key ∷ []) (suc zero) p = omega (arith, index_depth e key key.pos p)
access_depth e t (key ∷ []) (suc (suc n)) p = call_depth e (key ∷ []) p
access_depth e t (key ∷ other ∷ args) zero p = call_depth e (key ∷ other ∷ args) p
access_depth e t (key ∷ other ∷ args) (suc zero) p = call_depth e (key ∷ other ∷ args) p
access_depth e t (key ∷ other ∷ args) (suc (suc n)) p = call_depth e (key ∷ other ∷ args) p

pub unary_depth : (k : EsTokenKind) (e : EsExpr) (p : Pos) → expr_depth (expr_at p (unary_kind k e)) ≡ suc (expr_depth e)
unary_depth (token.Mark m) e p = by m
  where
    by : (m : EsMark) → expr_depth (expr_at p (unary_kind (token.Mark m) e)) ≡ suc (expr_depth e)
    by mark.Not = not_depth e p
    by mark.Minus = neg_depth e p
    by _ = typeof_depth e p
unary_depth (token.Word name) e p = typeof_depth e p
unary_depth (token.Num value) e p = typeof_depth e p
unary_depth (token.Str text) e p = typeof_depth e p
unary_depth token.End e p = typeof_depth e p

caught_depth : (o : Option (EsToken × List Node)) → deep_if catch_depth (option_map caught o) ≡ deep_if (λ x. max 0 (deepest depth x.1)) o
caught_depth None = refl
caught_depth (Some x) = omega (arith, catch_depth_of (name_of x.0) (stmts x.1), stmts_depth x.1)

finally_depth : (o : Option (List Node)) → deep_if (deepest stmt_depth) (option_map stmts o) ≡ deep_if (deepest depth) o
finally_depth None = refl
finally_depth (Some xs) = stmts_depth xs

pub tried_depth : (body : List Node) (o : Option (EsToken × List Node)) (last : Option (List Node))
    → stmt_depth (tried (body, (o, last))) ≡ suc (max (deepest depth body) (max (deep_if (λ x. max 0 (deepest depth x.1)) o) (deep_if (deepest depth) last)))
tried_depth body o last = omega (arith, try_statement_depth (stmts body) (option_map caught o) (option_map stmts last), stmts_depth body, caught_depth o, finally_depth last)

pub branched_depth : (x : (Node × (Node × ℕ)) × Option (Node × ℕ)) → depth (branched x).0 ≡ suc (max (max (depth (x.0.0)) (depth (x.0.1.0))) (deep_if (λ y. depth y.0) x.1))
branched_depth (x, None) = omega (arith, if_statement_depth (expr_of x.0) (stmt_of (x.1.0)) None, expr_of_depth x.0, stmt_of_depth (x.1.0))
branched_depth (x, Some y) = omega (arith, if_statement_depth (expr_of x.0) (stmt_of (x.1.0)) (Some (stmt_of y.0)), expr_of_depth x.0, stmt_of_depth (x.1.0), stmt_of_depth y.0)
