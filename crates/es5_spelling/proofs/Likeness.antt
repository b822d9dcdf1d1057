-- Which trees are the same as one of a form, but for sites and places: those of the same form with the same parts.
use Rattle.std.proofs.Common.{◌≡◌, ℕ, ℤ, List, map, Option, Some, None, refl, sym, ap, ◌∙◌}
use Rattle.opal_base.specs.declared.place.Pos.{Pos}
use Rattle.es5_tree.specs.declared.tree.Catch.{Catch}
use Rattle.es5_tree.specs.declared.tree.EsExpr.{EsExpr}
use Rattle.es5_tree.specs.declared.tree.EsKind.{EsKind, EsKind-F, out-EsKind, roll-EsKind, roll-out-EsKind}
use Rattle.es5_tree.specs.declared.tree.EsKind.TheVariants as kind
use Rattle.es5_tree.specs.declared.tree.EsStmt.{EsStmt, EsStmt-F, out-EsStmt, roll-EsStmt, roll-out-EsStmt}
use Rattle.es5_tree.specs.declared.tree.EsStmt.TheVariants as stmt
use Rattle.es5_tree.specs.declared.tree.Operator.{Operator}
use Rattle.es5_tree.specs.Grammar.Spelling.{bare_stmt, no_place}
use Rattle.es5_tree.proofs.Bare.{bare_catch, bare_expr, bare_layer, bare_stmt_layer, out_bare, out_bare_stmt, placeless}
use Rattle.es5_spelling.proofs.Bare.{Same, SameStmt}

abbrev K-F : Type 0
K-F = EsKind-F EsKind EsStmt Catch EsExpr

abbrev S-F : Type 0
S-F = EsStmt-F EsKind EsStmt Catch EsExpr

-- ---- forms

seen : (m k : EsKind) (l : K-F) → out-EsKind k ≡ l → Same m k → placeless (bare_layer (out-EsKind m)) ≡ placeless (bare_layer l)
seen m k l o h = sym (out_bare m) ∙ (ap out-EsKind h.is ∙ (out_bare k ∙ ap (λ l. placeless (bare_layer l)) o))

made_of : (m : EsKind) (l : K-F) (k : EsKind) → out-EsKind m ≡ l → roll-EsKind l ≡ k → m ≡ k
made_of m l k e r = sym (roll-out-EsKind m) ∙ (ap roll-EsKind e ∙ r)

num_layer : (z : ℤ) (l : K-F) → placeless (bare_layer l) ≡ EsKind-F.Num z → (z' : ℤ) × (l ≡ (EsKind-F.Num z')) × (z' ≡ z)
num_layer z (EsKind-F.Num z') h = (z', refl, cc)
num_layer z _ h = cc

pub like_num : (z : ℤ) (m : EsKind) → Same m (kind.Num z) → (z' : ℤ) × (m ≡ (kind.Num z')) × (z' ≡ z)
like_num z m h = let x = num_layer z (out-EsKind m) (seen m (kind.Num z) (EsKind-F.Num z) (kind.outs-Num z) h) in (x.0, made_of m (EsKind-F.Num x.0) (kind.Num x.0) x.1 (kind.rolls-Num x.0), x.2)

str_layer : (u : List ℕ) (l : K-F) → placeless (bare_layer l) ≡ EsKind-F.Str u → (u' : List ℕ) × (l ≡ (EsKind-F.Str u')) × (u' ≡ u)
str_layer u (EsKind-F.Str u') h = (u', refl, cc)
str_layer u _ h = cc

pub like_str : (u : List ℕ) (m : EsKind) → Same m (kind.Str u) → (u' : List ℕ) × (m ≡ (kind.Str u')) × (u' ≡ u)
like_str u m h = let x = str_layer u (out-EsKind m) (seen m (kind.Str u) (EsKind-F.Str u) (kind.outs-Str u) h) in (x.0, made_of m (EsKind-F.Str x.0) (kind.Str x.0) x.1 (kind.rolls-Str x.0), x.2)

true__layer : (l : K-F) → placeless (bare_layer l) ≡ EsKind-F.True → l ≡ EsKind-F.True
true__layer EsKind-F.True h = refl
true__layer _ h = cc

pub like_true_ : (m : EsKind) → Same m kind.True → m ≡ kind.True
like_true_ m h = made_of m EsKind-F.True kind.True (true__layer (out-EsKind m) (seen m kind.True EsKind-F.True kind.outs-True h)) kind.rolls-True

false__layer : (l : K-F) → placeless (bare_layer l) ≡ EsKind-F.False → l ≡ EsKind-F.False
false__layer EsKind-F.False h = refl
false__layer _ h = cc

pub like_false_ : (m : EsKind) → Same m kind.False → m ≡ kind.False
like_false_ m h = made_of m EsKind-F.False kind.False (false__layer (out-EsKind m) (seen m kind.False EsKind-F.False kind.outs-False h)) kind.rolls-False

null_layer : (l : K-F) → placeless (bare_layer l) ≡ EsKind-F.Null → l ≡ EsKind-F.Null
null_layer EsKind-F.Null h = refl
null_layer _ h = cc

pub like_null : (m : EsKind) → Same m kind.Null → m ≡ kind.Null
like_null m h = made_of m EsKind-F.Null kind.Null (null_layer (out-EsKind m) (seen m kind.Null EsKind-F.Null kind.outs-Null h)) kind.rolls-Null

this_layer : (l : K-F) → placeless (bare_layer l) ≡ EsKind-F.This → l ≡ EsKind-F.This
this_layer EsKind-F.This h = refl
this_layer _ h = cc

pub like_this : (m : EsKind) → Same m kind.This → m ≡ kind.This
like_this m h = made_of m EsKind-F.This kind.This (this_layer (out-EsKind m) (seen m kind.This EsKind-F.This kind.outs-This h)) kind.rolls-This

name_layer : (u : List ℕ) (l : K-F) → placeless (bare_layer l) ≡ EsKind-F.Name u → (u' : List ℕ) × (l ≡ (EsKind-F.Name u')) × (u' ≡ u)
name_layer u (EsKind-F.Name u') h = (u', refl, cc)
name_layer u _ h = cc

pub like_name : (u : List ℕ) (m : EsKind) → Same m (kind.Name u) → (u' : List ℕ) × (m ≡ (kind.Name u')) × (u' ≡ u)
like_name u m h = let x = name_layer u (out-EsKind m) (seen m (kind.Name u) (EsKind-F.Name u) (kind.outs-Name u) h) in (x.0, made_of m (EsKind-F.Name x.0) (kind.Name x.0) x.1 (kind.rolls-Name x.0), x.2)

array_layer : (es : List EsExpr) (l : K-F) → placeless (bare_layer l) ≡ EsKind-F.Array (map bare_expr es) → (es' : List EsExpr) × (l ≡ (EsKind-F.Array es')) × (map bare_expr es' ≡ map bare_expr es)
array_layer es (EsKind-F.Array es') h = (es', refl, cc)
array_layer es _ h = cc

pub like_array : (es : List EsExpr) (m : EsKind) → Same m (kind.Array es) → (es' : List EsExpr) × (m ≡ (kind.Array es')) × (map bare_expr es' ≡ map bare_expr es)
like_array es m h = let x = array_layer es (out-EsKind m) (seen m (kind.Array es) (EsKind-F.Array es) (kind.outs-Array es) h) in (x.0, made_of m (EsKind-F.Array x.0) (kind.Array x.0) x.1 (kind.rolls-Array x.0), x.2)

object_layer : (ks : List (List ℕ)) (es : List EsExpr) (l : K-F) → placeless (bare_layer l) ≡ EsKind-F.Object ks (map bare_expr es) → (ks' : List (List ℕ)) × (es' : List EsExpr) × (l ≡ (EsKind-F.Object ks' es')) × (ks' ≡ ks) × (map bare_expr es' ≡ map bare_expr es)
object_layer ks es (EsKind-F.Object ks' es') h = (ks', es', refl, cc, cc)
object_layer ks es _ h = cc

pub like_object : (ks : List (List ℕ)) (es : List EsExpr) (m : EsKind) → Same m (kind.Object ks es) → (ks' : List (List ℕ)) × (es' : List EsExpr) × (m ≡ (kind.Object ks' es')) × (ks' ≡ ks) × (map bare_expr es' ≡ map bare_expr es)
like_object ks es m h = let x = object_layer ks es (out-EsKind m) (seen m (kind.Object ks es) (EsKind-F.Object ks es) (kind.outs-Object ks es) h) in (x.0, x.1, made_of m (EsKind-F.Object x.0 x.1) (kind.Object x.0 x.1) x.2 (kind.rolls-Object x.0 x.1), x.3, x.4)

function_layer : (n : Option (List ℕ)) (ps : List (List ℕ)) (b : List EsStmt) (l : K-F) → placeless (bare_layer l) ≡ EsKind-F.Function n ps (map bare_stmt b) → (n' : Option (List ℕ)) × (ps' : List (List ℕ)) × (b' : List EsStmt) × (l ≡ (EsKind-F.Function n' ps' b')) × (n' ≡ n) × (ps' ≡ ps) × (map bare_stmt b' ≡ map bare_stmt b)
function_layer n ps b (EsKind-F.Function n' ps' b') h = (n', ps', b', refl, cc, cc, cc)
function_layer n ps b _ h = cc

pub like_function : (n : Option (List ℕ)) (ps : List (List ℕ)) (b : List EsStmt) (m : EsKind) → Same m (kind.Function n ps b) → (n' : Option (List ℕ)) × (ps' : List (List ℕ)) × (b' : List EsStmt) × (m ≡ (kind.Function n' ps' b')) × (n' ≡ n) × (ps' ≡ ps) × (map bare_stmt b' ≡ map bare_stmt b)
like_function n ps b m h = let x = function_layer n ps b (out-EsKind m) (seen m (kind.Function n ps b) (EsKind-F.Function n ps b) (kind.outs-Function n ps b) h) in (x.0, x.1, x.2, made_of m (EsKind-F.Function x.0 x.1 x.2) (kind.Function x.0 x.1 x.2) x.3 (kind.rolls-Function x.0 x.1 x.2), x.4, x.5, x.6)

member_layer : (e : EsExpr) (u : List ℕ) (p : Pos) (l : K-F) → placeless (bare_layer l) ≡ EsKind-F.Member (bare_expr e) u no_place → (e' : EsExpr) × (u' : List ℕ) × (p' : Pos) × (l ≡ (EsKind-F.Member e' u' p')) × (bare_expr e' ≡ bare_expr e) × (u' ≡ u)
member_layer e u p (EsKind-F.Member e' u' p') h = (e', u', p', refl, cc, cc)
member_layer e u p _ h = cc

pub like_member : (e : EsExpr) (u : List ℕ) (p : Pos) (m : EsKind) → Same m (kind.Member e u p) → (e' : EsExpr) × (u' : List ℕ) × (p' : Pos) × (m ≡ (kind.Member e' u' p')) × (bare_expr e' ≡ bare_expr e) × (u' ≡ u)
like_member e u p m h = let x = member_layer e u p (out-EsKind m) (seen m (kind.Member e u p) (EsKind-F.Member e u p) (kind.outs-Member e u p) h) in (x.0, x.1, x.2, made_of m (EsKind-F.Member x.0 x.1 x.2) (kind.Member x.0 x.1 x.2) x.3 (kind.rolls-Member x.0 x.1 x.2), x.4, x.5)

index_layer : (e : EsExpr) (k : EsExpr) (p : Pos) (l : K-F) → placeless (bare_layer l) ≡ EsKind-F.Index (bare_expr e) (bare_expr k) no_place → (e' : EsExpr) × (k' : EsExpr) × (p' : Pos) × (l ≡ (EsKind-F.Index e' k' p')) × (bare_expr e' ≡ bare_expr e) × (bare_expr k' ≡ bare_expr k)
index_layer e k p (EsKind-F.Index e' k' p') h = (e', k', p', refl, cc, cc)
index_layer e k p _ h = cc

pub like_index : (e : EsExpr) (k : EsExpr) (p : Pos) (m : EsKind) → Same m (kind.Index e k p) → (e' : EsExpr) × (k' : EsExpr) × (p' : Pos) × (m ≡ (kind.Index e' k' p')) × (bare_expr e' ≡ bare_expr e) × (bare_expr k' ≡ bare_expr k)
like_index e k p m h = let x = index_layer e k p (out-EsKind m) (seen m (kind.Index e k p) (EsKind-F.Index e k p) (kind.outs-Index e k p) h) in (x.0, x.1, x.2, made_of m (EsKind-F.Index x.0 x.1 x.2) (kind.Index x.0 x.1 x.2) x.3 (kind.rolls-Index x.0 x.1 x.2), x.4, x.5)

call_layer : (e : EsExpr) (es : List EsExpr) (l : K-F) → placeless (bare_layer l) ≡ EsKind-F.Call (bare_expr e) (map bare_expr es) → (e' : EsExpr) × (es' : List EsExpr) × (l ≡ (EsKind-F.Call e' es')) × (bare_expr e' ≡ bare_expr e) × (map bare_expr es' ≡ map bare_expr es)
call_layer e es (EsKind-F.Call e' es') h = (e', es', refl, cc, cc)
call_layer e es _ h = cc

pub like_call : (e : EsExpr) (es : List EsExpr) (m : EsKind) → Same m (kind.Call e es) → (e' : EsExpr) × (es' : List EsExpr) × (m ≡ (kind.Call e' es')) × (bare_expr e' ≡ bare_expr e) × (map bare_expr es' ≡ map bare_expr es)
like_call e es m h = let x = call_layer e es (out-EsKind m) (seen m (kind.Call e es) (EsKind-F.Call e es) (kind.outs-Call e es) h) in (x.0, x.1, made_of m (EsKind-F.Call x.0 x.1) (kind.Call x.0 x.1) x.2 (kind.rolls-Call x.0 x.1), x.3, x.4)

not__layer : (e : EsExpr) (l : K-F) → placeless (bare_layer l) ≡ EsKind-F.Not (bare_expr e) → (e' : EsExpr) × (l ≡ (EsKind-F.Not e')) × (bare_expr e' ≡ bare_expr e)
not__layer e (EsKind-F.Not e') h = (e', refl, cc)
not__layer e _ h = cc

pub like_not_ : (e : EsExpr) (m : EsKind) → Same m (kind.Not e) → (e' : EsExpr) × (m ≡ (kind.Not e')) × (bare_expr e' ≡ bare_expr e)
like_not_ e m h = let x = not__layer e (out-EsKind m) (seen m (kind.Not e) (EsKind-F.Not e) (kind.outs-Not e) h) in (x.0, made_of m (EsKind-F.Not x.0) (kind.Not x.0) x.1 (kind.rolls-Not x.0), x.2)

neg_layer : (e : EsExpr) (l : K-F) → placeless (bare_layer l) ≡ EsKind-F.Neg (bare_expr e) → (e' : EsExpr) × (l ≡ (EsKind-F.Neg e')) × (bare_expr e' ≡ bare_expr e)
neg_layer e (EsKind-F.Neg e') h = (e', refl, cc)
neg_layer e _ h = cc

pub like_neg : (e : EsExpr) (m : EsKind) → Same m (kind.Neg e) → (e' : EsExpr) × (m ≡ (kind.Neg e')) × (bare_expr e' ≡ bare_expr e)
like_neg e m h = let x = neg_layer e (out-EsKind m) (seen m (kind.Neg e) (EsKind-F.Neg e) (kind.outs-Neg e) h) in (x.0, made_of m (EsKind-F.Neg x.0) (kind.Neg x.0) x.1 (kind.rolls-Neg x.0), x.2)

typeof_layer : (e : EsExpr) (l : K-F) → placeless (bare_layer l) ≡ EsKind-F.Typeof (bare_expr e) → (e' : EsExpr) × (l ≡ (EsKind-F.Typeof e')) × (bare_expr e' ≡ bare_expr e)
typeof_layer e (EsKind-F.Typeof e') h = (e', refl, cc)
typeof_layer e _ h = cc

pub like_typeof : (e : EsExpr) (m : EsKind) → Same m (kind.Typeof e) → (e' : EsExpr) × (m ≡ (kind.Typeof e')) × (bare_expr e' ≡ bare_expr e)
like_typeof e m h = let x = typeof_layer e (out-EsKind m) (seen m (kind.Typeof e) (EsKind-F.Typeof e) (kind.outs-Typeof e) h) in (x.0, made_of m (EsKind-F.Typeof x.0) (kind.Typeof x.0) x.1 (kind.rolls-Typeof x.0), x.2)

delete_layer : (e : EsExpr) (l : K-F) → placeless (bare_layer l) ≡ EsKind-F.Delete (bare_expr e) → (e' : EsExpr) × (l ≡ (EsKind-F.Delete e')) × (bare_expr e' ≡ bare_expr e)
delete_layer e (EsKind-F.Delete e') h = (e', refl, cc)
delete_layer e _ h = cc

pub like_delete : (e : EsExpr) (m : EsKind) → Same m (kind.Delete e) → (e' : EsExpr) × (m ≡ (kind.Delete e')) × (bare_expr e' ≡ bare_expr e)
like_delete e m h = let x = delete_layer e (out-EsKind m) (seen m (kind.Delete e) (EsKind-F.Delete e) (kind.outs-Delete e) h) in (x.0, made_of m (EsKind-F.Delete x.0) (kind.Delete x.0) x.1 (kind.rolls-Delete x.0), x.2)

binary_layer : (o : Operator) (e : EsExpr) (k : EsExpr) (l : K-F) → placeless (bare_layer l) ≡ EsKind-F.Binary o (bare_expr e) (bare_expr k) → (o' : Operator) × (e' : EsExpr) × (k' : EsExpr) × (l ≡ (EsKind-F.Binary o' e' k')) × (o' ≡ o) × (bare_expr e' ≡ bare_expr e) × (bare_expr k' ≡ bare_expr k)
binary_layer o e k (EsKind-F.Binary o' e' k') h = (o', e', k', refl, cc, cc, cc)
binary_layer o e k _ h = cc

pub like_binary : (o : Operator) (e : EsExpr) (k : EsExpr) (m : EsKind) → Same m (kind.Binary o e k) → (o' : Operator) × (e' : EsExpr) × (k' : EsExpr) × (m ≡ (kind.Binary o' e' k')) × (o' ≡ o) × (bare_expr e' ≡ bare_expr e) × (bare_expr k' ≡ bare_expr k)
like_binary o e k m h = let x = binary_layer o e k (out-EsKind m) (seen m (kind.Binary o e k) (EsKind-F.Binary o e k) (kind.outs-Binary o e k) h) in (x.0, x.1, x.2, made_of m (EsKind-F.Binary x.0 x.1 x.2) (kind.Binary x.0 x.1 x.2) x.3 (kind.rolls-Binary x.0 x.1 x.2), x.4, x.5, x.6)

and_layer : (e : EsExpr) (k : EsExpr) (l : K-F) → placeless (bare_layer l) ≡ EsKind-F.And (bare_expr e) (bare_expr k) → (e' : EsExpr) × (k' : EsExpr) × (l ≡ (EsKind-F.And e' k')) × (bare_expr e' ≡ bare_expr e) × (bare_expr k' ≡ bare_expr k)
and_layer e k (EsKind-F.And e' k') h = (e', k', refl, cc, cc)
and_layer e k _ h = cc

pub like_and : (e : EsExpr) (k : EsExpr) (m : EsKind) → Same m (kind.And e k) → (e' : EsExpr) × (k' : EsExpr) × (m ≡ (kind.And e' k')) × (bare_expr e' ≡ bare_expr e) × (bare_expr k' ≡ bare_expr k)
like_and e k m h = let x = and_layer e k (out-EsKind m) (seen m (kind.And e k) (EsKind-F.And e k) (kind.outs-And e k) h) in (x.0, x.1, made_of m (EsKind-F.And x.0 x.1) (kind.And x.0 x.1) x.2 (kind.rolls-And x.0 x.1), x.3, x.4)

or_layer : (e : EsExpr) (k : EsExpr) (l : K-F) → placeless (bare_layer l) ≡ EsKind-F.Or (bare_expr e) (bare_expr k) → (e' : EsExpr) × (k' : EsExpr) × (l ≡ (EsKind-F.Or e' k')) × (bare_expr e' ≡ bare_expr e) × (bare_expr k' ≡ bare_expr k)
or_layer e k (EsKind-F.Or e' k') h = (e', k', refl, cc, cc)
or_layer e k _ h = cc

pub like_or : (e : EsExpr) (k : EsExpr) (m : EsKind) → Same m (kind.Or e k) → (e' : EsExpr) × (k' : EsExpr) × (m ≡ (kind.Or e' k')) × (bare_expr e' ≡ bare_expr e) × (bare_expr k' ≡ bare_expr k)
like_or e k m h = let x = or_layer e k (out-EsKind m) (seen m (kind.Or e k) (EsKind-F.Or e k) (kind.outs-Or e k) h) in (x.0, x.1, made_of m (EsKind-F.Or x.0 x.1) (kind.Or x.0 x.1) x.2 (kind.rolls-Or x.0 x.1), x.3, x.4)

cond_layer : (t : EsExpr) (e : EsExpr) (k : EsExpr) (l : K-F) → placeless (bare_layer l) ≡ EsKind-F.Cond (bare_expr t) (bare_expr e) (bare_expr k) → (t' : EsExpr) × (e' : EsExpr) × (k' : EsExpr) × (l ≡ (EsKind-F.Cond t' e' k')) × (bare_expr t' ≡ bare_expr t) × (bare_expr e' ≡ bare_expr e) × (bare_expr k' ≡ bare_expr k)
cond_layer t e k (EsKind-F.Cond t' e' k') h = (t', e', k', refl, cc, cc, cc)
cond_layer t e k _ h = cc

pub like_cond : (t : EsExpr) (e : EsExpr) (k : EsExpr) (m : EsKind) → Same m (kind.Cond t e k) → (t' : EsExpr) × (e' : EsExpr) × (k' : EsExpr) × (m ≡ (kind.Cond t' e' k')) × (bare_expr t' ≡ bare_expr t) × (bare_expr e' ≡ bare_expr e) × (bare_expr k' ≡ bare_expr k)
like_cond t e k m h = let x = cond_layer t e k (out-EsKind m) (seen m (kind.Cond t e k) (EsKind-F.Cond t e k) (kind.outs-Cond t e k) h) in (x.0, x.1, x.2, made_of m (EsKind-F.Cond x.0 x.1 x.2) (kind.Cond x.0 x.1 x.2) x.3 (kind.rolls-Cond x.0 x.1 x.2), x.4, x.5, x.6)

assign_layer : (e : EsExpr) (k : EsExpr) (l : K-F) → placeless (bare_layer l) ≡ EsKind-F.Assign (bare_expr e) (bare_expr k) → (e' : EsExpr) × (k' : EsExpr) × (l ≡ (EsKind-F.Assign e' k')) × (bare_expr e' ≡ bare_expr e) × (bare_expr k' ≡ bare_expr k)
assign_layer e k (EsKind-F.Assign e' k') h = (e', k', refl, cc, cc)
assign_layer e k _ h = cc

pub like_assign : (e : EsExpr) (k : EsExpr) (m : EsKind) → Same m (kind.Assign e k) → (e' : EsExpr) × (k' : EsExpr) × (m ≡ (kind.Assign e' k')) × (bare_expr e' ≡ bare_expr e) × (bare_expr k' ≡ bare_expr k)
like_assign e k m h = let x = assign_layer e k (out-EsKind m) (seen m (kind.Assign e k) (EsKind-F.Assign e k) (kind.outs-Assign e k) h) in (x.0, x.1, made_of m (EsKind-F.Assign x.0 x.1) (kind.Assign x.0 x.1) x.2 (kind.rolls-Assign x.0 x.1), x.3, x.4)

-- ---- statements

stmt_seen : (m k : EsStmt) (l : S-F) → out-EsStmt k ≡ l → SameStmt m k → bare_stmt_layer (out-EsStmt m) ≡ bare_stmt_layer l
stmt_seen m k l o h = sym (out_bare_stmt m) ∙ (ap out-EsStmt h.is ∙ (out_bare_stmt k ∙ ap bare_stmt_layer o))

stmt_made_of : (m : EsStmt) (l : S-F) (k : EsStmt) → out-EsStmt m ≡ l → roll-EsStmt l ≡ k → m ≡ k
stmt_made_of m l k e r = sym (roll-out-EsStmt m) ∙ (ap roll-EsStmt e ∙ r)

stmt_var_layer : (u : List ℕ) (l : S-F) → bare_stmt_layer l ≡ (EsStmt-F.Var u None) → (u' : List ℕ) × (l ≡ (EsStmt-F.Var u' None)) × (u' ≡ u)
stmt_var_layer u (EsStmt-F.Var u' None) h = (u', refl, cc)
stmt_var_layer u (EsStmt-F.Var x (Some y)) h = cc
stmt_var_layer u _ h = cc

pub like_stmt_var : (u : List ℕ) (m : EsStmt) → SameStmt m (stmt.Var u None) → (u' : List ℕ) × (m ≡ (stmt.Var u' None)) × (u' ≡ u)
like_stmt_var u m h = let x = stmt_var_layer u (out-EsStmt m) (stmt_seen m (stmt.Var u None) (EsStmt-F.Var u None) (stmt.outs-Var u None) h) in (x.0, stmt_made_of m (EsStmt-F.Var x.0 None) (stmt.Var x.0 None) x.1 (stmt.rolls-Var x.0 None), x.2)

stmt_var_set_layer : (u : List ℕ) (e : EsExpr) (l : S-F) → bare_stmt_layer l ≡ (EsStmt-F.Var u (Some (bare_expr e))) → (u' : List ℕ) × (e' : EsExpr) × (l ≡ (EsStmt-F.Var u' (Some e'))) × (u' ≡ u) × (bare_expr e' ≡ bare_expr e)
stmt_var_set_layer u e (EsStmt-F.Var u' (Some e')) h = (u', e', refl, cc, cc)
stmt_var_set_layer u e (EsStmt-F.Var x None) h = cc
stmt_var_set_layer u e _ h = cc

pub like_stmt_var_set : (u : List ℕ) (e : EsExpr) (m : EsStmt) → SameStmt m (stmt.Var u (Some e)) → (u' : List ℕ) × (e' : EsExpr) × (m ≡ (stmt.Var u' (Some e'))) × (u' ≡ u) × (bare_expr e' ≡ bare_expr e)
like_stmt_var_set u e m h = let x = stmt_var_set_layer u e (out-EsStmt m) (stmt_seen m (stmt.Var u (Some e)) (EsStmt-F.Var u (Some e)) (stmt.outs-Var u (Some e)) h) in (x.0, x.1, stmt_made_of m (EsStmt-F.Var x.0 (Some x.1)) (stmt.Var x.0 (Some x.1)) x.2 (stmt.rolls-Var x.0 (Some x.1)), x.3, x.4)

stmt_expr_layer : (e : EsExpr) (l : S-F) → bare_stmt_layer l ≡ (EsStmt-F.Expr (bare_expr e)) → (e' : EsExpr) × (l ≡ (EsStmt-F.Expr e')) × (bare_expr e' ≡ bare_expr e)
stmt_expr_layer e (EsStmt-F.Expr e') h = (e', refl, cc)
stmt_expr_layer e _ h = cc

pub like_stmt_expr : (e : EsExpr) (m : EsStmt) → SameStmt m (stmt.Expr e) → (e' : EsExpr) × (m ≡ (stmt.Expr e')) × (bare_expr e' ≡ bare_expr e)
like_stmt_expr e m h = let x = stmt_expr_layer e (out-EsStmt m) (stmt_seen m (stmt.Expr e) (EsStmt-F.Expr e) (stmt.outs-Expr e) h) in (x.0, stmt_made_of m (EsStmt-F.Expr x.0) (stmt.Expr x.0) x.1 (stmt.rolls-Expr x.0), x.2)

stmt_block_layer : (b : List EsStmt) (l : S-F) → bare_stmt_layer l ≡ (EsStmt-F.Block (map bare_stmt b)) → (b' : List EsStmt) × (l ≡ (EsStmt-F.Block b')) × (map bare_stmt b' ≡ map bare_stmt b)
stmt_block_layer b (EsStmt-F.Block b') h = (b', refl, cc)
stmt_block_layer b _ h = cc

pub like_stmt_block : (b : List EsStmt) (m : EsStmt) → SameStmt m (stmt.Block b) → (b' : List EsStmt) × (m ≡ (stmt.Block b')) × (map bare_stmt b' ≡ map bare_stmt b)
like_stmt_block b m h = let x = stmt_block_layer b (out-EsStmt m) (stmt_seen m (stmt.Block b) (EsStmt-F.Block b) (stmt.outs-Block b) h) in (x.0, stmt_made_of m (EsStmt-F.Block x.0) (stmt.Block x.0) x.1 (stmt.rolls-Block x.0), x.2)

stmt_if_layer : (e : EsExpr) (a : EsStmt) (l : S-F) → bare_stmt_layer l ≡ (EsStmt-F.If (bare_expr e) (bare_stmt a) None) → (e' : EsExpr) × (a' : EsStmt) × (l ≡ (EsStmt-F.If e' a' None)) × (bare_expr e' ≡ bare_expr e) × (bare_stmt a' ≡ bare_stmt a)
stmt_if_layer e a (EsStmt-F.If e' a' None) h = (e', a', refl, cc, cc)
stmt_if_layer e a (EsStmt-F.If x y (Some z)) h = cc
stmt_if_layer e a _ h = cc

pub like_stmt_if : (e : EsExpr) (a : EsStmt) (m : EsStmt) → SameStmt m (stmt.If e a None) → (e' : EsExpr) × (a' : EsStmt) × (m ≡ (stmt.If e' a' None)) × (bare_expr e' ≡ bare_expr e) × (bare_stmt a' ≡ bare_stmt a)
like_stmt_if e a m h = let x = stmt_if_layer e a (out-EsStmt m) (stmt_seen m (stmt.If e a None) (EsStmt-F.If e a None) (stmt.outs-If e a None) h) in (x.0, x.1, stmt_made_of m (EsStmt-F.If x.0 x.1 None) (stmt.If x.0 x.1 None) x.2 (stmt.rolls-If x.0 x.1 None), x.3, x.4)

stmt_if_else_layer : (e : EsExpr) (a : EsStmt) (c : EsStmt) (l : S-F) → bare_stmt_layer l ≡ (EsStmt-F.If (bare_expr e) (bare_stmt a) (Some (bare_stmt c))) → (e' : EsExpr) × (a' : EsStmt) × (c' : EsStmt) × (l ≡ (EsStmt-F.If e' a' (Some c'))) × (bare_expr e' ≡ bare_expr e) × (bare_stmt a' ≡ bare_stmt a) × (bare_stmt c' ≡ bare_stmt c)
stmt_if_else_layer e a c (EsStmt-F.If e' a' (Some c')) h = (e', a', c', refl, cc, cc, cc)
stmt_if_else_layer e a c (EsStmt-F.If x y None) h = cc
stmt_if_else_layer e a c _ h = cc

pub like_stmt_if_else : (e : EsExpr) (a : EsStmt) (c : EsStmt) (m : EsStmt) → SameStmt m (stmt.If e a (Some c)) → (e' : EsExpr) × (a' : EsStmt) × (c' : EsStmt) × (m ≡ (stmt.If e' a' (Some c'))) × (bare_expr e' ≡ bare_expr e) × (bare_stmt a' ≡ bare_stmt a) × (bare_stmt c' ≡ bare_stmt c)
like_stmt_if_else e a c m h = let x = stmt_if_else_layer e a c (out-EsStmt m) (stmt_seen m (stmt.If e a (Some c)) (EsStmt-F.If e a (Some c)) (stmt.outs-If e a (Some c)) h) in (x.0, x.1, x.2, stmt_made_of m (EsStmt-F.If x.0 x.1 (Some x.2)) (stmt.If x.0 x.1 (Some x.2)) x.3 (stmt.rolls-If x.0 x.1 (Some x.2)), x.4, x.5, x.6)

stmt_while_layer : (e : EsExpr) (a : EsStmt) (l : S-F) → bare_stmt_layer l ≡ (EsStmt-F.While (bare_expr e) (bare_stmt a)) → (e' : EsExpr) × (a' : EsStmt) × (l ≡ (EsStmt-F.While e' a')) × (bare_expr e' ≡ bare_expr e) × (bare_stmt a' ≡ bare_stmt a)
stmt_while_layer e a (EsStmt-F.While e' a') h = (e', a', refl, cc, cc)
stmt_while_layer e a _ h = cc

pub like_stmt_while : (e : EsExpr) (a : EsStmt) (m : EsStmt) → SameStmt m (stmt.While e a) → (e' : EsExpr) × (a' : EsStmt) × (m ≡ (stmt.While e' a')) × (bare_expr e' ≡ bare_expr e) × (bare_stmt a' ≡ bare_stmt a)
like_stmt_while e a m h = let x = stmt_while_layer e a (out-EsStmt m) (stmt_seen m (stmt.While e a) (EsStmt-F.While e a) (stmt.outs-While e a) h) in (x.0, x.1, stmt_made_of m (EsStmt-F.While x.0 x.1) (stmt.While x.0 x.1) x.2 (stmt.rolls-While x.0 x.1), x.3, x.4)

stmt_return_layer : (l : S-F) → bare_stmt_layer l ≡ (EsStmt-F.Return None) → (l ≡ (EsStmt-F.Return None))
stmt_return_layer (EsStmt-F.Return None) h = refl
stmt_return_layer (EsStmt-F.Return (Some x)) h = cc
stmt_return_layer _ h = cc

pub like_stmt_return : (m : EsStmt) → SameStmt m (stmt.Return None) → m ≡ (stmt.Return None)
like_stmt_return m h = stmt_made_of m (EsStmt-F.Return None) (stmt.Return None) (stmt_return_layer (out-EsStmt m) (stmt_seen m (stmt.Return None) (EsStmt-F.Return None) (stmt.outs-Return None) h)) (stmt.rolls-Return None)

stmt_return_value_layer : (e : EsExpr) (l : S-F) → bare_stmt_layer l ≡ (EsStmt-F.Return (Some (bare_expr e))) → (e' : EsExpr) × (l ≡ (EsStmt-F.Return (Some e'))) × (bare_expr e' ≡ bare_expr e)
stmt_return_value_layer e (EsStmt-F.Return (Some e')) h = (e', refl, cc)
stmt_return_value_layer e (EsStmt-F.Return None) h = cc
stmt_return_value_layer e _ h = cc

pub like_stmt_return_value : (e : EsExpr) (m : EsStmt) → SameStmt m (stmt.Return (Some e)) → (e' : EsExpr) × (m ≡ (stmt.Return (Some e'))) × (bare_expr e' ≡ bare_expr e)
like_stmt_return_value e m h = let x = stmt_return_value_layer e (out-EsStmt m) (stmt_seen m (stmt.Return (Some e)) (EsStmt-F.Return (Some e)) (stmt.outs-Return (Some e)) h) in (x.0, stmt_made_of m (EsStmt-F.Return (Some x.0)) (stmt.Return (Some x.0)) x.1 (stmt.rolls-Return (Some x.0)), x.2)

stmt_break_layer : (l : S-F) → bare_stmt_layer l ≡ EsStmt-F.Break → (l ≡ EsStmt-F.Break)
stmt_break_layer EsStmt-F.Break h = refl
stmt_break_layer _ h = cc

pub like_stmt_break : (m : EsStmt) → SameStmt m stmt.Break → m ≡ stmt.Break
like_stmt_break m h = stmt_made_of m EsStmt-F.Break stmt.Break (stmt_break_layer (out-EsStmt m) (stmt_seen m stmt.Break EsStmt-F.Break stmt.outs-Break h)) stmt.rolls-Break

stmt_continue_layer : (l : S-F) → bare_stmt_layer l ≡ EsStmt-F.Continue → (l ≡ EsStmt-F.Continue)
stmt_continue_layer EsStmt-F.Continue h = refl
stmt_continue_layer _ h = cc

pub like_stmt_continue : (m : EsStmt) → SameStmt m stmt.Continue → m ≡ stmt.Continue
like_stmt_continue m h = stmt_made_of m EsStmt-F.Continue stmt.Continue (stmt_continue_layer (out-EsStmt m) (stmt_seen m stmt.Continue EsStmt-F.Continue stmt.outs-Continue h)) stmt.rolls-Continue

stmt_throw_layer : (e : EsExpr) (l : S-F) → bare_stmt_layer l ≡ (EsStmt-F.Throw (bare_expr e)) → (e' : EsExpr) × (l ≡ (EsStmt-F.Throw e')) × (bare_expr e' ≡ bare_expr e)
stmt_throw_layer e (EsStmt-F.Throw e') h = (e', refl, cc)
stmt_throw_layer e _ h = cc

pub like_stmt_throw : (e : EsExpr) (m : EsStmt) → SameStmt m (stmt.Throw e) → (e' : EsExpr) × (m ≡ (stmt.Throw e')) × (bare_expr e' ≡ bare_expr e)
like_stmt_throw e m h = let x = stmt_throw_layer e (out-EsStmt m) (stmt_seen m (stmt.Throw e) (EsStmt-F.Throw e) (stmt.outs-Throw e) h) in (x.0, stmt_made_of m (EsStmt-F.Throw x.0) (stmt.Throw x.0) x.1 (stmt.rolls-Throw x.0), x.2)

stmt_try_catch_layer : (b : List EsStmt) (c : Catch) (l : S-F) → bare_stmt_layer l ≡ (EsStmt-F.Try (map bare_stmt b) (Some (bare_catch c)) None) → (b' : List EsStmt) × (c' : Catch) × (l ≡ (EsStmt-F.Try b' (Some c') None)) × (map bare_stmt b' ≡ map bare_stmt b) × (bare_catch c' ≡ bare_catch c)
stmt_try_catch_layer b c (EsStmt-F.Try b' (Some c') None) h = (b', c', refl, cc, cc)
stmt_try_catch_layer b c (EsStmt-F.Try x None None) h = cc
stmt_try_catch_layer b c (EsStmt-F.Try x None (Some y)) h = cc
stmt_try_catch_layer b c (EsStmt-F.Try x (Some y) (Some z)) h = cc
stmt_try_catch_layer b c _ h = cc

pub like_stmt_try_catch : (b : List EsStmt) (c : Catch) (m : EsStmt) → SameStmt m (stmt.Try b (Some c) None) → (b' : List EsStmt) × (c' : Catch) × (m ≡ (stmt.Try b' (Some c') None)) × (map bare_stmt b' ≡ map bare_stmt b) × (bare_catch c' ≡ bare_catch c)
like_stmt_try_catch b c m h = let x = stmt_try_catch_layer b c (out-EsStmt m) (stmt_seen m (stmt.Try b (Some c) None) (EsStmt-F.Try b (Some c) None) (stmt.outs-Try b (Some c) None) h) in (x.0, x.1, stmt_made_of m (EsStmt-F.Try x.0 (Some x.1) None) (stmt.Try x.0 (Some x.1) None) x.2 (stmt.rolls-Try x.0 (Some x.1) None), x.3, x.4)

stmt_try_finally_layer : (b : List EsStmt) (d : List EsStmt) (l : S-F) → bare_stmt_layer l ≡ (EsStmt-F.Try (map bare_stmt b) None (Some (map bare_stmt d))) → (b' : List EsStmt) × (d' : List EsStmt) × (l ≡ (EsStmt-F.Try b' None (Some d'))) × (map bare_stmt b' ≡ map bare_stmt b) × (map bare_stmt d' ≡ map bare_stmt d)
stmt_try_finally_layer b d (EsStmt-F.Try b' None (Some d')) h = (b', d', refl, cc, cc)
stmt_try_finally_layer b d (EsStmt-F.Try x None None) h = cc
stmt_try_finally_layer b d (EsStmt-F.Try x (Some y) None) h = cc
stmt_try_finally_layer b d (EsStmt-F.Try x (Some y) (Some z)) h = cc
stmt_try_finally_layer b d _ h = cc

pub like_stmt_try_finally : (b : List EsStmt) (d : List EsStmt) (m : EsStmt) → SameStmt m (stmt.Try b None (Some d)) → (b' : List EsStmt) × (d' : List EsStmt) × (m ≡ (stmt.Try b' None (Some d'))) × (map bare_stmt b' ≡ map bare_stmt b) × (map bare_stmt d' ≡ map bare_stmt d)
like_stmt_try_finally b d m h = let x = stmt_try_finally_layer b d (out-EsStmt m) (stmt_seen m (stmt.Try b None (Some d)) (EsStmt-F.Try b None (Some d)) (stmt.outs-Try b None (Some d)) h) in (x.0, x.1, stmt_made_of m (EsStmt-F.Try x.0 None (Some x.1)) (stmt.Try x.0 None (Some x.1)) x.2 (stmt.rolls-Try x.0 None (Some x.1)), x.3, x.4)

stmt_try_both_layer : (b : List EsStmt) (c : Catch) (d : List EsStmt) (l : S-F) → bare_stmt_layer l ≡ (EsStmt-F.Try (map bare_stmt b) (Some (bare_catch c)) (Some (map bare_stmt d))) → (b' : List EsStmt) × (c' : Catch) × (d' : List EsStmt) × (l ≡ (EsStmt-F.Try b' (Some c') (Some d'))) × (map bare_stmt b' ≡ map bare_stmt b) × (bare_catch c' ≡ bare_catch c) × (map bare_stmt d' ≡ map bare_stmt d)
stmt_try_both_layer b c d (EsStmt-F.Try b' (Some c') (Some d')) h = (b', c', d', refl, cc, cc, cc)
stmt_try_both_layer b c d (EsStmt-F.Try x None None) h = cc
stmt_try_both_layer b c d (EsStmt-F.Try x (Some y) None) h = cc
stmt_try_both_layer b c d (EsStmt-F.Try x None (Some y)) h = cc
stmt_try_both_layer b c d _ h = cc

pub like_stmt_try_both : (b : List EsStmt) (c : Catch) (d : List EsStmt) (m : EsStmt) → SameStmt m (stmt.Try b (Some c) (Some d)) → (b' : List EsStmt) × (c' : Catch) × (d' : List EsStmt) × (m ≡ (stmt.Try b' (Some c') (Some d'))) × (map bare_stmt b' ≡ map bare_stmt b) × (bare_catch c' ≡ bare_catch c) × (map bare_stmt d' ≡ map bare_stmt d)
like_stmt_try_both b c d m h = let x = stmt_try_both_layer b c d (out-EsStmt m) (stmt_seen m (stmt.Try b (Some c) (Some d)) (EsStmt-F.Try b (Some c) (Some d)) (stmt.outs-Try b (Some c) (Some d)) h) in (x.0, x.1, x.2, stmt_made_of m (EsStmt-F.Try x.0 (Some x.1) (Some x.2)) (stmt.Try x.0 (Some x.1) (Some x.2)) x.3 (stmt.rolls-Try x.0 (Some x.1) (Some x.2)), x.4, x.5, x.6)

stmt_empty_layer : (l : S-F) → bare_stmt_layer l ≡ EsStmt-F.Empty → (l ≡ EsStmt-F.Empty)
stmt_empty_layer EsStmt-F.Empty h = refl
stmt_empty_layer _ h = cc

pub like_stmt_empty : (m : EsStmt) → SameStmt m stmt.Empty → m ≡ stmt.Empty
like_stmt_empty m h = stmt_made_of m EsStmt-F.Empty stmt.Empty (stmt_empty_layer (out-EsStmt m) (stmt_seen m stmt.Empty EsStmt-F.Empty stmt.outs-Empty h)) stmt.rolls-Empty
