-- What each form declares and names, from its parts.
use Rattle.std.proofs.Common.{◌≡◌, ℕ, ℤ, ◌+◌, ◌<◌, ◌≤◌, length, drop, get_or, Bool, true, false, ◌||◌, List, [], ◌∷◌, ◌++◌, map, bytes_eq, Option, Some, None, Result, Ok, Err, OnOk, refl, sym, ap, ap₂, ◌∙◌, append_assoc, append-nil}
use Rattle.std.specs.Option.{option_map}
use Rattle.std.proofs.lemmas.List.{drop_all, drop_more}
use Rattle.opal_base.specs.declared.place.Pos.{Pos}
use Rattle.es5_tree.specs.declared.tree.Catch.{Catch}
use Rattle.es5_tree.specs.declared.tree.EsExpr.{EsExpr}
use Rattle.es5_tree.specs.declared.tree.EsKind.{EsKind}
use Rattle.es5_tree.specs.declared.tree.EsKind.TheVariants as kind
use Rattle.es5_tree.specs.declared.tree.EsStmt.{EsStmt}
use Rattle.es5_tree.specs.declared.tree.EsStmt.TheVariants as stmt
use Rattle.es5_tree.specs.declared.tree.Operator.{Operator}
use Rattle.es5_evaluation.specs.Declared.{OwnCode, arguments_name, both, catch_code, each, expr_code, kind_code, nothing, optional, optional_list, own_code, stmt_code}
use Rattle.es5_evaluation.proofs.Own as form
use Rattle.es5_code.specs.declared.own.OwnNames.{OwnNames}
use Rattle.es5_code.specs.Own.{gather}

-- ---- laws

pub or_false : (b : Bool) → (b || false) ≡ b
or_false true = refl
or_false false = refl

pub or_assoc : (a b c : Bool) → (a || (b || c)) ≡ ((a || b) || c)
or_assoc true b c = refl
or_assoc false b c = refl

abbrev pub own_names : List (List ℕ) → Bool → OwnNames
own_names ns b = record { names = ns; arguments = b }

pub gather_nothing : (a : OwnNames) → gather a nothing ≡ a
unfolding gather
gather_nothing a = ap₂ own_names (append-nil a.names) (or_false a.arguments)

pub gather_both : (a : OwnNames) (x y : OwnCode) → gather a (both x y) ≡ gather (gather a x) y
unfolding gather
gather_both a x y = ap₂ own_names (sym (append_assoc a.names x.names y.names)) (or_assoc a.arguments x.arguments y.arguments)

-- ---- layers

pub expr_is : (a : OwnNames) (e : EsExpr) → gather a (expr_code e) ≡ gather a (kind_code e.kind)
expr_is a e = ap (gather a) (form.expr_to e)

pub catch_is : (a : OwnNames) (c : Catch) → gather a (catch_code c) ≡ gather a (each (map stmt_code c.body))
catch_is a c = ap (gather a) (form.catch_to c)

-- ---- expressions

pub of_num : (a : OwnNames) (v : ℤ) → gather a (kind_code (kind.Num v)) ≡ a
of_num a v = ap (gather a) (form.of_num v) ∙ gather_nothing a

pub of_str : (a : OwnNames) (u : List ℕ) → gather a (kind_code (kind.Str u)) ≡ a
of_str a u = ap (gather a) (form.of_str u) ∙ gather_nothing a

pub of_true_ : (a : OwnNames) → gather a (kind_code kind.True) ≡ a
of_true_ a = ap (gather a) form.of_true_ ∙ gather_nothing a

pub of_false_ : (a : OwnNames) → gather a (kind_code kind.False) ≡ a
of_false_ a = ap (gather a) form.of_false_ ∙ gather_nothing a

pub of_null : (a : OwnNames) → gather a (kind_code kind.Null) ≡ a
of_null a = ap (gather a) form.of_null ∙ gather_nothing a

pub of_this : (a : OwnNames) → gather a (kind_code kind.This) ≡ a
of_this a = ap (gather a) form.of_this ∙ gather_nothing a

pub of_name : (a : OwnNames) (u : List ℕ) → gather a (kind_code (kind.Name u)) ≡ own_names a.names (a.arguments || bytes_eq u arguments_name)
unfolding gather
of_name a u = ap (gather a) (form.of_name u) ∙ ap (λ ns. own_names ns (a.arguments || bytes_eq u arguments_name)) (append-nil a.names)

pub of_array : (a : OwnNames) (es : List EsExpr) → gather a (kind_code (kind.Array es)) ≡ gather a (each (map expr_code es))
of_array a es = ap (gather a) (form.of_array es)

pub of_object : (a : OwnNames) (ks : List (List ℕ)) (es : List EsExpr) → gather a (kind_code (kind.Object ks es)) ≡ gather a (each (map expr_code es))
of_object a ks es = ap (gather a) (form.of_object ks es)

pub of_function : (a : OwnNames) (n : Option (List ℕ)) (ps : List (List ℕ)) (b : List EsStmt) → gather a (kind_code (kind.Function n ps b)) ≡ a
of_function a n ps b = ap (gather a) (form.of_function n ps b) ∙ gather_nothing a

pub of_member : (a : OwnNames) (e : EsExpr) (u : List ℕ) (m : Pos) → gather a (kind_code (kind.Member e u m)) ≡ gather a (expr_code e)
of_member a e u m = ap (gather a) (form.of_member e u m)

pub of_index : (a : OwnNames) (l r : EsExpr) (m : Pos) → gather a (kind_code (kind.Index l r m)) ≡ gather (gather a (expr_code l)) (expr_code r)
of_index a l r m = ap (gather a) (form.of_index l r m) ∙ gather_both a (expr_code l) (expr_code r)

pub of_call : (a : OwnNames) (e : EsExpr) (es : List EsExpr) → gather a (kind_code (kind.Call e es)) ≡ gather (gather a (expr_code e)) (each (map expr_code es))
of_call a e es = ap (gather a) (form.of_call e es) ∙ gather_both a (expr_code e) (each (map expr_code es))

pub of_not_ : (a : OwnNames) (e : EsExpr) → gather a (kind_code (kind.Not e)) ≡ gather a (expr_code e)
of_not_ a e = ap (gather a) (form.of_not_ e)

pub of_neg : (a : OwnNames) (e : EsExpr) → gather a (kind_code (kind.Neg e)) ≡ gather a (expr_code e)
of_neg a e = ap (gather a) (form.of_neg e)

pub of_typeof : (a : OwnNames) (e : EsExpr) → gather a (kind_code (kind.Typeof e)) ≡ gather a (expr_code e)
of_typeof a e = ap (gather a) (form.of_typeof e)

pub of_delete : (a : OwnNames) (e : EsExpr) → gather a (kind_code (kind.Delete e)) ≡ gather a (expr_code e)
of_delete a e = ap (gather a) (form.of_delete e)

pub of_binary : (a : OwnNames) (o : Operator) (l r : EsExpr) → gather a (kind_code (kind.Binary o l r)) ≡ gather (gather a (expr_code l)) (expr_code r)
of_binary a o l r = ap (gather a) (form.of_binary o l r) ∙ gather_both a (expr_code l) (expr_code r)

pub of_and_ : (a : OwnNames) (l r : EsExpr) → gather a (kind_code (kind.And l r)) ≡ gather (gather a (expr_code l)) (expr_code r)
of_and_ a l r = ap (gather a) (form.of_and l r) ∙ gather_both a (expr_code l) (expr_code r)

pub of_or_ : (a : OwnNames) (l r : EsExpr) → gather a (kind_code (kind.Or l r)) ≡ gather (gather a (expr_code l)) (expr_code r)
of_or_ a l r = ap (gather a) (form.of_or l r) ∙ gather_both a (expr_code l) (expr_code r)

pub of_cond : (a : OwnNames) (t l r : EsExpr) → gather a (kind_code (kind.Cond t l r)) ≡ gather (gather (gather a (expr_code t)) (expr_code l)) (expr_code r)
of_cond a t l r = ap (gather a) (form.of_cond t l r) ∙ gather_both a (expr_code t) (both (expr_code l) (expr_code r)) ∙ gather_both (gather a (expr_code t)) (expr_code l) (expr_code r)

pub of_assign : (a : OwnNames) (l r : EsExpr) → gather a (kind_code (kind.Assign l r)) ≡ gather (gather a (expr_code l)) (expr_code r)
of_assign a l r = ap (gather a) (form.of_assign l r) ∙ gather_both a (expr_code l) (expr_code r)

-- ---- statements

abbrev declared : List ℕ → OwnCode
declared u = record { names = u ∷ []; arguments = false }

pub of_var : (a : OwnNames) (u : List ℕ) (v : Option EsExpr) → gather a (stmt_code (stmt.Var u v)) ≡ gather (gather a (declared u)) (optional (option_map expr_code v))
of_var a u None = ap (gather a) (form.of_var u None) ∙ gather_both a (declared u) nothing
of_var a u (Some v) = ap (gather a) (form.of_var u (Some v)) ∙ gather_both a (declared u) (expr_code v)

pub of_expr : (a : OwnNames) (e : EsExpr) → gather a (stmt_code (stmt.Expr e)) ≡ gather a (expr_code e)
of_expr a e = ap (gather a) (form.of_expr e)

pub of_block : (a : OwnNames) (b : List EsStmt) → gather a (stmt_code (stmt.Block b)) ≡ gather a (each (map stmt_code b))
of_block a b = ap (gather a) (form.of_block b)

pub of_if : (a : OwnNames) (t : EsExpr) (x : EsStmt) (y : Option EsStmt) → gather a (stmt_code (stmt.If t x y)) ≡ gather (gather (gather a (expr_code t)) (stmt_code x)) (optional (option_map stmt_code y))
of_if a t x None = ap (gather a) (form.of_if t x None) ∙ gather_both a (expr_code t) (both (stmt_code x) nothing) ∙ gather_both (gather a (expr_code t)) (stmt_code x) nothing
of_if a t x (Some y) = ap (gather a) (form.of_if t x (Some y)) ∙ gather_both a (expr_code t) (both (stmt_code x) (stmt_code y)) ∙ gather_both (gather a (expr_code t)) (stmt_code x) (stmt_code y)

pub of_while : (a : OwnNames) (t : EsExpr) (x : EsStmt) → gather a (stmt_code (stmt.While t x)) ≡ gather (gather a (expr_code t)) (stmt_code x)
of_while a t x = ap (gather a) (form.of_while t x) ∙ gather_both a (expr_code t) (stmt_code x)

pub of_return : (a : OwnNames) (v : Option EsExpr) → gather a (stmt_code (stmt.Return v)) ≡ gather a (optional (option_map expr_code v))
of_return a None = ap (gather a) (form.of_return None)
of_return a (Some v) = ap (gather a) (form.of_return (Some v))

pub of_break : (a : OwnNames) → gather a (stmt_code stmt.Break) ≡ a
of_break a = ap (gather a) form.of_break ∙ gather_nothing a

pub of_continue : (a : OwnNames) → gather a (stmt_code stmt.Continue) ≡ a
of_continue a = ap (gather a) form.of_continue ∙ gather_nothing a

pub of_throw : (a : OwnNames) (e : EsExpr) → gather a (stmt_code (stmt.Throw e)) ≡ gather a (expr_code e)
of_throw a e = ap (gather a) (form.of_throw e)

pub of_empty : (a : OwnNames) → gather a (stmt_code stmt.Empty) ≡ a
of_empty a = ap (gather a) form.of_empty ∙ gather_nothing a

try_parts : (a : OwnNames) (x y z : OwnCode) → gather a (both x (both y z)) ≡ gather (gather (gather a x) y) z
try_parts a x y z = gather_both a x (both y z) ∙ gather_both (gather a x) y z

pub of_try : (a : OwnNames) (b : List EsStmt) (c : Option Catch) (l : Option (List EsStmt)) → gather a (stmt_code (stmt.Try b c l)) ≡ gather (gather (gather a (each (map stmt_code b))) (optional (option_map catch_code c))) (optional_list (option_map (map stmt_code) l))
of_try a b None None = ap (gather a) (form.of_try b None None) ∙ try_parts a (each (map stmt_code b)) nothing nothing
of_try a b None (Some l) = ap (gather a) (form.of_try b None (Some l)) ∙ try_parts a (each (map stmt_code b)) nothing (each (map stmt_code l))
of_try a b (Some c) None = ap (gather a) (form.of_try b (Some c) None) ∙ try_parts a (each (map stmt_code b)) (catch_code c) nothing
of_try a b (Some c) (Some l) = ap (gather a) (form.of_try b (Some c) (Some l)) ∙ try_parts a (each (map stmt_code b)) (catch_code c) (each (map stmt_code l))

-- ---- lists

pub first_of : {A : Type 0} (f : A → OwnCode) (xs : List A) (i : ℕ) (x : A) (a b : OwnNames) → i < length xs → x ≡ get_or xs i x → b ≡ gather a (f x) → gather a (each (map f (drop i xs))) ≡ gather b (each (map f (drop (i + 1) xs)))
first_of f xs i x a b l e g =
    ap (λ ys. gather a (each (map f ys))) (drop_more xs i x l)
    ∙ gather_both a (f (get_or xs i x)) (each (map f (drop (i + 1) xs)))
    ∙ ap (λ y. gather (gather a (f y)) (each (map f (drop (i + 1) xs)))) (sym e)
    ∙ ap (λ c. gather c (each (map f (drop (i + 1) xs)))) (sym g)

pub none_left : {A : Type 0} (f : A → OwnCode) (xs : List A) (i : ℕ) (a : OwnNames) → length xs ≤ i → gather a (each (map f (drop i xs))) ≡ a
none_left f xs i a l = ap (λ ys. gather a (each (map f ys))) (drop_all i xs l) ∙ gather_nothing a

pub if_parts : {E : Type 0} (r : Result (Unit {0}) E) (a b c d : OwnNames) (t : EsExpr) (x first : EsStmt) (y : Option EsStmt) (s : EsStmt) → s ≡ stmt.If t first y → b ≡ gather a (expr_code t) → x ≡ first → c ≡ gather b (stmt_code x) → OnOk r (d ≡ gather c (optional (option_map stmt_code y))) → OnOk r (d ≡ gather a (stmt_code s))
if_parts (Err e) a b c d t x first y s is f g h k = k
if_parts (Ok u) a b c d t x first y s is f g h k =
    k ∙ ap (λ z. gather z (optional (option_map stmt_code y))) (h ∙ ap (λ z. gather b (stmt_code z)) g ∙ ap (λ z. gather z (stmt_code first)) f)
    ∙ sym (ap (λ z. gather a (stmt_code z)) is ∙ of_if a t first y)

pub try_is : (a b c : OwnNames) (x body : List EsStmt) (part : Option Catch) (last : Option (List EsStmt)) (s : EsStmt) → s ≡ stmt.Try body part last → x ≡ body → b ≡ gather a (each (map stmt_code x)) → c ≡ gather b (optional (option_map catch_code part)) → last ≡ None → c ≡ gather a (stmt_code s)
try_is a b c x body part last s is f g h k =
    sym (gather_nothing c)
    ∙ ap (λ l. gather c (optional_list (option_map (map stmt_code) l))) (sym k)
    ∙ ap (λ z. gather z (optional_list (option_map (map stmt_code) last))) (h ∙ ap (λ z. gather z (optional (option_map catch_code part))) (g ∙ ap (λ z. gather a (each (map stmt_code z))) f))
    ∙ sym (ap (λ z. gather a (stmt_code z)) is ∙ of_try a body part last)

pub gathered : (own : OwnNames) (ns : List (List ℕ)) (xs ys : List EsStmt) → ns ≡ [] → xs ≡ ys → own ≡ gather (own_names ns false) (each (map stmt_code xs)) → (own.names ≡ (own_code ys).names) × (own.arguments ≡ (own_code ys).arguments)
unfolding gather own_code
gathered own ns xs ys n x e = (
  ap (λ (o : OwnNames). o.names) e ∙ ap (λ ms. ms ++ (own_code xs).names) n ∙ ap (λ z. (own_code z).names) x,
  ap (λ (o : OwnNames). o.arguments) e ∙ ap (λ z. (own_code z).arguments) x,
)
