-- The test tells spellable scripts.
use Rattle.std.proofs.Common.{◌≡◌, ℕ, suc, ℤ, ◌<◌, ◌≤◌, ◌^◌, Bool, true, false, not, ◌&&◌, nat_eq, List, [], ◌∷◌, length, map, pos, Option, Some, None, refl, sym, ap, ◌∙◌, subst, arith, true≢false}
use Rattle.std.specs.Prelude.{◌↔◌, negsuc, nat_le}
use Rattle.std.specs.List.{list_all, AllByRecursion}
use Rattle.std.proofs.lemmas.Bool.{and_parts, leb-true, le-leb}
use Rattle.std.proofs.lemmas.Bool.Decides.{Decides-eqb}
use Rattle.grammar.proofs.Lists.{and_both}
use Rattle.es5_tree.specs.declared.tree.Catch.{Catch, Catch-F, out-Catch, roll-Catch, roll-out-Catch, fold-roll-Catch}
use Rattle.es5_tree.specs.declared.tree.EsExpr.{EsExpr, roll-EsExpr, fold-roll-EsExpr}
use Rattle.es5_tree.specs.declared.tree.EsKind.{EsKind, EsKind-F, out-EsKind, roll-EsKind, roll-out-EsKind, map-EsKind, fold-roll-EsKind}
use Rattle.es5_tree.specs.declared.tree.EsKind.TheVariants as kind
use Rattle.es5_tree.specs.declared.tree.EsStmt.{EsStmt, EsStmt-F, roll-EsStmt, map-EsStmt, fold-roll-EsStmt, ind-EsStmt}
use Rattle.es5_tree.specs.declared.tree.EsStmt.TheVariants as stmt
use Rattle.es5_tree.specs.declared.tree.Script.{Script}
use Rattle.es5_tree.specs.Grammar.Nodes.{is_member_form, is_target_form}
use Rattle.es5_spelling.specs.Spellable as s
use Rattle.es5_spelling.specs.Spellable.{AreExprs, AreStatements, is_binding, is_identifier, IsBinding, IsBindingIf, IsForm, IsIdentifier, IsStatement, IsText, none_twice, Spellable}
use Rattle.es5_spelling.proofs.Names.{not_true}
use Rattle.es5_spelling.specs.Test as test
use Rattle.es5_spelling.specs.Test.{Handler, Sentence, Tested, of_catch, of_expr, of_kind, of_stmt}

abbrev K-F : Type 0
K-F = EsKind-F EsKind EsStmt Catch EsExpr

abbrev S-F : Type 0
S-F = EsStmt-F EsKind EsStmt Catch EsExpr

abbrev tested_layer : K-F → EsKind-F Tested Sentence Handler Tested
tested_layer l = map-EsKind EsKind EsStmt Catch EsExpr Tested Sentence Handler Tested test.form test.statement test.caught test.expression l

abbrev sentence_layer : S-F → EsStmt-F Tested Sentence Handler Tested
sentence_layer l = map-EsStmt EsKind EsStmt Catch EsExpr Tested Sentence Handler Tested test.form test.statement test.caught test.expression l

expr_layer : (e : EsExpr) → test.expression e ≡ test.form e.kind
unfolding test.expression test.form
expr_layer e = fold-roll-EsExpr Tested Sentence Handler Tested of_kind of_stmt of_catch of_expr (record { kind = e.kind; origin = e.origin; pos = e.pos })

kind_layer : (l : K-F) → test.form (roll-EsKind l) ≡ of_kind (tested_layer l)
unfolding test.expression test.form test.statement test.caught
kind_layer l = fold-roll-EsKind Tested Sentence Handler Tested of_kind of_stmt of_catch of_expr l

stmt_layer : (l : S-F) → test.statement (roll-EsStmt l) ≡ of_stmt (sentence_layer l)
unfolding test.expression test.form test.statement test.caught
stmt_layer l = fold-roll-EsStmt Tested Sentence Handler Tested of_kind of_stmt of_catch of_expr l

catch_layer : (l : Catch-F EsKind EsStmt Catch EsExpr) → test.caught (roll-Catch l) ≡ (λ f l'. is_binding l.name && test.all_statements (map test.statement l.body) f l')
unfolding test.expression test.form test.statement test.caught
catch_layer l = fold-roll-Catch Tested Sentence Handler Tested of_kind of_stmt of_catch of_expr l

-- ---- members and targets

member_cases : (l : K-F) → (of_kind (tested_layer l)).1.0 ≡ is_member_form l
member_cases (EsKind-F.Member base name mark) = refl
member_cases (EsKind-F.Index base key mark) = refl
member_cases _ = refl

target_cases : (l : K-F) → (of_kind (tested_layer l)).1.1 ≡ is_target_form l
target_cases (EsKind-F.Name name) = refl
target_cases (EsKind-F.Member base name mark) = refl
target_cases (EsKind-F.Index base key mark) = refl
target_cases _ = refl

member_is : (e : EsExpr) → (test.expression e).1.0 ≡ is_member_form (out-EsKind e.kind)
member_is e = ap (λ x. x.1.0) (expr_layer e ∙ (ap test.form (sym (roll-out-EsKind e.kind)) ∙ kind_layer (out-EsKind e.kind))) ∙ member_cases (out-EsKind e.kind)

target_is : (e : EsExpr) → (test.expression e).1.1 ≡ is_target_form (out-EsKind e.kind)
target_is e = ap (λ x. x.1.1) (expr_layer e ∙ (ap test.form (sym (roll-out-EsKind e.kind)) ∙ kind_layer (out-EsKind e.kind))) ∙ target_cases (out-EsKind e.kind)

-- ---- names, numbers and texts

from_list : (p : List ℕ → Bool) (names : List (List ℕ)) → list_all p names ≡ true → AllByRecursion (λ n. p n ≡ true) names
from_list p [] h = tt
from_list p (n ∷ names) h = let both = and_parts (p n) (list_all p names) h in (both.0, from_list p names both.1)

to_list : (p : List ℕ → Bool) (names : List (List ℕ)) → AllByRecursion (λ n. p n ≡ true) names → list_all p names ≡ true
to_list p [] h = refl
to_list p (n ∷ names) h = and_both (p n) (list_all p names) h.0 (to_list p names h.1)

from_text : (text : List ℕ) → test.is_text text ≡ true → IsText text
from_text [] h = tt
from_text (u ∷ text) h =
    let both = and_parts (nat_le u 65535) (test.is_text text) h in
    let le : u ≤ 65535 = leb-true u 65535 both.0 in
    (omega (arith, le), from_text text both.1)

to_text : (text : List ℕ) → IsText text → test.is_text text ≡ true
to_text [] h = refl
to_text (u ∷ text) h = let small : u < 65536 = h.0 in and_both (nat_le u 65535) (test.is_text text) (le-leb u 65535 (omega (arith, small))) (to_text text h.1)

from_number : (v : ℤ) → test.is_numeral v ≡ true → IsForm (kind.Num v)
from_number (pos n) h = let le : n ≤ 9007199254740991 = leb-true n 9007199254740991 h in s.num n (omega (arith, le))
from_number (negsuc n) h = absurd (true≢false (sym h))

to_number : (n : ℕ) → n < 2 ^ 53 → test.is_numeral (pos n) ≡ true
to_number n h = le-leb n 9007199254740991 (omega (arith, h))

from_binding_if : (name : Option (List ℕ)) → test.is_binding_if name ≡ true → IsBindingIf name
from_binding_if None h = tt
from_binding_if (Some name) h = h

to_binding_if : (name : Option (List ℕ)) → IsBindingIf name → test.is_binding_if name ≡ true
to_binding_if None h = refl
to_binding_if (Some name) h = h

-- ---- what is tested is spellable

abbrev PK : EsKind → Type 0
PK k = (test.form k).0 ≡ true → IsForm k

abbrev PE : EsExpr → Type 0
PE e = (test.expression e).0 ≡ true → IsForm e.kind

abbrev PS : EsStmt → Type 0
PS t = (f l : Bool) → (test.statement t).1 f l ≡ true → IsStatement f l (test.statement t).0 t

abbrev PC : Catch → Type 0
PC c = (f l : Bool) → test.caught c f l ≡ true → IsBinding c.name × AreStatements f l c.body

abbrev OfE : Type 0
OfE = (e : EsExpr) × PE e

abbrev OfS : Type 0
OfS = (t : EsStmt) × PS t

exprs_from : (ys : List OfE) → test.all (map test.expression (map (λ y. y.0) ys)) ≡ true → AreExprs (map (λ y. y.0) ys)
exprs_from [] h = s.none
exprs_from (y ∷ ys) h =
    let both = and_parts (test.expression y.0).0 (test.all (map test.expression (map (λ y. y.0) ys))) h in
    s.more y.0 (map (λ y. y.0) ys) (y.1 both.0) (exprs_from ys both.1)

statements_from : (ys : List OfS) (f l : Bool) → test.all_statements (map test.statement (map (λ y. y.0) ys)) f l ≡ true → AreStatements f l (map (λ y. y.0) ys)
statements_from [] f l h = s.no_statement f l
statements_from (y ∷ ys) f l h =
    let both = and_parts ((test.statement y.0).1 f l) (test.all_statements (map test.statement (map (λ y. y.0) ys)) f l) h in
    s.statement f l (test.statement y.0).0 y.0 (map (λ y. y.0) ys) (y.1 f l both.0) (statements_from ys f l both.1)

as_long : (es : List EsExpr) → length (map test.expression es) ≡ length es
as_long [] = refl
as_long (e ∷ es) = ap suc (as_long es)

layer_true : (l : K-F) → (test.form (roll-EsKind l)).0 ≡ true → (of_kind (tested_layer l)).0 ≡ true
layer_true l h = sym (ap (λ x. x.0) (kind_layer l)) ∙ h

abbrev firsts : EsKind-F ((k : EsKind) × PK k) OfS ((c : Catch) × PC c) OfE → K-F
firsts y = map-EsKind ((k : EsKind) × PK k) OfS ((c : Catch) × PC c) OfE EsKind EsStmt Catch EsExpr (λ y. y.0) (λ y. y.0) (λ y. y.0) (λ y. y.0) y

kind_case : (y : EsKind-F ((k : EsKind) × PK k) OfS ((c : Catch) × PC c) OfE) → (of_kind (tested_layer (firsts y))).0 ≡ true → IsForm (roll-EsKind (firsts y))
kind_case (EsKind-F.Num v) h = subst IsForm (sym (kind.rolls-Num v)) (from_number v h)
kind_case (EsKind-F.Str t) h = subst IsForm (sym (kind.rolls-Str t)) (s.str t (from_text t h))
kind_case EsKind-F.True h = subst IsForm (sym kind.rolls-True) s.true_
kind_case EsKind-F.False h = subst IsForm (sym kind.rolls-False) s.false_
kind_case EsKind-F.Null h = subst IsForm (sym kind.rolls-Null) s.null
kind_case EsKind-F.This h = subst IsForm (sym kind.rolls-This) s.this
kind_case (EsKind-F.Name n) h = subst IsForm (sym (kind.rolls-Name n)) (s.name n h)
kind_case (EsKind-F.Array ys) h = subst IsForm (sym (kind.rolls-Array (map (λ y. y.0) ys))) (s.array (map (λ y. y.0) ys) (exprs_from ys h))
kind_case (EsKind-F.Object ks ys) h =
    let es : List EsExpr = map (λ y. y.0) ys in
    let outer = and_parts (test.are_keys ks && nat_eq (length ks) (length (map test.expression es))) (test.all (map test.expression es)) h in
    let inner = and_parts (test.are_keys ks) (nat_eq (length ks) (length (map test.expression es))) outer.0 in
    let keys = and_parts (list_all is_identifier ks) (none_twice ks) inner.0 in
    subst IsForm (sym (kind.rolls-Object ks es)) (s.object ks es (from_list is_identifier ks keys.0) keys.1 ((Decides-eqb (length ks) (length (map test.expression es))).0 inner.1 ∙ as_long es) (exprs_from ys outer.1))
kind_case (EsKind-F.Function n ps ys) h =
    let body : List EsStmt = map (λ y. y.0) ys in
    let outer = and_parts (test.is_binding_if n && test.are_params ps) (test.all_statements (map test.statement body) true false) h in
    let inner = and_parts (test.is_binding_if n) (test.are_params ps) outer.0 in
    let params = and_parts (list_all is_binding ps) (none_twice ps) inner.1 in
    subst IsForm (sym (kind.rolls-Function n ps body)) (s.function n ps body (from_binding_if n inner.0) (from_list is_binding ps params.0) params.1 (statements_from ys true false outer.1))
kind_case (EsKind-F.Member y n m) h =
    let both = and_parts (test.expression y.0).0 (is_identifier n) h in
    subst IsForm (sym (kind.rolls-Member y.0 n m)) (s.member y.0 n m (y.1 both.0) both.1)
kind_case (EsKind-F.Index y z m) h =
    let both = and_parts (test.expression y.0).0 (test.expression z.0).0 h in
    subst IsForm (sym (kind.rolls-Index y.0 z.0 m)) (s.index y.0 z.0 m (y.1 both.0) (z.1 both.1))
kind_case (EsKind-F.Call y zs) h =
    let args : List EsExpr = map (λ y. y.0) zs in
    let both = and_parts (test.expression y.0).0 (test.all (map test.expression args)) h in
    subst IsForm (sym (kind.rolls-Call y.0 args)) (s.call y.0 args (y.1 both.0) (exprs_from zs both.1))
kind_case (EsKind-F.Not y) h = subst IsForm (sym (kind.rolls-Not y.0)) (s.not_ y.0 (y.1 h))
kind_case (EsKind-F.Neg y) h = subst IsForm (sym (kind.rolls-Neg y.0)) (s.neg y.0 (y.1 h))
kind_case (EsKind-F.Typeof y) h = subst IsForm (sym (kind.rolls-Typeof y.0)) (s.typeof y.0 (y.1 h))
kind_case (EsKind-F.Delete y) h =
    let both = and_parts (test.expression y.0).1.0 (test.expression y.0).0 h in
    subst IsForm (sym (kind.rolls-Delete y.0)) (s.delete y.0 (sym (member_is y.0) ∙ both.0) (y.1 both.1))
kind_case (EsKind-F.Binary o y z) h =
    let both = and_parts (test.expression y.0).0 (test.expression z.0).0 h in
    subst IsForm (sym (kind.rolls-Binary o y.0 z.0)) (s.binary o y.0 z.0 (y.1 both.0) (z.1 both.1))
kind_case (EsKind-F.And y z) h =
    let both = and_parts (test.expression y.0).0 (test.expression z.0).0 h in
    subst IsForm (sym (kind.rolls-And y.0 z.0)) (s.and y.0 z.0 (y.1 both.0) (z.1 both.1))
kind_case (EsKind-F.Or y z) h =
    let both = and_parts (test.expression y.0).0 (test.expression z.0).0 h in
    subst IsForm (sym (kind.rolls-Or y.0 z.0)) (s.or y.0 z.0 (y.1 both.0) (z.1 both.1))
kind_case (EsKind-F.Cond x y z) h =
    let outer = and_parts ((test.expression x.0).0 && (test.expression y.0).0) (test.expression z.0).0 h in
    let inner = and_parts (test.expression x.0).0 (test.expression y.0).0 outer.0 in
    subst IsForm (sym (kind.rolls-Cond x.0 y.0 z.0)) (s.cond x.0 y.0 z.0 (x.1 inner.0) (y.1 inner.1) (z.1 outer.1))
kind_case (EsKind-F.Assign y z) h =
    let outer = and_parts ((test.expression y.0).1.1 && (test.expression y.0).0) (test.expression z.0).0 h in
    let inner = and_parts (test.expression y.0).1.1 (test.expression y.0).0 outer.0 in
    subst IsForm (sym (kind.rolls-Assign y.0 z.0)) (s.assign y.0 z.0 (sym (target_is y.0) ∙ inner.0) (y.1 inner.1) (z.1 outer.1))

abbrev stmt_firsts : EsStmt-F ((k : EsKind) × PK k) OfS ((c : Catch) × PC c) OfE → S-F
stmt_firsts y = map-EsStmt ((k : EsKind) × PK k) OfS ((c : Catch) × PC c) OfE EsKind EsStmt Catch EsExpr (λ y. y.0) (λ y. y.0) (λ y. y.0) (λ y. y.0) y

-- the same of a statement
abbrev Ends : Bool → Bool → S-F → Type 0
Ends f l x = IsStatement f l (of_stmt (sentence_layer x)).0 (roll-EsStmt x)

stmt_case : (y : EsStmt-F ((k : EsKind) × PK k) OfS ((c : Catch) × PC c) OfE) (f l : Bool) → (of_stmt (sentence_layer (stmt_firsts y))).1 f l ≡ true → Ends f l (stmt_firsts y)
stmt_case (EsStmt-F.Var n None) f l h =
    let both = and_parts (is_binding n) true h in
    subst (IsStatement f l false) (sym (stmt.rolls-Var n None)) (s.var f l n both.0)
stmt_case (EsStmt-F.Var n (Some y)) f l h =
    let both = and_parts (is_binding n) (test.expression y.0).0 h in
    subst (IsStatement f l false) (sym (stmt.rolls-Var n (Some y.0))) (s.var_set f l n y.0 both.0 (y.1 both.1))
stmt_case (EsStmt-F.Expr y) f l h = subst (IsStatement f l false) (sym (stmt.rolls-Expr y.0)) (s.expr f l y.0 (y.1 h))
stmt_case (EsStmt-F.Block ys) f l h = subst (IsStatement f l false) (sym (stmt.rolls-Block (map (λ y. y.0) ys))) (s.block f l (map (λ y. y.0) ys) (statements_from ys f l h))
stmt_case (EsStmt-F.If x y None) f l h =
    let outer = and_parts ((test.expression x.0).0 && (test.statement y.0).1 f l) true h in
    let inner = and_parts (test.expression x.0).0 ((test.statement y.0).1 f l) outer.0 in
    subst (IsStatement f l true) (sym (stmt.rolls-If x.0 y.0 None)) (s.if_ f l (test.statement y.0).0 x.0 y.0 (x.1 inner.0) (y.1 f l inner.1))
stmt_case (EsStmt-F.If x y (Some z)) f l h =
    let outer = and_parts ((test.expression x.0).0 && (test.statement y.0).1 f l) (not (test.statement y.0).0 && (test.statement z.0).1 f l) h in
    let inner = and_parts (test.expression x.0).0 ((test.statement y.0).1 f l) outer.0 in
    let behind = and_parts (not (test.statement y.0).0) ((test.statement z.0).1 f l) outer.1 in
    let first : IsStatement f l false y.0 = subst (λ b. IsStatement f l b y.0) (not_true (test.statement y.0).0 behind.0) (y.1 f l inner.1) in
    subst (IsStatement f l (test.statement z.0).0) (sym (stmt.rolls-If x.0 y.0 (Some z.0))) (s.if_else f l (test.statement z.0).0 x.0 y.0 z.0 (x.1 inner.0) first (z.1 f l behind.1))
stmt_case (EsStmt-F.While x y) f l h =
    let both = and_parts (test.expression x.0).0 ((test.statement y.0).1 f true) h in
    subst (IsStatement f l (test.statement y.0).0) (sym (stmt.rolls-While x.0 y.0)) (s.while f l (test.statement y.0).0 x.0 y.0 (x.1 both.0) (y.1 f true both.1))
stmt_case (EsStmt-F.Return None) true l h = subst (IsStatement true l false) (sym (stmt.rolls-Return None)) (s.return l)
stmt_case (EsStmt-F.Return None) false l h = absurd (true≢false (sym h))
stmt_case (EsStmt-F.Return (Some y)) true l h = subst (IsStatement true l false) (sym (stmt.rolls-Return (Some y.0))) (s.return_value l y.0 (y.1 h))
stmt_case (EsStmt-F.Return (Some y)) false l h = absurd (true≢false (sym h))
stmt_case EsStmt-F.Break f true h = subst (IsStatement f true false) (sym stmt.rolls-Break) (s.break f)
stmt_case EsStmt-F.Break f false h = absurd (true≢false (sym h))
stmt_case EsStmt-F.Continue f true h = subst (IsStatement f true false) (sym stmt.rolls-Continue) (s.continue f)
stmt_case EsStmt-F.Continue f false h = absurd (true≢false (sym h))
stmt_case (EsStmt-F.Throw y) f l h = subst (IsStatement f l false) (sym (stmt.rolls-Throw y.0)) (s.throw f l y.0 (y.1 h))
stmt_case (EsStmt-F.Try ys None None) f l h = absurd (true≢false (sym h))
stmt_case (EsStmt-F.Try ys (Some c) None) f l h =
    let body : List EsStmt = map (λ y. y.0) ys in
    let outer = and_parts (test.all_statements (map test.statement body) f l && test.caught c.0 f l) true h in
    let inner = and_parts (test.all_statements (map test.statement body) f l) (test.caught c.0 f l) outer.0 in
    let handler = c.1 f l inner.1 in
    subst (IsStatement f l false) (sym (stmt.rolls-Try body (Some c.0) None)) (s.try_catch f l body c.0 (statements_from ys f l inner.0) handler.0 handler.1)
stmt_case (EsStmt-F.Try ys None (Some zs)) f l h =
    let body : List EsStmt = map (λ y. y.0) ys in
    let last : List EsStmt = map (λ y. y.0) zs in
    let outer = and_parts (test.all_statements (map test.statement body) f l && true) (test.all_statements (map test.statement last) f l) h in
    let inner = and_parts (test.all_statements (map test.statement body) f l) true outer.0 in
    subst (IsStatement f l false) (sym (stmt.rolls-Try body None (Some last))) (s.try_finally f l body last (statements_from ys f l inner.0) (statements_from zs f l outer.1))
stmt_case (EsStmt-F.Try ys (Some c) (Some zs)) f l h =
    let body : List EsStmt = map (λ y. y.0) ys in
    let last : List EsStmt = map (λ y. y.0) zs in
    let outer = and_parts (test.all_statements (map test.statement body) f l && test.caught c.0 f l) (test.all_statements (map test.statement last) f l) h in
    let inner = and_parts (test.all_statements (map test.statement body) f l) (test.caught c.0 f l) outer.0 in
    let handler = c.1 f l inner.1 in
    subst (IsStatement f l false) (sym (stmt.rolls-Try body (Some c.0) (Some last))) (s.try_both f l body c.0 last (statements_from ys f l inner.0) handler.0 handler.1 (statements_from zs f l outer.1))
stmt_case EsStmt-F.Empty f l h = subst (IsStatement f l false) (sym stmt.rolls-Empty) (s.empty f l)

rolled_stmt : (x : S-F) → ((f l : Bool) → (of_stmt (sentence_layer x)).1 f l ≡ true → Ends f l x) → PS (roll-EsStmt x)
rolled_stmt x h f l e =
    subst (λ b. IsStatement f l b (roll-EsStmt x)) (sym (ap (λ y. y.0) (stmt_layer x))) (h f l (sym (ap (λ y. y.1 f l) (stmt_layer x)) ∙ e))

rolled_catch : (name : List ℕ) (ys : List OfS) → PC (roll-Catch (record { name = name; body = map (λ y. y.0) ys }))
rolled_catch name ys f l e =
    let body : List EsStmt = map (λ y. y.0) ys in
    let both = and_parts (is_binding name) (test.all_statements (map test.statement body) f l) (sym (ap (λ y. y f l) (catch_layer (record { name = name; body = body }))) ∙ e) in
    (both.0, statements_from ys f l both.1)

tested_statements : (t : EsStmt) → PS t
tested_statements = ind-EsStmt PK PS PC PE
    (λ x y is. subst (λ z. PK (roll-EsKind z)) is (λ h. kind_case y (layer_true (firsts y) h)))
    (λ x y is. subst (λ z. PS (roll-EsStmt z)) is (rolled_stmt (stmt_firsts y) (stmt_case y)))
    (λ x y is. subst (λ z. PC (roll-Catch z)) is (rolled_catch y.name y.body))
    (λ x y is. subst (λ z. PE (roll-EsExpr z)) is (λ h. (y.kind).1 (sym (ap (λ x. x.0) (expr_layer (roll-EsExpr (record { kind = (y.kind).0; origin = y.origin; pos = y.pos })))) ∙ h)))

all_tested : (ss : List EsStmt) (f l : Bool) → test.all_statements (map test.statement ss) f l ≡ true → AreStatements f l ss
all_tested [] f l h = s.no_statement f l
all_tested (t ∷ ss) f l h =
    let both = and_parts ((test.statement t).1 f l) (test.all_statements (map test.statement ss) f l) h in
    s.statement f l (test.statement t).0 t ss (tested_statements t f l both.0) (all_tested ss f l both.1)

-- ---- what is spellable is tested so

tested_as : (k : EsKind) (l : K-F) → roll-EsKind l ≡ k → (of_kind (tested_layer l)).0 ≡ true → (test.form k).0 ≡ true
tested_as k l e h = ap (λ x. (test.form x).0) (sym e) ∙ (ap (λ x. x.0) (kind_layer l) ∙ h)

expr_tested : (e : EsExpr) → (test.form e.kind).0 ≡ true → (test.expression e).0 ≡ true
expr_tested e h = ap (λ x. x.0) (expr_layer e) ∙ h

-- how it ends, and that it is spellable there
abbrev Passes : Bool → Bool → Bool → EsStmt → Type 0
Passes f l short t = ((test.statement t).0 ≡ short) × ((test.statement t).1 f l ≡ true)

passes_as : (f l short : Bool) (t : EsStmt) (x : S-F) → roll-EsStmt x ≡ t → (of_stmt (sentence_layer x)).0 ≡ short → (of_stmt (sentence_layer x)).1 f l ≡ true → Passes f l short t
passes_as f l short t x e n h = let same : test.statement t ≡ of_stmt (sentence_layer x) = ap test.statement (sym e) ∙ stmt_layer x in (ap (λ y. y.0) same ∙ n, ap (λ y. y.1 f l) same ∙ h)

caught_tested : (f l : Bool) (c : Catch) → IsBinding c.name → test.all_statements (map test.statement c.body) f l ≡ true → test.caught c f l ≡ true
caught_tested f l c i h =
    ap (λ x. test.caught x f l) (sym (roll-out-Catch c))
    ∙ (ap (λ y. y f l) (catch_layer (out-Catch c)) ∙ and_both (is_binding c.name) (test.all_statements (map test.statement c.body) f l) i h)

-- three tests in a row
all_three : (a b c : Bool) → a ≡ true → b ≡ true → c ≡ true → (a && b && c) ≡ true
all_three a b c h i j = and_both (a && b) c (and_both a b h i) j

mutual
  kinds : (k : EsKind) → IsForm k → (test.form k).0 ≡ true
  kinds _ (s.num n h) = tested_as _ (EsKind-F.Num (pos n)) (kind.rolls-Num (pos n)) (to_number n h)
  kinds _ (s.str t h) = tested_as _ (EsKind-F.Str t) (kind.rolls-Str t) (to_text t h)
  kinds _ s.true_ = tested_as _ EsKind-F.True kind.rolls-True refl
  kinds _ s.false_ = tested_as _ EsKind-F.False kind.rolls-False refl
  kinds _ s.null = tested_as _ EsKind-F.Null kind.rolls-Null refl
  kinds _ s.this = tested_as _ EsKind-F.This kind.rolls-This refl
  kinds _ (s.name n h) = tested_as _ (EsKind-F.Name n) (kind.rolls-Name n) h
  kinds _ (s.array es h) = tested_as _ (EsKind-F.Array es) (kind.rolls-Array es) (exprs es h)
  kinds _ (s.object ks es i t n h) =
      tested_as _ (EsKind-F.Object ks es) (kind.rolls-Object ks es)
      (all_three (test.are_keys ks) (nat_eq (length ks) (length (map test.expression es))) (test.all (map test.expression es)) (and_both (list_all is_identifier ks) (none_twice ks) (to_list is_identifier ks i) t)
      ((Decides-eqb (length ks) (length (map test.expression es))).1 (n ∙ sym (as_long es))) (exprs es h))
  kinds _ (s.function n ps b i j t h) =
      tested_as _ (EsKind-F.Function n ps b) (kind.rolls-Function n ps b)
      (all_three (test.is_binding_if n) (test.are_params ps) (test.all_statements (map test.statement b) true false) (to_binding_if n i) (and_both (list_all is_binding ps) (none_twice ps) (to_list is_binding ps j) t) (bodies true false b h))
  kinds _ (s.member e n m h i) = tested_as _ (EsKind-F.Member e n m) (kind.rolls-Member e n m) (and_both (test.expression e).0 (is_identifier n) (expr_tested e (kinds e.kind h)) i)
  kinds _ (s.index e k m h i) = tested_as _ (EsKind-F.Index e k m) (kind.rolls-Index e k m) (and_both (test.expression e).0 (test.expression k).0 (expr_tested e (kinds e.kind h)) (expr_tested k (kinds k.kind i)))
  kinds _ (s.call e es h i) = tested_as _ (EsKind-F.Call e es) (kind.rolls-Call e es) (and_both (test.expression e).0 (test.all (map test.expression es)) (expr_tested e (kinds e.kind h)) (exprs es i))
  kinds _ (s.not_ e h) = tested_as _ (EsKind-F.Not e) (kind.rolls-Not e) (expr_tested e (kinds e.kind h))
  kinds _ (s.neg e h) = tested_as _ (EsKind-F.Neg e) (kind.rolls-Neg e) (expr_tested e (kinds e.kind h))
  kinds _ (s.typeof e h) = tested_as _ (EsKind-F.Typeof e) (kind.rolls-Typeof e) (expr_tested e (kinds e.kind h))
  kinds _ (s.delete e m h) = tested_as _ (EsKind-F.Delete e) (kind.rolls-Delete e) (and_both (test.expression e).1.0 (test.expression e).0 (member_is e ∙ m) (expr_tested e (kinds e.kind h)))
  kinds _ (s.binary o e k h i) = tested_as _ (EsKind-F.Binary o e k) (kind.rolls-Binary o e k) (and_both (test.expression e).0 (test.expression k).0 (expr_tested e (kinds e.kind h)) (expr_tested k (kinds k.kind i)))
  kinds _ (s.and e k h i) = tested_as _ (EsKind-F.And e k) (kind.rolls-And e k) (and_both (test.expression e).0 (test.expression k).0 (expr_tested e (kinds e.kind h)) (expr_tested k (kinds k.kind i)))
  kinds _ (s.or e k h i) = tested_as _ (EsKind-F.Or e k) (kind.rolls-Or e k) (and_both (test.expression e).0 (test.expression k).0 (expr_tested e (kinds e.kind h)) (expr_tested k (kinds k.kind i)))
  kinds _ (s.cond t e k g h i) =
      tested_as _ (EsKind-F.Cond t e k) (kind.rolls-Cond t e k)
      (all_three (test.expression t).0 (test.expression e).0 (test.expression k).0 (expr_tested t (kinds t.kind g)) (expr_tested e (kinds e.kind h)) (expr_tested k (kinds k.kind i)))
  kinds _ (s.assign e k m h i) =
      tested_as _ (EsKind-F.Assign e k) (kind.rolls-Assign e k)
      (all_three (test.expression e).1.1 (test.expression e).0 (test.expression k).0 (target_is e ∙ m) (expr_tested e (kinds e.kind h)) (expr_tested k (kinds k.kind i)))

  exprs : (es : List EsExpr) → AreExprs es → test.all (map test.expression es) ≡ true
  exprs _ s.none = refl
  exprs _ (s.more e es h i) = and_both (test.expression e).0 (test.all (map test.expression es)) (expr_tested e (kinds e.kind h)) (exprs es i)

  statements : (f l short : Bool) (t : EsStmt) → IsStatement f l short t → Passes f l short t
  statements _ _ _ _ (s.var f l n i) = passes_as f l false _ (EsStmt-F.Var n None) (stmt.rolls-Var n None) refl (and_both (is_binding n) true i refl)
  statements _ _ _ _ (s.var_set f l n e i h) = passes_as f l false _ (EsStmt-F.Var n (Some e)) (stmt.rolls-Var n (Some e)) refl (and_both (is_binding n) (test.expression e).0 i (expr_tested e (kinds e.kind h)))
  statements _ _ _ _ (s.expr f l e h) = passes_as f l false _ (EsStmt-F.Expr e) (stmt.rolls-Expr e) refl (expr_tested e (kinds e.kind h))
  statements _ _ _ _ (s.block f l b h) = passes_as f l false _ (EsStmt-F.Block b) (stmt.rolls-Block b) refl (bodies f l b h)
  statements _ _ _ _ (s.if_ f l short e a h i) =
      passes_as f l true _ (EsStmt-F.If e a None) (stmt.rolls-If e a None) refl (all_three (test.expression e).0 ((test.statement a).1 f l) true (expr_tested e (kinds e.kind h)) (statements f l short a i).1 refl)
  statements _ _ _ _ (s.if_else f l short e a b h i j) =
      passes_as f l short _ (EsStmt-F.If e a (Some b)) (stmt.rolls-If e a (Some b)) (statements f l short b j).0
      (all_three (test.expression e).0 ((test.statement a).1 f l) (not (test.statement a).0 && (test.statement b).1 f l) (expr_tested e (kinds e.kind h)) (statements f l false a i).1
      (and_both (not (test.statement a).0) ((test.statement b).1 f l) (ap not (statements f l false a i).0) (statements f l short b j).1))
  statements _ _ _ _ (s.while f l short e a h i) =
      passes_as f l short _ (EsStmt-F.While e a) (stmt.rolls-While e a) (statements f true short a i).0 (and_both (test.expression e).0 ((test.statement a).1 f true) (expr_tested e (kinds e.kind h)) (statements f true short a i).1)
  statements _ _ _ _ (s.return l) = passes_as true l false _ (EsStmt-F.Return None) (stmt.rolls-Return None) refl refl
  statements _ _ _ _ (s.return_value l e h) = passes_as true l false _ (EsStmt-F.Return (Some e)) (stmt.rolls-Return (Some e)) refl (expr_tested e (kinds e.kind h))
  statements _ _ _ _ (s.break f) = passes_as f true false _ EsStmt-F.Break stmt.rolls-Break refl refl
  statements _ _ _ _ (s.continue f) = passes_as f true false _ EsStmt-F.Continue stmt.rolls-Continue refl refl
  statements _ _ _ _ (s.throw f l e h) = passes_as f l false _ (EsStmt-F.Throw e) (stmt.rolls-Throw e) refl (expr_tested e (kinds e.kind h))
  statements _ _ _ _ (s.try_catch f l b c h i j) =
      passes_as f l false _ (EsStmt-F.Try b (Some c) None) (stmt.rolls-Try b (Some c) None) refl
      (all_three (test.all_statements (map test.statement b) f l) (test.caught c f l) true (bodies f l b h) (caught_tested f l c i (bodies f l c.body j)) refl)
  statements _ _ _ _ (s.try_finally f l b m h i) =
      passes_as f l false _ (EsStmt-F.Try b None (Some m)) (stmt.rolls-Try b None (Some m)) refl
      (all_three (test.all_statements (map test.statement b) f l) true (test.all_statements (map test.statement m) f l) (bodies f l b h) refl (bodies f l m i))
  statements _ _ _ _ (s.try_both f l b c m h i j k) =
      passes_as f l false _ (EsStmt-F.Try b (Some c) (Some m)) (stmt.rolls-Try b (Some c) (Some m)) refl
      (all_three (test.all_statements (map test.statement b) f l) (test.caught c f l) (test.all_statements (map test.statement m) f l) (bodies f l b h) (caught_tested f l c i (bodies f l c.body j)) (bodies f l m k))
  statements _ _ _ _ (s.empty f l) = passes_as f l false _ EsStmt-F.Empty stmt.rolls-Empty refl refl

  bodies : (f l : Bool) (ss : List EsStmt) → AreStatements f l ss → test.all_statements (map test.statement ss) f l ≡ true
  bodies _ _ _ (s.no_statement f l) = refl
  bodies _ _ _ (s.statement f l short t ss h i) = and_both ((test.statement t).1 f l) (test.all_statements (map test.statement ss) f l) (statements f l short t h).1 (bodies f l ss i)

-- the test passes exactly the spellable scripts
pub script_tested : (script : Script) (result : Bool) → result ≡ test.script script → (result ≡ true) ↔ Spellable script
script_tested script result e = (λ h. all_tested script.body false false (sym e ∙ h), λ h. e ∙ bodies false false script.body h)
