-- Trees without their sites and places, layer by layer; and that a fold which looks at neither finds the same in them.
use Rattle.std.proofs.Common.{◌≡◌, List, map, Some, None, refl, sym, ap, ◌∙◌, subst}
use Rattle.std.proofs.lemmas.Simd.{map-map}
use Rattle.es5_tree.specs.declared.tree.Catch.{Catch, Catch-F, out-Catch, roll-Catch, roll-out-Catch, map-Catch, fold-Catch, fold-roll-Catch}
use Rattle.es5_tree.specs.declared.tree.EsExpr.{EsExpr, EsExpr-F, roll-EsExpr, fold-EsExpr, fold-roll-EsExpr}
use Rattle.es5_tree.specs.declared.tree.EsKind.{EsKind, EsKind-F, out-EsKind, roll-EsKind, out-roll-EsKind, roll-out-EsKind, map-EsKind, fold-EsKind, fold-roll-EsKind}
use Rattle.es5_tree.specs.declared.tree.EsKind.TheVariants as kind
use Rattle.es5_tree.specs.declared.tree.EsStmt.{EsStmt, EsStmt-F, out-EsStmt, roll-EsStmt, out-roll-EsStmt, roll-out-EsStmt, map-EsStmt, fold-EsStmt, fold-roll-EsStmt, ind-EsStmt}
use Rattle.es5_tree.specs.Grammar.Spelling.{bare_kind, bare_stmt, no_place}

-- ---- layers of trees

abbrev pub KindLayer : Type 0
KindLayer = EsKind-F EsKind EsStmt Catch EsExpr

abbrev pub StmtLayer : Type 0
StmtLayer = EsStmt-F EsKind EsStmt Catch EsExpr

abbrev pub CatchLayer : Type 0
CatchLayer = Catch-F EsKind EsStmt Catch EsExpr

-- an expression of this form without its site and place
abbrev pub at_no_place : {K S C E : Type 0} → EsExpr-F K S C E → EsExpr-F K S C E
at_no_place e = record { kind = e.kind; origin = None; pos = no_place }

-- the same form without the place in it
abbrev pub placeless : {K S C E : Type 0} → EsKind-F K S C E → EsKind-F K S C E
placeless (EsKind-F.Member base name mark) = EsKind-F.Member base name no_place
placeless (EsKind-F.Index base key mark) = EsKind-F.Index base key no_place
placeless form = form

-- ---- bare trees

unfoldable pub bare_form : EsKind → EsKind
bare_form = fold-EsKind EsKind EsStmt Catch EsExpr bare_kind roll-EsStmt roll-Catch (λ e. record { kind = e.kind; origin = None; pos = no_place })

unfoldable pub bare_catch : Catch → Catch
bare_catch = fold-Catch EsKind EsStmt Catch EsExpr bare_kind roll-EsStmt roll-Catch (λ e. record { kind = e.kind; origin = None; pos = no_place })

unfoldable pub bare_expr : EsExpr → EsExpr
bare_expr = fold-EsExpr EsKind EsStmt Catch EsExpr bare_kind roll-EsStmt roll-Catch (λ e. record { kind = e.kind; origin = None; pos = no_place })

abbrev pub bare_layer : KindLayer → KindLayer
bare_layer l = map-EsKind EsKind EsStmt Catch EsExpr EsKind EsStmt Catch EsExpr bare_form bare_stmt bare_catch bare_expr l

abbrev pub bare_stmt_layer : StmtLayer → StmtLayer
bare_stmt_layer l = map-EsStmt EsKind EsStmt Catch EsExpr EsKind EsStmt Catch EsExpr bare_form bare_stmt bare_catch bare_expr l

pub expr_layer : (e : EsExpr) → bare_expr e ≡ record { kind = bare_form e.kind; origin = None; pos = no_place }
unfolding bare_expr bare_form
expr_layer e = fold-roll-EsExpr EsKind EsStmt Catch EsExpr bare_kind roll-EsStmt roll-Catch (λ e. record { kind = e.kind; origin = None; pos = no_place }) (record { kind = e.kind; origin = e.origin; pos = e.pos })

-- the layer, with its place still in it
pub form_layer : (l : KindLayer) → bare_form (roll-EsKind l) ≡ bare_kind (bare_layer l)
unfolding bare_expr bare_form bare_stmt bare_catch
form_layer l = fold-roll-EsKind EsKind EsStmt Catch EsExpr bare_kind roll-EsStmt roll-Catch (λ e. record { kind = e.kind; origin = None; pos = no_place }) l

bare_kind_is : (l : KindLayer) → bare_kind l ≡ roll-EsKind (placeless l)
bare_kind_is (EsKind-F.Member base name mark) = sym (kind.rolls-Member base name no_place)
bare_kind_is (EsKind-F.Index base key mark) = sym (kind.rolls-Index base key no_place)
bare_kind_is _ = refl

pub kind_layer : (l : KindLayer) → bare_form (roll-EsKind l) ≡ roll-EsKind (placeless (bare_layer l))
kind_layer l = form_layer l ∙ bare_kind_is (bare_layer l)

pub stmt_layer : (l : StmtLayer) → bare_stmt (roll-EsStmt l) ≡ roll-EsStmt (bare_stmt_layer l)
unfolding bare_expr bare_form bare_stmt bare_catch
stmt_layer l = fold-roll-EsStmt EsKind EsStmt Catch EsExpr bare_kind roll-EsStmt roll-Catch (λ e. record { kind = e.kind; origin = None; pos = no_place }) l

pub catch_layer : (l : CatchLayer) → bare_catch (roll-Catch l) ≡ roll-Catch (record { name = l.name; body = map bare_stmt l.body })
unfolding bare_expr bare_form bare_stmt bare_catch
catch_layer l = fold-roll-Catch EsKind EsStmt Catch EsExpr bare_kind roll-EsStmt roll-Catch (λ e. record { kind = e.kind; origin = None; pos = no_place }) l

-- ---- the layer of a bare tree

pub out_bare : (k : EsKind) → out-EsKind (bare_form k) ≡ placeless (bare_layer (out-EsKind k))
out_bare k = ap (λ x. out-EsKind (bare_form x)) (sym (roll-out-EsKind k)) ∙ (ap out-EsKind (kind_layer (out-EsKind k)) ∙ out-roll-EsKind (placeless (bare_layer (out-EsKind k))))

pub out_bare_stmt : (t : EsStmt) → out-EsStmt (bare_stmt t) ≡ bare_stmt_layer (out-EsStmt t)
out_bare_stmt t = ap (λ x. out-EsStmt (bare_stmt x)) (sym (roll-out-EsStmt t)) ∙ (ap out-EsStmt (stmt_layer (out-EsStmt t)) ∙ out-roll-EsStmt (bare_stmt_layer (out-EsStmt t)))

pub bare_catch_is : (c : Catch) → bare_catch c ≡ roll-Catch (record { name = c.name; body = map bare_stmt c.body })
bare_catch_is c = ap bare_catch (sym (roll-out-Catch c)) ∙ catch_layer (out-Catch c)

-- ---- one function after another, in each part of a layer

module _ (K S C E K' S' C' E' K2 S2 C2 E2 : Type 0) (fk : K → K') (fs : S → S') (fc : C → C') (fe : E → E') (gk : K' → K2) (gs : S' → S2) (gc : C' → C2) (ge : E' → E2) where
  kind_composed : (l : EsKind-F K S C E) → map-EsKind K' S' C' E' K2 S2 C2 E2 gk gs gc ge (map-EsKind K S C E K' S' C' E' fk fs fc fe l) ≡ map-EsKind K S C E K2 S2 C2 E2 (λ x. gk (fk x)) (λ x. gs (fs x)) (λ x. gc (fc x)) (λ x. ge (fe x)) l
  kind_composed (EsKind-F.Array items) = ap EsKind-F.Array (map-map ge fe items)
  kind_composed (EsKind-F.Object keys values) = ap (EsKind-F.Object keys) (map-map ge fe values)
  kind_composed (EsKind-F.Function name params body) = ap (EsKind-F.Function name params) (map-map gs fs body)
  kind_composed (EsKind-F.Call callee args) = ap (EsKind-F.Call (ge (fe callee))) (map-map ge fe args)
  kind_composed _ = refl

  stmt_composed : (l : EsStmt-F K S C E) → map-EsStmt K' S' C' E' K2 S2 C2 E2 gk gs gc ge (map-EsStmt K S C E K' S' C' E' fk fs fc fe l) ≡ map-EsStmt K S C E K2 S2 C2 E2 (λ x. gk (fk x)) (λ x. gs (fs x)) (λ x. gc (fc x)) (λ x. ge (fe x)) l
  stmt_composed (EsStmt-F.Var name None) = refl
  stmt_composed (EsStmt-F.Var name (Some value)) = refl
  stmt_composed (EsStmt-F.Block body) = ap EsStmt-F.Block (map-map gs fs body)
  stmt_composed (EsStmt-F.If test first None) = refl
  stmt_composed (EsStmt-F.If test first (Some second)) = refl
  stmt_composed (EsStmt-F.Return None) = refl
  stmt_composed (EsStmt-F.Return (Some value)) = refl
  stmt_composed (EsStmt-F.Try body None None) = ap (λ b. EsStmt-F.Try b None None) (map-map gs fs body)
  stmt_composed (EsStmt-F.Try body None (Some last)) = λ i. EsStmt-F.Try (map-map gs fs body i) None (Some (map-map gs fs last i))
  stmt_composed (EsStmt-F.Try body (Some catch) None) = ap (λ b. EsStmt-F.Try b (Some (gc (fc catch))) None) (map-map gs fs body)
  stmt_composed (EsStmt-F.Try body (Some catch) (Some last)) = λ i. EsStmt-F.Try (map-map gs fs body i) (Some (gc (fc catch))) (Some (map-map gs fs last i))
  stmt_composed _ = refl

-- the parts of a layer may be changed before or behind its place
placeless_mapped : (K S C E K2 S2 C2 E2 : Type 0) (fk : K → K2) (fs : S → S2) (fc : C → C2) (fe : E → E2) (l : EsKind-F K S C E) → map-EsKind K S C E K2 S2 C2 E2 fk fs fc fe (placeless l) ≡ placeless (map-EsKind K S C E K2 S2 C2 E2 fk fs fc fe l)
placeless_mapped K S C E K2 S2 C2 E2 fk fs fc fe (EsKind-F.Member base name mark) = refl
placeless_mapped K S C E K2 S2 C2 E2 fk fs fc fe (EsKind-F.Index base key mark) = refl
placeless_mapped K S C E K2 S2 C2 E2 fk fs fc fe _ = refl

-- ---- folds

module _ (K S C E : Type 0) (of_kind : EsKind-F K S C E → K) (of_stmt : EsStmt-F K S C E → S) (of_catch : Catch-F K S C E → C) (of_expr : EsExpr-F K S C E → E) (no_marks : (l : EsKind-F K S C E) → of_kind (placeless l) ≡ of_kind l) (no_sites : (e : EsExpr-F K S C E) → of_expr (at_no_place e) ≡ of_expr e) where
  abbrev on_kind : EsKind → K
  on_kind k = fold-EsKind K S C E of_kind of_stmt of_catch of_expr k

  abbrev on_stmt : EsStmt → S
  on_stmt t = fold-EsStmt K S C E of_kind of_stmt of_catch of_expr t

  abbrev on_catch : Catch → C
  on_catch c = fold-Catch K S C E of_kind of_stmt of_catch of_expr c

  abbrev on_expr : EsExpr → E
  on_expr e = fold-EsExpr K S C E of_kind of_stmt of_catch of_expr e

  abbrev SameKind : EsKind → Type 0
  SameKind k = on_kind (bare_form k) ≡ on_kind k

  abbrev SameStmt : EsStmt → Type 0
  SameStmt t = on_stmt (bare_stmt t) ≡ on_stmt t

  abbrev SameCatch : Catch → Type 0
  SameCatch c = on_catch (bare_catch c) ≡ on_catch c

  abbrev SameExpr : EsExpr → Type 0
  SameExpr e = on_expr (bare_expr e) ≡ on_expr e

  -- a tree in which it is the same
  abbrev OfKind : Type 0
  OfKind = (k : EsKind) × SameKind k

  abbrev OfStmt : Type 0
  OfStmt = (t : EsStmt) × SameStmt t

  abbrev OfCatch : Type 0
  OfCatch = (c : Catch) × SameCatch c

  abbrev OfExpr : Type 0
  OfExpr = (e : EsExpr) × SameExpr e

  same_kind : (y : EsKind-F OfKind OfStmt OfCatch OfExpr) → SameKind (roll-EsKind (map-EsKind OfKind OfStmt OfCatch OfExpr EsKind EsStmt Catch EsExpr (λ p. p.0) (λ p. p.0) (λ p. p.0) (λ p. p.0) y))
  same_kind y =
      let trees : KindLayer = map-EsKind OfKind OfStmt OfCatch OfExpr EsKind EsStmt Catch EsExpr (λ p. p.0) (λ p. p.0) (λ p. p.0) (λ p. p.0) y in
      ap on_kind (kind_layer trees)
      ∙ (fold-roll-EsKind K S C E of_kind of_stmt of_catch of_expr (placeless (bare_layer trees))
      ∙ (ap of_kind (placeless_mapped EsKind EsStmt Catch EsExpr K S C E on_kind on_stmt on_catch on_expr (bare_layer trees))
      ∙ (no_marks (map-EsKind EsKind EsStmt Catch EsExpr K S C E on_kind on_stmt on_catch on_expr (bare_layer trees))
      ∙ (ap of_kind (ap (map-EsKind EsKind EsStmt Catch EsExpr K S C E on_kind on_stmt on_catch on_expr) (kind_composed OfKind OfStmt OfCatch OfExpr EsKind EsStmt Catch EsExpr EsKind EsStmt Catch EsExpr (λ p. p.0) (λ p. p.0) (λ p. p.0) (λ p. p.0) bare_form bare_stmt bare_catch bare_expr y)
      ∙ kind_composed OfKind OfStmt OfCatch OfExpr EsKind EsStmt Catch EsExpr K S C E (λ p. bare_form p.0) (λ p. bare_stmt p.0) (λ p. bare_catch p.0) (λ p. bare_expr p.0) on_kind on_stmt on_catch on_expr y)
      ∙ ((λ i. of_kind (map-EsKind OfKind OfStmt OfCatch OfExpr K S C E (λ p. p.1 i) (λ p. p.1 i) (λ p. p.1 i) (λ p. p.1 i) y))
      ∙ (ap of_kind (sym (kind_composed OfKind OfStmt OfCatch OfExpr EsKind EsStmt Catch EsExpr K S C E (λ p. p.0) (λ p. p.0) (λ p. p.0) (λ p. p.0) on_kind on_stmt on_catch on_expr y))
      ∙ sym (fold-roll-EsKind K S C E of_kind of_stmt of_catch of_expr trees)))))))

  same_stmt : (y : EsStmt-F OfKind OfStmt OfCatch OfExpr) → SameStmt (roll-EsStmt (map-EsStmt OfKind OfStmt OfCatch OfExpr EsKind EsStmt Catch EsExpr (λ p. p.0) (λ p. p.0) (λ p. p.0) (λ p. p.0) y))
  same_stmt y =
      let trees : StmtLayer = map-EsStmt OfKind OfStmt OfCatch OfExpr EsKind EsStmt Catch EsExpr (λ p. p.0) (λ p. p.0) (λ p. p.0) (λ p. p.0) y in
      ap on_stmt (stmt_layer trees)
      ∙ (fold-roll-EsStmt K S C E of_kind of_stmt of_catch of_expr (bare_stmt_layer trees)
      ∙ (ap of_stmt (ap (map-EsStmt EsKind EsStmt Catch EsExpr K S C E on_kind on_stmt on_catch on_expr) (stmt_composed OfKind OfStmt OfCatch OfExpr EsKind EsStmt Catch EsExpr EsKind EsStmt Catch EsExpr (λ p. p.0) (λ p. p.0) (λ p. p.0) (λ p. p.0) bare_form bare_stmt bare_catch bare_expr y)
      ∙ stmt_composed OfKind OfStmt OfCatch OfExpr EsKind EsStmt Catch EsExpr K S C E (λ p. bare_form p.0) (λ p. bare_stmt p.0) (λ p. bare_catch p.0) (λ p. bare_expr p.0) on_kind on_stmt on_catch on_expr y)
      ∙ ((λ i. of_stmt (map-EsStmt OfKind OfStmt OfCatch OfExpr K S C E (λ p. p.1 i) (λ p. p.1 i) (λ p. p.1 i) (λ p. p.1 i) y))
      ∙ (ap of_stmt (sym (stmt_composed OfKind OfStmt OfCatch OfExpr EsKind EsStmt Catch EsExpr K S C E (λ p. p.0) (λ p. p.0) (λ p. p.0) (λ p. p.0) on_kind on_stmt on_catch on_expr y))
      ∙ sym (fold-roll-EsStmt K S C E of_kind of_stmt of_catch of_expr trees)))))

  same_body : (ys : List OfStmt) → map on_stmt (map bare_stmt (map (λ p. p.0) ys)) ≡ map on_stmt (map (λ p. p.0) ys)
  same_body ys =
      ap (map on_stmt) (map-map bare_stmt (λ p. p.0) ys)
      ∙ (map-map on_stmt (λ p. bare_stmt p.0) ys ∙ ((λ i. map (λ p. p.1 i) ys) ∙ sym (map-map on_stmt (λ p. p.0) ys)))

  same_catch : (y : Catch-F OfKind OfStmt OfCatch OfExpr) → SameCatch (roll-Catch (map-Catch OfKind OfStmt OfCatch OfExpr EsKind EsStmt Catch EsExpr (λ p. p.0) (λ p. p.0) (λ p. p.0) (λ p. p.0) y))
  same_catch y =
      let body : List EsStmt = map (λ p. p.0) y.body in
      ap on_catch (catch_layer (record { name = y.name; body = body }))
      ∙ (fold-roll-Catch K S C E of_kind of_stmt of_catch of_expr (record { name = y.name; body = map bare_stmt body })
      ∙ (ap (λ b. of_catch (record { name = y.name; body = b })) (same_body y.body)
      ∙ sym (fold-roll-Catch K S C E of_kind of_stmt of_catch of_expr (record { name = y.name; body = body }))))

  same_expr : (y : EsExpr-F OfKind OfStmt OfCatch OfExpr) → SameExpr (roll-EsExpr (record { kind = y.kind.0; origin = y.origin; pos = y.pos }))
  same_expr y =
      ap on_expr (expr_layer (roll-EsExpr (record { kind = y.kind.0; origin = y.origin; pos = y.pos })))
      ∙ (fold-roll-EsExpr K S C E of_kind of_stmt of_catch of_expr (record { kind = bare_form y.kind.0; origin = None; pos = no_place })
      ∙ (no_sites (record { kind = on_kind (bare_form y.kind.0); origin = y.origin; pos = y.pos })
      ∙ ((λ i. of_expr (record { kind = y.kind.1 i; origin = y.origin; pos = y.pos }))
      ∙ sym (fold-roll-EsExpr K S C E of_kind of_stmt of_catch of_expr (record { kind = y.kind.0; origin = y.origin; pos = y.pos })))))

  pub bare_same : (t : EsStmt) → on_stmt (bare_stmt t) ≡ on_stmt t
  bare_same = ind-EsStmt SameKind SameStmt SameCatch SameExpr
      (λ x y is. subst (λ z. SameKind (roll-EsKind z)) is (same_kind y))
      (λ x y is. subst (λ z. SameStmt (roll-EsStmt z)) is (same_stmt y))
      (λ x y is. subst (λ z. SameCatch (roll-Catch z)) is (same_catch y))
      (λ x y is. subst (λ z. SameExpr (roll-EsExpr z)) is (same_expr y))

  pub bare_same_body : (ts : List EsStmt) → map on_stmt (map bare_stmt ts) ≡ map on_stmt ts
  bare_same_body ts = map-map on_stmt bare_stmt ts ∙ (λ i. map (λ t. bare_same t i) ts)
