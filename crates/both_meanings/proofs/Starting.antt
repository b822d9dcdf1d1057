-- A function begins: its record is entered, self and the locals get their first values.
use Rattle.std.proofs.Common.{◌≡◌, ◌⊎◌, inl, inr, ⊎_elim, ℕ, ◌+◌, ◌≤◌, ◌||◌, Bool, true, false, List, [], ◌∷◌, ◌++◌, length, Some, refl, sym, ap, ◌∙◌, subst, arith}
use Rattle.std.specs.Prelude.{bytes_eq, slice_set}
use Rattle.std.proofs.lemmas.Slice.Eq.{bytes_eq-Decides}
use Rattle.std.proofs.lemmas.List.{get_or_push}
use Rattle.opal_base.specs.declared.place.Pos.{Pos}
use Rattle.es5_tree.specs.declared.tree.EsExpr.{EsExpr}
use Rattle.es5_tree.specs.declared.tree.EsKind.TheVariants as kind
use Rattle.es5_tree.specs.declared.tree.EsStmt.{EsStmt}
use Rattle.es5_tree.specs.declared.tree.EsStmt.TheVariants as stmt
use Rattle.es5_tree.specs.Values.{Text, Val, Obj, find_own}
use Rattle.es5_tree.specs.Objects.Cells as cells
use Rattle.es5_tree.specs.Objects.Links.{cell_at}
use Rattle.es5_tree.proofs.ObjectProperties.{find_written, find_other}
use Rattle.es5_evaluation.specs.State.{Code, Activation, State, code_at, record_at, value_in, with_variable, binding, has_variable}
use Rattle.es5_evaluation.specs.Task.{Normal, Scope, ◌>>=◌, with_record, with_stored}
use Rattle.es5_evaluation.specs.Declared.{own_code}
use Rattle.es5_evaluation.specs.Evaluate.{activation, all, enter, entered, invoke, invoke_kind, left, passed, run_body}
use Rattle.es5_evaluation.proofs.Tasks.{all_first, and_all}
use Rattle.es5_rules.specs.Steps.{Steps, Gives, Does}
use Rattle.es5_rules.proofs.Steps.{steps_refl, steps_trans, steps_count, steps_from, steps_to, steps_look, steps_enter}
use Rattle.es5_rules.proofs.Expressions.{gives_this}
use Rattle.es5_rules.proofs.Statements.{does_var}
use Rattle.es5_rules.proofs.Records.{value_other, value_wrote}
use Rattle.ruby_evaluation.specs.Tables.{Name}
use Rattle.both_meanings.specs.Names.{local, self_name}
use Rattle.both_meanings.specs.World.{Shape, shape_of, stands}
use Rattle.both_meanings.specs.Code.{Inits, inits_none, inits_more, Prelude, prelude}
use Rattle.both_meanings.proofs.Basics.{true_or_false, false_true}
use Rattle.both_meanings.proofs.NamesDiffer.{frame_name, no_local}
use Rattle.both_meanings.proofs.Records.{found_stands, same_names}

-- ---- the record is entered

-- no unit is taken until the first statement begins
pub enters_function : (p : Pos) (f at outer : ℕ) (code : Code) (this : Val) (us : List Val) (s : State) → (cell_at s.heap f).kind ≡ cells.Function at outer → code_at s.codes at ≡ code → (own_code code.body).arguments ≡ false → Steps (invoke p (Obj f) this us) s 0 (all code.body (record { this = this; innermost = length s.records }) >>= left) (with_record s (activation code f outer us [])) []
unfolding invoke enter run_body ◌>>=◌
enters_function p f at outer code this us s h c j =
    steps_count (0 + 0) 0 (omega arith)
    (steps_trans
    (steps_to
    (ap (λ q. invoke_kind (passed p) p q s f this us) h ∙ ap (λ x. enter x f outer this us) c ∙ ap (λ t. entered t code f outer this us) j)
    (steps_look (λ y. invoke_kind (passed p) p (cell_at y.heap f).kind y f this us) s))
    (steps_enter (activation code f outer us []) (λ r. all code.body (record { this = this; innermost = r }) >>= left) s))

-- ---- variables of the last record

set_last : (rs : List Activation) (a b : Activation) → slice_set (rs ++ a ∷ []) (length rs) b ≡ rs ++ b ∷ []
set_last [] a b = refl
set_last (x ∷ rs) a b = ap (λ l. x ∷ l) (set_last rs a b)

pub last_at : (rs : List Activation) (a : Activation) → record_at (rs ++ a ∷ []) (length rs) ≡ a
unfolding record_at
last_at rs a = get_or_push rs a _ (length rs) refl

-- `var x = e;` in it
does_last_var : (x : Text) (e : EsExpr) (ρ : Scope) (s : State) (a : Activation) (m : ℕ) (v : Val) → ρ.innermost ≡ length s.records → Gives e ρ (with_record s a) m v (with_record s a) [] → binding (with_record s a).records ρ.innermost x ≡ Some ρ.innermost → has_variable a x ≡ true → Does (stmt.Var x (Some e)) ρ (with_record s a) (1 + m) (Normal v) (with_record s (with_variable a x v)) []
does_last_var x e ρ s a m v at g i j =
    let here : record_at (s.records ++ a ∷ []) ρ.innermost ≡ a = ap (record_at (s.records ++ a ∷ [])) at ∙ last_at s.records a in
    let is : with_stored (with_record s a) ρ.innermost (with_variable (record_at (with_record s a).records ρ.innermost) x v) ≡ with_record s (with_variable a x v) =
    ap (λ b. with_stored (with_record s a) ρ.innermost (with_variable b x v)) here
    ∙ ap (λ n. with_stored (with_record s a) n (with_variable a x v)) at
    ∙ ap (λ l. record s { records = l }) (set_last s.records a (with_variable a x v)) in
    subst (λ z. Does (stmt.Var x (Some e)) ρ (with_record s a) (1 + m) (Normal v) z []) is
    (does_var x e ρ (with_record s a) (with_record s a) ρ.innermost m v [] g i (ap (λ b. has_variable b x) here ∙ j))

-- ---- the first statements

shape_with : (a : Activation) (x : Text) (v : Val) → has_variable a x ≡ true → shape_of (with_variable a x v) ≡ shape_of a
shape_with a x v h = ap (λ l. record { names = l; constants = a.constants; outer = a.outer }) (same_names a.variables x v (sym (found_stands a.variables x) ∙ h))

-- a name that has the value keeps it where that is what is written
keeps_value : (a : Activation) (x y : Text) (v : Val) → find_own a.variables y ≡ Some v → find_own (with_variable a x v).variables y ≡ Some v
keeps_value a x y v h = ⊎_elim
    (λ (e : bytes_eq x y ≡ true). subst (λ n. find_own (with_variable a x v).variables n ≡ Some v) ((bytes_eq-Decides x y).0 e) (find_written a.variables x v))
    (λ (e : bytes_eq x y ≡ false). find_other a.variables x y v (λ i. let d : bytes_eq x y ≡ true = (bytes_eq-Decides x y).1 i in let c : true ≡ false = sym d ∙ e in cc) ∙ h)
    (true_or_false (bytes_eq x y))

module _ (s : State) (ρ : Scope) (sh : Shape) (nil : Text) (o : ℕ) (at : ρ.innermost ≡ length s.records) (own : (a : Activation) (x : Text) → shape_of a ≡ sh → stands x sh.names ≡ true → binding (with_record s a).records ρ.innermost x ≡ Some ρ.innermost) (nil_is : (a : Activation) (e : EsExpr) → shape_of a ≡ sh → e.kind ≡ kind.Name nil → Gives e ρ (with_record s a) 1 (Obj o) (with_record s a) []) where
  -- where the first statements have run
  pub record Started (a : Activation) (ys : List Name) (ts us : List EsStmt) : Type 0 where
    pub m : ℕ
    pub a1 : Activation
    pub runs : Steps (all (ts ++ us) ρ >>= left) (with_record s a) m (all us ρ >>= left) (with_record s a1) []
    pub shape : shape_of a1 ≡ sh
    pub values : (y : Name) → (stands y ys ≡ true) ⊎ (find_own a.variables (local y) ≡ Some (Obj o)) → find_own a1.variables (local y) ≡ Some (Obj o)
    pub others : (x : Text) → ((y : Name) → local y ≡ x → ⊥) → value_in a1 x ≡ value_in a x

  has : (a : Activation) (x : Text) → shape_of a ≡ sh → stands x sh.names ≡ true → has_variable a x ≡ true
  has a x e i = found_stands a.variables x ∙ ap (λ z. stands x z.names) e ∙ i

  -- one statement, and what stands behind it
  pub begins_var : (x : Text) (e : EsExpr) (us : List EsStmt) (a : Activation) (v : Val) → shape_of a ≡ sh → stands x sh.names ≡ true → Gives e ρ (with_record s a) 1 v (with_record s a) [] → Steps (all (stmt.Var x (Some e) ∷ us) ρ >>= left) (with_record s a) 2 (all us ρ >>= left) (with_record s (with_variable a x v)) []
  unfolding ◌>>=◌
  begins_var x e us a v i j g =
      steps_from (ap (λ t. t >>= left) (all_first (stmt.Var x (Some e)) us ρ))
      ((does_last_var x e ρ s a 1 v at g (own a x i j) (has a x i j)).by (λ c. and_all us ρ c >>= left))

  pub starts : (ys : List Name) (ts us : List EsStmt) → Inits nil ys ts → ((y : Name) → stands y ys ≡ true → stands (local y) sh.names ≡ true) → (a : Activation) → shape_of a ≡ sh → Started a ys ts us
  starts _ _ us inits_none there a e = record { m = 0; a1 = a; runs = steps_refl; shape = e; values = λ y c. ⊎_elim (λ (f : false ≡ true). absurd (false_true f)) (λ i. i) c; others = λ x n. refl }
  starts _ _ us (inits_more y ys e0 ts named more) there a e =
      let b : Activation = with_variable a (local y) (Obj o) in
      let first : stands (local y) sh.names ≡ true = there y (ap (λ t. t || stands y ys) (same_name y)) in
      let shaped : shape_of b ≡ sh = shape_with a (local y) (Obj o) (has a (local y) e first) ∙ e in
      let rest = starts ys ts us more (λ z i. there z (or_right (bytes_eq y z) (stands z ys) i)) b shaped in
      record {
        m = 2 + rest.m;
        a1 = rest.a1;
        runs = steps_trans (begins_var (local y) e0 (ts ++ us) a (Obj o) e first (nil_is a e0 e named)) rest.runs;
        shape = rest.shape;
        values = λ z c. rest.values z (⊎_elim
            (λ (i : (bytes_eq y z || stands z ys) ≡ true).
            ⊎_elim
            (λ (f : bytes_eq y z ≡ true). inr (subst (λ n. find_own b.variables (local n) ≡ Some (Obj o)) ((bytes_eq-Decides y z).0 f) (find_written a.variables (local y) (Obj o))))
            (λ (f : bytes_eq y z ≡ false). inl (ap (λ t. t || stands z ys) (sym f) ∙ i))
            (true_or_false (bytes_eq y z)))
            (λ i. inr (keeps_value a (local y) (local z) (Obj o) i))
            c);
        others = λ x n. rest.others x n ∙ value_other a (local y) x (Obj o) (n y);
      }
    where
      same_name : (n : Name) → bytes_eq n n ≡ true
      same_name n = (bytes_eq-Decides n n).1 refl

      or_right : (p q : Bool) → q ≡ true → (p || q) ≡ true
      or_right true q i = refl
      or_right false q i = i

  -- where self and the locals have their first values
  pub record Prepared (a : Activation) (ys : List Name) (ts us : List EsStmt) : Type 0 where
    pub m : ℕ
    pub some : 1 ≤ m
    pub a1 : Activation
    pub runs : Steps (all (ts ++ us) ρ >>= left) (with_record s a) m (all us ρ >>= left) (with_record s a1) []
    pub shape : shape_of a1 ≡ sh
    pub values : (y : Name) → stands y ys ≡ true → find_own a1.variables (local y) ≡ Some (Obj o)
    pub self : value_in a1 self_name ≡ Some ρ.this
    pub others : (x : Text) → ((y : Name) → local y ≡ x → ⊥) → (self_name ≡ x → ⊥) → value_in a1 x ≡ value_in a x

  pub prepares : (ys : List Name) (ts us : List EsStmt) → Prelude nil ys ts → stands self_name sh.names ≡ true → ((y : Name) → stands y ys ≡ true → stands (local y) sh.names ≡ true) → (a : Activation) → shape_of a ≡ sh → Prepared a ys ts us
  prepares _ _ us (prelude ys e0 ts named more) self there a e =
      let b : Activation = with_variable a self_name ρ.this in
      let shaped : shape_of b ≡ sh = shape_with a self_name ρ.this (has a self_name e self) ∙ e in
      let rest = starts ys ts us more there b shaped in
      record {
        m = 2 + rest.m;
        some = omega arith;
        a1 = rest.a1;
        runs = steps_trans (begins_var self_name e0 (ts ++ us) a ρ.this e self (gives_this e0 ρ (with_record s a) named)) rest.runs;
        shape = rest.shape;
        values = λ y i. rest.values y (inl i);
        self = rest.others self_name (λ y i. no_local (frame_name self_name _ refl) y i) ∙ value_wrote a self_name ρ.this;
        others = λ x n i. rest.others x n ∙ value_other a self_name x ρ.this i;
      }
