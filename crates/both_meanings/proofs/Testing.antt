-- Whether a value is false or nil, as a script tests it and as Ruby does; and a choice by that.
use Rattle.std.proofs.Common.{◌≡◌, ⊎_elim, ℕ, ◌<◌, Bool, true, false, not, [], ◌∷◌, Some, refl, sym, ap, ◌∙◌, arith}
use Rattle.std.specs.Prelude.{nat_eq}
use Rattle.std.proofs.lemmas.Bool.{eq-eqb, eqb-true}
use Rattle.ruby_meaning.specs.declared.value.Value.{Value}
use Rattle.es5_tree.specs.declared.tree.EsExpr.{EsExpr}
use Rattle.es5_tree.specs.declared.tree.EsStmt.{EsStmt}
use Rattle.es5_tree.specs.declared.tree.EsKind.TheVariants as kind
use Rattle.es5_tree.specs.declared.tree.Operator.TheVariants as operator
use Rattle.es5_tree.specs.Values.{Text, Val, Truth, Num, Str, Obj}
use Rattle.es5_evaluation.specs.State as es
use Rattle.es5_evaluation.specs.Task.{Scope}
use Rattle.es5_evaluation.specs.Evaluate.{all}
use Rattle.es5_evaluation.specs.Values.{Is, same}
use Rattle.es5_rules.specs.Steps.{Gives}
use Rattle.es5_rules.proofs.Expressions.{gives_name, gives_false, gives_binary, gives_or_true, gives_or_false}
use Rattle.ruby_evaluation.specs.Exceptions.{truthy}
use Rattle.ruby_evaluation.specs.Texts.{truth}
use Rattle.ruby_evaluation.specs.Task.{Place, Eval, State, gives, walk}
use Rattle.both_meanings.specs.Names.{temp}
use Rattle.both_meanings.specs.Carries.{id_of, Carries}
use Rattle.both_meanings.specs.World.{World, IsValue, is_nil, is_true, is_false, is_int, is_text, is_ref, Var, Sees}
use Rattle.both_meanings.specs.Holds.{Site, Scheme, value_of, Holds}
use Rattle.both_meanings.specs.Follows.{Follows}
use Rattle.both_meanings.specs.Simulates.{Here, Good}
use Rattle.both_meanings.specs.Code.{Sets, TestsFalse}
use Rattle.both_meanings.proofs.Basics.{some_same, true_or_false}
use Rattle.both_meanings.proofs.Records.{bound_is}
use Rattle.both_meanings.proofs.Bodies.{reads_temp}
use Rattle.both_meanings.proofs.Parts.{leaf}

-- nil's object is that of no other value
pub nil_alone : {T : Scheme} {w : World} {st : State} {s : es.State} → Holds T w st s → (nil k o : ℕ) → w.object 0 ≡ Some nil → (k ≡ 0 → ⊥) → w.object k ≡ Some o → nat_eq o nil ≡ false
nil_alone {s = s} h nil k o zero n e = ⊎_elim
    (λ (i : nat_eq o nil ≡ true).
    let same : o ≡ nil = eqb-true o nil i in
    absurd (n (some_same k 0 (sym (h.objects.objects k o e) ∙ ap (id_of s.heap) same ∙ h.objects.objects 0 nil zero))))
    (λ i. i)
    (true_or_false (nat_eq o nil))

module _ {T : Scheme} {w : World} {st : State} {s : es.State} (h : Holds T w st s) (ρ : Scope) (t nil : ℕ) (name : Text) (nil_is : w.object 0 ≡ Some nil) (sees : Sees w ρ.innermost name (Obj nil)) (var : Var w ρ.innermost (temp t)) where
  temp_gives : (e : EsExpr) (u : Val) → e.kind ≡ kind.Name (temp t) → value_of s ρ.innermost (temp t) ≡ Some u → Gives e ρ s 1 u s []
  temp_gives e u i v = reads_temp e ρ t u i h var v

  nil_gives : (e : EsExpr) → e.kind ≡ kind.Name name → Gives e ρ s 1 (Obj nil) s []
  nil_gives e i = gives_name e name ρ s sees.at (Obj nil) i (bound_is h.records.shapes ρ.innermost sees.at name sees.binds) (h.records.fixed sees.at name (Obj nil) sees.is).2

  -- what isn't false is compared with nil
  second : {e : EsExpr} → (i : TestsFalse e t name) (u : Val) → same u (Truth false) ≡ false → value_of s ρ.innermost (temp t) ≡ Some u → (b : Bool) → same u (Obj nil) ≡ b → Gives e ρ s 7 (Truth b) s []
  second {e} i u f at b q =
      gives_or_false e i.a i.b ρ s s s 3 3 (Truth false) (Truth b) [] [] i.is
      (gives_binary i.a operator.Same i.x i.y ρ s s s 1 1 u (Truth false) (Truth false) [] [] i.first (temp_gives i.x u i.x_is at) (gives_false i.y ρ s i.y_is) (ap (λ c. Is (Truth c)) f))
      refl
      (gives_binary i.b operator.Same i.v i.z ρ s s s 1 1 u (Obj nil) (Truth b) [] [] i.second (temp_gives i.v u i.v_is at) (nil_gives i.z i.z_is) (ap (λ c. Is (Truth c)) q))

  -- false goes no further
  pub tests_false : (e : EsExpr) → TestsFalse e t name → (v : Value) (u : Val) → IsValue w v u → value_of s ρ.innermost (temp t) ≡ Some u → (m : ℕ) × Gives e ρ s m (Truth (not (truthy v))) s []
  tests_false e i _ _ is_false at = (_, gives_or_true e i.a i.b ρ s s _ (Truth true) [] i.is (gives_binary i.a operator.Same i.x i.y ρ s s s 1 1 (Truth false) (Truth false) (Truth true) [] [] i.first (temp_gives i.x (Truth false) i.x_is at) (gives_false i.y ρ s i.y_is) refl) refl)
  tests_false e i _ _ (is_nil o q) at =
      let is : o ≡ nil = some_same o nil (sym q ∙ nil_is) in
      (_, second i (Obj o) refl at true (eq-eqb o nil is))
  tests_false e i _ _ is_true at = (_, second i (Truth true) refl at false refl)
  tests_false e i _ _ (is_int n) at = (_, second i (Num n) refl at false refl)
  tests_false e i _ _ (is_text x) at = (_, second i (Str x) refl at false refl)
  tests_false e i _ _ (is_ref k o n q) at = (_, second i (Obj o) refl at false (nil_alone h nil k o nil_is n q))

truth_is : {w : World} (b : Bool) → IsValue w (truth b) (Truth b)
truth_is true = is_true
truth_is false = is_false

-- `t = t === false || t === $$nil;` behind the value of a part, in any scheme
pub not_put : {T : Scheme} {w : World} {p : Place} {site : Site} {st : State} {s : es.State} (ρ : Scope) → Here T w st.ruby p ρ.innermost site → Holds T w st s → (t nil : ℕ) (name : Text) → t < site.top → w.object 0 ≡ Some nil → T.texts.names name (Obj nil) → (f : Eval) (n : ℕ) (ts : EsStmt) (e : EsExpr) (v : Value) (u : Val) → Sets ts t e → TestsFalse e t name → value_of s ρ.innermost (temp t) ≡ Some u → IsValue w v u
    → Follows (Carries T.called) st.calls n 120 (walk f (gives (truth (not (truthy v)))) st n) (all (ts ∷ []) ρ) s (Good T w p ρ.innermost site t st s)
not_put ρ here holds t nil name room zero named f n ts e v u sets tests at vu =
    let r = tests_false holds ρ t nil name zero (here.names name (Obj nil) named) (here.temps t room) e tests v u vu at in
    leaf ρ here holds t room n 120 n r.0 (truth (not (truthy v))) (Truth (not (truthy v))) ts e sets r.1 (truth_is (not (truthy v))) (omega arith) (omega arith)
