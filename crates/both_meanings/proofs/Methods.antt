-- A call of a method that takes no parameters: the function that stands for it follows what Ruby's side does.
use Rattle.std.proofs.Common.{◌≡◌, ℕ, ◌<◌, ◌≤◌, true, false, [], ◌∷◌, length, Some, refl, sym, ap, ◌∙◌, subst}
use Rattle.std.specs.Prelude.{if◌then◌else◌}
use Rattle.opal_base.specs.declared.place.Pos.{Pos}
use Rattle.ruby_meaning.specs.declared.tree.Params.{out-Params}
use Rattle.ruby_meaning.specs.declared.value.Value.{Value}
use Rattle.es5_tree.specs.Values.{Text, Obj, first, find_own}
use Rattle.es5_tree.specs.Values as values
use Rattle.es5_evaluation.specs.State.{Code, Activation, record_at, value_in, with_variable, binding}
use Rattle.es5_evaluation.specs.State as es
use Rattle.es5_evaluation.specs.Task.{Throw}
use Rattle.es5_evaluation.specs.Declared.{locals}
use Rattle.es5_evaluation.specs.Evaluate.{invoke}
use Rattle.ruby_evaluation.specs.Tables.{Name}
use Rattle.ruby_evaluation.specs.State.{Method, Def, Frame, with_new_frame}
use Rattle.ruby_evaluation.specs.Ancestors.{find}
use Rattle.ruby_evaluation.specs.Parameters.{Parts, takes, expected, wrong_number, bind}
use Rattle.ruby_evaluation.specs.Calls.{in_frame, method_frame, method_end, own_of_method, in_method, call_method, found}
use Rattle.ruby_evaluation.specs.Task.{Return, Val, Leaves, Jump, Look, Change, State, changed, walk, run_node}
use Rattle.ruby_evaluation.specs.Requires.{Files}
use Rattle.ruby_evaluation.specs.Run.{eval_to}
use Rattle.both_meanings.specs.Names.{module_name, home_name}
use Rattle.both_meanings.specs.World.{Shape, stands, bound_in, Function, OfFrame, Token, World, Grows, IsValue, Sees, own_local}
use Rattle.both_meanings.specs.Carries.{Carries}
use Rattle.both_meanings.specs.Follows.{Follows}
use Rattle.both_meanings.specs.Holds.{Site, Scheme, Holds}
use Rattle.both_meanings.specs.Simulates.{Answers, a_raise, a_return, a_break, Called, Simulates}
use Rattle.both_meanings.specs.Code.{no_parts, IsMethod}
use Rattle.both_meanings.proofs.Basics.{none_some, chosen, passed}
use Rattle.both_meanings.proofs.Bind.{follows_outcome}
use Rattle.both_meanings.proofs.Growing.{value_grows, modules_grow, module_grows}
use Rattle.both_meanings.proofs.Holding.{NoToken}
use Rattle.both_meanings.proofs.Entering.{module_around, modules_around}
use Rattle.both_meanings.proofs.Bodies.{Finishes}
use Rattle.both_meanings.proofs.Functions.{FrameRest, f, sh1, w2, grows2, shaped2, outer2, scope_below, free2, sees_first, function_follows}

-- ---- the end

-- a return of the frame gives the value, and one to another frame goes on
method_finishes : (w : World) (k : ℕ) (site : Site) → site.nexts ≡ false → NoToken w k → Finishes w (in_frame k) site (method_end k)
method_finishes w k site never none = record {
  value = λ v. refl;
  thrown = thrown;
  returned = λ v i. chosen k k (Val v) (Leaves (Return k v)) refl;
  nexted = λ v i. let c : false ≡ true = sym never ∙ i in cc;
}
  where
    thrown : (j : Jump) (y : values.Val) → Answers w (Leaves j) (Throw y) → method_end k (Leaves j) ≡ Leaves j
    thrown _ _ (a_raise e o i) = refl
    thrown _ _ (a_break n e o v u i j l) = refl
    thrown _ _ (a_return n e o v u i j l) = passed n k (Val v) (Leaves (Return n v)) (λ q. none o (j ∙ ap (λ m. Some (Token (OfFrame m))) q))

-- ---- the call

-- what Ruby's side does without parameters
entered_alone : (P : Parts) (m : Method) (v b : Value) → P ≡ no_parts → (if takes P 0 then Look (λ r. Change (with_new_frame (method_frame m v b (length r.frames))) (in_method (length r.frames) (bind (in_frame (length r.frames)) P [] b (run_node m.body (in_frame (length r.frames)))))) else wrong_number 0 (expected P))
    ≡ Look (λ r. Change (with_new_frame (method_frame m v b (length r.frames))) (in_method (length r.frames) (run_node m.body (in_frame (length r.frames)))))
entered_alone P m v b e = ap (λ Q. if takes Q 0 then Look (λ r. Change (with_new_frame (method_frame m v b (length r.frames))) (in_method (length r.frames) (bind (in_frame (length r.frames)) Q [] b (run_node m.body (in_frame (length r.frames)))))) else wrong_number 0 (expected Q)) e

-- the task that a call without arguments comes to
called_alone : (files : Files) (d : ℕ) (st : State) (l : ℕ) (v b : Value) (m : Name) (x : Method) → find st.ruby v m ≡ Some (Def x) → out-Params x.params ≡ no_parts
    → walk (eval_to files d) (call_method v m [] b) st l ≡ walk (eval_to files d) (in_method (length st.ruby.frames) (run_node x.body (in_frame (length st.ruby.frames)))) (changed (with_new_frame (method_frame x v b (length st.ruby.frames))) st) l
called_alone files d st l v b m x e no_params =
    ap (λ o. walk (eval_to files d) (found o v m [] b) st l) e
    ∙ ap (λ t. walk (eval_to files d) t st l) (entered_alone (out-Params x.params) x v b no_params)

module _ {T : Scheme} {files : Files} {d : ℕ} (ih : Simulates T files d) {w : World} {st : State} {s : es.State} (h : Holds T w st s) (x : Method) (fn : Function) (is : IsMethod T.texts w x fn) (fo : ℕ) (there : w.function fo ≡ Some fn) (v b : Value) (u bu : values.Val) (vu : IsValue w v u) (bv : IsValue w b bu) where
  abbrev k : ℕ
  k = length st.ruby.frames

  abbrev r : ℕ
  r = length s.records

  abbrev fr : Frame
  fr = method_frame x v b k

  abbrev sh : Shape
  sh = sh1 ih h x.body (own_of_method x.params x.body) fn is.text fo there u bu fr vu refl is.covers

  abbrev w1 : World
  w1 = w2 ih h x.body (own_of_method x.params x.body) fn is.text fo there u bu fr vu refl is.covers

  grows1 : Grows w w1
  grows1 = grows2 ih h x.body (own_of_method x.params x.body) fn is.text fo there u bu fr vu refl is.covers

  frame_rest : FrameRest ih h x.body (own_of_method x.params x.body) fn is.text fo there u bu fr vu refl is.covers (in_frame k) (method_end k)
  frame_rest = record {
    outers = λ j e. absurd (none_some j e);
    block = (bu, subst (λ n. Sees w1 r n bu) is.takes_block (sees_first ih h x.body (own_of_method x.params x.body) fn is.text fo there u bu fr vu refl is.covers), value_grows grows1 b bu bv);
    modules = modules_around w1 r fn.scope sh x.around.modules shaped (λ n. free (module_name n) (is.text.free_modules n)) outer below (modules_grow grows1 fn.scope x.around.modules is.modules);
    home = module_around w1 r fn.scope sh home_name x.owner shaped (free home_name is.text.free_home) outer below (module_grows grows1 fn.scope home_name x.owner is.home);
    opened = refl;
    returns = λ e. refl;
    seen = λ y e. (k, own_local k y (f ih h x.body (own_of_method x.params x.body) fn is.text fo there u bu fr vu refl is.covers) (chosen k k _ (w.frame k) refl) (is.names y e));
    place = refl;
    finishes = λ y none. method_finishes y k is.text.site is.nexts none;
  }
    where
      shaped : w1.shape r ≡ Some sh
      shaped = shaped2 ih h x.body (own_of_method x.params x.body) fn is.text fo there u bu fr vu refl is.covers

      free : (y : Text) → stands y (is.text.first ∷ locals fn.code.params fn.code.body) ≡ false → bound_in sh y ≡ false
      free y e = free2 ih h x.body (own_of_method x.params x.body) fn is.text fo there u bu fr vu refl is.covers y e

      outer : sh.outer ≡ Some fn.scope
      outer = outer2 ih h x.body (own_of_method x.params x.body) fn is.text fo there u bu fr vu refl is.covers

      below : fn.scope < r
      below = scope_below ih h x.body (own_of_method x.params x.body) fn is.text fo there u bu fr vu refl is.covers

  pub method_follows : (m : Name) (l : ℕ) → l ≤ d → find st.ruby v m ≡ Some (Def x) → (p : Pos) → Follows (Carries T.called) st.calls l 0 (walk (eval_to files d) (call_method v m [] b) st l) (invoke p (Obj fo) u (bu ∷ [])) s (Called T w st s)
  method_follows m l le e p =
      follows_outcome (called_alone files d st l v b m x e is.no_parameters)
      (function_follows ih h x.body (own_of_method x.params x.body) fn is.text fo there u bu fr vu refl is.covers (in_frame k) (method_end k) frame_rest l le p)
