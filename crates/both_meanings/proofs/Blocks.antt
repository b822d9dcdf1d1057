-- A call of a block that takes no parameters: the function that stands for it follows what Ruby's side does.
use Rattle.std.proofs.Common.{◌≡◌, ⊎_elim, ℕ, ◌<◌, ◌≤◌, true, false, [], ◌∷◌, length, Some, None, refl, sym, ap, ◌∙◌, subst, arith}
use Rattle.std.specs.Prelude.{is_some}
use Rattle.opal_base.specs.declared.place.Pos.{Pos}
use Rattle.ruby_meaning.specs.declared.tree.Params.{out-Params}
use Rattle.ruby_meaning.specs.declared.value.Value.{Value}
use Rattle.ruby_meaning.specs.declared.value.Value.TheVariants as value
use Rattle.es5_tree.specs.Values.{Text, Obj, first, find_own}
use Rattle.es5_tree.specs.Values as values
use Rattle.es5_evaluation.specs.State.{Code, Activation, record_at, value_in, with_variable, binding}
use Rattle.es5_evaluation.specs.State as es
use Rattle.es5_evaluation.specs.Task.{Throw}
use Rattle.es5_evaluation.specs.Declared.{locals}
use Rattle.es5_evaluation.specs.Evaluate.{invoke}
use Rattle.ruby_evaluation.specs.Tables.{Name, at}
use Rattle.ruby_evaluation.specs.State.{Closure, EndsCall, Block, Frame, Ruby, thing_at, frame_at, with_new_frame, closed}
use Rattle.ruby_evaluation.specs.Locals.{Declared, all_nil, own_of_block}
use Rattle.ruby_evaluation.specs.Parameters.{Parts, is_wide, spread_one, bind}
use Rattle.ruby_evaluation.specs.Calls.{in_block, block_frame, block_end, run_closure, call_form, call_proc}
use Rattle.ruby_evaluation.specs.Task.{Return, Raise, Break, Next, Result, Val, Leaves, Jump, Place, Evaluate, Task, Look, Change, ◌>>=◌, State, changed, walk, run_node}
use Rattle.ruby_evaluation.specs.Task as ruby
use Rattle.ruby_evaluation.specs.Requires.{Files}
use Rattle.ruby_evaluation.specs.Run.{eval_to}
use Rattle.both_meanings.specs.Names.{module_name, block_name, home_name}
use Rattle.both_meanings.specs.World.{Shape, stands, bound_in, Function, World, Grows, IsValue, Sees, SeesModules, Behind, next, own_local, outer_local, SeesHome}
use Rattle.both_meanings.specs.Carries.{Carries}
use Rattle.both_meanings.specs.Follows.{Follows}
use Rattle.both_meanings.specs.Holds.{Site, Scheme, FrameHolds, Holds}
use Rattle.both_meanings.specs.Simulates.{Answers, a_raise, a_return, a_break, Called, Simulates}
use Rattle.both_meanings.specs.Code.{no_parts, IsBlock}
use Rattle.both_meanings.proofs.Basics.{some_same, true_false, chosen}
use Rattle.both_meanings.proofs.Bind.{follows_outcome}
use Rattle.both_meanings.proofs.Growing.{value_grows, sees_grows, modules_grow, home_grows, sees_local_grows}
use Rattle.both_meanings.proofs.Entering.{sees_around, modules_around, home_around}
use Rattle.both_meanings.proofs.Bodies.{Finishes}
use Rattle.both_meanings.proofs.Functions.{FrameRest, f, sh1, w2, grows2, shaped2, outer2, scope_below, free2, function_follows}

-- ---- the end

-- `next` gives the value, and any other jump goes on
block_finishes : (w : World) (p : Place) (site : Site) → site.returns ≡ false → Finishes w p site block_end
block_finishes w p site never = record {
  value = λ v. refl;
  thrown = thrown;
  returned = λ v i. let c : false ≡ true = sym never ∙ i in cc;
  nexted = λ v i. refl;
}
  where
    thrown : (j : Jump) (y : values.Val) → Answers w (Leaves j) (Throw y) → block_end (Leaves j) ≡ Leaves j
    thrown _ _ (a_raise e o i) = refl
    thrown _ _ (a_break n e o v u i j l) = refl
    thrown _ _ (a_return n e o v u i j l) = refl

-- ---- the call

-- what Ruby's side does without parameters
bound_alone : (P : Parts) (p : Place) (r : Ruby) (b : Value) (t : Task) → P ≡ no_parts → bind p P (spread_one r (is_wide P) []) b t ≡ t
bound_alone P p r b t e = ap (λ Q. bind p Q (spread_one r (is_wide Q) []) b t) e

module _ (files : Files) (d : ℕ) (st : State) (l kb : ℕ) (c : Closure) (n : ℕ) (b : Value) (form : (thing_at st.ruby kb).form ≡ Block c) (ends : c.ending ≡ EndsCall n) (no_params : out-Params c.params ≡ no_parts) where
  abbrev k : ℕ
  k = length st.ruby.frames

  abbrev fr : Frame
  fr = block_frame st.ruby c None (frame_at st.ruby c.frame).returns c.ending

  abbrev body : Task
  body = run_node c.body (in_block k c) >>= (λ x. Change (closed k) (ruby.Done (block_end x)))

  -- the task that a call without arguments comes to
  called_alone : walk (eval_to files d) (call_proc (value.Ref kb) None [] b) st l ≡ walk (eval_to files d) body (changed (with_new_frame fr) st) l
  called_alone =
      ap (λ o. walk (eval_to files d) (call_form o (value.Ref kb) None [] b) st l) form
      ∙ ap (λ e. walk (eval_to files d) (run_closure e c None [] b k) st l) ends
      ∙ ap (λ t. walk (eval_to files d) (t >>= (λ x. Change (closed k) (ruby.Done (block_end x)))) (changed (with_new_frame fr) st) l) (bound_alone (out-Params c.params) (in_block k c) st.ruby b (run_node c.body (in_block k c)) no_params)

module _ {T : Scheme} {files : Files} {d : ℕ} (ih : Simulates T files d) {w : World} {st : State} {s : es.State} (h : Holds T w st s) (c : Closure) (fn : Function) (is : IsBlock T.texts w c fn) (covers : (y : Name) → is_some (at y (all_nil (own_of_block st.ruby c.frame c.start c.params c.body) [])) ≡ stands y is.text.own) (fo : ℕ) (there : w.function fo ≡ Some fn) (u pu : values.Val) (vu : IsValue w (frame_at st.ruby c.frame).me u) where
  abbrev k1 : ℕ
  k1 = length st.ruby.frames

  abbrev r : ℕ
  r = length s.records

  abbrev fr1 : Frame
  fr1 = block_frame st.ruby c None (frame_at st.ruby c.frame).returns c.ending

  abbrev ds : Declared
  ds = own_of_block st.ruby c.frame c.start c.params c.body

  abbrev sh : Shape
  sh = sh1 ih h c.body ds fn is.text fo there u pu fr1 vu refl covers

  abbrev w1 : World
  w1 = w2 ih h c.body ds fn is.text fo there u pu fr1 vu refl covers

  grows1 : Grows w w1
  grows1 = grows2 ih h c.body ds fn is.text fo there u pu fr1 vu refl covers

  shaped : w1.shape r ≡ Some sh
  shaped = shaped2 ih h c.body ds fn is.text fo there u pu fr1 vu refl covers

  free : (y : Text) → stands y (is.text.first ∷ locals fn.code.params fn.code.body) ≡ false → bound_in sh y ≡ false
  free y e = free2 ih h c.body ds fn is.text fo there u pu fr1 vu refl covers y e

  outer : sh.outer ≡ Some fn.scope
  outer = outer2 ih h c.body ds fn is.text fo there u pu fr1 vu refl covers

  below : fn.scope < r
  below = scope_below ih h c.body ds fn is.text fo there u pu fr1 vu refl covers

  -- the frame around
  around : (c.frame < length st.ruby.frames) × FrameHolds w s.records c.frame is.frame (frame_at st.ruby c.frame)
  around = h.records.frames c.frame is.frame is.around

  frame_rest : FrameRest ih h c.body ds fn is.text fo there u pu fr1 vu refl covers (in_block k1 c) block_end
  frame_rest =
      let a = around.1 in
      record {
        outers = λ j e.
            let q : c.frame ≡ j = some_same c.frame j e in
            (is.frame, subst (λ n. w1.frame n ≡ Some is.frame) q (grows1.frame c.frame is.frame is.around), (let b = around.0 in omega (arith, b, q)), subst (Behind w1 r) is.made (next r fn.scope sh shaped outer below));
        block = (a.block.0, sees_around w1 r fn.scope sh block_name a.block.0 shaped (free block_name is.free_block) outer below (subst (λ n. Sees w1 n block_name a.block.0) (sym is.made) (sees_grows grows1 is.frame.record_at block_name a.block.0 a.block.1)), value_grows grows1 (frame_at st.ruby c.frame).block a.block.0 a.block.2);
        modules = modules_around w1 r fn.scope sh (frame_at st.ruby c.frame).around.modules shaped (λ n. free (module_name n) (is.text.free_modules n)) outer below (subst (λ n. SeesModules w1 n (frame_at st.ruby c.frame).around.modules) (sym is.made) (modules_grow grows1 is.frame.record_at (frame_at st.ruby c.frame).around.modules a.modules));
        home = home_around w1 r fn.scope sh (frame_at st.ruby c.frame).method shaped (free home_name is.text.free_home) outer below (subst (λ n. SeesHome w1 n (frame_at st.ruby c.frame).method) (sym is.made) (home_grows grows1 is.frame.record_at (frame_at st.ruby c.frame).method a.home));
        opened = refl;
        returns = λ e. absurd (true_false (sym e ∙ is.returns));
        seen = λ y e. ⊎_elim
            (λ i. (k1, own_local k1 y (f ih h c.body ds fn is.text fo there u pu fr1 vu refl covers) (chosen k1 k1 _ (w.frame k1) refl) i))
            (λ i. (i.1.0, outer_local k1 c.frame i.1.0 y (f ih h c.body ds fn is.text fo there u pu fr1 vu refl covers) (chosen k1 k1 _ (w.frame k1) refl) i.0 refl around.0 (sees_local_grows grows1 c.frame i.1.0 y i.1.1)))
            (is.names y e);
        place = refl;
        finishes = λ y none. block_finishes y (in_block k1 c) is.text.site is.returns;
      }

  pub block_follows : (kb : ℕ) (b : Value) → (thing_at st.ruby kb).form ≡ Block c → (l : ℕ) → l ≤ d → (p : Pos) → Follows (Carries T.called) st.calls l 0 (walk (eval_to files d) (call_proc (value.Ref kb) None [] b) st l) (invoke p (Obj fo) u (pu ∷ [])) s (Called T w st s)
  block_follows kb b form l le p =
      follows_outcome (called_alone files d st l kb c is.call b form is.ends is.no_parameters)
      (function_follows ih h c.body ds fn is.text fo there u pu fr1 vu refl covers (in_block k1 c) block_end frame_rest l le p)
