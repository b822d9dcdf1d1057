-- What is said of a world stays true as it grows.
use Rattle.std.proofs.Common.{◌≡◌, ◌∙◌, ℕ, List, [], ◌∷◌, length, Option, None, Some}
use Rattle.ruby_meaning.specs.declared.value.Value.{Value}
use Rattle.es5_tree.specs.Values.{Text, Val, Obj}
use Rattle.ruby_evaluation.specs.Tables.{Name}
use Rattle.ruby_evaluation.specs.State.{Entry, Method, Ruby, frame_at}
use Rattle.ruby_evaluation.specs.Task.{Result, Place}
use Rattle.es5_evaluation.specs.Task.{Completion}
use Rattle.both_meanings.specs.Names.{temp, home_name, module_name}
use Rattle.both_meanings.specs.World.{Framed, World, Grows, IsValue, is_nil, is_true, is_false, is_int, is_text, is_ref, Binds, bound_here, bound_around, Var, Sees, SeesModule, SeesModules, SeesHome, Behind, next, over, FrameIs, SeesLocal, own_local, outer_local}
use Rattle.both_meanings.specs.Holds.{Site, Scheme, IsEntry}
use Rattle.both_meanings.specs.Simulates.{Here, Answers, a_value, a_raise, a_return, a_break}

pub grows_refl : (w : World) → Grows w w
grows_refl w = record { shape = λ r sh e. e; fixed = λ r x u e. e; object = λ k o e. e; frame = λ k f e. e; function = λ o f e. e; role = λ o x e. e }

pub grows_trans : {w w1 w2 : World} → Grows w w1 → Grows w1 w2 → Grows w w2
grows_trans a b = record {
  shape = λ r sh e. b.shape r sh (a.shape r sh e);
  fixed = λ r x u e. b.fixed r x u (a.fixed r x u e);
  object = λ k o e. b.object k o (a.object k o e);
  frame = λ k f e. b.frame k f (a.frame k f e);
  function = λ o f e. b.function o f (a.function o f e);
  role = λ o x e. b.role o x (a.role o x e);
}

module _ {w w1 : World} (g : Grows w w1) where
  pub value_grows : (v : Value) (u : Val) → IsValue w v u → IsValue w1 v u
  value_grows _ _ (is_nil o e) = is_nil o (g.object 0 o e)
  value_grows _ _ is_true = is_true
  value_grows _ _ is_false = is_false
  value_grows _ _ (is_int n) = is_int n
  value_grows _ _ (is_text t) = is_text t
  value_grows _ _ (is_ref k o n e) = is_ref k o n (g.object k o e)

  pub binds_grows : (r b : ℕ) (x : Text) → Binds w r x b → Binds w1 r x b
  binds_grows r _ x (bound_here _ _ sh e i) = bound_here r x sh (g.shape r sh e) i
  binds_grows r b x (bound_around _ o _ _ sh e i out less more) = bound_around r o b x sh (g.shape r sh e) i out less (binds_grows o b x more)

  pub var_grows : (r : ℕ) (x : Text) → Var w r x → Var w1 r x
  var_grows r x v = record { sh = v.sh; shape = g.shape r v.sh v.shape; stands = v.stands }

  pub sees_grows : (r : ℕ) (x : Text) (u : Val) → Sees w r x u → Sees w1 r x u
  sees_grows r x u s = record { at = s.at; binds = binds_grows r s.at x s.binds; is = g.fixed s.at x u s.is }

  pub module_grows : (r : ℕ) (x : Text) (k : ℕ) → SeesModule w r x k → SeesModule w1 r x k
  module_grows r x k s = record { o = s.o; object = g.object k s.o s.object; sees = sees_grows r x (Obj s.o) s.sees }

  pub modules_grow : (r : ℕ) (ks : List ℕ) → SeesModules w r ks → SeesModules w1 r ks
  modules_grow r [] s = tt
  modules_grow r (k ∷ ks) s = (module_grows r (module_name (length (k ∷ ks))) k s.0, modules_grow r ks s.1)

  pub home_grows : (r : ℕ) (m : Option Method) → SeesHome w r m → SeesHome w1 r m
  home_grows r None s = tt
  home_grows r (Some m) s = module_grows r home_name m.owner s

  pub behind_grows : (r q : ℕ) → Behind w r q → Behind w1 r q
  behind_grows r q (next _ _ sh e out less) = next r q sh (g.shape r sh e) out less
  behind_grows r q (over _ o _ sh sh1 e out less e1 free more) = over r o q sh sh1 (g.shape r sh e) out less (g.shape o sh1 e1) free (behind_grows o q more)

  pub frame_is_grows : (k : ℕ) (f : Framed) → FrameIs w k f → FrameIs w1 k f
  frame_is_grows k f i = record {
    sh = i.sh;
    shape = g.shape f.record_at i.sh i.shape;
    own = i.own;
    free = i.free;
    outer = λ j e. let o = i.outer j e in (o.0, g.frame j o.0 o.1, o.2, behind_grows f.record_at o.0.record_at o.3);
  }

  pub sees_local_grows : (k h : ℕ) (x : Name) → SeesLocal w k x h → SeesLocal w1 k x h
  sees_local_grows k _ x (own_local _ _ f e i) = own_local k x f (g.frame k f e) i
  sees_local_grows k h x (outer_local _ j _ _ f e i out less more) = outer_local k j h x f (g.frame k f e) i out less (sees_local_grows j h x more)

  pub answers_grow : (r : Result) (c : Completion) → Answers w r c → Answers w1 r c
  answers_grow _ _ (a_value v u i) = a_value v u (value_grows v u i)
  answers_grow _ _ (a_raise k o i) = a_raise k o (g.object k o i)
  answers_grow _ _ (a_return k e o v u i j l) = a_return k e o v u (g.role e _ i) (g.role o _ j) (value_grows v u l)
  answers_grow _ _ (a_break n e o v u i j l) = a_break n e o v u (g.role e _ i) (g.role o _ j) (value_grows v u l)

  pub is_entry_grows : (T : Scheme) (e : Entry) (o : ℕ) → IsEntry T w e o → IsEntry T w1 e o
  is_entry_grows T e o i = record { function = i.function; is = g.function o i.function i.is; since = i.since; grown = grows_trans i.grown g; text = i.text }

  -- a node stands where it stood, while its frame is as open as it was
  pub here_grows : (T : Scheme) (r r1 : Ruby) (p : Place) (at : ℕ) (site : Site) → (frame_at r1 p.frame).is_open ≡ (frame_at r p.frame).is_open → (frame_at r1 p.frame).returns ≡ (frame_at r p.frame).returns → Here T w r p at site → Here T w1 r1 p at site
  here_grows T r r1 p at site a b h = record {
    frame = h.frame;
    is = g.frame p.frame h.frame h.is;
    record_is = h.record_is;
    opened = a ∙ h.opened;
    returns = λ e. b ∙ h.returns e;
    locals = λ x e. let l = h.locals x e in (l.0, sees_local_grows p.frame l.0 x l.1);
    temps = λ n l. var_grows at (temp n) (h.temps n l);
    names = λ x u e. sees_grows at x u (h.names x u e);
    known = λ o f e. g.function o f (h.known o f e);
  }
