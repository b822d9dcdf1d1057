-- Tasks of scripts simulate the requests of Ruby's evaluation.
use Rattle.std.specs.Prelude.{◌≡◌, ◌⊎◌, ℕ, ◌<◌, ◌≤◌, true, List, length, Option, None, Some, ⊤}
use Rattle.ruby_meaning.specs.declared.value.Value.{Value}
use Rattle.es5_tree.specs.Values.{Text, Val, Obj}
use Rattle.es5_tree.specs.Objects.Links.{cell_at}
use Rattle.es5_evaluation.specs.State.{Activation, record_at}
use Rattle.es5_evaluation.specs.State as es
use Rattle.es5_evaluation.specs.Task.{Completion, Normal, Throw, Break, Continue, Scope}
use Rattle.es5_evaluation.specs.Task as task
use Rattle.ruby_evaluation.specs.Tables.{Name}
use Rattle.ruby_evaluation.specs.State.{Ruby, frame_at}
use Rattle.ruby_evaluation.specs.Task.{BreakLoop, Next, Return, Raise, Result, Leaves, Jump, Place, Request, Evaluate, Turn, BodyFirst, Attempt, State}
use Rattle.ruby_evaluation.specs.Task as ruby
use Rattle.ruby_evaluation.specs.Requires.{Files}
use Rattle.ruby_evaluation.specs.Run.{eval_to}
use Rattle.both_meanings.specs.Names.{temp, Generated}
use Rattle.both_meanings.specs.World.{shape_of, stands, Function, Framed, Target, OfFrame, OfCall, Token, Carrier, Listed, World, Grows, IsValue, Var, Sees, SeesLocal}
use Rattle.both_meanings.specs.Holds.{Site, Scheme, IsTarget, variable_at, value_of, Holds}
use Rattle.both_meanings.specs.Carries.{Carries}
use Rattle.both_meanings.specs.Follows.{Follows}

-- ---- where a node stands

-- the code of a frame runs in its record, sees the locals, temporaries and names that it may name, and the frame is open
pub record Here (T : Scheme) (w : World) (r : Ruby) (p : Place) (at : ℕ) (site : Site) : Type 0 where
  pub frame : Framed
  pub is : w.frame p.frame ≡ Some frame
  pub record_is : frame.record_at ≡ at
  pub opened : (frame_at r p.frame).is_open ≡ true
  pub returns : site.returns ≡ true → (frame_at r p.frame).returns ≡ p.frame
  pub locals : (x : Name) → stands x site.names ≡ true → (h : ℕ) × SeesLocal w p.frame x h
  pub temps : (n : ℕ) → n < site.top → Var w at (temp n)
  pub names : (x : Text) (u : Val) → T.texts.names x u → Sees w at x u
  pub known : (o : ℕ) (f : Function) → T.texts.known o f → w.function o ≡ Some f

-- ---- what is left as it was

-- The records that were there have their shapes, and plain names in them their values.
pub record RecordsStay (rs rs1 : List Activation) : Type 0 where
  pub more : length rs ≤ length rs1
  pub shape : (q : ℕ) → q < length rs → shape_of (record_at rs1 q) ≡ shape_of (record_at rs q)
  pub plain : (q : ℕ) (x : Text) → q < length rs → (Generated x → ⊥) → variable_at rs1 q x ≡ variable_at rs q x

-- The temporaries of records that were there, and lists that are made there, but for those of the record r from t on.
pub record Kept (w : World) (r t : ℕ) (s z : es.State) : Type 0 where
  pub temps : (q n : ℕ) → q < length s.records → ((q ≡ r → ⊥) ⊎ (n < t)) → value_of z q (temp n) ≡ value_of s q (temp n)
  pub lists : (o q n : ℕ) → w.role o ≡ Some (Listed q n) → ((q ≡ r → ⊥) ⊎ (n < t)) → cell_at z.heap o ≡ cell_at s.heap o

-- all of them
pub record KeptAll (w : World) (s z : es.State) : Type 0 where
  pub temps : (q n : ℕ) → q < length s.records → value_of z q (temp n) ≡ value_of s q (temp n)
  pub lists : (o q n : ℕ) → w.role o ≡ Some (Listed q n) → cell_at z.heap o ≡ cell_at s.heap o

-- What a part of a run leaves: the world has grown, and frames that were there are as open as they were and have the tokens that they had.
pub record Later (w : World) (r : Ruby) (w1 : World) (r1 : Ruby) : Type 0 where
  pub grows : Grows w w1
  pub frames : length r.frames ≤ length r1.frames
  pub calls : length r.calls ≤ length r1.calls
  pub opened : (k : ℕ) → k < length r.frames → (frame_at r1 k).is_open ≡ (frame_at r k).is_open
  pub returns : (k : ℕ) → k < length r.frames → (frame_at r1 k).returns ≡ (frame_at r k).returns
  pub tokens : (o : ℕ) (t : Target) → IsTarget r t → w1.role o ≡ Some (Token t) → w.role o ≡ Some (Token t)

-- ---- results

-- how the result of a call matches a completion
pub data Answers (w : World) : Result → Completion → Type 0 where
  a_value : (v : Value) (u : Val) → IsValue w v u → Answers w (ruby.Val v) (Normal u)
  a_raise : (k o : ℕ) → w.object k ≡ Some o → Answers w (Leaves (Raise k)) (Throw (Obj o))
  a_return : (k e o : ℕ) (v : Value) (u : Val) → w.role e ≡ Some (Carrier o u) → w.role o ≡ Some (Token (OfFrame k)) → IsValue w v u → Answers w (Leaves (Return k v)) (Throw (Obj e))
  a_break : (n e o : ℕ) (v : Value) (u : Val) → w.role e ≡ Some (Carrier o u) → w.role o ≡ Some (Token (OfCall n)) → IsValue w v u → Answers w (Leaves (ruby.Break n v)) (Throw (Obj e))

-- and that of a node, whose value stands in the temporary t, the value of a loop in the loop's
pub data Matches (w : World) (p : Place) (r : ℕ) (site : Site) (t : ℕ) (z : es.State) : Result → Completion → Type 0 where
  m_value : (v : Value) (u y : Val) → value_of z r (temp t) ≡ Some u → IsValue w v u → Matches w p r site t z (ruby.Val v) (Normal y)
  m_thrown : (j : Jump) (y : Val) → Answers w (Leaves j) (Throw y) → Matches w p r site t z (Leaves j) (Throw y)
  m_break : (l : ℕ) (v : Value) (u : Val) → site.loop ≡ Some l → value_of z r (temp l) ≡ Some u → IsValue w v u → Matches w p r site t z (Leaves (BreakLoop v)) Break
  m_continue : (l : ℕ) (v : Value) → site.loop ≡ Some l → Matches w p r site t z (Leaves (Next v)) Continue
  m_next : (v : Value) (u : Val) → site.loop ≡ None → site.nexts ≡ true → IsValue w v u → Matches w p r site t z (Leaves (Next v)) (task.Return u)
  m_return : (v : Value) (u : Val) → site.returns ≡ true → IsValue w v u → Matches w p r site t z (Leaves (Return p.frame v)) (task.Return u)

-- the temporary from which on a node may write: that of the loop, where it breaks it
abbrev pub or_top : ℕ → Option ℕ → ℕ
or_top t None = t
or_top t (Some l) = l

abbrev pub writes_from : Site → ℕ → Result → ℕ
writes_from site t (Leaves (BreakLoop v)) = or_top t site.loop
writes_from site t _ = t

pub record Good (T : Scheme) (w : World) (p : Place) (r : ℕ) (site : Site) (t : ℕ) (before : State) (s : es.State) (x : Result) (st : State) (c : Completion) (z : es.State) : Type 0 where
  pub w1 : World
  pub holds : Holds T w1 st z
  pub stay : RecordsStay s.records z.records
  pub kept : Kept w r (writes_from site t x) s z
  pub later : Later w before.ruby w1 st.ruby
  pub is : Matches w1 p r site t z x c

-- what holds where a call has ended
pub record Called (T : Scheme) (w : World) (before : State) (s : es.State) (x : Result) (st : State) (c : Completion) (z : es.State) : Type 0 where
  pub w1 : World
  pub holds : Holds T w1 st z
  pub stay : RecordsStay s.records z.records
  pub kept : KeptAll w s z
  pub later : Later w before.ruby w1 st.ruby
  pub is : Answers w1 x c

-- ---- requests

abbrev pub place_of : Request → Place
place_of (Evaluate node p) = p
place_of (Turn condition body p) = p
place_of (BodyFirst condition body p) = p
place_of (Attempt body clauses otherwise p) = p

-- the temporary of a loop stands below
abbrev pub Below : Option ℕ → ℕ → Type 0
Below None t = ⊤
Below (Some l) t = l < t

-- With at most d requests nested, each request is followed by what stands for it, from any pair of states.
pub record Simulates (T : Scheme) (files : Files) (d : ℕ) : Type 0 where
  pub by : (a : ℕ) (site : Site) (t : ℕ) (q : Request) (u : Scope → task.Task) (w : World) (ρ : Scope) (st : State) (s : es.State) (g : ℕ) → g ≤ d → a ≤ 120 → Below site.loop t → T.texts.stands a site t q u → Here T w st.ruby (place_of q) ρ.innermost site → Holds T w st s → Follows (Carries T.called) st.calls g a (eval_to files d q st g) (u ρ) s (Good T w (place_of q) ρ.innermost site t st s)
