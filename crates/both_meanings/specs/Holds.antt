-- How the states of both sides stand to each other while a program runs.
use Rattle.std.specs.Prelude.{◌≡◌, ℕ, ◌<◌, Bool, Option, None, Some, is_some, ⊤}
use Rattle.ruby_meaning.specs.declared.value.Value.{Value}
use Rattle.es5_tree.specs.Values.{Text, Val, Truth, Obj, find_own}
use Rattle.es5_tree.specs.Objects.Cells as cell
use Rattle.es5_tree.specs.Objects.Links.{cell_at, get}
use Rattle.es5_tree.specs.Intrinsics.Lines.{rest}
use Rattle.es5_evaluation.specs.State.{Code, Activation, code_at, record_at, value_in}
use Rattle.es5_evaluation.specs.State as es
use Rattle.std.specs.Prelude.{codes, List, length}
use Rattle.es5_evaluation.specs.Task.{Scope}
use Rattle.es5_evaluation.specs.Task as task
use Rattle.ruby_evaluation.specs.Tables.{Name, at}
use Rattle.ruby_evaluation.specs.State.{Entry, Closure, Block, Frame, Ruby, thing_at, frame_at, is_call_open}
use Rattle.ruby_evaluation.specs.Ancestors.{entry_at}
use Rattle.ruby_evaluation.specs.Task.{State, Request}
use Rattle.both_meanings.specs.Names.{local, IsFrameName, self_name, block_name}
use Rattle.both_meanings.specs.World.{Shape, shape_of, stands, Function, Framed, Target, OfFrame, OfCall, Role, Token, Carrier, Listed, World, Grows, IsValue, Sees, SeesModules, SeesHome, FrameIs}
use Rattle.both_meanings.specs.Carries.{Heap, CarriesHeap, IsPlain, method_name, mod_of, own_of, id_of}
use Rattle.both_meanings.specs.Follows.{calls_of}

-- ---- which texts of scripts stand for which of Ruby's

-- where the code of a node stands in its text: the locals and the temporaries that it may name, the temporary of the loop around,
-- and whether `return` and `next` leave the function that it stands in
pub record Site : Type 0 where
  pub names : List Name
  pub top : ℕ
  pub loop : Option ℕ
  pub returns : Bool
  pub nexts : Bool

-- What a translation makes of texts: what its own names stand for wherever code runs, and the functions among that; and a task that
-- stands for a request, for one of depth at most a, at a place of a text, with its value in a temporary.
pub record Texts : Type 1 where
  pub names : Text → Val → Type 0
  pub known : ℕ → Function → Type 0
  pub stands : (a : ℕ) → Site → (t : ℕ) → Request → (Scope → task.Task) → Type 0

-- And the names that have a stub at the root, and the functions that stand for the entry of a method and for the text of a block,
-- or lambda, where they are made.
pub record Scheme : Type 1 where
  pub texts : Texts
  pub called : List Name
  pub entry : World → Entry → Function → Type 0
  pub block : World → Closure → Function → Type 0

-- ---- records and frames

-- the variable of a record
abbrev pub variable_at : List Activation → ℕ → Text → Option Val
variable_at rs r x = find_own (record_at rs r).variables x

abbrev pub value_of : es.State → ℕ → Text → Option Val
value_of s r x = variable_at s.records r x

-- the records have the shapes that the world says
pub record Shapes (w : World) (rs : List Activation) : Type 0 where
  pub by : (r : ℕ) (sh : Shape) → w.shape r ≡ Some sh → (r < length rs) × (shape_of (record_at rs r) ≡ sh)

-- a frame and its record
pub record FrameHolds (w : World) (rs : List Activation) (k : ℕ) (f : Framed) (fr : Frame) : Type 0 where
  pub is : FrameIs w k f
  pub outer : fr.outer ≡ f.outer
  pub names : (x : Name) → is_some (at x fr.locals) ≡ stands x f.names
  pub values : (x : Name) (v : Value) → at x fr.locals ≡ Some v → (u : Val) × (variable_at rs f.record_at (local x) ≡ Some u) × IsValue w v u
  pub me : (u : Val) × Sees w f.record_at self_name u × IsValue w fr.me u
  pub block : (u : Val) × Sees w f.record_at block_name u × IsValue w fr.block u
  pub modules : SeesModules w f.record_at fr.around.modules
  pub home : SeesHome w f.record_at fr.method

pub record RecordsHold (w : World) (r : Ruby) (rs : List Activation) : Type 0 where
  pub shapes : Shapes w rs
  pub fixed : (q : ℕ) (x : Text) (u : Val) → w.fixed q x ≡ Some u → (q < length rs) × IsFrameName x × (value_in (record_at rs q) x ≡ Some u)
  pub frames : (k : ℕ) (f : Framed) → w.frame k ≡ Some f → (k < length r.frames) × FrameHolds w rs k f (frame_at r k)
  pub apart : (j k : ℕ) (f g : Framed) → w.frame j ≡ Some f → w.frame k ≡ Some g → f.record_at ≡ g.record_at → j ≡ k
  pub lists : (o q n : ℕ) → w.role o ≡ Some (Listed q n) → q < length rs

-- ---- objects

abbrev pub open_name : Name
open_name = codes "$$open"

abbrev pub token_name : Name
token_name = codes "$$token"

abbrev pub value_name : Name
value_name = codes "$$value"

abbrev pub is_open : Ruby → Target → Bool
is_open r (OfFrame k) = (frame_at r k).is_open
is_open r (OfCall n) = is_call_open r n

-- the target has begun
abbrev pub IsTarget : Ruby → Target → Type 0
IsTarget r (OfFrame k) = k < length r.frames
IsTarget r (OfCall n) = n < length r.calls

-- A token is a plain object that is marked open while its target is; a carrier has its token and its value. What a list holds is known to who makes it.
abbrev pub Serves : Ruby → Heap → ℕ → Role → Type 0
Serves r h o (Token t) = IsTarget r t × ((cell_at h o).kind ≡ cell.Object) × (own_of h o open_name ≡ Some (Truth (is_open r t)))
Serves r h o (Carrier p u) = (own_of h o token_name ≡ Some (Obj p)) × (own_of h o value_name ≡ Some u)
Serves r h o _ = ⊤

-- a function with this code, made in this record
pub record IsFunction (h : Heap) (cs : List Code) (o : ℕ) (f : Function) : Type 0 where
  pub at : ℕ
  pub kind : (cell_at h o).kind ≡ cell.Function at f.scope
  pub there : at < length cs
  pub code : code_at cs at ≡ f.code

-- the function of a method's entry, which has stood for it since an earlier world
pub record IsEntry (T : Scheme) (w : World) (e : Entry) (o : ℕ) : Type 0 where
  pub function : Function
  pub is : w.function o ≡ Some function
  pub since : World
  pub grown : Grows since w
  pub text : T.entry since e function

-- a proc: its function, and the self of the frame around its text
pub record IsProc (T : Scheme) (w : World) (me : Value) (h : Heap) (c : Closure) (o : ℕ) : Type 0 where
  pub function : Function
  pub is : w.function o ≡ Some function
  pub since : World
  pub grown : Grows since w
  pub text : T.block since c function
  pub self : Val
  pub self_is : own_of h o self_name ≡ Some self
  pub self_value : IsValue w me self

pub record ObjectsHold (T : Scheme) (w : World) (r : Ruby) (h : Heap) (cs : List Code) : Type 0 where
  pub carries : CarriesHeap T.called r h
  pub objects : (k o : ℕ) → w.object k ≡ Some o → id_of h o ≡ Some k
  pub numbers : (o k : ℕ) → id_of h o ≡ Some k → w.object k ≡ Some o
  pub functions : (o : ℕ) (f : Function) → w.function o ≡ Some f → (o < length h) × IsFunction h cs o f
  pub entries : (M : ℕ) (m : Name) (e : Entry) (l o : ℕ) → IsPlain m → entry_at r m M ≡ Some e → mod_of h l ≡ Some M → own_of h l (method_name m) ≡ Some (Obj o) → IsEntry T w e o
  pub procs : (k o : ℕ) (c : Closure) → (thing_at r k).form ≡ Block c → w.object k ≡ Some o → (c.frame < length r.frames) × IsProc T w (frame_at r c.frame).me h c o
  pub roles : (o : ℕ) (x : Role) → w.role o ≡ Some x → (o < length h) × Serves r h o x
  pub clean : (k o : ℕ) → w.object k ≡ Some o → get h o token_name ≡ None
  pub single : (o p : ℕ) (t : Target) → w.role o ≡ Some (Token t) → w.role p ≡ Some (Token t) → o ≡ p

-- ---- states

pub record Holds (T : Scheme) (w : World) (st : State) (s : es.State) : Type 0 where
  pub calls : calls_of st.calls ≡ s.calls
  pub input : rest s.lines ≡ st.ruby.input
  pub objects : ObjectsHold T w st.ruby s.heap s.codes
  pub records : RecordsHold w st.ruby s.records
