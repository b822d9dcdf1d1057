-- A small setting: texts of whole numbers, self, `next` and `return`, in methods and blocks that take no parameters. In it a call of
-- a method, a call of a block and a jump to a token are said once in full.
use Rattle.std.specs.Prelude.{◌≡◌, ℕ, suc, ℤ, ◌<◌, ◌≤◌, ◌+◌, true, List, [], ◌∷◌, ◌++◌, length, Option, Some, None, codes}
use Rattle.opal_base.specs.declared.place.Pos.{Pos}
use Rattle.ruby_meaning.specs.declared.tree.Base.TheOpen.{Kind-F}
use Rattle.ruby_meaning.specs.declared.tree.JumpKind.TheVariants as jump_kind
use Rattle.ruby_meaning.specs.declared.tree.Kind.{out-Kind}
use Rattle.ruby_meaning.specs.declared.tree.Node.{Node}
use Rattle.ruby_meaning.specs.declared.value.Value.{Value}
use Rattle.ruby_meaning.specs.declared.value.Value.TheVariants as value
use Rattle.es5_tree.specs.declared.tree.EsExpr.{EsExpr}
use Rattle.es5_tree.specs.declared.tree.EsKind.TheVariants as kind
use Rattle.es5_tree.specs.declared.tree.EsStmt.{EsStmt}
use Rattle.es5_tree.specs.declared.tree.EsStmt.TheVariants as stmt
use Rattle.es5_tree.specs.Values.{Text, Val, Obj}
use Rattle.es5_evaluation.specs.State as es
use Rattle.es5_evaluation.specs.Values.{holder_of}
use Rattle.es5_evaluation.specs.Task.{Completion, Scope, ◌>>=◌}
use Rattle.es5_evaluation.specs.Task as task
use Rattle.es5_evaluation.specs.Evaluate.{all, invoke}
use Rattle.ruby_evaluation.specs.Tables.{Name}
use Rattle.ruby_evaluation.specs.State.{Method, Def, Block, Closure, Entry, thing_at, frame_at}
use Rattle.ruby_evaluation.specs.Ancestors.{find}
use Rattle.ruby_evaluation.specs.Task.{Request, Evaluate, Turn, BodyFirst, Attempt, Task, Eval, State, walk}
use Rattle.ruby_evaluation.specs.Calls.{call_method, call_proc, with_literal}
use Rattle.ruby_evaluation.specs.Requires.{Files}
use Rattle.ruby_evaluation.specs.Run.{eval_to}
use Rattle.both_meanings.specs.Names.{temp, self_name}
use Rattle.both_meanings.specs.World.{Function, OfCall, Token, World, IsValue}
use Rattle.both_meanings.specs.Carries.{Carries, IsPlain, method_name, get_from}
use Rattle.both_meanings.specs.Follows.{Follows}
use Rattle.both_meanings.specs.Holds.{Site, Texts, Scheme, Holds}
use Rattle.both_meanings.specs.Simulates.{RecordsStay, KeptAll, Later, Called, Simulates}
use Rattle.both_meanings.specs.Code.{Sets, IsMethod, IsBlock, Lands}

-- the statements of a node of depth at most a, at a place of a text, with its value in the temporary t
pub data CodeOf : ℕ → Site → ℕ → Node → List EsStmt → Type 0 where
  of_int : (a : ℕ) (site : Site) (t : ℕ) (node : Node) (n : ℤ) (ts : EsStmt) (e : EsExpr) → out-Kind node.kind ≡ Kind-F.Int n → t < site.top → Sets ts t e → e.kind ≡ kind.Num n → CodeOf (suc a) site t node (ts ∷ [])
  of_self : (a : ℕ) (site : Site) (t : ℕ) (node : Node) (ts : EsStmt) (e : EsExpr) → out-Kind node.kind ≡ Kind-F.SelfRef → t < site.top → Sets ts t e → e.kind ≡ kind.Name self_name → CodeOf (suc a) site t node (ts ∷ [])
  of_next : (a : ℕ) (site : Site) (t : ℕ) (node part : Node) (t0 : EsStmt) (ts : List EsStmt) (e : EsExpr) → out-Kind node.kind ≡ Kind-F.Jump jump_kind.Next part → site.loop ≡ None → site.nexts ≡ true → t < site.top → CodeOf a site t part (t0 ∷ ts) → e.kind ≡ kind.Name (temp t) → CodeOf (suc a) site t node (t0 ∷ (ts ++ stmt.Return (Some e) ∷ []))
  of_return : (a : ℕ) (site : Site) (t : ℕ) (node part : Node) (t0 : EsStmt) (ts : List EsStmt) (e : EsExpr) → out-Kind node.kind ≡ Kind-F.Jump jump_kind.Return part → site.returns ≡ true → t < site.top → CodeOf a site t part (t0 ∷ ts) → e.kind ≡ kind.Name (temp t) → CodeOf (suc a) site t node (t0 ∷ (ts ++ stmt.Return (Some e) ∷ []))

-- the node of a request for a value
abbrev pub node_of : Request → Option Node
node_of (Evaluate node p) = Some node
node_of (Turn condition body p) = None
node_of (BodyFirst condition body p) = None
node_of (Attempt body clauses otherwise p) = None

-- a task that stands for such a request
pub record IsCode (a : ℕ) (site : Site) (t : ℕ) (q : Request) (u : Scope → task.Task) : Type 0 where
  pub node : Node
  pub is : node_of q ≡ Some node
  pub code : List EsStmt
  pub of : CodeOf a site t node code
  pub all_of : u ≡ (λ ρ. all code ρ)

abbrev pub nil_name : Text
nil_name = codes "$$nil"

-- nil is this object
abbrev pub small_texts : ℕ → Texts
small_texts nil = record { names = λ x u. (x ≡ nil_name) × (u ≡ Obj nil); known = λ o f. ⊥; stands = IsCode }

pub record MethodOf (X : Texts) (w : World) (e : Entry) (f : Function) : Type 0 where
  pub method : Method
  pub is : e ≡ Def method
  pub stands : IsMethod X w method f

-- it has no locals
pub record BlockOf (X : Texts) (w : World) (c : Closure) (f : Function) : Type 0 where
  pub stands : IsBlock X w c f
  pub depth : ℕ
  pub site : Site
  pub code : List EsStmt
  pub of : CodeOf depth site 0 c.body code
  pub none : stands.text.own ≡ []

abbrev pub small : ℕ → List Name → Scheme
small nil called = record { texts = small_texts nil; called = called; entry = MethodOf (small_texts nil); block = BlockOf (small_texts nil) }

-- ---- the laws

-- each node is simulated
abbrev pub SmallSimulates : Type 0
SmallSimulates = (nil : ℕ) (called : List Name) (files : Files) (d : ℕ) → Simulates (small nil called) files d

-- A call of a method that Ruby's search finds: a function is found under its name along the links of the value, and calling it
-- with self and the block follows the call.
abbrev pub MethodCall : Type 0
MethodCall = (nil : ℕ) (called : List Name) (files : Files) (d : ℕ) (w : World) (st : State) (s : es.State) → Holds (small nil called) w st s
    → (v b : Value) (u bu : Val) → IsValue w v u → IsValue w b bu → (m : Name) (x : Method) → IsPlain m → find st.ruby v m ≡ Some (Def x) → (l : ℕ) → l ≤ d → (p : Pos)
    → (f : ℕ) × (get_from s.heap (holder_of u) (method_name m) ≡ Some (Obj f)) × Follows (Carries called) st.calls l 0 (walk (eval_to files d) (call_method v m [] b) st l) (invoke p (Obj f) u (bu ∷ [])) s (Called (small nil called) w st s)

-- A call of a proc that was made of a block: calling its object with the self of its frame follows the call.
abbrev pub BlockCall : Type 0
BlockCall = (nil : ℕ) (called : List Name) (files : Files) (d : ℕ) (w : World) (st : State) (s : es.State) → Holds (small nil called) w st s
    → (k o : ℕ) (c : Closure) → (thing_at st.ruby k).form ≡ Block c → w.object k ≡ Some o → (b : Value) (l : ℕ) → l ≤ d → (p : Pos)
    → (u : Val) × IsValue w (frame_at st.ruby c.frame).me u × Follows (Carries called) st.calls l 0 (walk (eval_to files d) (call_proc (value.Ref k) None [] b) st l) (invoke p (Obj o) u (Obj nil ∷ [])) s (Called (small nil called) w st s)

-- A call with a literal block, whose token stands open: where what stands behind it lands jumps to the token, a break of the block
-- ends the call with its value, and any other result goes on.
abbrev pub TokenJump : Type 0
TokenJump = (nil : ℕ) (called : List Name) (w0 w : World) (before st : State) (s0 s : es.State) → Holds (small nil called) w0 before s0
    → (n o : ℕ) → w.role o ≡ Some (Token (OfCall n)) → Later w0 before.ruby w st.ruby → RecordsStay s0.records s.records → KeptAll w0 s0 s
    → (f : Eval) (tr : Task) (t : task.Task) (kk : Completion → task.Task) (a l : ℕ) → Lands s (length s0.records) o kk → Follows (Carries called) st.calls l a (walk f tr st l) t s (Called (small nil called) w st s)
    → Follows (Carries called) st.calls l (a + 120) (walk f (with_literal (Some n) tr) st l) (t >>= kk) s (Called (small nil called) w0 before s0)
