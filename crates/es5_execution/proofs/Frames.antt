-- Frames that are put on top or taken away, and what is left to do.
use Rattle.std.proofs.Common.{◌≡◌, ℕ, List, ◌∷◌, [], Result, Ok, Err, IfOk, refl, sym, ap, ap₂, ◌∙◌}
use Rattle.opal_base.specs.declared.place.Pos.{Pos}
use Rattle.es5_tree.specs.declared.tree.EsStmt.{EsStmt, out-EsStmt}
use Rattle.es5_evaluation.specs.Task.{Completion, Scope, Request, Task, Done, Leaves, Ask, ◌>>=◌}
use Rattle.es5_evaluation.specs.Evaluate.{all, left, eval_node, exec_node, layer, perform, refer_node}
use Rattle.es5_evaluation.proofs.Tasks.{then_assoc}
use Rattle.es5_code.specs.declared.node.Node.{Node}
use Rattle.es5_host.specs.declared.answer.OutKind.{OutKind}
use Rattle.es5_objects.specs.declared.value.EsValue.{EsValue}
use Rattle.es5_host.specs.Values.{out_of}
use Rattle.es5_code.specs.Trees.{expr_in, stmt_in, stmts_in}
use Rattle.es5_pending.specs.declared.action.Act.{Act}
use Rattle.es5_pending.specs.declared.action.Action.{Action}
use Rattle.es5_pending.specs.declared.action.Action.TheVariants as action
use Rattle.es5_pending.specs.declared.action.Begins.{Begins}
use Rattle.es5_pending.specs.declared.action.Begins.TheVariants as begin
use Rattle.es5_pending.specs.declared.frame.Completion.{Completion as MachineCompletion}
use Rattle.es5_pending.specs.declared.frame.StatementFrame.TheVariants as statement
use Rattle.es5_pending.specs.declared.frame.Frame.{Frame}
use Rattle.es5_pending.specs.declared.frame.Frame.TheVariants as frame
use Rattle.es5_pending.specs.declared.frame.ScopeFrame.TheVariants as scope
use Rattle.es5_pending.specs.Meaning.{act_task, completion_of, request_of, resume, rest, scope_behind, scope_outside, task_of}
use Rattle.es5_execution.specs.Progress.{acting, beginning, doing}

-- a frame of the same scope on top
pub on_top : (T : List Node) (ρ : Scope) (f : Frame) (fs gs : List Frame) → gs ≡ f ∷ fs → scope_behind ρ f ≡ ρ → (λ c. resume T ρ f c >>= rest T ρ fs) ≡ rest T ρ gs
unfolding rest
on_top T ρ f fs gs e h = λ i. (ap (λ σ. λ (c : Completion). resume T ρ f c >>= rest T σ fs) (sym h) ∙ ap (rest T ρ) (sym e)) i

-- a task whose end goes to that frame
pub pushed : (T : List Node) (ρ : Scope) (t : Task) (f : Frame) (fs gs : List Frame) → gs ≡ f ∷ fs → scope_behind ρ f ≡ ρ → ((t >>= resume T ρ f) >>= rest T ρ fs) ≡ (t >>= rest T ρ gs)
pushed T ρ t f fs gs e h = then_assoc t (resume T ρ f) (rest T ρ fs) ∙ ap (λ k. t >>= k) (on_top T ρ f fs gs e h)

-- a node that begins under that frame
pub begun : (T : List Node) (ρ : Scope) (q : Request) (f : Frame) (fs gs : List Frame) → gs ≡ f ∷ fs → scope_behind ρ f ≡ ρ → (Ask q (resume T ρ f) >>= rest T ρ fs) ≡ Ask q (rest T ρ gs)
unfolding ◌>>=◌
begun T ρ q f fs gs e h = ap (Ask q) (on_top T ρ f fs gs e h)

-- the body of a function in its scope
pub body_entered : (T : List Node) (ρ σ : Scope) (xs : List EsStmt) (this : EsValue) (innermost : ℕ) (fs gs : List Frame) (t : Task) → gs ≡ frame.Scope (scope.Body this innermost) ∷ fs → scope_outside (scope.Body this innermost) ≡ ρ → t ≡ all xs σ → ((all xs σ >>= left) >>= rest T ρ fs) ≡ (t >>= rest T σ gs)
unfolding rest resume
body_entered T ρ σ xs this innermost fs gs t e h q =
    then_assoc (all xs σ) left (rest T ρ fs)
    ∙ (ap (λ τ. all xs σ >>= (λ c. left c >>= rest T τ fs)) (sym h)
    ∙ ap₂ (λ u hs. u >>= rest T σ hs) (sym q) (sym e))

-- the part of a `try` that takes what was thrown in its scope
pub handler_entered : (T : List Node) (ρ σ : Scope) (xs : List EsStmt) (this : EsValue) (innermost : ℕ) (fs gs : List Frame) (t : Task) → gs ≡ frame.Scope (scope.Handler this innermost) ∷ fs → scope_outside (scope.Handler this innermost) ≡ ρ → t ≡ all xs σ → (all xs σ >>= rest T ρ fs) ≡ (t >>= rest T σ gs)
unfolding rest resume ◌>>=◌
handler_entered T ρ σ xs this innermost fs gs t e h q =
    ap (λ τ. all xs σ >>= rest T τ fs) (sym h)
    ∙ ap₂ (λ u hs. u >>= rest T σ hs) (sym q) (sym e)

-- a frame takes a completion
pub taken : (T : List Node) (ρ σ : Scope) (f g : Frame) (fs hs : List Frame) (c : Completion) (t : Task) → hs ≡ f ∷ fs → σ ≡ scope_behind ρ f → resume T ρ f ≡ resume T σ g → t ≡ resume T σ g c → rest T ρ hs c ≡ (t >>= rest T σ fs)
unfolding rest
taken T ρ σ f g fs hs c t e h r q =
    ap (λ x. rest T ρ x c) e
    ∙ ap₂ (λ k τ. k c >>= rest T τ fs) r (sym h)
    ∙ ap (λ u. u >>= rest T σ fs) (sym q)

pub finished : (T : List Node) (ρ : Scope) (hs : List Frame) (c : Completion) → hs ≡ [] → rest T ρ hs c ≡ Done c
unfolding rest
finished T ρ hs c e = ap (λ x. rest T ρ x c) e

-- ---- actions, and what all frames do

pub answers : (T : List Node) (ρ : Scope) (c : MachineCompletion) (fs : List Frame) → doing T ρ (action.Answer c) fs ≡ rest T ρ fs (completion_of c)
unfolding task_of ◌>>=◌
answers T ρ c fs = refl

pub leaves : (T : List Node) (ρ : Scope) (k : OutKind) (p : Pos) (fs : List Frame) → doing T ρ (action.Leave k p) fs ≡ Leaves (out_of k) p
unfolding task_of ◌>>=◌
leaves T ρ k p fs = refl

pub begins : (T : List Node) (ρ : Scope) (b : Begins) (fs : List Frame) → doing T ρ (action.Begin b) fs ≡ Ask (request_of T ρ b) (rest T ρ fs)
unfolding task_of ◌>>=◌
begins T ρ b fs = refl

pub begins_under : (T : List Node) (ρ : Scope) (b : Begins) (f : Frame) (fs gs : List Frame) → gs ≡ f ∷ fs → scope_behind ρ f ≡ ρ → doing T ρ (action.BeginUnder b f) fs ≡ Ask (request_of T ρ b) (rest T ρ gs)
unfolding task_of
begins_under T ρ b f fs gs e h = begun T ρ (request_of T ρ b) f fs gs e h

pub acts : (T : List Node) (ρ : Scope) (a : Act) (fs : List Frame) → doing T ρ (action.Act a) fs ≡ acting T ρ a fs
unfolding task_of
acts T ρ a fs = refl

pub acts_under : (T : List Node) (ρ : Scope) (a : Act) (f : Frame) (fs gs : List Frame) → gs ≡ f ∷ fs → scope_behind ρ f ≡ ρ → doing T ρ (action.ActUnder a f) fs ≡ acting T ρ a gs
unfolding task_of
acts_under T ρ a f fs gs e h = pushed T ρ (act_task T ρ a) f fs gs e h

pub sequence_under : (T : List Node) (ρ : Scope) (list : ℕ) (f : Frame) (fs gs : List Frame) (t : Task) → gs ≡ f ∷ fs → scope_behind ρ f ≡ ρ → t ≡ all (stmts_in T list) ρ → doing T ρ (action.SequenceUnder list f) fs ≡ (t >>= rest T ρ gs)
unfolding task_of
sequence_under T ρ list f fs gs t e h q = pushed T ρ (all (stmts_in T list) ρ) f fs gs e h ∙ ap (λ u. u >>= rest T ρ gs) (sym q)

-- ---- nodes that begin

pub opened : (T : List Node) (ρ : Scope) (b : Begins) (a : Action) (fs : List Frame) → task_of T ρ a ≡ perform (request_of T ρ b) → beginning T ρ b fs ≡ doing T ρ a fs
opened T ρ b a fs q = ap (λ t. t >>= rest T ρ fs) (sym q)

-- the test of a loop, under the frame that goes on with the loop
pub turned : (T : List Node) (ρ : Scope) (i body : ℕ) (a : Action) (fs gs : List Frame) → gs ≡ frame.Statement (statement.Test i body) ∷ fs → task_of T ρ a ≡ eval_node (layer (expr_in T i)) (expr_in T i).pos ρ → beginning T ρ (begin.Turn i body) fs ≡ doing T ρ a gs
unfolding perform request_of resume
turned T ρ i body a fs gs e q = pushed T ρ (eval_node (layer (expr_in T i)) (expr_in T i).pos ρ) (frame.Statement (statement.Test i body)) fs gs e refl ∙ ap (λ t. t >>= rest T ρ gs) (sym q)

pub evaluated : (T : List Node) (ρ : Scope) (i : ℕ) → perform (request_of T ρ (begin.Evaluate i)) ≡ eval_node (layer (expr_in T i)) (expr_in T i).pos ρ
unfolding perform request_of
evaluated T ρ i = refl

pub referred : (T : List Node) (ρ : Scope) (i : ℕ) → perform (request_of T ρ (begin.Refer i)) ≡ refer_node (layer (expr_in T i)) (expr_in T i).pos ρ
unfolding perform request_of
referred T ρ i = refl

pub executed : (T : List Node) (ρ : Scope) (i : ℕ) → perform (request_of T ρ (begin.Execute i)) ≡ exec_node (out-EsStmt (stmt_in T i)) ρ
unfolding perform request_of
executed T ρ i = refl

-- what holds of an answer holds of another one
pub if_ok : {T E : Type 0} (r : Result T E) (P Q : T → Type 0) → ((x : T) → P x → Q x) → IfOk r P → IfOk r Q
if_ok (Ok x) P Q f p = f x p
if_ok (Err e) P Q f p = p
