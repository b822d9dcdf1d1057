-- What completions, frames, actions and stacks mean: what the definition does with the rest.
use Rattle.std.specs.Prelude.{◌≡◌, ℕ, true, not, List, [], ◌∷◌, ◌++◌, drop, map, option_map, Option, None, Some, codes}
use Rattle.opal_base.specs.declared.place.Pos.{Pos}
use Rattle.es5_tree.specs.declared.tree.Catch.{Catch, roll-Catch}
use Rattle.es5_tree.specs.declared.tree.EsStmt.{EsStmt}
use Rattle.es5_tree.specs.declared.tree.EsKind.TheOpen.{EsKind-F}
use Rattle.es5_tree.specs.Values.{Text, Val, Undefined, Truth}
use Rattle.es5_evaluation.specs.Task.{Place, Completion, Normal, Refers, Return, Throw, Break, Continue, Scope, Request, Task, Done, Leaves, Ask, ◌>>=◌}
use Rattle.es5_evaluation.specs.Task as task
use Rattle.es5_evaluation.specs.Values.{truthy, negated, binary}
use Rattle.es5_evaluation.specs.Evaluate.{gives, normally, referred, operated, type_error, read_name, write_name, read_property, write_property, delete_property, Wanted, access, access_at, all, left, invoke, gather, make_array, make_object, make_function, call_place, call_with, type_of, type_of_place, delete_place, and_then, or_else, choose, write_place, branch, turn, again, tried, caught_by, at_last, instead, layer, Layer}
use Rattle.es5_evaluation.specs.Evaluate as evaluate
use Rattle.es5_objects.specs.Values.{value_of}
use Rattle.es5_host.specs.Values.{out_of}
use Rattle.es5_code.specs.declared.node.Node.{Node}
use Rattle.es5_code.specs.Trees.{expr_in, stmt_in, exprs_in, stmts_in, code_in}
use Rattle.es5_pending.specs.declared.frame.Place.{Place as MachinePlace}
use Rattle.es5_pending.specs.declared.frame.Place.TheVariants as place
use Rattle.es5_pending.specs.declared.frame.Completion.{Completion as MachineCompletion}
use Rattle.es5_pending.specs.declared.frame.Completion.TheVariants as completion
use Rattle.es5_pending.specs.declared.frame.Wanted.{Wanted as MachineWanted}
use Rattle.es5_pending.specs.declared.frame.Wanted.TheVariants as wanted
use Rattle.es5_pending.specs.declared.frame.Gathering.{Gathering}
use Rattle.es5_pending.specs.declared.frame.Gathering.TheVariants as gathering
use Rattle.es5_pending.specs.declared.frame.Handler.{Handler}
use Rattle.es5_pending.specs.declared.frame.Frame.{Frame}
use Rattle.es5_pending.specs.declared.frame.Frame.TheVariants as frame
use Rattle.es5_pending.specs.declared.frame.AccessFrame.{AccessFrame}
use Rattle.es5_pending.specs.declared.frame.AccessFrame.TheVariants as access
use Rattle.es5_pending.specs.declared.frame.CallFrame.{CallFrame}
use Rattle.es5_pending.specs.declared.frame.CallFrame.TheVariants as call
use Rattle.es5_pending.specs.declared.frame.OperatorFrame.{OperatorFrame}
use Rattle.es5_pending.specs.declared.frame.OperatorFrame.TheVariants as operator
use Rattle.es5_pending.specs.declared.frame.StatementFrame.{StatementFrame}
use Rattle.es5_pending.specs.declared.frame.StatementFrame.TheVariants as statement
use Rattle.es5_pending.specs.declared.frame.TryFrame.{TryFrame}
use Rattle.es5_pending.specs.declared.frame.TryFrame.TheVariants as try
use Rattle.es5_pending.specs.declared.frame.ScopeFrame.{ScopeFrame}
use Rattle.es5_pending.specs.declared.frame.ScopeFrame.TheVariants as scope
use Rattle.es5_pending.specs.declared.behind.Part.{Part}
use Rattle.es5_pending.specs.declared.behind.Part.TheVariants as part
use Rattle.es5_pending.specs.declared.action.Begins.{Begins}
use Rattle.es5_pending.specs.declared.action.Begins.TheVariants as begins
use Rattle.es5_pending.specs.declared.action.Fault.{Fault}
use Rattle.es5_pending.specs.declared.action.Fault.TheVariants as fault
use Rattle.es5_pending.specs.declared.action.Act.{Act}
use Rattle.es5_pending.specs.declared.action.Act.TheVariants as act
use Rattle.es5_pending.specs.declared.action.Action.{Action}
use Rattle.es5_pending.specs.declared.action.Action.TheVariants as action

abbrev pub place_of : MachinePlace → Place
place_of (place.Variable name) = task.Variable name
place_of (place.Property v name) = task.Property (value_of v) name

abbrev pub completion_of : MachineCompletion → Completion
completion_of (completion.Normal v) = Normal (value_of v)
completion_of (completion.Refers p) = Refers (place_of p)
completion_of (completion.Return v) = Return (value_of v)
completion_of (completion.Throw v) = Throw (value_of v)
completion_of completion.Break = Break
completion_of completion.Continue = Continue

abbrev pub wanted_of : MachineWanted → Wanted
wanted_of wanted.Value = evaluate.ItsValue
wanted_of wanted.Place = evaluate.ItsPlace

-- the keys of an object expression
abbrev pub keys_of : Layer → List Text
keys_of (EsKind-F.Object keys values) = keys
keys_of _ = []

abbrev pub keys_in : List Node → ℕ → List Text
keys_in T i = keys_of (layer (expr_in T i))

-- what is done with the values of a list
abbrev pub gathered : List Node → Gathering → List Val → Task
gathered T (gathering.Arguments f this p) vs = invoke p (value_of f) (value_of this) vs
gathered T gathering.Elements vs = make_array vs
gathered T (gathering.Properties i) vs = make_object (keys_in T i) vs

abbrev pub catch_of : List Node → Handler → Catch
catch_of T h = roll-Catch (record { name = h.name; body = stmts_in T h.body })

abbrev pub handler_of : List Node → Option Handler → Option Catch
handler_of T h = option_map (catch_of T) h

abbrev pub body_of : List Node → Option ℕ → Option (List EsStmt)
body_of T o = option_map (stmts_in T) o

-- ---- frames: what is done with the end of a node, in the scope of the frame

abbrev pub access_rest : Scope → List Node → AccessFrame → Completion → Task
access_rest ρ T (access.Member name want) = normally (λ v. access (wanted_of want) v name)
access_rest ρ T (access.Base key p want) = normally (λ v. Ask (task.Evaluate (expr_in T key) ρ) (normally (λ w. access_at p (wanted_of want) v w)))
access_rest ρ T (access.Key base p want) = normally (λ w. access_at p (wanted_of want) (value_of base) w)

abbrev pub call_rest : Scope → List Node → CallFrame → Completion → Task
call_rest ρ T (call.Callee args p) = referred (call_place p (exprs_in T args) ρ) (call_with p (exprs_in T args) ρ Undefined)
call_rest ρ T (call.Function this args p) = normally (call_with p (exprs_in T args) ρ (value_of this))
call_rest ρ T (call.Gather g list next values) = normally (λ v. gather (drop next (exprs_in T list)) ρ (values ++ v ∷ []) (gathered T g))

abbrev pub operator_rest : Scope → List Node → OperatorFrame → Completion → Task
operator_rest ρ T operator.Not = normally (λ v. gives (Truth (not (truthy v))))
operator_rest ρ T (operator.Neg p) = normally (λ v. operated p (negated v))
operator_rest ρ T operator.Typeof = referred (type_of_place ρ.innermost) type_of
operator_rest ρ T operator.TypeofValue = normally type_of
operator_rest ρ T operator.Delete = referred delete_place (λ v. gives (Truth true))
operator_rest ρ T (operator.Left o right p) = normally (λ v. Ask (task.Evaluate (expr_in T right) ρ) (normally (λ w. operated p (binary o v w))))
operator_rest ρ T (operator.Right o left p) = normally (λ w. operated p (binary o (value_of left) w))
operator_rest ρ T (operator.And right) = normally (λ v. and_then (truthy v) v (expr_in T right) ρ)
operator_rest ρ T (operator.Or right) = normally (λ v. or_else (truthy v) v (expr_in T right) ρ)
operator_rest ρ T (operator.Cond first second) = normally (λ v. Ask (task.Evaluate (choose (truthy v) (expr_in T first) (expr_in T second)) ρ) Done)
operator_rest ρ T (operator.Target value p) = referred (λ x. Ask (task.Evaluate (expr_in T value) ρ) (normally (write_place p ρ.innermost x))) (λ v. type_error (codes "not writable"))
operator_rest ρ T (operator.Assign x p) = normally (write_place p ρ.innermost (place_of x))

abbrev pub statement_rest : Scope → List Node → StatementFrame → Completion → Task
statement_rest ρ T (statement.Variable name) = normally (write_name ρ.innermost name)
statement_rest ρ T (statement.If first second) = normally (λ v. branch (truthy v) (stmt_in T first) (option_map (stmt_in T) second) ρ)
statement_rest ρ T (statement.Test e b) = turn (expr_in T e) (stmt_in T b) ρ
statement_rest ρ T (statement.Loop e b) = again (expr_in T e) (stmt_in T b) ρ
statement_rest ρ T statement.Return = normally (λ v. Done (Return v))
statement_rest ρ T statement.Throw = normally (λ v. Done (Throw v))
statement_rest ρ T (statement.Sequence list next) = normally (λ v. all (drop next (stmts_in T list)) ρ)

abbrev pub try_rest : Scope → List Node → TryFrame → Completion → Task
try_rest ρ T (try.First handler finally) = tried (handler_of T handler) (body_of T finally) ρ
try_rest ρ T (try.Finally finally) = at_last (body_of T finally) ρ
try_rest ρ T (try.Last c) = instead (completion_of c)

abbrev pub scope_rest : ScopeFrame → Completion → Task
scope_rest (scope.Body this innermost) = left
scope_rest (scope.Handler this innermost) = λ c. Done c

unfoldable pub resume : List Node → Scope → Frame → Completion → Task
resume T ρ (frame.Access f) = access_rest ρ T f
resume T ρ (frame.Call f) = call_rest ρ T f
resume T ρ (frame.Operator f) = operator_rest ρ T f
resume T ρ (frame.Statement f) = statement_rest ρ T f
resume T ρ (frame.Try f) = try_rest ρ T f
resume T ρ (frame.Scope f) = scope_rest f

-- the scope outside of a function's body, or of the part of a `try` that takes what was thrown
abbrev pub scope_outside : ScopeFrame → Scope
scope_outside (scope.Body this innermost) = record { this = value_of this; innermost = innermost }
scope_outside (scope.Handler this innermost) = record { this = value_of this; innermost = innermost }

-- the scope of the frames behind this one
abbrev pub scope_behind : Scope → Frame → Scope
scope_behind ρ (frame.Access f) = ρ
scope_behind ρ (frame.Call f) = ρ
scope_behind ρ (frame.Operator f) = ρ
scope_behind ρ (frame.Statement f) = ρ
scope_behind ρ (frame.Try f) = ρ
scope_behind ρ (frame.Scope f) = scope_outside f

-- what all frames do with the end of a node; the newest stands first
unfoldable pub rest : List Node → Scope → List Frame → Completion → Task
rest T ρ [] c = Done c
rest T ρ (f ∷ fs) c = resume T ρ f c >>= rest T (scope_behind ρ f) fs

-- ---- actions

unfoldable pub request_of : List Node → Scope → Begins → Request
request_of T ρ (begins.Evaluate i) = task.Evaluate (expr_in T i) ρ
request_of T ρ (begins.Refer i) = task.Refer (expr_in T i) ρ
request_of T ρ (begins.Execute i) = task.Execute (stmt_in T i) ρ
request_of T ρ (begins.Turn i j) = task.Turn (expr_in T i) (stmt_in T j) ρ

abbrev pub fault_message : Fault → Text
fault_message fault.NoProperties = codes "no properties"
fault_message fault.NotWritable = codes "not writable"
fault_message fault.NotDeletable = codes "not deletable"

unfoldable pub act_task : List Node → Scope → Act → Task
act_task T ρ act.This = gives ρ.this
act_task T ρ (act.ReadName name) = read_name ρ.innermost name
act_task T ρ (act.WriteName name v) = write_name ρ.innermost name (value_of v)
act_task T ρ (act.TypeofName name) = type_of_place ρ.innermost (task.Variable name)
act_task T ρ (act.Typeof v) = type_of (value_of v)
act_task T ρ (act.ReadProperty v name) = read_property (value_of v) name
act_task T ρ (act.WriteProperty base name v p) = write_property p (value_of base) name (value_of v)
act_task T ρ (act.DeleteProperty base name) = delete_property (value_of base) name
act_task T ρ (act.Raise f) = type_error (fault_message f)
act_task T ρ (act.MakeArray vs) = make_array vs
act_task T ρ (act.MakeObject i vs) = make_object (keys_in T i) vs
act_task T ρ (act.MakeFunction i) = make_function (code_in T i) ρ.innermost
act_task T ρ (act.Invoke f this vs p) = invoke p (value_of f) (value_of this) vs
act_task T ρ (act.Catch h v) = caught_by (catch_of T h) ρ (value_of v)

unfoldable pub task_of : List Node → Scope → Action → Task
task_of T ρ (action.Answer c) = Done (completion_of c)
task_of T ρ (action.Leave kind p) = Leaves (out_of kind) p
task_of T ρ (action.Begin b) = Ask (request_of T ρ b) Done
task_of T ρ (action.BeginUnder b f) = Ask (request_of T ρ b) (resume T ρ f)
task_of T ρ (action.Act a) = act_task T ρ a
task_of T ρ (action.ActUnder a f) = act_task T ρ a >>= resume T ρ f
task_of T ρ (action.SequenceUnder list f) = all (stmts_in T list) ρ >>= resume T ρ f

-- an action does what a task says, in every scope
abbrev pub Does : List Node → Action → (Scope → Task) → Type 0
Does T a t = (ρ : Scope) → task_of T ρ a ≡ t ρ

-- an action, and then what all frames do
abbrev pub doing : List Node → Scope → Action → List Frame → Task
doing T ρ a fs = task_of T ρ a >>= rest T ρ fs

-- ---- completions as a value, a place, or another end

-- another end is the end of all that waits for a value or for a place
pub record IsAbrupt (c d : Completion) : Type 0 where
  pub normally : (k : Val → Task) → normally k c ≡ Done d
  pub referred : (f : Place → Task) (k : Val → Task) → referred f k c ≡ Done d

abbrev pub IsPart : Completion → Part → Type 0
IsPart c (part.Value v) = c ≡ Normal (value_of v)
IsPart c (part.Place p) = c ≡ Refers (place_of p)
IsPart c (part.Abrupt d) = IsAbrupt c (completion_of d)
