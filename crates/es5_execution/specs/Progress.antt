-- What is done between two nodes, beside the walks of the definition.
use Rattle.std.specs.Prelude.{◌≡◌, ℕ, List, ◌++◌, Option, Result, Ok, Err}
use Rattle.opal_base.specs.Outside.{appended}
use Rattle.opal_base.specs.Shown.{HostCall, output_of}
use Rattle.es5_evaluation.specs.Task.{Scope, Task, Leaves, Ask, Done, ◌>>=◌, Answers, walk}
use Rattle.es5_evaluation.specs.Evaluate.{perform}
use Rattle.es5_host.specs.Values.{out_of}
use Rattle.es5_code.specs.declared.node.Node.{Node}
use Rattle.es5_pending.specs.declared.frame.Frame.{Frame}
use Rattle.es5_pending.specs.declared.action.Act.{Act}
use Rattle.es5_pending.specs.declared.action.Action.{Action}
use Rattle.es5_pending.specs.declared.action.Begins.{Begins}
use Rattle.es5_pending.specs.Meaning.{act_task, completion_of, request_of, rest, task_of}
use Rattle.es5_store.specs.declared.effect.Effect.{Effect}
use Rattle.es5_store.specs.declared.effect.Halt.{Halt}
use Rattle.es5_store.specs.declared.effect.Halt.TheVariants as halt
use Rattle.es5_store.specs.declared.store.Store.{Store}
use Rattle.es5_store.specs.Store.{state_in}
use Rattle.es5_store.specs.Steps.{MakesOneMore, WritesOn, effect_task}
use Rattle.es5_execution.specs.declared.pending.Next.{Next}
use Rattle.es5_execution.specs.declared.pending.Next.TheVariants as next
use Rattle.es5_execution.specs.declared.pending.Resumed.{Resumed}
use Rattle.es5_execution.specs.declared.pending.Resumed.TheVariants as resumed
use Rattle.es5_execution.specs.declared.pending.Rest.{Rest}
use Rattle.es5_execution.specs.declared.pending.Rest.TheVariants as left
use Rattle.es5_execution.specs.declared.pending.Turned.{Turned}
use Rattle.es5_execution.specs.declared.pending.Turned.TheVariants as turned

-- an action, and then what all frames do
abbrev pub doing : List Node → Scope → Action → List Frame → Task
doing T ρ a fs = task_of T ρ a >>= rest T ρ fs

-- an act, and then what all frames do
abbrev pub acting : List Node → Scope → Act → List Frame → Task
acting T ρ a fs = act_task T ρ a >>= rest T ρ fs

-- what is left of an effect, and then what all frames do
abbrev pub behind : List Node → Scope → Effect → List Frame → Task
behind T ρ e fs = effect_task T ρ e >>= rest T ρ fs

-- a node that begins, and then what all frames do
abbrev pub beginning : List Node → Scope → Begins → List Frame → Task
beginning T ρ b fs = perform (request_of T ρ b) >>= rest T ρ fs

-- what is left to do behind an action
abbrev pub next_task : List Node → Scope → List Frame → Next → Task
next_task T ρ fs (next.Action a) = doing T ρ a fs
next_task T ρ fs (next.Begins b) = Ask (request_of T ρ b) (rest T ρ fs)
next_task T ρ fs (next.Ended c) = rest T ρ fs (completion_of c)
next_task T ρ fs (next.Left kind p) = Leaves (out_of kind) p

-- what is left to do behind a frame
abbrev pub resumed_task : List Node → Scope → List Frame → Resumed → Task
resumed_task T ρ fs (resumed.Action a) = doing T ρ a fs
resumed_task T ρ fs (resumed.Finished c) = Done (completion_of c)

-- what is left to do where a node begins, or nothing is pending any more
abbrev pub rest_task : List Node → Scope → List Frame → Rest → Task
rest_task T ρ fs (left.Begins b) = Ask (request_of T ρ b) (rest T ρ fs)
rest_task T ρ fs (left.Ended c) = Done (completion_of c)
rest_task T ρ fs (left.Left kind p) = Leaves (out_of kind) p

-- what is left to do behind an action and the frame that took its completion
abbrev pub turned_task : List Node → Scope → List Frame → Turned → Task
turned_task T ρ fs (turned.Action a) = doing T ρ a fs
turned_task T ρ fs (turned.Rest r) = rest_task T ρ fs r

-- From a task over a store one comes to another one, without a unit, having called the host so.
abbrev pub Moves : List Node → Task → Store → Task → Store → List HostCall → Type 0
Moves T t old u new more = (A : Answers) (g : ℕ) (calls : List HostCall) → walk A g t (state_in T old calls) ≡ walk A g u (state_in T new (more ++ calls))

-- the run stops: where a cell would be made and none is left, or having written a front of what is written
abbrev pub Halted : Halt → List Node → Task → Store → Option (List ℕ) → Option (List ℕ) → Type 0
Halted halt.CellsFull T t old told now = (more : List HostCall) × (now ≡ appended told (output_of more)) × ((A : Answers) (g : ℕ) (calls : List HostCall) → MakesOneMore old.limit (more ++ calls) (walk A g t (state_in T old calls)) A g)
Halted halt.WriteFault T t old told now = (piece : List ℕ) × (now ≡ appended told piece) × ((A : Answers) (g : ℕ) (calls : List HostCall) → WritesOn piece calls (walk A g t (state_in T old calls)) A g)
Halted halt.NoMemory T t old told now = (piece : List ℕ) × (now ≡ appended told piece) × ((A : Answers) (g : ℕ) (calls : List HostCall) → WritesOn piece calls (walk A g t (state_in T old calls)) A g)

-- a task was followed to another one, and the sink took what was written
abbrev pub Followed : List Node → Task → Store → Task → Store → Option (List ℕ) → Option (List ℕ) → Type 0
Followed T t old u new told now = (more : List HostCall) × (now ≡ appended told (output_of more)) × Moves T t old u new more

abbrev pub Performed : Result Next Halt → List Node → Task → Store → Scope → List Frame → Store → Option (List ℕ) → Option (List ℕ) → Type 0
Performed (Ok n) T t old ρ fs new told now = Followed T t old (next_task T ρ fs n) new told now
Performed (Err h) T t old ρ fs new told now = Halted h T t old told now

abbrev pub WentOn : Result Turned Halt → List Node → Task → Store → Scope → List Frame → Store → Option (List ℕ) → Option (List ℕ) → Type 0
WentOn (Ok n) T t old ρ fs new told now = Followed T t old (turned_task T ρ fs n) new told now
WentOn (Err h) T t old ρ fs new told now = Halted h T t old told now

abbrev pub Settled : Result Rest Halt → List Node → Task → Store → Scope → List Frame → Store → Option (List ℕ) → Option (List ℕ) → Type 0
Settled (Ok r) T t old ρ fs new told now = Followed T t old (rest_task T ρ fs r) new told now
Settled (Err h) T t old ρ fs new told now = Halted h T t old told now
