-- What is done between two nodes, beside the walks of the definition.
use Rattle.std.specs.Prelude.{◌≡◌, ℕ, ◌+◌, ◌≤◌, List, [], ◌++◌, length, Option, Result, Ok, Err, ⊤}
use Rattle.opal_base.specs.Outside.{Rose, appended}
use Rattle.opal_base.specs.Shown.{HostCall, output_of}
use Rattle.es5_evaluation.specs.State.{State}
use Rattle.es5_evaluation.specs.Task.{Completion, Scope, Task, Done, Leaves, Ask, Look, Set, Make, Keep, Enter, Store, Print, Read, ◌>>=◌, Answers, Outcome, walk}
use Rattle.es5_evaluation.specs.Evaluate.{all, left}
use Rattle.es5_evaluation.specs.Run.{at_first}
use Rattle.es5_objects.specs.Values.{value_of}
use Rattle.es5_host.specs.Values.{out_of}
use Rattle.es5_code.specs.declared.node.Node.{Node}
use Rattle.es5_code.specs.Trees.{stmts_in}
use Rattle.es5_pending.specs.Meaning.{completion_of}
use Rattle.es5_store.specs.declared.effect.Effect.{Effect}
use Rattle.es5_store.specs.declared.effect.Effect.TheVariants as effect
use Rattle.es5_store.specs.declared.effect.Halt.{Halt}
use Rattle.es5_store.specs.declared.effect.Halt.TheVariants as halt
use Rattle.es5_store.specs.declared.store.Store.{Store as Stored}
use Rattle.es5_store.specs.Store.{state_in}

-- From a task over a store one comes to another task over another store, without a unit, having called the host so.
abbrev pub Steps : List Node → Task → Stored → Task → Stored → List HostCall → Type 0
Steps T t old u new more = (A : Answers) (g : ℕ) (k : Completion → Task) (calls : List HostCall) → walk A g (t >>= k) (state_in T old calls) ≡ walk A g (u >>= k) (state_in T new (more ++ calls))

-- a task that makes a cell first
abbrev pub MakesCell : Task → Type 0
MakesCell (Done c) = ⊥
MakesCell (Leaves kind p) = ⊥
MakesCell (Ask q k) = ⊥
MakesCell (Look f) = ⊥
MakesCell (Set o c t) = ⊥
MakesCell (Make c f) = ⊤
MakesCell (Keep c f) = ⊥
MakesCell (Enter a f) = ⊤
MakesCell (Store r a t) = ⊥
MakesCell (Print x t) = ⊥
MakesCell (Read n t) = ⊥

-- a walk comes to a task that makes a cell, where none is left
pub record MakesOneMore (limit : ℕ) (calls : List HostCall) (o : Outcome) (A : Answers) (g : ℕ) : Type 0 where
  pub task : Task
  pub state : State
  pub makes : MakesCell task
  pub full : limit + at_first ≤ length state.heap + length state.records
  pub quiet : state.calls ≡ calls
  pub comes : o ≡ walk A g task state

-- from a task over a store one comes to one that makes a cell, where none is left
abbrev pub Fills : List Node → Task → Stored → Type 0
Fills T t old = (A : Answers) (g : ℕ) (k : Completion → Task) (calls : List HostCall) → MakesOneMore old.limit calls (walk A g (t >>= k) (state_in T old calls)) A g

-- what is left to do behind an effect
abbrev pub effect_task : List Node → Scope → Effect → Task
effect_task T ρ (effect.Ended c) = Done (completion_of c)
effect_task T ρ (effect.Left kind p) = Leaves (out_of kind) p
effect_task T ρ (effect.Called body this innermost) = all (stmts_in T body) (record { this = value_of this; innermost = innermost }) >>= left
effect_task T ρ (effect.Caught body innermost) = all (stmts_in T body) (record { this = ρ.this; innermost = innermost })

-- an act that doesn't call the host was done
abbrev pub Quiet : Result Effect Halt → List Node → Scope → Task → Stored → Stored → Type 0
Quiet (Ok e) T ρ t old new = Steps T t old (effect_task T ρ e) new []
Quiet (Err halt.CellsFull) T ρ t old new = Fills T t old
Quiet (Err halt.WriteFault) T ρ t old new = ⊥
Quiet (Err halt.NoMemory) T ρ t old new = ⊤

-- ---- acts that may call the host

-- a walk comes to a state whose output is the one before with this piece, or goes on from there
pub record WritesOn (piece : List ℕ) (calls : List HostCall) (o : Outcome) (A : Answers) (g : ℕ) : Type 0 where
  pub task : Task
  pub state : State
  pub rest : List ℕ
  pub front : output_of state.calls ≡ (output_of calls ++ piece) ++ rest
  pub comes : o ≡ walk A g task state

abbrev pub WritesFront : List Node → Task → Stored → List ℕ → Type 0
WritesFront T t old piece = (A : Answers) (g : ℕ) (k : Completion → Task) (calls : List HostCall) → WritesOn piece calls (walk A g (t >>= k) (state_in T old calls)) A g

-- what a sink took before the run stopped is a front of what is written
abbrev pub Stopped : List Node → Task → Stored → Option (List ℕ) → Option (List ℕ) → Type 0
Stopped T t old told now = (piece : List ℕ) × (now ≡ appended told piece) × WritesFront T t old piece

-- an act was done, and a sink took what was written
abbrev pub Acted : Result Effect Halt → List Node → Scope → Task → Stored → Stored → Option (List ℕ) → Option (List ℕ) → Type 0
Acted (Ok e) T ρ t old new told now = (more : List HostCall) × (now ≡ appended told (output_of more)) × Steps T t old (effect_task T ρ e) new more
Acted (Err halt.CellsFull) T ρ t old new told now = (now ≡ told) × Fills T t old
Acted (Err halt.WriteFault) T ρ t old new told now = Stopped T t old told now
Acted (Err halt.NoMemory) T ρ t old new told now = Stopped T t old told now

-- a fault of the sink is answered only where its count rose
abbrev pub HaltCaused : Halt → ℕ → ℕ → Type 0
HaltCaused halt.CellsFull before now = ⊤
HaltCaused halt.WriteFault before now = Rose before now
HaltCaused halt.NoMemory before now = ⊤
