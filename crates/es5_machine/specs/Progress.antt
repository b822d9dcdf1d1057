-- What a machine holds between two nodes, beside the evaluation of its script.
use Rattle.std.specs.Prelude.{◌≡◌, ℕ, ◌+◌, List, Option, None, Some, ⊤}
use Rattle.opal_base.specs.Shown.{HostCall}
use Rattle.es5_tree.specs.declared.tree.Script.{Script}
use Rattle.es5_tree.specs.Values.{Text}
use Rattle.es5_tree.specs.Ends.{EsEnd, Finished, Uncaught, Outside}
use Rattle.es5_tree.specs.Objects.Cells.{Cell}
use Rattle.es5_evaluation.specs.Task.{Scope, walk}
use Rattle.es5_evaluation.specs.Run.{ask, outcome, end_of}
use Rattle.es5_host.specs.Values.{out_of}
use Rattle.es5_code.specs.At.{Table}
use Rattle.es5_code.specs.Trees.{stmts_in}
use Rattle.es5_pending.specs.declared.action.Begins.{Begins}
use Rattle.es5_pending.specs.declared.frame.Frame.{Frame}
use Rattle.es5_pending.specs.Meaning.{completion_of}
use Rattle.es5_store.specs.declared.effect.Halt.{Halt}
use Rattle.es5_store.specs.declared.effect.Halt.TheVariants as halt
use Rattle.es5_store.specs.declared.store.Store.{Store}
use Rattle.es5_store.specs.Store.{Sound, state_in}
use Rattle.es5_execution.specs.declared.pending.Rest.{Rest}
use Rattle.es5_execution.specs.declared.pending.Rest.TheVariants as rest
use Rattle.es5_execution.specs.Progress.{rest_task}
use Rattle.es5_machine.specs.declared.end.RunEnd.{RunEnd}
use Rattle.es5_machine.specs.declared.end.RunEnd.TheVariants as end

-- ---- ends

-- how what is left to do ends a script, over these objects; not where a node begins
abbrev pub end_in : Rest → List Cell → Option EsEnd
end_in (rest.Begins b) cells = None
end_in (rest.Ended c) cells = Some (end_of (completion_of c) cells)
end_in (rest.Left kind pos) cells = Some (Outside (out_of kind) pos)

-- the node that begins, where one does
abbrev pub IsNode : Rest → Option Begins → Type 0
IsNode r None = (cells : List Cell) → end_in r cells ≡ None → ⊥
IsNode r (Some b) = r ≡ rest.Begins b

-- a machine tells this end so, or no memory was found for its texts; where there is none, the script goes on
abbrev pub IsTold : Option EsEnd → RunEnd → Type 0
IsTold e end.Finished = e ≡ Some Finished
IsTold e (end.Uncaught name message) = e ≡ Some (Uncaught name message)
IsTold e (end.Outside kind pos) = e ≡ Some (Outside (out_of kind) pos)
IsTold e end.OutOfSteps = e ≡ None
IsTold e end.CellsFull = ⊥
IsTold e end.WriteFault = ⊥
IsTold e end.NoMemory = ⊤

abbrev pub end_of_halt : Halt → RunEnd
end_of_halt halt.CellsFull = end.CellsFull
end_of_halt halt.WriteFault = end.WriteFault
end_of_halt halt.NoMemory = end.NoMemory

-- ---- between two nodes

-- the script of a table
abbrev pub script_in : Table → Script
script_in t = record { body = stmts_in t.nodes t.body }

-- Behind n nodes the run of the script with g units more is what comes of what is left to do with g units, over the state of the store.
pub record Holds (t : Table) (input : Text) (cells n : ℕ) (store : Store) (ρ : Scope) (fs : List Frame) (next : Rest) : Type 0 where
  pub calls : List HostCall
  pub tied : (g : ℕ) → outcome (script_in t) input (n + g) ≡ walk (ask g) g (rest_task t.nodes ρ fs next) (state_in t.nodes store calls)
  pub sound : Sound store
  pub limit : store.limit ≡ cells

-- nothing is held behind an end
abbrev pub HoldsUnless : Option RunEnd → Table → Text → ℕ → ℕ → Store → Scope → List Frame → Rest → Type 0
HoldsUnless None t input cells n store ρ fs next = Holds t input cells n store ρ fs next
HoldsUnless (Some last) t input cells n store ρ fs next = ⊤
