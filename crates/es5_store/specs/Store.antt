-- The state that a store stands for, and when it is sound.
use Rattle.std.specs.Prelude.{◌+◌, ◌≤◌, List, map, length}
use Rattle.opal_base.specs.Shown.{HostCall}
use Rattle.es5_tree.specs.Intrinsics.Valid.{Valid}
use Rattle.es5_evaluation.specs.State.{Activation, State}
use Rattle.es5_evaluation.specs.Run.{at_first}
use Rattle.es5_code.specs.declared.node.Node.{Node}
use Rattle.es5_code.specs.Trees.{code_in}
use Rattle.es5_store.specs.declared.store.Record.{Record}
use Rattle.es5_store.specs.declared.store.Store.{Store}

abbrev pub record_of : Record → Activation
record_of r = record { variables = r.variables; constants = r.constants; outer = r.outer }

abbrev pub records_of : List Record → List Activation
records_of rs = map record_of rs

-- the state of a store, over the nodes of a script, behind these calls of the host
abbrev pub state_in : List Node → Store → List HostCall → State
state_in T s calls = record {
  heap = s.heap.cells;
  codes = map (code_in T) s.codes.items;
  records = records_of s.records.items;
  lines = s.lines;
  calls = calls;
}

-- no cell is left
abbrev pub IsFull : Store → Type 0
IsFull s = s.limit + at_first ≤ length s.heap.cells + length s.records.items

-- The heap is valid, no more cells are made than the limit allows, and the heap has room for all of them.
pub record Sound (s : Store) : Type 0 where
  pub valid : Valid s.heap.cells
  pub records : 2 ≤ length s.records.items
  pub within : length s.heap.cells + length s.records.items ≤ s.limit + at_first
  pub room : s.limit + 29 ≤ s.heap.capacity
