use Rattle.std.proofs.Common.{◌≡◌, ◌≤◌, ◌+◌, None}
use Rattle.es5_execution.specs.Scopes.{scope_of}
use Rattle.es5_machine.specs.Progress.{Holds, script_in}
use Rattle.es5_machine.proofs.Whole.{Taken}
use Rattle.es5_machine.proofs.machine.Machine.run.Given as goal

abbrev pub invariant-loop : goal.invariant-loop
invariant-loop g l = record {
  count : l.self-inside.steps ≡ l.initial.self-inside.steps + l.counter;
  table : l.self-inside.table ≡ l.initial.self-inside.table;
  input : l.self-inside.input ≡ l.initial.self-inside.input;
  cells : l.self-inside.cells ≡ l.initial.self-inside.cells;
  ended : l.self-inside.ended ≡ None;
  later : g.S.Sink.faults l.initial.sink ≤ g.S.Sink.faults l.sink;
  holds : Holds l.self-inside.table l.self-inside.input l.self-inside.cells l.self-inside.steps l.self-inside.store (scope_of l.self-inside.pending.scope) l.self-inside.pending.stack l.self-inside.next;
  taken : Taken (script_in l.self-inside.table) l.self-inside.input l.initial.self-inside.steps l.self-inside.steps (g.S.Sink.told l.initial.sink) (g.S.Sink.told l.sink);
}
