use Rattle.std.proofs.Common.{◌≡◌, ◌≤◌}
use Rattle.es5_store.specs.Store.{Sound}
use Rattle.es5_execution.specs.Progress.{Followed, doing}
use Rattle.es5_execution.specs.Scopes.{scope_of}
use Rattle.es5_execution.proofs.pending.Pending.settle.Given as goal

abbrev pub invariant-loop : goal.invariant-loop
invariant-loop g l = record {
  sound : Sound l.store;
  limit : l.initial.store.limit ≡ l.store.limit;
  later : g.S.Sink.faults l.initial.sink ≤ g.S.Sink.faults l.sink;
  followed : Followed l.table.nodes (doing l.table.nodes (scope_of l.initial.self.scope) l.fn.first l.initial.self.stack) l.initial.store (doing l.table.nodes (scope_of l.self.scope) l.action l.self.stack) l.store (g.S.Sink.told l.initial.sink) (g.S.Sink.told l.sink);
}
