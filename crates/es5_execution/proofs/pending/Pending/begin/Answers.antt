use Rattle.std.proofs.Common.{sym, subst}
use Rattle.es5_execution.specs.Progress.{Settled, beginning}
use Rattle.es5_execution.specs.Scopes.{scope_of}
use Rattle.es5_execution.proofs.Moving.{no_memory_here}
use Rattle.es5_execution.proofs.pending.Pending.begin.Goals as goal

pub returns-in-Ok-clause-does : goal.returns-in-Ok-clause-does
returns-in-Ok-clause-does g c =
    subst (λ t. Settled c.settle.result c.args.table.now.nodes t c.args.store.now (scope_of c.settle.new.self.scope) c.settle.new.self.stack c.settle.new.store (g.S.Sink.told c.args.sink.now) (g.S.Sink.told c.settle.new.sink))
    (sym c.in-Ok.ensures)
    c.settle.ensures.does

pub returns-in-Err-clause-does : goal.returns-in-Err-clause-does
returns-in-Err-clause-does g c =
    no_memory_here c.args.table.now.nodes (beginning c.args.table.now.nodes (scope_of c.args.self.now.scope) c.args.begins c.args.self.now.stack) c.args.store.now (g.S.Sink.told c.args.sink.now)
