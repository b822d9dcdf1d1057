use Rattle.std.proofs.Common.{◌∙◌, ap}
use Rattle.es5_evaluation.specs.Run.{first_state}
use Rattle.es5_execution.specs.Scopes.{scope_of}
use Rattle.es5_machine.specs.Progress.{script_in}
use Rattle.es5_machine.proofs.Whole.{holds_first}
use Rattle.es5_machine.proofs.machine.Machine.start.Goals as goal

pub invariant_of-result : goal.invariant_of-result
invariant_of-result c = holds_first c.in_ok-table.table c.args.input c.args.cells c.in_ok-store.store (scope_of c.in_ok-pending.pending.scope) c.in_ok-pending.pending.stack c.in_ok-pending.next (c.in_ok-store.ensures.state ∙ ap (first_state (script_in c.in_ok-table.table)) c.in_ok-lines.ensures) c.in_ok-pending.ensures c.in_ok-store.ensures.sound c.in_ok-store.ensures.limit
