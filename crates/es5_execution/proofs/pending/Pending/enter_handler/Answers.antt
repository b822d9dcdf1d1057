use Rattle.std.proofs.Common.{ap}
use Rattle.es5_evaluation.specs.Task.{Scope}
use Rattle.es5_objects.specs.declared.value.EsValue.{EsValue}
use Rattle.es5_objects.specs.Values.{value_of}
use Rattle.es5_code.specs.Trees.{stmts_in}
use Rattle.es5_pending.specs.Meaning.{task_of}
use Rattle.es5_execution.specs.Scopes.{scope_of}
use Rattle.es5_execution.proofs.Frames.{handler_entered}
use Rattle.es5_execution.proofs.pending.Pending.enter_handler.Goals as goal

pub returns : goal.returns
returns c =
    let T = c.args.table.now.nodes in
    let σ : Scope = record { this = value_of c.args.self.now.scope.this; innermost = c.args.innermost } in
    handler_entered T (scope_of c.args.self.now.scope) σ (stmts_in T c.args.body) c.in_ok-share.field-0 c.args.self.now.scope.innermost c.args.self.now.stack c.push.new.self (task_of T σ c.sequence.result) c.in_ok-push.ensures.ok
    (ap (λ (v : EsValue). record { this = value_of v; innermost = c.args.self.now.scope.innermost }) c.in_ok-share.ensures)
    (c.sequence.ensures σ)
