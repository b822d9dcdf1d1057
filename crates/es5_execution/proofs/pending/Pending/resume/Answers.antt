use Rattle.std.proofs.Common.{sym, ap, ◌∙◌}
use Rattle.es5_pending.specs.Meaning.{completion_of, task_of}
use Rattle.es5_execution.specs.Progress.{doing}
use Rattle.es5_execution.specs.Scopes.{scope_of}
use Rattle.es5_execution.proofs.Frames.{finished, taken}
use Rattle.es5_execution.proofs.pending.Pending.resume.Goals as goal

pub returns-in-None : goal.returns-in-None
returns-in-None c = finished c.args.table.now.nodes (scope_of c.args.self.now.scope) c.args.self.now.stack (completion_of c.args.completion) c.in-None.ensures.0

pub returns-in-Ok : goal.returns-in-Ok
returns-in-Ok c =
    let T = c.args.table.now.nodes in
    let ρ = scope_of c.args.self.now.scope in
    let σ = scope_of c.leave-frame.new.self.scope in
    taken T ρ σ c.in-Some.frame c.leave-frame.result c.pop.new.self c.args.self.now.stack (completion_of c.args.completion) (task_of T σ c.in-Ok.action) c.in-Some.ensures c.leave-frame.ensures.scope (c.leave-frame.ensures.same T) (c.in-Ok.ensures σ)
    ∙ ap (λ fs. doing T σ c.in-Ok.action fs) (sym c.leave-frame.ensures.stack)
