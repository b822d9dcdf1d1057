use Rattle.std.proofs.Common.{sym, ap, ◌∙◌}
use Rattle.es5_pending.specs.declared.action.Begins.TheVariants as begin
use Rattle.es5_execution.specs.Progress.{beginning, doing}
use Rattle.es5_execution.specs.Scopes.{scope_of}
use Rattle.es5_execution.specs.declared.scope.Scope.{Scope}
use Rattle.es5_execution.proofs.Frames.{if_ok, opened, turned, evaluated, referred, executed}
use Rattle.es5_execution.proofs.pending.Pending.open.Goals as goal

pub returns-in-Evaluate : goal.returns-in-Evaluate
returns-in-Evaluate c =
    let T = c.args.table.now.nodes in
    let ρ = scope_of c.args.self.now.scope in
    let fs = c.args.self.now.stack in
    if_ok c.evaluate.result _ _ (λ a d. ap (λ b. beginning T ρ b fs) c.in-Evaluate.is ∙ opened T ρ (begin.Evaluate c.in-Evaluate.i) a fs (d ρ ∙ sym (evaluated T ρ c.in-Evaluate.i))) c.evaluate.ensures

pub returns-in-Refer : goal.returns-in-Refer
returns-in-Refer c =
    let T = c.args.table.now.nodes in
    let ρ = scope_of c.args.self.now.scope in
    let fs = c.args.self.now.stack in
    if_ok c.refer.result _ _ (λ a d. ap (λ b. beginning T ρ b fs) c.in-Refer.is ∙ opened T ρ (begin.Refer c.in-Refer.i) a fs (d ρ ∙ sym (referred T ρ c.in-Refer.i))) c.refer.ensures

pub returns-in-Execute : goal.returns-in-Execute
returns-in-Execute c =
    let T = c.args.table.now.nodes in
    let ρ = scope_of c.args.self.now.scope in
    let fs = c.args.self.now.stack in
    if_ok c.execute.result _ _ (λ a d. ap (λ b. beginning T ρ b fs) c.in-Execute.is ∙ opened T ρ (begin.Execute c.in-Execute.i) a fs (d ρ ∙ sym (executed T ρ c.in-Execute.i))) c.execute.ensures

pub returns-in_ok-push-in-Turn : goal.returns-in_ok-push-in-Turn
returns-in_ok-push-in-Turn c =
    let T = c.args.table.now.nodes in
    let ρ = scope_of c.args.self.now.scope in
    let fs = c.args.self.now.stack in
    let gs = c.push.new.self.stack in
    if_ok c.evaluate-in-Turn.result _ _ (λ a d. ap (λ b. beginning T ρ b fs) c.in-Turn.is ∙ turned T ρ c.in-Turn.i c.in-Turn.body a fs gs c.in_ok-push-in-Turn.ensures.ok (d ρ) ∙ ap (λ (s : Scope). doing T (scope_of s) a gs) (sym c.in_ok-push-in-Turn.ensures.scope)) c.evaluate-in-Turn.ensures
