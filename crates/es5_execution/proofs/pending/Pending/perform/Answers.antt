use Rattle.std.proofs.Common.{sym, ap, ◌∙◌, subst}
use Rattle.es5_evaluation.specs.Task.{Ask, Leaves}
use Rattle.es5_host.specs.Values.{out_of}
use Rattle.es5_pending.specs.Meaning.{completion_of, request_of, rest, task_of}
use Rattle.es5_execution.specs.Progress.{Performed, acting, doing}
use Rattle.es5_execution.specs.Scopes.{scope_of}
use Rattle.es5_execution.specs.declared.scope.Scope.{Scope}
use Rattle.es5_execution.proofs.Frames.{answers, leaves, begins, begins_under, acts, acts_under, sequence_under}
use Rattle.es5_execution.proofs.Moving.{follow}
use Rattle.es5_execution.proofs.pending.Pending.perform.Goals as goal

pub returns-in-Answer-clause-does : goal.returns-in-Answer-clause-does
returns-in-Answer-clause-does g c =
    let T = c.args.table.now.nodes in
    let ρ = scope_of c.args.self.now.scope in
    let fs = c.args.self.now.stack in
    follow T (doing T ρ c.args.action fs) (rest T ρ fs (completion_of c.in-Answer.completion)) c.args.store.now (g.S.Sink.told c.args.sink.now) (ap (λ a. doing T ρ a fs) c.in-Answer.is ∙ answers T ρ c.in-Answer.completion fs)

pub returns-in-Leave-clause-does : goal.returns-in-Leave-clause-does
returns-in-Leave-clause-does g c =
    let T = c.args.table.now.nodes in
    let ρ = scope_of c.args.self.now.scope in
    let fs = c.args.self.now.stack in
    follow T (doing T ρ c.args.action fs) (Leaves (out_of c.in-Leave.kind) c.in-Leave.pos) c.args.store.now (g.S.Sink.told c.args.sink.now) (ap (λ a. doing T ρ a fs) c.in-Leave.is ∙ leaves T ρ c.in-Leave.kind c.in-Leave.pos fs)

pub returns-in-Begin-clause-does : goal.returns-in-Begin-clause-does
returns-in-Begin-clause-does g c =
    let T = c.args.table.now.nodes in
    let ρ = scope_of c.args.self.now.scope in
    let fs = c.args.self.now.stack in
    follow T (doing T ρ c.args.action fs) (Ask (request_of T ρ c.in-Begin.begins) (rest T ρ fs)) c.args.store.now (g.S.Sink.told c.args.sink.now) (ap (λ a. doing T ρ a fs) c.in-Begin.is ∙ begins T ρ c.in-Begin.begins fs)

pub returns-in-Ok-clause-does : goal.returns-in-Ok-clause-does
returns-in-Ok-clause-does g c =
    let T = c.args.table.now.nodes in
    let ρ = scope_of c.args.self.now.scope in
    let fs = c.args.self.now.stack in
    let gs = c.push.new.self.stack in
    let σ = scope_of c.push.new.self.scope in
    follow T (doing T ρ c.args.action fs) (Ask (request_of T σ c.in-BeginUnder.begins) (rest T σ gs)) c.args.store.now (g.S.Sink.told c.args.sink.now)
    (ap (λ a. doing T ρ a fs) c.in-BeginUnder.is
    ∙ begins_under T ρ c.in-BeginUnder.begins c.in-BeginUnder.frame fs gs c.in-Ok.ensures.ok c.in-Ok.ensures.same
    ∙ ap (λ (s : Scope). Ask (request_of T (scope_of s) c.in-BeginUnder.begins) (rest T (scope_of s) gs)) (sym c.in-Ok.ensures.scope))

pub returns-in-Act-clause-does : goal.returns-in-Act-clause-does
returns-in-Act-clause-does g c =
    let T = c.args.table.now.nodes in
    let ρ = scope_of c.args.self.now.scope in
    let fs = c.args.self.now.stack in
    subst (λ t. Performed c.perform_act.result T t c.args.store.now (scope_of c.perform_act.new.self.scope) c.perform_act.new.self.stack c.perform_act.new.store (g.S.Sink.told c.args.sink.now) (g.S.Sink.told c.perform_act.new.sink))
    (sym (ap (λ a. doing T ρ a fs) c.in-Act.is ∙ acts T ρ c.in-Act.what fs))
    c.perform_act.ensures.does

pub returns-in-Ok-push-clause-does : goal.returns-in-Ok-push-clause-does
returns-in-Ok-push-clause-does g c =
    let T = c.args.table.now.nodes in
    let ρ = scope_of c.args.self.now.scope in
    let fs = c.args.self.now.stack in
    let gs = c.push-in-ActUnder.new.self.stack in
    subst (λ t. Performed c.perform_act-in-Ok-push.result T t c.args.store.now (scope_of c.perform_act-in-Ok-push.new.self.scope) c.perform_act-in-Ok-push.new.self.stack c.perform_act-in-Ok-push.new.store (g.S.Sink.told c.args.sink.now) (g.S.Sink.told c.perform_act-in-Ok-push.new.sink))
    (sym (ap (λ a. doing T ρ a fs) c.in-ActUnder.is
    ∙ acts_under T ρ c.in-ActUnder.what c.in-ActUnder.frame fs gs c.in-Ok-push.ensures.ok c.in-Ok-push.ensures.same
    ∙ ap (λ (s : Scope). acting T (scope_of s) c.in-ActUnder.what gs) (sym c.in-Ok-push.ensures.scope)))
    c.perform_act-in-Ok-push.ensures.does

pub returns-in-Ok-push-2-clause-does : goal.returns-in-Ok-push-2-clause-does
returns-in-Ok-push-2-clause-does g c =
    let T = c.args.table.now.nodes in
    let ρ = scope_of c.args.self.now.scope in
    let fs = c.args.self.now.stack in
    let gs = c.push-in-SequenceUnder.new.self.stack in
    let σ = scope_of c.push-in-SequenceUnder.new.self.scope in
    follow T (doing T ρ c.args.action fs) (doing T σ c.sequence.result gs) c.args.store.now (g.S.Sink.told c.args.sink.now)
    (ap (λ a. doing T ρ a fs) c.in-SequenceUnder.is
    ∙ sequence_under T ρ c.in-SequenceUnder.list c.in-SequenceUnder.frame fs gs (task_of T ρ c.sequence.result) c.in-Ok-push-2.ensures.ok c.in-Ok-push-2.ensures.same (c.sequence.ensures ρ)
    ∙ ap (λ (s : Scope). doing T (scope_of s) c.sequence.result gs) (sym c.in-Ok-push-2.ensures.scope))
