use Rattle.std.proofs.Common.{sym, subst}
use Rattle.es5_store.specs.declared.effect.Halt.TheVariants as halt
use Rattle.es5_pending.specs.Meaning.{completion_of, rest}
use Rattle.es5_execution.specs.Progress.{Followed, doing, next_task}
use Rattle.es5_execution.specs.Scopes.{scope_of}
use Rattle.es5_execution.proofs.Moving.{followed_halt, no_memory_here}
use Rattle.es5_execution.proofs.pending.Pending.turn.Goals as goal

pub returns-in-Err-resume-clause-does : goal.returns-in-Err-resume-clause-does
returns-in-Err-resume-clause-does g c =
    let T = c.args.table.now.nodes in
    let σ = scope_of c.perform.new.self.scope in
    followed_halt T (doing T (scope_of c.args.self.now.scope) c.args.action c.args.self.now.stack) (rest T σ c.perform.new.self.stack (completion_of c.in-Ok-Ended.completion)) c.args.store.now c.perform.new.store halt.NoMemory (g.S.Sink.told c.args.sink.now) (g.S.Sink.told c.perform.new.sink) (g.S.Sink.told c.perform.new.sink)
    (sym c.in-Ok-Ended.ensures.limit)
    (subst (λ n. Followed T (doing T (scope_of c.args.self.now.scope) c.args.action c.args.self.now.stack) c.args.store.now (next_task T σ c.perform.new.self.stack n) c.perform.new.store (g.S.Sink.told c.args.sink.now) (g.S.Sink.told c.perform.new.sink)) c.in-Ok-Ended.field-0-is c.in-Ok-Ended.ensures.does)
    (no_memory_here T (rest T σ c.perform.new.self.stack (completion_of c.in-Ok-Ended.completion)) c.perform.new.store (g.S.Sink.told c.perform.new.sink))
