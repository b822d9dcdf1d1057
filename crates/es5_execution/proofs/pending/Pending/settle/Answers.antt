use Rattle.std.proofs.Common.{sym, ◌∙◌, le_trans, subst}
use Rattle.es5_store.specs.declared.effect.Halt.TheVariants as halt
use Rattle.es5_execution.specs.Progress.{Followed, doing, rest_task, turned_task}
use Rattle.es5_execution.specs.Scopes.{scope_of}
use Rattle.es5_execution.proofs.Moving.{followed_both, followed_halt, no_memory_here}
use Rattle.es5_execution.proofs.pending.Pending.settle.Goals as goal

pub returns-in-Ok-Rest-clause-does : goal.returns-in-Ok-Rest-clause-does
returns-in-Ok-Rest-clause-does g c =
    let T = c.args.table.now.nodes in
    followed_both T (doing T (scope_of c.args.self.now.scope) c.args.first c.args.self.now.stack) (doing T (scope_of c.loop.self.scope) c.loop.action c.loop.self.stack) (rest_task T (scope_of c.turn.new.self.scope) c.turn.new.self.stack c.in-Ok-Rest.rest) c.args.store.now c.loop.store c.turn.new.store (g.S.Sink.told c.args.sink.now) (g.S.Sink.told c.loop.sink) (g.S.Sink.told c.turn.new.sink)
    c.loop.invariant.followed (subst (λ n. Followed T (doing T (scope_of c.loop.self.scope) c.loop.action c.loop.self.stack) c.loop.store (turned_task T (scope_of c.turn.new.self.scope) c.turn.new.self.stack n) c.turn.new.store (g.S.Sink.told c.loop.sink) (g.S.Sink.told c.turn.new.sink)) c.in-Ok-Rest.field-0-is c.in-Ok-Rest.ensures.does)

pub returns-in-Err-clause-does : goal.returns-in-Err-clause-does
returns-in-Err-clause-does g c =
    let T = c.args.table.now.nodes in
    followed_halt T (doing T (scope_of c.args.self.now.scope) c.args.first c.args.self.now.stack) (doing T (scope_of c.loop.self.scope) c.loop.action c.loop.self.stack) c.args.store.now c.loop.store c.in-Err.halt (g.S.Sink.told c.args.sink.now) (g.S.Sink.told c.loop.sink) (g.S.Sink.told c.turn.new.sink)
    c.loop.invariant.limit c.loop.invariant.followed c.in-Err.ensures.does

pub loop-preserved : goal.loop-preserved
loop-preserved g c =
    let T = c.args.table.now.nodes in
    record {
      sound = c.in-Ok-Action.ensures.sound;
      limit = c.loop.invariant.limit ∙ sym c.in-Ok-Action.ensures.limit;
      later = le_trans c.loop.invariant.later c.in-Ok-Action.ensures.later;
      followed = followed_both T (doing T (scope_of c.args.self.now.scope) c.args.first c.args.self.now.stack) (doing T (scope_of c.loop.self.scope) c.loop.action c.loop.self.stack) (doing T (scope_of c.turn.new.self.scope) c.in-Ok-Action.next c.turn.new.self.stack) c.args.store.now c.loop.store c.turn.new.store (g.S.Sink.told c.args.sink.now) (g.S.Sink.told c.loop.sink) (g.S.Sink.told c.turn.new.sink) c.loop.invariant.followed (subst (λ n. Followed T (doing T (scope_of c.loop.self.scope) c.loop.action c.loop.self.stack) c.loop.store (turned_task T (scope_of c.turn.new.self.scope) c.turn.new.self.stack n) c.turn.new.store (g.S.Sink.told c.loop.sink) (g.S.Sink.told c.turn.new.sink)) c.in-Ok-Action.field-0-is c.in-Ok-Action.ensures.does);
    }

pub returns-clause-does : goal.returns-clause-does
returns-clause-does g c =
    let T = c.args.table.now.nodes in
    followed_halt T (doing T (scope_of c.args.self.now.scope) c.args.first c.args.self.now.stack) (doing T (scope_of c.loop.self.scope) c.loop.action c.loop.self.stack) c.args.store.now c.loop.store halt.NoMemory (g.S.Sink.told c.args.sink.now) (g.S.Sink.told c.loop.sink) (g.S.Sink.told c.loop.sink)
    c.loop.invariant.limit c.loop.invariant.followed
    (no_memory_here T (doing T (scope_of c.loop.self.scope) c.loop.action c.loop.self.stack) c.loop.store (g.S.Sink.told c.loop.sink))
