use Rattle.es5_pending.specs.Meaning.{act_task, rest}
use Rattle.es5_execution.specs.Scopes.{scope_of}
use Rattle.es5_execution.proofs.Moving.{acted_halt, acted_lost}
use Rattle.es5_execution.proofs.pending.Pending.perform_act.Goals as goal

pub returns-in-Err-go_on-clause-does : goal.returns-in-Err-go_on-clause-does
returns-in-Err-go_on-clause-does g c =
    let T = c.args.table.now.nodes in
    let ρ = scope_of c.args.self.now.scope in
    acted_lost T ρ (act_task T ρ c.args.what) (rest T ρ c.args.self.now.stack) c.in-Ok.effect c.args.store.now c.act.new.store (g.S.Sink.told c.args.sink.now) (g.S.Sink.told c.act.new.sink) c.in-Ok.ensures.does

pub returns-in-Err-clause-does : goal.returns-in-Err-clause-does
returns-in-Err-clause-does g c =
    let T = c.args.table.now.nodes in
    let ρ = scope_of c.args.self.now.scope in
    acted_halt T ρ (act_task T ρ c.args.what) (rest T ρ c.args.self.now.stack) c.in-Err.halt c.args.store.now c.act.new.store (g.S.Sink.told c.args.sink.now) (g.S.Sink.told c.act.new.sink) c.in-Err.ensures.does
