use Rattle.std.proofs.Common.{◌≡◌, sym, ◌∙◌}
use Rattle.es5_pending.proofs.Missing.{no_effect}
use Rattle.es5_pending.proofs.statements.execute.Goals as goal

pub returns-in-None : goal.returns-in-None
returns-in-None c = λ ρ. c.nothing.ensures c.args.table.now.nodes ρ ∙ sym (no_effect _ c.in-None.ensures ρ)
