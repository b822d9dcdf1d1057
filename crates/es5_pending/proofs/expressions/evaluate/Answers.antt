use Rattle.std.proofs.Common.{◌≡◌, sym, ◌∙◌}
use Rattle.es5_pending.proofs.Missing.{no_value}
use Rattle.es5_pending.proofs.expressions.evaluate.Goals as goal

pub returns-in-None : goal.returns-in-None
returns-in-None c = λ ρ. c.gives.ensures c.args.table.now.nodes ρ ∙ sym (no_value _ c.in-None.ensures ρ)
