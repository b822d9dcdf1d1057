use Rattle.std.proofs.Common.{◌≡◌, sym, ◌∙◌}
use Rattle.es5_pending.proofs.Missing.{no_place}
use Rattle.es5_pending.proofs.expressions.refer.Goals as goal

pub returns-in-None : goal.returns-in-None
returns-in-None c = λ ρ. c.gives.ensures c.args.table.now.nodes ρ ∙ sym (no_place _ c.in-None.ensures ρ)
