use Rattle.opal_cli.proofs.Simulation.{agreement_by}
use Rattle.opal_cli.proofs.laws.agreement.Goals as goal

pub returns : goal.returns
returns c = agreement_by c.only_puts.ensures c.puts_in_turn.ensures c.writes_in_turn.ensures
