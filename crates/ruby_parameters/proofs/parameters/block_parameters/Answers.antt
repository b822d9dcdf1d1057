use Rattle.std.proofs.Common.{rules, arith, sym}
use Rattle.std.proofs.lemmas.Grind.{common_steps}
use Rattle.ruby_meaning.specs.Grammar.Actions as act
use Rattle.ruby_meaning.specs.Grammar.Calls.{block_parameters}
use Rattle.ruby_meaning.specs.Grammar.Table.{table}
use Rattle.ruby_parameters.proofs.parameters.block_parameters.Goals as goal

pub returns-then-not-sees : goal.returns-then-not-sees
unfolding table block_parameters
returns-then-not-sees g c = (act.no_parameters, first_of (search rules, grind (arith, common_steps)), sym c.no_parameters.ensures)
