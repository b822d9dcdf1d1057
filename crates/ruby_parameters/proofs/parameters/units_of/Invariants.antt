use Rattle.std.proofs.Common.{◌≡◌, take, map}
use Rattle.ruby_meaning.specs.Grammar.Actions as act
use Rattle.ruby_parameters.specs.Parameters.{shown_names}
use Rattle.ruby_parameters.proofs.parameters.units_of.Given as goal

abbrev pub invariant-loop-name : goal.invariant-loop-name
invariant-loop-name l = l.all ≡ map act.units (shown_names (take l.name-index l.names))
