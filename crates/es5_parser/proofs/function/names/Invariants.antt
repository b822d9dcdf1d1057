use Rattle.std.proofs.Common.{◌≡◌, ◌-◌, [], length}
use Rattle.es5_reading.specs.Gives.{ahead}
use Rattle.es5_parser.specs.Lists.{params_from}
use Rattle.es5_parser.proofs.function.names.Given as goal

abbrev pub invariant-loop-turn : goal.invariant-loop-turn
invariant-loop-turn l = params_from (length (ahead l.fn.tokens)) [] (ahead l.fn.tokens) ≡ params_from (l._turn-end - l._turn) l.found (ahead l.tokens)
