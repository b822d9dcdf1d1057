use Rattle.std.proofs.Common.{◌≡◌, ◌-◌, length}
use Rattle.ruby_reading.specs.Ahead.{ahead}
use Rattle.ruby_parameters.specs.Parameters.{names_from, shown_names}
use Rattle.ruby_parameters.proofs.parameters.more_names.Given as goal

abbrev pub invariant-loop-turn : goal.invariant-loop-turn
invariant-loop-turn g l = names_from l.parser.depth (length (ahead l.fn.cursor)) (shown_names l.fn.found) (ahead l.fn.cursor) ≡ names_from l.parser.depth (l._turn-end - l._turn) (shown_names l.found) (ahead l.cursor)
