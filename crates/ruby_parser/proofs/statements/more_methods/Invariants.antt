use Rattle.std.proofs.Common.{◌≡◌, ◌-◌, length}
use Rattle.ruby_reading.specs.Ahead.{ahead}
use Rattle.ruby_parser.specs.StatementValues.{methods_from, shown_methods}
use Rattle.ruby_parser.proofs.statements.more_methods.Given as goal

abbrev pub invariant-loop-turn : goal.invariant-loop-turn
invariant-loop-turn g l = methods_from l.parser.depth (length (ahead l.fn.cursor)) (shown_methods l.fn.found) (ahead l.fn.cursor) ≡ methods_from l.parser.depth (l._turn-end - l._turn) (shown_methods l.found) (ahead l.cursor)
