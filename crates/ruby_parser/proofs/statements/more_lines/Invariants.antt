use Rattle.std.proofs.Common.{◌≡◌, ◌-◌, length}
use Rattle.ruby_reading.specs.Ahead.{ahead}
use Rattle.ruby_parser.specs.StatementValues.{lines_from}
use Rattle.ruby_parser.proofs.statements.more_lines.Given as goal

abbrev pub invariant-loop-turn : goal.invariant-loop-turn
invariant-loop-turn g l = lines_from l.parser.in_rescue l.parser.depth (length (ahead l.fn.cursor)) l.fn.found (ahead l.fn.cursor) ≡ lines_from l.parser.in_rescue l.parser.depth (l._turn-end - l._turn) l.found (ahead l.cursor)
