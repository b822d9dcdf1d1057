use Rattle.std.proofs.Common.{◌≡◌, ◌-◌, length}
use Rattle.ruby_reading.specs.Ahead.{ahead}
use Rattle.ruby_operands.specs.PartsBehind.{parts_from}
use Rattle.ruby_reading.specs.Shown.{shown_value, written_code}
use Rattle.ruby_operands.proofs.suffixes.parts_behind.Given as goal

abbrev pub invariant-loop-turn : goal.invariant-loop-turn
invariant-loop-turn g l =
    parts_from l.parser.in_rescue l.parser.takes_do l.parser.depth (length (ahead l.fn.cursor)) (shown_value l.fn.first) (ahead l.fn.cursor)
    ≡ parts_from l.parser.in_rescue l.parser.takes_do l.parser.depth (l._turn-end - l._turn) (l.left, written_code l.written) (ahead l.cursor)
