use Rattle.std.proofs.Common.{◌≡◌, ◌-◌, length}
use Rattle.descent.specs.Sets.{one_of}
use Rattle.ruby_reading.specs.Ahead.{ahead, codes}
use Rattle.ruby_operands.specs.Operators.{operators_from}
use Rattle.ruby_reading.specs.Shown.{shown_value, written_code}
use Rattle.ruby_operands.proofs.levels.operators.Given as goal

abbrev pub invariant-loop-turn : goal.invariant-loop-turn
invariant-loop-turn g l =
    operators_from (one_of (codes l.signs)) l.fn.operand l.fn.joint l.parser.takes_do l.parser.in_rescue l.parser.depth (length (ahead l.fn.cursor)) (shown_value l.fn.first) (ahead l.fn.cursor)
    ≡ operators_from (one_of (codes l.signs)) l.fn.operand l.fn.joint l.parser.takes_do l.parser.in_rescue l.parser.depth (l._turn-end - l._turn) (l.left, written_code l.written) (ahead l.cursor)
