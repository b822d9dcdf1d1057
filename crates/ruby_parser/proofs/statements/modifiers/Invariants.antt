use Rattle.std.proofs.Common.{◌≡◌, ◌-◌, length}
use Rattle.ruby_reading.specs.Ahead.{ahead}
use Rattle.ruby_parser.specs.StatementValues.{modifiers_from}
use Rattle.ruby_reading.specs.Shown.{shown_value}
use Rattle.ruby_parser.proofs.statements.modifiers.Given as goal

abbrev pub invariant-loop-turn : goal.invariant-loop-turn
invariant-loop-turn g l =
    modifiers_from l.parser.in_rescue l.parser.depth (length (ahead l.fn.cursor)) (shown_value l.fn.first) (ahead l.fn.cursor)
    ≡ modifiers_from l.parser.in_rescue l.parser.depth (l._turn-end - l._turn) (shown_value l.value) (ahead l.cursor)
