use Rattle.std.proofs.Common.{◌≡◌, ◌-◌, length}
use Rattle.ruby_reading.specs.Ahead.{ahead}
use Rattle.ruby_parameters.specs.Lists.{items_from}
use Rattle.ruby_parameters.proofs.lists.more_items.Given as goal

abbrev pub invariant-loop-turn : goal.invariant-loop-turn
invariant-loop-turn g l =
    items_from l.parser.takes_do l.parser.in_rescue l.parser.depth (length (ahead l.fn.cursor)) l.fn.found (ahead l.fn.cursor)
    ≡ items_from l.parser.takes_do l.parser.in_rescue l.parser.depth (l._turn-end - l._turn) l.found (ahead l.cursor)
