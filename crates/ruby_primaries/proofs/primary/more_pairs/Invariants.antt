use Rattle.std.proofs.Common.{◌≡◌, ◌-◌, length}
use Rattle.ruby_reading.specs.Ahead.{ahead}
use Rattle.ruby_primaries.specs.Literals.{pairs_from}
use Rattle.ruby_primaries.proofs.primary.more_pairs.Given as goal

abbrev pub invariant-loop-turn : goal.invariant-loop-turn
invariant-loop-turn g l =
    pairs_from l.parser.in_rescue l.parser.depth (length (ahead l.fn.cursor)) l.fn.found.keys l.fn.found.values (ahead l.fn.cursor)
    ≡ pairs_from l.parser.in_rescue l.parser.depth (l._turn-end - l._turn) l.keys l.values (ahead l.cursor)
