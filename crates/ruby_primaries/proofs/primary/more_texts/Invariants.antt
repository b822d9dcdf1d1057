use Rattle.std.proofs.Common.{◌≡◌, ◌-◌, length}
use Rattle.ruby_reading.specs.Ahead.{ahead}
use Rattle.ruby_primaries.specs.Literals.{texts_from}
use Rattle.ruby_primaries.proofs.primary.more_texts.Given as goal

abbrev pub invariant-loop-turn : goal.invariant-loop-turn
invariant-loop-turn g l = texts_from l.parser.depth (length (ahead l.fn.cursor)) l.fn.found (ahead l.fn.cursor) ≡ texts_from l.parser.depth (l._turn-end - l._turn) l.found (ahead l.cursor)
