use Rattle.std.proofs.Common.{◌≡◌, ◌-◌, length}
use Rattle.ruby_reading.specs.Ahead.{ahead}
use Rattle.ruby_forms.specs.Definitions.{whens_from}
use Rattle.ruby_forms.proofs.cases.more_whens.Given as goal

abbrev pub invariant-loop-turn : goal.invariant-loop-turn
invariant-loop-turn g l = whens_from l.parser.in_rescue l.parser.depth (length (ahead l.fn.cursor)) l.fn.found (ahead l.fn.cursor) ≡ whens_from l.parser.in_rescue l.parser.depth (l._turn-end - l._turn) l.found (ahead l.cursor)
