use Rattle.std.proofs.Common.{◌≡◌, ◌+◌, length}
use Rattle.es5_parser.specs.Levels.{openings_ahead}
use Rattle.es5_parser.proofs.brackets.openings.Given as goal

abbrev pub invariant-openings : goal.invariant-openings
invariant-openings l = (length (openings_ahead l.fn.tokens) ≡ l.count + length (openings_ahead l.rest)) × (l.count + length l.rest ≡ length l.fn.tokens)

abbrev pub decreases-openings : goal.decreases-openings
decreases-openings l = length l.rest
