use Rattle.std.proofs.Common.{◌≡◌, ◌≤◌, length, reverse}
use Rattle.es5_reading.specs.Gives.{ahead}
use Rattle.es5_parser.specs.Levels.{closed, shown_start}
use Rattle.es5_parser.proofs.names.Parser.closed.Given as goal

abbrev pub invariant-opened : goal.invariant-opened
invariant-opened g l =
    (closed l.self.depth (reverse l.fn.opened) (shown_start l.fn.start) (ahead l.fn.tokens) ≡ closed l.self.depth (reverse l.opened) (shown_start l.start) (ahead l.tokens)) × (length l.opened ≤ length l.fn.opened)

abbrev pub decreases-opened : goal.decreases-opened
decreases-opened g l = length l.opened
