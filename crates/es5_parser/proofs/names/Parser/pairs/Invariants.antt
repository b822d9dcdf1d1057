use Rattle.std.proofs.Common.{◌≡◌, ◌-◌, [], length, map}
use Rattle.es5_tree.specs.Grammar.Nodes.{expression}
use Rattle.es5_reading.specs.Gives.{ahead}
use Rattle.es5_parser.specs.Lists.{pairs_from}
use Rattle.es5_parser.proofs.names.Parser.pairs.Given as goal

abbrev pub invariant-loop-turn : goal.invariant-loop-turn
invariant-loop-turn g l = pairs_from (length (ahead l.fn.tokens)) l.self.depth [] [] (ahead l.fn.tokens) ≡ pairs_from (l._turn-end - l._turn) l.self.depth l.keys (map expression l.values) (ahead l.tokens)
