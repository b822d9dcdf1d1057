use Rattle.std.proofs.Common.{◌≡◌, ◌-◌, length, map}
use Rattle.es5_tree.specs.Grammar.Nodes.{expression}
use Rattle.es5_reading.specs.Gives.{ahead}
use Rattle.es5_reading.specs.Loops.{more_arguments}
use Rattle.es5_parser.proofs.names.Parser.more_arguments.Given as goal

abbrev pub invariant-loop-turn : goal.invariant-loop-turn
invariant-loop-turn g l = more_arguments (length (ahead l.fn.tokens)) l.self.depth (map expression l.fn.found) (ahead l.fn.tokens) ≡ more_arguments (l._turn-end - l._turn) l.self.depth (map expression l.found) (ahead l.tokens)
