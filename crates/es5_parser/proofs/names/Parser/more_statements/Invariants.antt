use Rattle.std.proofs.Common.{◌≡◌, ◌-◌, length, map}
use Rattle.es5_tree.specs.Grammar.Nodes.{statement}
use Rattle.es5_reading.specs.Gives.{ahead}
use Rattle.es5_reading.specs.Loops.{more_statements}
use Rattle.es5_parser.proofs.names.Parser.more_statements.Given as goal

abbrev pub invariant-loop-turn : goal.invariant-loop-turn
invariant-loop-turn g l = more_statements l.in_function l.in_loop (length (ahead l.fn.tokens)) l.self.depth (map statement l.fn.found) (ahead l.fn.tokens) ≡ more_statements l.in_function l.in_loop (l._turn-end - l._turn) l.self.depth (map statement l.found) (ahead l.tokens)
