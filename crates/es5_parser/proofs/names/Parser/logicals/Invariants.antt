use Rattle.std.proofs.Common.{◌≡◌, ◌-◌, length}
use Rattle.es5_reading.specs.Gives.{ahead}
use Rattle.es5_reading.specs.Loops.{logicals}
use Rattle.es5_reading.specs.Named.{shown_operand}
use Rattle.es5_parser.proofs.names.Parser.logicals.Given as goal

abbrev pub invariant-loop-turn : goal.invariant-loop-turn
invariant-loop-turn g l = logicals l.which (length (ahead l.fn.tokens)) l.self.depth (shown_operand l.fn.left) (ahead l.fn.tokens) ≡ logicals l.which (l._turn-end - l._turn) l.self.depth (shown_operand l.left) (ahead l.tokens)
