use Rattle.std.proofs.Common.{◌≡◌, ◌-◌, length}
use Rattle.es5_reading.specs.Gives.{ahead}
use Rattle.es5_reading.specs.Loops.{accesses}
use Rattle.es5_reading.specs.Named.{shown_operand}
use Rattle.es5_parser.proofs.names.Parser.accesses.Given as goal

abbrev pub invariant-loop-turn : goal.invariant-loop-turn
invariant-loop-turn g l = accesses (length (ahead l.fn.tokens)) l.self.depth (shown_operand l.fn.value) (ahead l.fn.tokens) ≡ accesses (l._turn-end - l._turn) l.self.depth (shown_operand l.value) (ahead l.tokens)
