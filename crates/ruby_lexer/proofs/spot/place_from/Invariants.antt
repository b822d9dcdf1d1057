use Rattle.std.proofs.Common.{◌≡◌, ◌≤◌, ◌+◌, drop}
use Rattle.ruby_meaning.specs.Lexing.Lexes.{place_from}
use Rattle.ruby_lexer.proofs.spot.place_from.Given as goal

abbrev pub invariant-loop-u : goal.invariant-loop-u
invariant-loop-u l = (place_from l.pos (drop l.u-index l.slice) ≡ place_from l.fn.pos l.slice) × (l.pos.line ≤ l.fn.pos.line + l.u-index) × (l.pos.col ≤ l.fn.pos.col + l.u-index)
