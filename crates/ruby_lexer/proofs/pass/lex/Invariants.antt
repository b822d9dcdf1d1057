use Rattle.std.proofs.Common.{◌≡◌, ◌≤◌, ◌+◌, length}
use Rattle.ruby_meaning.proofs.Lexing.Steps.{Progress}
use Rattle.ruby_lexer.proofs.pass.lex.Given as goal

abbrev pub invariant-pieces : goal.invariant-pieces
invariant-pieces l = record {
  progress : Progress l.fn.text l.spot l.rest l.tokens;
  length : l.spot.at + length l.rest ≡ length l.fn.text;
  line : l.spot.pos.line ≤ l.spot.at;
  col : l.spot.pos.col ≤ l.spot.at;
}

abbrev pub decreases-pieces : goal.decreases-pieces
decreases-pieces l = length l.rest
