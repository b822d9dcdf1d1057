use Rattle.std.proofs.Common.{◌≡◌, ◌≤◌, ◌+◌, ◌-◌, length}
use Rattle.opal_base.specs.Place.{place_at}
use Rattle.es5_lexer.specs.Pieces.{Progress}
use Rattle.es5_lexer.proofs.lex.es_lex.Given as goal

abbrev pub invariant-pieces : goal.invariant-pieces
invariant-pieces l = record {
  progress : Progress l.bytes l.at l.restriction l.tokens;
  place : l.pos ≡ place_at l.bytes l.at;
  bound : l.pos.line + l.pos.col ≤ l.at;
  within : l.at ≤ length l.bytes;
  few : length l.tokens ≤ l.at;
}

abbrev pub decreases-pieces : goal.decreases-pieces
decreases-pieces l = length l.bytes - l.at
