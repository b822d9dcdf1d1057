use Rattle.std.proofs.Common.{◌≡◌, ◌≤◌, ◌+◌}
use Rattle.opal_base.specs.Place.{place_at}
use Rattle.es5_lexer.proofs.lex.place_from.Given as goal

abbrev pub invariant-loop-i : goal.invariant-loop-i
invariant-loop-i l = record {
  is : l.pos ≡ place_at l.bytes l.i;
  short : l.pos.line + l.pos.col ≤ l.i;
}
