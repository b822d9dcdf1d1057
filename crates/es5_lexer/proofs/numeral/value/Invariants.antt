use Rattle.std.proofs.Common.{◌≡◌, ◌≤◌, length}
use Rattle.es5_tree.specs.Numerals.{value}
use Rattle.es5_lexer.proofs.numeral.value.Given as goal

abbrev pub invariant-digits : goal.invariant-digits
invariant-digits l = record {
  is : value l.value l.rest ≡ value 0 l.initial.rest;
  small : l.value ≤ 9007199254740991;
}

abbrev pub decreases-digits : goal.decreases-digits
decreases-digits l = length l.rest
