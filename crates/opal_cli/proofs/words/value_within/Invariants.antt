use Rattle.std.proofs.Common.{◌≡◌, ◌≤◌, length}
use Rattle.std.specs.Option.{option_and_then}
use Rattle.opal_cli.specs.Words.{within, number_from}
use Rattle.opal_cli.proofs.words.value_within.Given as goal

abbrev pub invariant-digits : goal.invariant-digits
invariant-digits l = record {
  small : l.value ≤ l.most;
  found : option_and_then (within l.least l.most) (number_from l.value l.rest) ≡ option_and_then (within l.least l.most) (number_from 0 l.fn.digits);
}

abbrev pub decreases-digits : goal.decreases-digits
decreases-digits l = length l.rest
