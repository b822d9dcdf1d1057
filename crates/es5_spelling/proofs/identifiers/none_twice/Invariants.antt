use Rattle.std.proofs.Common.{◌≡◌, drop}
use Rattle.es5_spelling.specs.Spellable.{none_twice}
use Rattle.es5_spelling.proofs.identifiers.none_twice.Given as goal

abbrev pub invariant-loop-i : goal.invariant-loop-i
invariant-loop-i l = none_twice (drop l.i l.names) ≡ none_twice l.names
