use Rattle.std.proofs.Common.{◌≡◌, drop}
use Rattle.std.specs.List.{list_all}
use Rattle.es5_spelling.specs.Spellable.{is_identifier}
use Rattle.es5_spelling.proofs.identifiers.are_keys.Given as goal

abbrev pub invariant-loop-i : goal.invariant-loop-i
invariant-loop-i l = list_all is_identifier (drop l.i l.names) ≡ list_all is_identifier l.names
