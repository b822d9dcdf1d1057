use Rattle.std.proofs.Common.{◌≡◌, drop}
use Rattle.std.specs.List.{list_all}
use Rattle.es5_spelling.specs.Spellable.{is_binding}
use Rattle.es5_spelling.proofs.identifiers.are_params.Given as goal

abbrev pub invariant-loop-i : goal.invariant-loop-i
invariant-loop-i l = list_all is_binding (drop l.i l.names) ≡ list_all is_binding l.names
