use Rattle.std.proofs.Common.{◌≡◌, drop}
use Rattle.std.specs.Prelude.{bytes_eq}
use Rattle.std.specs.List.{list_any}
use Rattle.es5_spelling.proofs.identifiers.stands_from.Given as goal

abbrev pub invariant-loop-i : goal.invariant-loop-i
invariant-loop-i l = list_any (λ other. bytes_eq l.name other) (drop l.i l.names) ≡ list_any (λ other. bytes_eq l.name other) (drop l.from l.names)
