use Rattle.std.proofs.Common.{◌≡◌, ◌<◌, ◌^◌, ◌++◌, drop}
use Rattle.std.specs.List.{AllByRecursion}
use Rattle.opal_cli.proofs.translate.line_of.Given as goal

abbrev pub invariant-loop-unit : goal.invariant-loop-unit
invariant-loop-unit l = record {
  copied : l.line ++ drop l.unit-index l.unit-items ≡ l.unit-items;
  small : AllByRecursion (λ unit. unit < 2 ^ 16) l.line;
}
