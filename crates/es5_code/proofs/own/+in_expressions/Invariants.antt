use Rattle.std.proofs.Common.{◌≡◌, map, drop}
use Rattle.es5_evaluation.specs.Declared.{each, expr_code}
use Rattle.es5_code.specs.Own.{gather}
use Rattle.es5_code.proofs.own.+in_expressions.Given as goal

abbrev pub invariant-expressions-loop-expr : goal.invariant-expressions-loop-expr
invariant-expressions-loop-expr l = gather l.own (each (map expr_code (drop l.expr-index l.exprs))) ≡ gather l.initial.own (each (map expr_code l.exprs))
