use Rattle.std.proofs.Common.{◌≡◌, map, drop}
use Rattle.es5_evaluation.specs.Declared.{each, stmt_code}
use Rattle.es5_code.specs.Own.{gather}
use Rattle.es5_code.proofs.own.+in_statements.Given as goal

abbrev pub invariant-statements-loop-stmt : goal.invariant-statements-loop-stmt
invariant-statements-loop-stmt l = gather l.own (each (map stmt_code (drop l.stmt-index l.stmts))) ≡ gather l.initial.own (each (map stmt_code l.stmts))
