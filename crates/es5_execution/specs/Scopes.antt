-- What the scope of a run stands for.
use Rattle.es5_evaluation.specs.Task.{Scope}
use Rattle.es5_objects.specs.Values.{value_of}
use Rattle.es5_execution.specs.declared.scope.Scope.{Scope as Surrounding}

abbrev pub scope_of : Surrounding → Scope
scope_of s = record { this = value_of s.this; innermost = s.innermost }
