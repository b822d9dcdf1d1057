-- What the answers of operators stand for.
use Rattle.es5_evaluation.specs.Values.{Result}
use Rattle.es5_evaluation.specs.Values as result
use Rattle.es5_objects.specs.Values.{value_of}
use Rattle.es5_host.specs.Values.{out_of}
use Rattle.es5_operators.specs.declared.operated.Operated.{Operated}
use Rattle.es5_operators.specs.declared.operated.Operated.TheVariants.{Is, Outside}

abbrev pub result_of : Operated → Result
result_of (Is v) = result.Is (value_of v)
result_of (Outside kind) = result.Out (out_of kind)
