-- Names that are found one after the other.
use Rattle.std.specs.Prelude.{◌++◌, ◌||◌}
use Rattle.es5_evaluation.specs.Declared.{OwnCode}
use Rattle.es5_code.specs.declared.own.OwnNames.{OwnNames}

-- with what code declares and names besides
unfoldable pub gather : OwnNames → OwnCode → OwnNames
gather own code = record { names = own.names ++ code.names; arguments = own.arguments || code.arguments }
