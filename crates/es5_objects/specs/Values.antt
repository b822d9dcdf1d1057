-- What the types of this crate stand for.
use Rattle.std.specs.Prelude.{Option, Some, None}
use Rattle.es5_tree.specs.Values.{Val}
use Rattle.es5_tree.specs.Values as val
use Rattle.es5_tree.specs.Objects.Cells.{Kind}
use Rattle.es5_tree.specs.Objects.Cells as kind
use Rattle.es5_objects.specs.declared.value.EsValue.{EsValue}
use Rattle.es5_objects.specs.declared.value.EsValue.TheVariants.{Undefined, Null, Bool, Num, Str, Obj}
use Rattle.es5_objects.specs.declared.kind.CellKind.{CellKind}
use Rattle.es5_objects.specs.declared.kind.CellKind.TheVariants.{Object, Array, Arguments, Function, Host, Record}

abbrev pub value_of : EsValue → Val
value_of Undefined = val.Undefined
value_of Null = val.Null
value_of (Bool b) = val.Truth b
value_of (Num n) = val.Num n
value_of (Str text) = val.Str text
value_of (Obj o) = val.Obj o

abbrev pub kind_of : CellKind → Kind
kind_of Object = kind.Object
kind_of Array = kind.Array
kind_of Arguments = kind.Arguments
kind_of (Function code scope) = kind.Function code scope
kind_of (Host which) = kind.Host which
kind_of (Record outer) = kind.Record outer

-- what a borrowed value stands for, where there is one
abbrev pub value_if : Option EsValue → Option Val
value_if None = None
value_if (Some v) = Some (value_of v)
