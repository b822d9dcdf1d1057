-- What the models take stands there before a script begins.
use Rattle.std.proofs.Common.{◌≡◌, false, ◌||◌, if◌then◌else◌, Option, Some, None, is_some, refl, ap, ◌∙◌, codes}
use Rattle.es5_tree.specs.declared.tree.Script.{Script}
use Rattle.es5_tree.specs.Values.{Text, Val, Obj, find_own}
use Rattle.es5_tree.specs.Objects.Cells.{own}
use Rattle.es5_tree.specs.Objects.Links.{cell_at, chain, first_of_chain, first_own, get}
use Rattle.es5_tree.specs.Intrinsics.Made.{cells}
use Rattle.es5_evaluation.specs.State.{record_at, binding_by}
use Rattle.es5_evaluation.specs.Run.{first_state}
use Rattle.es5_executor.specs.Memory.{IsOuter, bound_from}
use Rattle.es5_executor.specs.Starting.{NotDeclared, TestAtStart, ObjectAtStart}

-- a global that the script doesn't declare
pub global_found : (script : Script) (input : Text) (x : Text) (v : Val) → NotDeclared script x → find_own (record_at (first_state script input).records 0).constants x ≡ Some v → IsOuter (first_state script input).records 1 (record { name = x; at = 0; val = v; free = false })
unfolding first_state record_at bound_from binding_by find_own
global_found script input x v e f = (
  ap (λ (o : Option Val). if is_some o || false then Some 1 else (if is_some (find_own (record_at (first_state script input).records 0).constants x) then Some 0 else None)) e
      ∙ ap (λ (o : Option Val). if is_some o then Some 0 else None) f,
  f,
)

pub test_at_start : TestAtStart
unfolding first_state cells cell_at own find_own get chain first_of_chain first_own record_at
test_at_start script input e = record {
  object = global_found script input (codes "Object") (Obj 6) e refl;
  prototype = refl;
  own = refl;
  passes = refl;
  is_call = refl;
  is_own = refl;
}

pub object_at_start : ObjectAtStart
unfolding first_state cells cell_at own find_own record_at
object_at_start script input e f = record {
  object = global_found script input (codes "Object") (Obj 6) e refl;
  array = global_found script input (codes "Array") (Obj 8) f refl;
  create = refl;
  get = refl;
  set = refl;
  test = refl;
  is_create = refl;
  is_get = refl;
  is_set = refl;
  is_test = refl;
}
