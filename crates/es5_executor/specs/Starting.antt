-- Before a script begins, the intrinsic functions stand where the models take them from.
use Rattle.std.specs.Prelude.{◌≡◌, None, codes}
use Rattle.es5_tree.specs.declared.tree.Script.{Script}
use Rattle.es5_tree.specs.Values.{Text, find_own}
use Rattle.es5_evaluation.specs.Run.{first_state, script_record}
use Rattle.es5_executor.specs.Owning.{TestStands}
use Rattle.es5_executor.specs.Linking.{ObjectStands}

-- the script has no variable of this name
abbrev pub NotDeclared : Script → Text → Type 0
NotDeclared script name = find_own (script_record script).variables name ≡ None

-- seen from the script's record 1
abbrev pub TestAtStart : Type 0
TestAtStart = (script : Script) (input : Text) → NotDeclared script (codes "Object") → TestStands (first_state script input) 1

abbrev pub ObjectAtStart : Type 0
ObjectAtStart = (script : Script) (input : Text) → NotDeclared script (codes "Object") → NotDeclared script (codes "Array") → ObjectStands (first_state script input) 1
