-- The run of a program on an input, with a number of units.
use Rattle.std.specs.Prelude.{false, ℕ, zero, suc, true, List, [], ◌∷◌, ◌++◌, map, Option, Some, None, codes}
use Rattle.opal_base.specs.Shown.{Shown, Ended, Going, output_of}
use Rattle.ruby_meaning.specs.declared.tree.Node.{Node}
use Rattle.ruby_meaning.specs.declared.value.Value.{Value}
use Rattle.ruby_meaning.specs.declared.value.Value.TheVariants as value
use Rattle.ruby_evaluation.specs.Ends.{RubyEnd, Finished, Uncaught, NumberOutside}
use Rattle.ruby_evaluation.specs.Tables.{Name, Text, at}
use Rattle.ruby_evaluation.specs.State.{Plain, Module, Thing, Ruby, thing_at}
use Rattle.ruby_evaluation.specs.Ancestors.{class_name}
use Rattle.ruby_evaluation.specs.Task.{Raise, Result, Val, Leaves, Task, ◌>>=◌, onval, Moment, State, Outcome, Ends, Left, Starved, Eval, walk}
use Rattle.ruby_evaluation.specs.Definitions.{class_entry}
use Rattle.ruby_evaluation.specs.Requires.{Files, run_file, run_reached}
use Rattle.ruby_evaluation.specs.Nodes.{perform}

-- Each request takes a unit as it begins and hands the rest on. To a depth: with n units no more than n are nested.
unfoldable pub eval_to : Files → ℕ → Eval
eval_to files zero q s g = Starved s
eval_to files (suc d) q s zero = Starved s
eval_to files (suc d) q s (suc g) = walk (eval_to files d) (perform files q) s g

-- ---- the boot state

abbrev pub class_thing : Name → Option ℕ → List ℕ → ℕ → Thing
class_thing name superclass included meta =
    record { class = 5; singleton = Some meta; variables = []; form = Module (record { name = name; is_class = true; superclass = superclass; included = included; table = []; constants = []; of = None }) }

abbrev pub meta_thing : Name → ℕ → ℕ → Thing
meta_thing name superclass of =
    record { class = 5; singleton = None; variables = []; form = Module (class_entry (codes "#<Class:" ++ name ++ codes ">") (Some superclass) (Some of)) }

abbrev pub module_thing : Name → Thing
module_thing name =
    record { class = 3; singleton = None; variables = []; form = Module (record { name = name; is_class = false; superclass = None; included = []; table = []; constants = []; of = None }) }

-- a class with that number and its metaclass
abbrev pub both : Name → ℕ → List ℕ → List Thing → List Thing
both name c included more = class_thing name (Some 1) included (suc c) ∷ meta_thing name 2 c ∷ more

abbrev pub boot_constants : List (Name × Value)
boot_constants =
    (codes "Object", value.Ref 1) ∷ (codes "Module", value.Ref 3) ∷ (codes "Class", value.Ref 5) ∷ (codes "Kernel", value.Ref 7)
    ∷ (codes "Comparable", value.Ref 8) ∷ (codes "Enumerable", value.Ref 9) ∷ (codes "NilClass", value.Ref 10) ∷ (codes "Boolean", value.Ref 12)
    ∷ (codes "Integer", value.Ref 14) ∷ (codes "String", value.Ref 16) ∷ (codes "Array", value.Ref 18) ∷ (codes "Hash", value.Ref 20)
    ∷ (codes "Range", value.Ref 22) ∷ (codes "Proc", value.Ref 24) ∷ (codes "Exception", value.Ref 26) ∷ (codes "Symbol", value.Ref 16) ∷ []

abbrev pub object_thing : Thing
object_thing =
    record { class = 5; singleton = Some 2; variables = []; form = Module (record { name = codes "Object"; is_class = true; superclass = None; included = 7 ∷ []; table = []; constants = boot_constants; of = None }) }

abbrev pub plain_thing : ℕ → Thing
plain_thing c = record { class = c; singleton = None; variables = []; form = Plain }

-- nil, the classes and modules, the main object
abbrev pub boot_heap : List Thing
boot_heap =
    plain_thing 10 ∷ object_thing ∷ meta_thing (codes "Object") 5 1
    ∷ class_thing (codes "Module") (Some 1) [] 4 ∷ meta_thing (codes "Module") 2 3
    ∷ class_thing (codes "Class") (Some 3) [] 6 ∷ meta_thing (codes "Class") 4 5
    ∷ module_thing (codes "Kernel") ∷ module_thing (codes "Comparable") ∷ module_thing (codes "Enumerable")
    ∷ both (codes "NilClass") 10 [] (both (codes "Boolean") 12 [] (both (codes "Integer") 14 (8 ∷ []) (both (codes "String") 16 (8 ∷ [])
    (both (codes "Array") 18 (9 ∷ []) (both (codes "Hash") 20 (9 ∷ []) (both (codes "Range") 22 (9 ∷ []) (both (codes "Proc") 24 []
    (both (codes "Exception") 26 [] (plain_thing 1 ∷ [])))))))))

abbrev pub boot : Text → Ruby
boot input = record { heap = boot_heap; globals = []; library = []; required = []; frames = []; calls = []; input = input }

abbrev pub first_state : Text → State
first_state input = record { ruby = boot input; calls = [] }

-- ---- programs

-- the files by name, and which is the main one
pub record Bundled : Type 0 where
  pub main : Name
  pub files : Files

-- the core library's text as one file, then the main file, which is marked before it begins
abbrev pub program : Node → Bundled → Task
program core b = run_file None core >>= onval (λ v. run_reached (at b.main b.files) b.main)

unfoldable pub outcome : Node → Bundled → Text → ℕ → Outcome
outcome core b input n = walk (eval_to b.files n) (program core b) (first_state input) n

-- ---- what is shown

abbrev pub message_of : Option Value → Text → Text
message_of (Some (value.Text t)) name = t
message_of _ name = name

abbrev pub uncaught : Ruby → ℕ → RubyEnd
uncaught r k = Uncaught (class_name r (value.Ref k)) (message_of (at (codes "@message") (thing_at r k).variables) (class_name r (value.Ref k)))

-- no other jump leaves a file
abbrev pub end_of : Result → Ruby → RubyEnd
end_of (Val v) r = Finished
end_of (Leaves (Raise k)) r = uncaught r k
end_of (Leaves _) r = Finished

-- what was written
abbrev pub output : State → List ℕ
output s = output_of (map (λ m. m.call) s.calls)

abbrev pub shown : Outcome → Shown RubyEnd
shown (Ends x s g) = Ended (output s) (end_of x s.ruby)
shown (Left s g) = Ended (output s) NumberOutside
shown (Starved s) = Going (output s)

unfoldable pub ruby_run : Node → Bundled → Text → ℕ → Shown RubyEnd
ruby_run core b input n = shown (outcome core b input n)

-- ---- the states before each call of the host, and the last one where the run finished or an exception ended it

abbrev pub befores : List Moment → List Ruby
befores [] = []
befores (m ∷ earlier) = befores earlier ++ m.before ∷ []

abbrev pub moments : Outcome → List Ruby
moments (Ends x s g) = befores s.calls ++ s.ruby ∷ []
moments (Left s g) = befores s.calls
moments (Starved s) = befores s.calls

unfoldable pub ruby_at : Node → Bundled → Text → ℕ → List Ruby
ruby_at core b input n = moments (outcome core b input n)
