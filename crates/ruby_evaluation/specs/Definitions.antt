-- Definitions: methods, singleton classes, classes and modules, alias and undef.
use Rattle.std.specs.Prelude.{ℕ, Bool, true, false, ◌||◌, if◌then◌else◌, nat_eq, is_some, List, [], ◌∷◌, ◌++◌, length, Option, Some, None, codes}
use Rattle.ruby_meaning.specs.declared.tree.Node.{Node}
use Rattle.ruby_meaning.specs.declared.tree.Params.{Params}
use Rattle.ruby_meaning.specs.declared.value.Value.{Value}
use Rattle.ruby_meaning.specs.declared.value.Value.TheVariants as value
use Rattle.ruby_evaluation.specs.Tables.{Name, at, put_at}
use Rattle.ruby_evaluation.specs.State.{Around, Entry, Def, Undefined, ModuleEntry, EndsItself, Module, Thing, Frame, Ruby, thing_at, frame_at, module_at, module_in, with_thing, with_entry, with_constant, with_new_frame, closed}
use Rattle.ruby_evaluation.specs.Ancestors.{object_class, module_class, class_class, boolean_class, integer_class, string_class, array_class, hash_class, range_class, proc_class, is_among, class_at, class_name, find_for}
use Rattle.ruby_evaluation.specs.Task.{Task, Done, Look, Change, ◌>>=◌, onval, gives, run_node}
use Rattle.ruby_evaluation.specs.Texts.{thing, draw, type_error, wrong_kind, closed_class, no_singleton, no_method_in}
use Rattle.ruby_evaluation.specs.Locals.{declared, all_nil}
use Rattle.ruby_evaluation.specs.Calls.{in_frame, call_method}
use Rattle.ruby_evaluation.specs.Constants.{innermost}

-- ---- singleton classes

abbrev pub with_singleton : ℕ → ℕ → Ruby → Ruby
with_singleton k s r = let t = thing_at r k in with_thing k (record t { singleton = Some s }) r

-- the name of a singleton class, of a module and of another value
abbrev pub singleton_name : Option ModuleEntry → Name → Name
singleton_name (Some m) class = codes "#<Class:" ++ m.name ++ codes ">"
singleton_name None class = codes "#<Class:#<" ++ class ++ codes ">>"

abbrev pub class_entry : Name → Option ℕ → Option ℕ → ModuleEntry
class_entry name superclass of = record { name = name; is_class = true; superclass = superclass; included = []; table = []; constants = []; of = of }

-- its superclass is the class that the value had
abbrev pub new_singleton : Ruby → ℕ → Thing
new_singleton r k =
    thing class_class (Module (class_entry (singleton_name (module_in (thing_at r k).form) (class_name r (value.Ref k))) (Some (class_at r k)) (Some k)))

abbrev pub singleton_or_new : Option ℕ → ℕ → (ℕ → Task) → Task
singleton_or_new (Some s) k f = f s
singleton_or_new None k f = Look (λ r. draw (new_singleton r k) (λ s. Change (with_singleton k s) (f s)))

abbrev pub singleton_of : Value → (ℕ → Task) → Task
singleton_of (value.Ref k) f = Look (λ r. singleton_or_new (thing_at r k).singleton k f)
singleton_of v f = no_singleton v

-- ---- methods

abbrev pub define : ℕ → Name → Params → Node → Around → Task
define m name params body around =
    Change (with_entry m name (Def (record { owner = m; name = name; params = params; body = body; around = around }))) (gives (value.Text name))

-- ---- alias and undef

abbrev pub put_alias : Option Entry → ℕ → Name → Name → Task
put_alias (Some e) m new old = Change (with_entry m new e) (gives value.Nil)
put_alias None m new old = no_method_in old m

abbrev pub alias_in : ℕ → Name → Name → Task
alias_in m new old = Look (λ r. put_alias (find_for r m old) m new old)

abbrev pub put_mark : Option Entry → ℕ → Name → Task
put_mark (Some e) m name = Change (with_entry m name Undefined) (gives value.Nil)
put_mark None m name = no_method_in name m

abbrev pub undefine : ℕ → Name → Task
undefine m name = Look (λ r. put_mark (find_for r m name) m name)

abbrev pub undefine_all : ℕ → List Name → Task
undefine_all m [] = gives value.Nil
undefine_all m (name ∷ names) = undefine m name >>= onval (λ v. undefine_all m names)

-- ---- the bodies of modules and files

abbrev pub body_frame : Value → Around → Node → ℕ → Frame
body_frame me around body k =
    record { me = me; locals = all_nil (declared body) []; places = declared body; outer = None; method = None; block = value.Nil; around = around; returns = k; ending = EndsItself; caught = []; is_open = true }

abbrev pub run_body_in : Value → Around → Node → ℕ → Task
run_body_in me around body k =
    Change (with_new_frame (body_frame me around body k)) (run_node body (in_frame k) >>= (λ x. Change (closed k) (Done x)))

abbrev pub run_body : Value → Around → Node → Task
run_body me around body = Look (λ r. run_body_in me around body (length r.frames))

-- one more module body around the text in frame k
abbrev pub inside : Ruby → ℕ → ℕ → Around
inside r k m = let a = (frame_at r k).around in record a { modules = m ∷ a.modules }

abbrev pub run_module : ℕ → Node → ℕ → Task
run_module m body k = Look (λ r. run_body (value.Ref m) (inside r k m) body)

-- ---- classes and modules

-- what can't be subclassed
abbrev pub own_classes : List ℕ
own_classes = module_class ∷ class_class ∷ 10 ∷ boolean_class ∷ integer_class ∷ string_class ∷ array_class ∷ hash_class ∷ range_class ∷ proc_class ∷ []

abbrev pub is_closed : Ruby → ℕ → Bool
is_closed r c = is_among c own_classes || is_some (module_at r c).of

-- within Object the name alone
abbrev pub full_name : Ruby → ℕ → Name → Name
full_name r outer name = if nat_eq outer object_class then name else (module_at r outer).name ++ codes "::" ++ name

-- the metaclass of a superclass
abbrev pub metaclass_of : Option ℕ → ℕ
metaclass_of None = class_class
metaclass_of (Some m) = m

-- a class and then its metaclass
abbrev pub new_class : Name → ℕ → (ℕ → Task) → Task
new_class name s f =
    draw (thing class_class (Module (class_entry name (Some s) None)))
    (λ c. Look (λ r. draw (thing class_class (Module (class_entry (codes "#<Class:" ++ name ++ codes ">") (Some (metaclass_of (thing_at r s).singleton)) (Some c))))
    (λ m. Change (with_singleton c m) (f c))))

abbrev pub new_module : Name → (ℕ → Task) → Task
new_module name f =
    draw (thing module_class (Module (record { name = name; is_class = false; superclass = None; included = []; table = []; constants = []; of = None }))) f

-- the core library's classes are kept by name
abbrev pub with_library : Option Name → Name → ℕ → Ruby → Ruby
with_library None name c r = record r { library = put_at name c r.library }
with_library (Some file) name c r = r

abbrev pub or_object : Option ℕ → ℕ
or_object None = object_class
or_object (Some c) = c

abbrev pub same_class : Option ℕ → Option ℕ → Bool
same_class None o = true
same_class (Some c) None = false
same_class (Some c) (Some d) = nat_eq c d

abbrev pub mismatch : ℕ → Task
mismatch c = Look (λ r. type_error (codes "superclass mismatch: " ++ (module_at r c).name))

-- a written superclass is that of the class
abbrev pub reopened : ℕ → Option ℕ → Node → ℕ → Task
reopened c s body k = Look (λ r. if same_class s (module_at r c).superclass then run_module c body k else mismatch c)

-- made, named, set as constant; then `inherited` is called, then the body runs
abbrev pub made : Ruby → ℕ → Name → ℕ → Node → ℕ → Task
made r outer name s body k =
    new_class (full_name r outer name) s
    (λ c. Change (λ t. with_library (frame_at r k).around.file name c (with_constant outer name (value.Ref c) t))
    (call_method (value.Ref s) (codes "inherited") (value.Ref c ∷ []) value.Nil >>= onval (λ v. run_module c body k)))

abbrev pub open_class : Ruby → Option ModuleEntry → ℕ → Option ℕ → Node → ℕ → Task
open_class r (Some m) c s body k = if m.is_class then reopened c s body k else wrong_kind (value.Ref c)
open_class r None c s body k = wrong_kind (value.Ref c)

-- what the enclosing module itself holds under the name
abbrev pub class_under : Ruby → Option Value → ℕ → Name → Option ℕ → Node → ℕ → Task
class_under r None outer name s body k =
    if is_closed r (or_object s) then closed_class (or_object s) else made r outer name (or_object s) body k
class_under r (Some (value.Ref c)) outer name s body k = open_class r (module_in (thing_at r c).form) c s body k
class_under r (Some v) outer name s body k = wrong_kind v

abbrev pub define_class : Name → Option ℕ → Node → ℕ → Task
define_class name s body k =
    Look (λ r. class_under r (at name (module_at r (innermost r k)).constants) (innermost r k) name s body k)

-- a written superclass has to be a class
abbrev pub superclass_in : Option ModuleEntry → ℕ → (ℕ → Task) → Task
superclass_in (Some m) c f = if m.is_class then f c else wrong_kind (value.Ref c)
superclass_in None c f = wrong_kind (value.Ref c)

abbrev pub as_superclass : Value → (ℕ → Task) → Task
as_superclass (value.Ref c) f = Look (λ r. superclass_in (module_in (thing_at r c).form) c f)
as_superclass v f = wrong_kind v

abbrev pub open_module : Option ModuleEntry → ℕ → Node → ℕ → Task
open_module (Some m) c body k = if m.is_class then wrong_kind (value.Ref c) else run_module c body k
open_module None c body k = wrong_kind (value.Ref c)

abbrev pub module_under : Ruby → Option Value → ℕ → Name → Node → ℕ → Task
module_under r None outer name body k =
    new_module (full_name r outer name) (λ m. Change (with_constant outer name (value.Ref m)) (run_module m body k))
module_under r (Some (value.Ref c)) outer name body k = open_module (module_in (thing_at r c).form) c body k
module_under r (Some v) outer name body k = wrong_kind v

abbrev pub define_module : Name → Node → ℕ → Task
define_module name body k =
    Look (λ r. module_under r (at name (module_at r (innermost r k)).constants) (innermost r k) name body k)

-- `class << value`
abbrev pub define_singleton : Value → Node → ℕ → Task
define_singleton v body k = singleton_of v (λ s. run_module s body k)
