-- What each node does (ECMA-262 5.1, sections 8.7, 10.4, 11, 12 and 13, profile).
use Rattle.std.specs.Prelude.{ℕ, Bool, true, false, not, ◌||◌, if◌then◌else◌, List, [], ◌∷◌, ◌++◌, length, map, pos, slice_get, Option, None, Some, is_some, codes}
use Rattle.opal_base.specs.declared.place.Pos.{Pos}
use Rattle.es5_tree.specs.declared.tree.Catch.{Catch}
use Rattle.es5_tree.specs.declared.tree.EsExpr.{EsExpr}
use Rattle.es5_tree.specs.declared.tree.EsKind.{EsKind, out-EsKind}
use Rattle.es5_tree.specs.declared.tree.EsKind.TheOpen.{EsKind-F, EsStmt-F}
use Rattle.es5_tree.specs.declared.tree.EsStmt.{EsStmt, out-EsStmt}
use Rattle.es5_tree.specs.declared.tree.Catch.{out-Catch}
use Rattle.es5_tree.specs.Values.{Text, Val, Undefined, Null, Truth, Num, Str, Obj}
use Rattle.es5_tree.specs.Ends.{Conversion, Host}
use Rattle.es5_tree.specs.Objects.Names.{length_name}
use Rattle.es5_tree.specs.Objects.Cells.{Cell, Kind, Object, Arguments, Function, new_cell, put, delete, is_array_length}
use Rattle.es5_tree.specs.Objects.Cells as kind
use Rattle.es5_tree.specs.Objects.Links.{cell_at}
use Rattle.es5_tree.specs.Intrinsics.Calls.{HostFn}
use Rattle.es5_tree.specs.Intrinsics.Calls as call
use Rattle.es5_tree.specs.Intrinsics.Made.{object_prototype, function_prototype, holder}
use Rattle.es5_tree.specs.Intrinsics.Rows.{Row, Gives, Sets, Makes, Throws, Invokes, Writes, Reads, natural_of, as_length, filled, array_of, row}
use Rattle.es5_tree.specs.Intrinsics.Rows as row_kind
use Rattle.es5_evaluation.specs.State.{Code, Activation, State, code_at, record_at, binding, has_variable, value_in, with_variable}
use Rattle.es5_evaluation.specs.Task.{Place, Variable, Property, Completion, Normal, Refers, Return, Throw, Break, Continue, Scope, Request, Evaluate, Refer, Execute, Turn, Task, Done, Leaves, Ask, Look, Set, Make, Keep, Enter, Store, Print, Read, ◌>>=◌}
use Rattle.es5_evaluation.specs.Values.{Result, Is, Out, truthy, key_of, type_name, negated, binary, holder_of, or_undefined, property_from}
use Rattle.es5_evaluation.specs.Declared.{own_code, locals, arguments_name}

-- ---- completions

abbrev pub gives : Val → Task
gives v = Done (Normal v)

abbrev pub nothing : Completion
nothing = Normal Undefined

-- a value goes on, and another completion is that of the whole
abbrev pub normally : (Val → Task) → Completion → Task
normally k (Normal v) = k v
normally k (Refers p) = Done (Refers p)
normally k (Return v) = Done (Return v)
normally k (Throw v) = Done (Throw v)
normally k Break = Done Break
normally k Continue = Done Continue

-- a place or a value goes on
abbrev pub referred : (Place → Task) → (Val → Task) → Completion → Task
referred f k (Refers p) = f p
referred f k (Normal v) = k v
referred f k (Return v) = Done (Return v)
referred f k (Throw v) = Done (Throw v)
referred f k Break = Done Break
referred f k Continue = Done Continue

-- ---- errors of the machine: plain objects with own `name` and `message`

abbrev pub error_object : Text → Text → Cell
error_object name message = holder (Some object_prototype) ((codes "name", Str name) ∷ (codes "message", Str message) ∷ [])

unfoldable pub raise : Text → Text → Task
raise name message = Make (error_object name message) (λ o. Done (Throw (Obj o)))

abbrev pub type_error : Text → Task
type_error message = raise (codes "TypeError") message

-- the value of an operator
abbrev pub operated : Pos → Result → Task
operated p (Is v) = gives v
operated p (Out kind) = Leaves kind p

-- ---- variables (8.7.1, 8.7.2, 10.2.1)

abbrev pub not_defined : Text → Task
not_defined name = raise (codes "ReferenceError") (codes "not defined: " ++ name)

abbrev pub read_bound : List Activation → Option ℕ → Text → Task
read_bound records None name = not_defined name
read_bound records (Some r) name = gives (or_undefined (value_in (record_at records r) name))

unfoldable pub read_name : ℕ → Text → Task
read_name r name = Look (λ s. read_bound s.records (binding s.records r name) name)

abbrev pub write_in : ℕ → Activation → Text → Val → Task
write_in r a name v = if has_variable a name then Store r (with_variable a name v) (gives v) else type_error (codes "not writable")

abbrev pub write_bound : List Activation → Option ℕ → Text → Val → Task
write_bound records None name v = not_defined name
write_bound records (Some r) name v = write_in r (record_at records r) name v

unfoldable pub write_name : ℕ → Text → Val → Task
write_name r name v = Look (λ s. write_bound s.records (binding s.records r name) name v)

-- ---- properties (8.7.1, 8.7.2, 8.12)

abbrev pub no_properties : Task
no_properties = type_error (codes "no properties")

abbrev pub read_from : Option ℕ → Val → Text → Task
read_from None v name = no_properties
read_from (Some o) v name = Look (λ s. gives (property_from s.heap o v name))

-- undefined and null have no properties
unfoldable pub read_property : Val → Text → Task
read_property v name = read_from (holder_of v) v name

-- a value that an array's `length` takes, or a write to another property (15.4.5.1)
abbrev pub can_put : Cell → Text → Val → Bool
can_put c name v = not (is_array_length c name) || is_some (as_length (natural_of v))

abbrev pub put_in : Pos → ℕ → Cell → Text → Val → Task
put_in p o c name v = if can_put c name v then Set o (put c name v) (gives v) else Leaves Conversion p

-- a property is always made or changed in the object itself, since none is read only (8.12.5)
unfoldable pub write_property : Pos → Val → Text → Val → Task
write_property p (Obj o) name v = Look (λ s. put_in p o (cell_at s.heap o) name v)
write_property p _ name v = type_error (codes "not writable")

abbrev pub delete_in : ℕ → Cell → Text → Task
delete_in o c name = if is_array_length c name then type_error (codes "not deletable") else Set o (delete c name) (gives (Truth true))

-- 11.4.1
unfoldable pub delete_property : Val → Text → Task
delete_property (Obj o) name = Look (λ s. delete_in o (cell_at s.heap o) name)
delete_property _ name = type_error (codes "not deletable")

-- ---- places

unfoldable pub read_place : ℕ → Place → Task
read_place r (Variable name) = read_name r name
read_place r (Property v name) = read_property v name

unfoldable pub write_place : Pos → ℕ → Place → Val → Task
write_place p r (Variable name) v = write_name r name v
write_place p r (Property base name) v = write_property p base name v

-- `this` of a call of what a place holds (10.4.3, 11.2.3)
abbrev pub this_of : Place → Val
this_of (Variable name) = Undefined
this_of (Property v name) = v

-- what is asked of a member: its value, or its place
pub data Wanted : Type 0 where
  ItsValue : Wanted
  ItsPlace : Wanted

abbrev pub place_from : Option ℕ → Val → Text → Task
place_from None v name = no_properties
place_from (Some o) v name = Done (Refers (Property v name))

-- a property of a value (11.2.1)
unfoldable pub access : Wanted → Val → Text → Task
access ItsValue v name = read_property v name
access ItsPlace v name = place_from (holder_of v) v name

abbrev pub access_key : Pos → Wanted → Val → Option Text → Task
access_key p want v None = Leaves Conversion p
access_key p want v (Some name) = access want v name

abbrev pub access_from : Option ℕ → Pos → Wanted → Val → Val → Task
access_from None p want v key = no_properties
access_from (Some o) p want v key = access_key p want v (key_of key)

-- a property by a key; a base without properties is found first
unfoldable pub access_at : Pos → Wanted → Val → Val → Task
access_at p want v key = access_from (holder_of v) p want v key

-- ---- calls (10.4.3, 10.5, 11.2.3, 13.2.1)

-- parameters with their arguments, undefined where there is none
unfoldable pub bound_params : List Text → List Val → List (Text × Val)
bound_params [] vs = []
bound_params (name ∷ names) [] = (name, Undefined) ∷ bound_params names []
bound_params (name ∷ names) (v ∷ vs) = (name, v) ∷ bound_params names vs

abbrev pub undefined_variables : List Text → List (Text × Val)
undefined_variables names = map (λ name. (name, Undefined)) names

-- a function's own name, which can't be written (13)
abbrev pub own_name : Option Text → ℕ → List (Text × Val)
own_name None f = []
own_name (Some name) f = (name, Obj f) ∷ []

-- the indices and the `length` of the arguments; it isn't tied to the parameters (10.6)
unfoldable pub arguments_object : List Val → Cell
arguments_object vs = put (filled (new_cell Arguments (Some object_prototype)) 0 (map (λ v. Some v) vs)) length_name (Num (pos (length vs)))

-- the record of a call: the parameters, `arguments` where the code names it, and the other variables
unfoldable pub activation : Code → ℕ → ℕ → List Val → List (Text × Val) → Activation
activation c f outer vs arguments = record {
  variables = bound_params c.params vs ++ arguments ++ undefined_variables (locals c.params c.body);
  constants = own_name c.name f;
  outer = Some outer;
}

-- statements one after the other (12.1)
unfoldable pub all : List EsStmt → Scope → Task
all [] ρ = Done nothing
all (t ∷ ts) ρ = Ask (Execute t ρ) (normally (λ v. all ts ρ))

-- what a call answers, by how its body ended (13.2.1)
abbrev pub left : Completion → Task
left (Normal v) = Done nothing
left (Refers p) = Done nothing
left (Return v) = gives v
left (Throw v) = Done (Throw v)
left Break = Done nothing
left Continue = Done nothing

unfoldable pub run_body : List EsStmt → Val → Activation → Task
run_body body this a = Enter a (λ r. all body (record { this = this; innermost = r }) >>= left)

abbrev pub entered : Bool → Code → ℕ → ℕ → Val → List Val → Task
entered false c f outer this vs = run_body c.body this (activation c f outer vs [])
entered true c f outer this vs = Make (arguments_object vs) (λ a. run_body c.body this (activation c f outer vs ((arguments_name, Obj a) ∷ [])))

-- a call of a script's function (13.2.1)
unfoldable pub enter : Code → ℕ → ℕ → Val → List Val → Task
enter c f outer this vs = entered (own_code c.body).arguments c f outer this vs

abbrev pub not_a_function : Task
not_a_function = type_error (codes "not a function")

-- the intrinsic functions by their numbers
abbrev pub host_functions : List HostFn
host_functions = call.Create ∷ call.GetPrototypeOf ∷ call.SetPrototypeOf ∷ call.Keys ∷ call.HasOwnProperty ∷ call.Call ∷ call.Apply ∷ call.IsArray ∷ call.Push ∷ call.Slice ∷ call.CharCodeAt ∷ call.Substring ∷ call.IndexOf ∷ call.FromCharCode ∷ call.Write ∷ call.Line ∷ []

-- what a call does of a function, a `this` and arguments
abbrev pub Call : Type 0
Call = ℕ → Val → List Val → Task

-- what a row says is done; a function that it calls is called so
unfoldable pub row_task : Call → Pos → Row → Task
row_task call p (Gives v) = gives v
row_task call p (Sets v o c) = Set o c (gives v)
row_task call p (Makes c) = Make c (λ o. gives (Obj o))
row_task call p (Throws message) = type_error message
row_task call p (Invokes f this vs) = call f this vs
row_task call p (row_kind.Leaves kind) = Leaves kind p
row_task call p (Writes text) = Print text (gives Undefined)
row_task call p (Reads v n) = Read n (gives v)

abbrev pub host_task : Call → Pos → Option HostFn → State → Val → List Val → Task
host_task call p None s this vs = not_a_function
host_task call p (Some which) s this vs = row_task call p (row which s.heap s.lines this vs)

abbrev pub invoke_kind : Call → Pos → Kind → State → ℕ → Val → List Val → Task
invoke_kind call p Object s f this vs = not_a_function
invoke_kind call p kind.Array s f this vs = not_a_function
invoke_kind call p Arguments s f this vs = not_a_function
invoke_kind call p (Function code outer) s f this vs = enter (code_at s.codes code) f outer this vs
invoke_kind call p (kind.Host which) s f this vs = host_task call p (slice_get host_functions which) s this vs
invoke_kind call p (kind.Record outer) s f this vs = not_a_function

abbrev pub invoke_by : Call → Pos → ℕ → Val → List Val → Task
invoke_by call p f this vs = Look (λ s. invoke_kind call p (cell_at s.heap f).kind s f this vs)

-- a function that `call` or `apply` calls passes on to no other: it is neither of these two
unfoldable pub passed : Pos → Call
passed p f this vs = invoke_by (λ g that ws. Leaves Host p) p f this vs

unfoldable pub invoke : Pos → Val → Val → List Val → Task
invoke p (Obj f) this vs = invoke_by (passed p) p f this vs
invoke p _ this vs = not_a_function

-- ---- lists of expressions, from left to right

unfoldable pub gather : List EsExpr → Scope → List Val → (List Val → Task) → Task
gather [] ρ vs k = k vs
gather (e ∷ es) ρ vs k = Ask (Evaluate e ρ) (normally (λ v. gather es ρ (vs ++ v ∷ []) k))

-- 11.1.4
unfoldable pub make_array : List Val → Task
make_array vs = Make (array_of (map (λ v. Some v) vs)) (λ o. gives (Obj o))

unfoldable pub with_properties : Cell → List Text → List Val → Cell
with_properties c [] vs = c
with_properties c (name ∷ names) [] = c
with_properties c (name ∷ names) (v ∷ vs) = with_properties (put c name v) names vs

-- 11.1.5
unfoldable pub make_object : List Text → List Val → Task
make_object names vs = Make (with_properties (new_cell Object (Some object_prototype)) names vs) (λ o. gives (Obj o))

-- 13
unfoldable pub make_function : Code → ℕ → Task
make_function c r = Keep c (λ k. Make (new_cell (Function k r) (Some function_prototype)) (λ o. gives (Obj o)))

-- the callee's value is there, and its `this`
abbrev pub call_with : Pos → List EsExpr → Scope → Val → Val → Task
call_with p args ρ this f = gather args ρ [] (λ vs. invoke p f this vs)

abbrev pub call_place : Pos → List EsExpr → Scope → Place → Task
call_place p args ρ place = read_place ρ.innermost place >>= normally (call_with p args ρ (this_of place))

-- ---- operators

unfoldable pub type_of : Val → Task
type_of v = Look (λ s. gives (Str (type_name s.heap v)))

-- a name without a binding is no error here (11.4.3)
abbrev pub type_of_bound : List Activation → Option ℕ → Text → Task
type_of_bound records None name = gives (Str (codes "undefined"))
type_of_bound records (Some r) name = type_of (or_undefined (value_in (record_at records r) name))

unfoldable pub type_of_place : ℕ → Place → Task
type_of_place r (Variable name) = Look (λ s. type_of_bound s.records (binding s.records r name) name)
type_of_place r (Property v name) = read_property v name >>= normally type_of

-- what is no property is left as it is
unfoldable pub delete_place : Place → Task
delete_place (Variable name) = gives (Truth true)
delete_place (Property v name) = delete_property v name

abbrev pub choose : {A : Type 0} → Bool → A → A → A
choose true a b = a
choose false a b = b

-- 11.11
abbrev pub and_then : Bool → Val → EsExpr → Scope → Task
and_then true v e ρ = Ask (Evaluate e ρ) Done
and_then false v e ρ = gives v

abbrev pub or_else : Bool → Val → EsExpr → Scope → Task
or_else true v e ρ = gives v
or_else false v e ρ = Ask (Evaluate e ρ) Done

-- ---- expressions

-- one layer of an expression
abbrev pub Layer : Type 0
Layer = EsKind-F EsKind EsStmt Catch EsExpr

-- for its value
unfoldable pub eval_node : Layer → Pos → Scope → Task
eval_node (EsKind-F.Num n) p ρ = gives (Num n)
eval_node (EsKind-F.Str text) p ρ = gives (Str text)
eval_node EsKind-F.True p ρ = gives (Truth true)
eval_node EsKind-F.False p ρ = gives (Truth false)
eval_node EsKind-F.Null p ρ = gives Null
eval_node EsKind-F.This p ρ = gives ρ.this
eval_node (EsKind-F.Name name) p ρ = read_name ρ.innermost name
eval_node (EsKind-F.Array items) p ρ = gather items ρ [] make_array
eval_node (EsKind-F.Object keys values) p ρ = gather values ρ [] (make_object keys)
eval_node (EsKind-F.Function name params body) p ρ = make_function (record { name = name; params = params; body = body }) ρ.innermost
eval_node (EsKind-F.Member base name mark) p ρ = Ask (Evaluate base ρ) (normally (λ v. access ItsValue v name))
eval_node (EsKind-F.Index base key mark) p ρ = Ask (Evaluate base ρ) (normally (λ v. Ask (Evaluate key ρ) (normally (λ w. access_at p ItsValue v w))))
eval_node (EsKind-F.Call callee args) p ρ = Ask (Refer callee ρ) (referred (call_place p args ρ) (call_with p args ρ Undefined))
eval_node (EsKind-F.Not e) p ρ = Ask (Evaluate e ρ) (normally (λ v. gives (Truth (not (truthy v)))))
eval_node (EsKind-F.Neg e) p ρ = Ask (Evaluate e ρ) (normally (λ v. operated p (negated v)))
eval_node (EsKind-F.Typeof e) p ρ = Ask (Refer e ρ) (referred (type_of_place ρ.innermost) type_of)
eval_node (EsKind-F.Delete e) p ρ = Ask (Refer e ρ) (referred delete_place (λ v. gives (Truth true)))
eval_node (EsKind-F.Binary operator a b) p ρ = Ask (Evaluate a ρ) (normally (λ v. Ask (Evaluate b ρ) (normally (λ w. operated p (binary operator v w)))))
eval_node (EsKind-F.And a b) p ρ = Ask (Evaluate a ρ) (normally (λ v. and_then (truthy v) v b ρ))
eval_node (EsKind-F.Or a b) p ρ = Ask (Evaluate a ρ) (normally (λ v. or_else (truthy v) v b ρ))
eval_node (EsKind-F.Cond test a b) p ρ = Ask (Evaluate test ρ) (normally (λ v. Ask (Evaluate (choose (truthy v) a b) ρ) Done))
eval_node (EsKind-F.Assign target e) p ρ = Ask (Refer target ρ) (referred (λ place. Ask (Evaluate e ρ) (normally (write_place p ρ.innermost place))) (λ v. type_error (codes "not writable")))

-- for its place; an expression that has none gives its value
unfoldable pub refer_node : Layer → Pos → Scope → Task
refer_node (EsKind-F.Name name) p ρ = Done (Refers (Variable name))
refer_node (EsKind-F.Member base name mark) p ρ = Ask (Evaluate base ρ) (normally (λ v. access ItsPlace v name))
refer_node (EsKind-F.Index base key mark) p ρ = Ask (Evaluate base ρ) (normally (λ v. Ask (Evaluate key ρ) (normally (λ w. access_at p ItsPlace v w))))
refer_node form p ρ = eval_node form p ρ

-- ---- statements

abbrev pub branch : Bool → EsStmt → Option EsStmt → Scope → Task
branch true first second ρ = Ask (Execute first ρ) Done
branch false first None ρ = Done nothing
branch false first (Some second) ρ = Ask (Execute second ρ) Done

-- behind the body of a loop (12.6.2)
abbrev pub again : EsExpr → EsStmt → Scope → Completion → Task
again e b ρ (Normal v) = Ask (Turn e b ρ) Done
again e b ρ (Refers p) = Done (Refers p)
again e b ρ (Return v) = Done (Return v)
again e b ρ (Throw v) = Done (Throw v)
again e b ρ Break = Done nothing
again e b ρ Continue = Ask (Turn e b ρ) Done

abbrev pub turned : Bool → EsExpr → EsStmt → Scope → Task
turned true e b ρ = Ask (Execute b ρ) (again e b ρ)
turned false e b ρ = Done nothing

-- behind the test of a loop
abbrev pub turn : EsExpr → EsStmt → Scope → Completion → Task
turn e b ρ = normally (λ v. turned (truthy v) e b ρ)

-- the part of a `try` that takes what was thrown, in a record of its own (12.14)
abbrev pub caught_by : Catch → Scope → Val → Task
caught_by c ρ v = Enter (record { variables = ((out-Catch c).name, v) ∷ []; constants = []; outer = Some ρ.innermost }) (λ r. all (out-Catch c).body (record { this = ρ.this; innermost = r }))

-- The completion before a `finally` stands, but where that ends abruptly (12.14).
abbrev pub instead : Completion → Completion → Task
instead c (Normal v) = Done c
instead c (Refers p) = Done (Refers p)
instead c (Return v) = Done (Return v)
instead c (Throw v) = Done (Throw v)
instead c Break = Done Break
instead c Continue = Done Continue

-- the last part runs behind the parts before it, which ended so
abbrev pub at_last : Option (List EsStmt) → Scope → Completion → Task
at_last None ρ c = Done c
at_last (Some body) ρ c = all body ρ >>= instead c

-- behind the first part; what was thrown in it is caught
abbrev pub tried : Option Catch → Option (List EsStmt) → Scope → Completion → Task
tried None finally ρ c = at_last finally ρ c
tried (Some part) finally ρ (Throw v) = caught_by part ρ v >>= at_last finally ρ
tried (Some part) finally ρ (Normal v) = at_last finally ρ (Normal v)
tried (Some part) finally ρ (Refers p) = at_last finally ρ (Refers p)
tried (Some part) finally ρ (Return v) = at_last finally ρ (Return v)
tried (Some part) finally ρ Break = at_last finally ρ Break
tried (Some part) finally ρ Continue = at_last finally ρ Continue

abbrev pub evaluated : Option EsExpr → Scope → (Val → Task) → Task
evaluated None ρ k = k Undefined
evaluated (Some e) ρ k = Ask (Evaluate e ρ) (normally k)

-- one layer of a statement
abbrev pub Statement : Type 0
Statement = EsStmt-F EsKind EsStmt Catch EsExpr

abbrev pub initialized : Option EsExpr → Text → Scope → Task
initialized None name ρ = Done nothing
initialized (Some e) name ρ = Ask (Evaluate e ρ) (normally (write_name ρ.innermost name))

unfoldable pub exec_node : Statement → Scope → Task
exec_node (EsStmt-F.Var name value) ρ = initialized value name ρ
exec_node (EsStmt-F.Expr e) ρ = Ask (Evaluate e ρ) Done
exec_node (EsStmt-F.Block body) ρ = all body ρ
exec_node (EsStmt-F.If test first second) ρ = Ask (Evaluate test ρ) (normally (λ v. branch (truthy v) first second ρ))
exec_node (EsStmt-F.While test body) ρ = Ask (Evaluate test ρ) (turn test body ρ)
exec_node (EsStmt-F.Return value) ρ = evaluated value ρ (λ v. Done (Return v))
exec_node EsStmt-F.Break ρ = Done Break
exec_node EsStmt-F.Continue ρ = Done Continue
exec_node (EsStmt-F.Throw e) ρ = Ask (Evaluate e ρ) (normally (λ v. Done (Throw v)))
exec_node (EsStmt-F.Try body catch finally) ρ = all body ρ >>= tried catch finally ρ
exec_node EsStmt-F.Empty ρ = Done nothing

-- ---- a node that begins

abbrev pub layer : EsExpr → Layer
layer e = out-EsKind e.kind

unfoldable pub perform : Request → Task
perform (Evaluate e ρ) = eval_node (layer e) e.pos ρ
perform (Refer e ρ) = refer_node (layer e) e.pos ρ
perform (Execute t ρ) = exec_node (out-EsStmt t) ρ
perform (Turn e b ρ) = eval_node (layer e) e.pos ρ >>= turn e b ρ
