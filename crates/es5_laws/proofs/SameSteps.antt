-- What a node does with values, places and objects is the same from a state without sites and places.
use Rattle.std.proofs.Common.{ℕ, Bool, true, false, if◌then◌else◌, List, Option, Some, None}
use Rattle.opal_base.specs.declared.place.Pos.{Pos}
use Rattle.es5_tree.specs.Values.{Text, Val, Truth, Obj}
use Rattle.es5_tree.specs.Ends.{Conversion}
use Rattle.es5_tree.specs.Grammar.Spelling.{no_place}
use Rattle.es5_tree.specs.Objects.Cells.{Cell, delete, is_array_length, put}
use Rattle.es5_tree.specs.Objects.Links.{cell_at}
use Rattle.es5_evaluation.specs.State.{Code, Activation, binding, record_at, has_variable, with_variable}
use Rattle.es5_evaluation.specs.Task.{Place, Variable, Property, Normal, Throw, Task}
use Rattle.es5_evaluation.specs.Values.{Result, Is, Out, holder_of, key_of}
use Rattle.es5_evaluation.specs.Evaluate.{Wanted, ItsValue, ItsPlace, raise, operated, read_bound, read_name, write_in, write_bound, write_name, read_from, read_property, can_put, put_in, write_property, delete_in, delete_property, read_place, write_place, place_from, access, access_key, access_from, access_at, make_array, make_object, make_function, type_of, type_of_bound, type_of_place, delete_place, error_object}
use Rattle.es5_laws.proofs.SameTasks.{Alike, done, leaves, looks, sets, makes, keeps, stores, bare_code, alike_then, normally_alike}

pub if_alike : {t u x y : Task} → (b : Bool) → Alike t x → Alike u y → Alike (if b then t else u) (if b then x else y)
if_alike true h i = h
if_alike false h i = i

pub raise_alike : (name message : Text) → Alike (raise name message) (raise name message)
unfolding raise
raise_alike name message = makes (error_object name message) (λ o. done (Throw (Obj o)))

pub operated_alike : (p : Pos) (x : Result) → Alike (operated p x) (operated no_place x)
operated_alike p (Is v) = done (Normal v)
operated_alike p (Out kind) = leaves kind p

-- ---- variables

read_bound_alike : (records : List Activation) (at : Option ℕ) (name : Text) → Alike (read_bound records at name) (read_bound records at name)
read_bound_alike records None name = raise_alike _ _
read_bound_alike records (Some r) name = done _

pub read_name_alike : (r : ℕ) (name : Text) → Alike (read_name r name) (read_name r name)
unfolding read_name
read_name_alike r name = looks (λ s. read_bound_alike s.records (binding s.records r name) name)

write_in_alike : (r : ℕ) (a : Activation) (name : Text) (v : Val) → Alike (write_in r a name v) (write_in r a name v)
write_in_alike r a name v = if_alike (has_variable a name) (stores r (with_variable a name v) (done (Normal v))) (raise_alike _ _)

write_bound_alike : (records : List Activation) (at : Option ℕ) (name : Text) (v : Val) → Alike (write_bound records at name v) (write_bound records at name v)
write_bound_alike records None name v = raise_alike _ _
write_bound_alike records (Some r) name v = write_in_alike r (record_at records r) name v

pub write_name_alike : (r : ℕ) (name : Text) (v : Val) → Alike (write_name r name v) (write_name r name v)
unfolding write_name
write_name_alike r name v = looks (λ s. write_bound_alike s.records (binding s.records r name) name v)

-- ---- properties

read_from_alike : (o : Option ℕ) (v : Val) (name : Text) → Alike (read_from o v name) (read_from o v name)
read_from_alike None v name = raise_alike _ _
read_from_alike (Some o) v name = looks (λ s. done _)

pub read_property_alike : (v : Val) (name : Text) → Alike (read_property v name) (read_property v name)
unfolding read_property
read_property_alike v name = read_from_alike (holder_of v) v name

put_in_alike : (p : Pos) (o : ℕ) (c : Cell) (name : Text) (v : Val) → Alike (put_in p o c name v) (put_in no_place o c name v)
put_in_alike p o c name v = if_alike (can_put c name v) (sets o (put c name v) (done (Normal v))) (leaves Conversion p)

pub write_property_alike : (p : Pos) (v : Val) (name : Text) (w : Val) → Alike (write_property p v name w) (write_property no_place v name w)
unfolding write_property
write_property_alike p (Obj o) name w = looks (λ s. put_in_alike p o (cell_at s.heap o) name w)
write_property_alike p _ name w = raise_alike _ _

delete_in_alike : (o : ℕ) (c : Cell) (name : Text) → Alike (delete_in o c name) (delete_in o c name)
delete_in_alike o c name = if_alike (is_array_length c name) (raise_alike _ _) (sets o (delete c name) (done (Normal (Truth true))))

delete_property_alike : (v : Val) (name : Text) → Alike (delete_property v name) (delete_property v name)
unfolding delete_property
delete_property_alike (Obj o) name = looks (λ s. delete_in_alike o (cell_at s.heap o) name)
delete_property_alike _ name = raise_alike _ _

-- ---- places

pub read_place_alike : (r : ℕ) (place : Place) → Alike (read_place r place) (read_place r place)
unfolding read_place
read_place_alike r (Variable name) = read_name_alike r name
read_place_alike r (Property v name) = read_property_alike v name

pub write_place_alike : (p : Pos) (r : ℕ) (place : Place) (v : Val) → Alike (write_place p r place v) (write_place no_place r place v)
unfolding write_place
write_place_alike p r (Variable name) v = write_name_alike r name v
write_place_alike p r (Property base name) v = write_property_alike p base name v

place_from_alike : (o : Option ℕ) (v : Val) (name : Text) → Alike (place_from o v name) (place_from o v name)
place_from_alike None v name = raise_alike _ _
place_from_alike (Some o) v name = done _

pub access_alike : (want : Wanted) (v : Val) (name : Text) → Alike (access want v name) (access want v name)
unfolding access
access_alike ItsValue v name = read_property_alike v name
access_alike ItsPlace v name = place_from_alike (holder_of v) v name

access_key_alike : (p : Pos) (want : Wanted) (v : Val) (key : Option Text) → Alike (access_key p want v key) (access_key no_place want v key)
access_key_alike p want v None = leaves Conversion p
access_key_alike p want v (Some name) = access_alike want v name

access_from_alike : (o : Option ℕ) (p : Pos) (want : Wanted) (v key : Val) → Alike (access_from o p want v key) (access_from o no_place want v key)
access_from_alike None p want v key = raise_alike _ _
access_from_alike (Some o) p want v key = access_key_alike p want v (key_of key)

pub access_at_alike : (p : Pos) (want : Wanted) (v key : Val) → Alike (access_at p want v key) (access_at no_place want v key)
unfolding access_at
access_at_alike p want v key = access_from_alike (holder_of v) p want v key

-- ---- new objects

pub make_array_alike : (vs : List Val) → Alike (make_array vs) (make_array vs)
unfolding make_array
make_array_alike vs = makes _ (λ o. done _)

pub make_object_alike : (names : List Text) (vs : List Val) → Alike (make_object names vs) (make_object names vs)
unfolding make_object
make_object_alike names vs = makes _ (λ o. done _)

pub make_function_alike : (c : Code) (r : ℕ) → Alike (make_function c r) (make_function (bare_code c) r)
unfolding make_function
make_function_alike c r = keeps c (λ k. makes _ (λ o. done _))

-- ---- operators on places

pub type_of_alike : (v : Val) → Alike (type_of v) (type_of v)
unfolding type_of
type_of_alike v = looks (λ s. done _)

type_of_bound_alike : (records : List Activation) (at : Option ℕ) (name : Text) → Alike (type_of_bound records at name) (type_of_bound records at name)
type_of_bound_alike records None name = done _
type_of_bound_alike records (Some r) name = type_of_alike _

pub type_of_place_alike : (r : ℕ) (place : Place) → Alike (type_of_place r place) (type_of_place r place)
unfolding type_of_place
type_of_place_alike r (Variable name) = looks (λ s. type_of_bound_alike s.records (binding s.records r name) name)
type_of_place_alike r (Property v name) = alike_then (read_property_alike v name) (normally_alike type_of_alike)

pub delete_place_alike : (place : Place) → Alike (delete_place place) (delete_place place)
unfolding delete_place
delete_place_alike (Variable name) = done _
delete_place_alike (Property v name) = delete_property_alike v name
