-- What a call of each intrinsic function does (ECMA-262 5.1, section 15, profile).
use Rattle.std.specs.Prelude.{ℕ, ◌+◌, ◌-◌, Bool, true, false, ◌&&◌, ◌||◌, not, if◌then◌else◌, nat_lt, nat_le, nat_eq, List, [], ◌∷◌, map, drop, length, slice_index, slice_range, pos, negsuc, Option, Some, None, is_some, codes}
use Rattle.std.specs.List.{range_with_len, starts_with}
use Rattle.es5_tree.specs.Values.{Text, Val, Undefined, Null, Truth, Num, Str, Obj}
use Rattle.es5_tree.specs.Ends.{OutKind, Host}
use Rattle.es5_tree.specs.Objects.Names.{decimal, length_name, index_end}
use Rattle.es5_tree.specs.Objects.Cells.{Kind, Object, Array, Arguments, Function, Record, Cell, new_cell, own, put, keys, is_array, has_length}
use Rattle.es5_tree.specs.Objects.Cells as kind
use Rattle.es5_tree.specs.Objects.Links.{cell_at, link_at, get, in_chain, with_link}
use Rattle.es5_tree.specs.Intrinsics.Calls.{HostFn, number}
use Rattle.es5_tree.specs.Intrinsics.Calls as call
use Rattle.es5_tree.specs.Intrinsics.Made.{array_prototype}
use Rattle.es5_tree.specs.Intrinsics.Lines.{Reading, rest, line_of, line_value}

pub data Row : Type 0 where
  -- a value
  Gives : Val → Row
  -- a value, and an object is changed to this
  Sets : Val → ℕ → Cell → Row
  -- this new object
  Makes : Cell → Row
  -- a TypeError with this message is thrown
  Throws : Text → Row
  -- a function is called, with a `this` and arguments
  Invokes : ℕ → Val → List Val → Row
  -- the call leaves the profile
  Leaves : OutKind → Row
  -- undefined, and a text is written
  Writes : Text → Row
  -- a value, and so many units of the input are read
  Reads : Val → ℕ → Row

-- ---- arguments

-- the one argument, where there is just one
abbrev pub one_of : List Val → Option Val
one_of [] = None
one_of (v ∷ []) = Some v
one_of (v ∷ w ∷ vs) = None

-- the two arguments, where there are just two
abbrev pub two_of : List Val → Option (Val × Val)
two_of [] = None
two_of (v ∷ []) = None
two_of (v ∷ w ∷ []) = Some (v, w)
two_of (v ∷ w ∷ x ∷ vs) = None

-- the object that a value is
abbrev pub object_of : Val → Option ℕ
object_of Undefined = None
object_of Null = None
object_of (Truth b) = None
object_of (Num n) = None
object_of (Str s) = None
object_of (Obj o) = Some o

-- the text that a value is
abbrev pub text_of : Val → Option Text
text_of Undefined = None
text_of Null = None
text_of (Truth b) = None
text_of (Num n) = None
text_of (Str s) = Some s
text_of (Obj o) = None

-- the number from 0 on that a value is
abbrev pub natural_of : Val → Option ℕ
natural_of Undefined = None
natural_of Null = None
natural_of (Truth b) = None
natural_of (Num (pos n)) = Some n
natural_of (Num (negsuc n)) = None
natural_of (Str s) = None
natural_of (Obj o) = None

-- the link that a value is: an object or null
abbrev pub link_of : Val → Option (Option ℕ)
link_of Undefined = None
link_of Null = Some None
link_of (Truth b) = None
link_of (Num n) = None
link_of (Str s) = None
link_of (Obj o) = Some (Some o)

-- a link as a value
abbrev pub link_value : Option ℕ → Val
link_value None = Null
link_value (Some o) = Obj o

-- a call that isn't covered leaves the profile
abbrev pub not_covered : Row
not_covered = Leaves Host

-- what a call is covered for
abbrev pub covered : {A : Type 0} → Option A → (A → Row) → Row
covered None f = not_covered
covered (Some a) f = f a

-- what is called with a value of the right kind
abbrev pub or_type_error : {A : Type 0} → Option A → (A → Row) → Row
or_type_error None f = Throws (codes "not an object")
or_type_error (Some a) f = f a

-- a call that is covered only where this holds
abbrev pub where_true : Bool → Row → Row
where_true true r = r
where_true false r = not_covered

-- ---- Object

-- 15.2.3.5
abbrev pub create : Val → Row
create p = or_type_error (link_of p) (λ link. Makes (new_cell Object link))

-- 15.2.3.2
abbrev pub get_prototype_of : List Cell → Val → Row
get_prototype_of cells v = or_type_error (object_of v) (λ o. Gives (link_value (link_at cells o)))

-- a link is set where it makes no cycle
abbrev pub linked : Bool → List Cell → ℕ → Option ℕ → Row
linked true cells o link = Throws (codes "cyclic link")
linked false cells o link = Sets (Obj o) o (with_link (cell_at cells o) link)

-- the profile's own (8.6.2 has no operator that changes a link)
abbrev pub set_prototype_of : List Cell → Val → Val → Row
set_prototype_of cells v p = or_type_error (object_of v) (λ o. or_type_error (link_of p) (λ link. linked (in_chain cells o link) cells o link))

-- an array with an element put at an index, or left out
abbrev pub with_element : Cell → ℕ → Option Val → Cell
with_element c i None = c
with_element c i (Some v) = put c (decimal i) v

-- an array with elements put from an index on
unfoldable pub filled : Cell → ℕ → List (Option Val) → Cell
filled c i [] = c
filled c i (v ∷ vs) = filled (with_element c i v) (i + 1) vs

-- the new array of these elements, some of which may be left out (15.4)
abbrev pub array_of : List (Option Val) → Cell
array_of vs = filled (new_cell Array (Some array_prototype)) 0 vs

-- 15.2.3.14
abbrev pub names_of : List Cell → Val → Row
names_of cells v = covered (object_of v) (λ o. Makes (array_of (map (λ name. Some (Str name)) (keys (cell_at cells o)))))

-- 15.2.4.5
abbrev pub has_own_property : List Cell → Val → Val → Row
has_own_property cells this v = covered (object_of this) (λ o. covered (text_of v) (λ name. Gives (Truth (is_some (own (cell_at cells o) name)))))

-- ---- Function

-- a function that a call may pass on to: any but `call` and `apply`
abbrev pub is_passed_on : Kind → Bool
is_passed_on Object = false
is_passed_on Array = false
is_passed_on Arguments = false
is_passed_on (Function code scope) = true
is_passed_on (kind.Host which) = not (nat_eq which (number call.Call) || nat_eq which (number call.Apply))
is_passed_on (Record outer) = false

-- the function that a value is, where a call may pass on to it
abbrev pub callee_of : List Cell → Val → Option ℕ
callee_of cells Undefined = None
callee_of cells Null = None
callee_of cells (Truth b) = None
callee_of cells (Num n) = None
callee_of cells (Str s) = None
callee_of cells (Obj o) = if is_passed_on (cell_at cells o).kind then Some o else None

abbrev pub or_undefined : Option Val → Val
or_undefined None = Undefined
or_undefined (Some v) = v

-- the first argument is `this`, and the others are passed on
abbrev pub passed_on : ℕ → List Val → Row
passed_on f [] = Invokes f Undefined []
passed_on f (this ∷ args) = Invokes f this args

-- 15.3.4.4
abbrev pub call_row : List Cell → Val → List Val → Row
call_row cells this args = covered (callee_of cells this) (λ f. passed_on f args)

-- a number that may be a `length`: one from 0 to 2^32-1
abbrev pub as_length : Option ℕ → Option ℕ
as_length None = None
as_length (Some n) = if nat_le n index_end then Some n else None

abbrev pub length_of : Option Val → Option ℕ
length_of None = None
length_of (Some v) = as_length (natural_of v)

-- how many arguments an object lists: the `length` of an array or of an arguments object
abbrev pub listed_length : Cell → Option ℕ
listed_length c = if has_length c.kind then length_of (own c length_name) else None

-- what stands at these indices of an object, its links included, and where nothing does
abbrev pub elements : List Cell → ℕ → ℕ → ℕ → List (Option Val)
elements cells o from n = map (λ i. get cells o (decimal i)) (range_with_len from n)

-- 15.3.4.3
abbrev pub apply_row : List Cell → Val → Val → Val → Row
apply_row cells this first list = covered (callee_of cells this) (λ f. covered (object_of list) (λ o. covered (listed_length (cell_at cells o)) (λ n. Invokes f first (map or_undefined (elements cells o 0 n)))))

-- ---- Array

-- the array that a value is
abbrev pub array_at : List Cell → Val → Option ℕ
array_at cells Undefined = None
array_at cells Null = None
array_at cells (Truth b) = None
array_at cells (Num n) = None
array_at cells (Str s) = None
array_at cells (Obj o) = if is_array (cell_at cells o).kind then Some o else None

-- 15.4.3.2
abbrev pub is_array_row : List Cell → Val → Row
is_array_row cells v = Gives (Truth (is_some (array_at cells v)))

-- 15.4.4.7, for one value
abbrev pub push : List Cell → Val → Val → Row
push cells this v = covered (array_at cells this) (λ o. covered (listed_length (cell_at cells o)) (λ n.
    where_true (nat_lt n index_end) (Sets (Num (pos (n + 1))) o (put (cell_at cells o) (decimal n) v))))

-- 15.4.4.10
abbrev pub slice : List Cell → Val → Val → Val → Row
slice cells this v w = covered (array_at cells this) (λ o. covered (listed_length (cell_at cells o)) (λ n. covered (natural_of v) (λ i. covered (natural_of w) (λ j.
    where_true (nat_le i j && nat_le j n) (Makes (array_of (elements cells o i (j - i))))))))

-- ---- String

-- 15.5.4.5
abbrev pub char_code_at : Val → Val → Row
char_code_at this v = covered (text_of this) (λ s. covered (natural_of v) (λ i. where_true (nat_lt i (length s)) (Gives (Num (pos (slice_index s i))))))

-- 15.5.4.15
abbrev pub substring : Val → Val → Val → Row
substring this v w = covered (text_of this) (λ s. covered (natural_of v) (λ i. covered (natural_of w) (λ j. where_true (nat_le i j && nat_le j (length s)) (Gives (Str (slice_range s i j))))))

-- the first place from which a text has these units, the text beginning at a place
unfoldable pub first_place : Text → ℕ → Text → Option ℕ
first_place part k [] = if starts_with nat_eq [] part then Some k else None
first_place part k (u ∷ us) = if starts_with nat_eq (u ∷ us) part then Some k else first_place part (k + 1) us

-- a place as a value, -1 for none
abbrev pub place_value : Option ℕ → Val
place_value None = Num (negsuc 0)
place_value (Some k) = Num (pos k)

-- 15.5.4.7
abbrev pub index_of : Val → Val → Val → Row
index_of this v w = covered (text_of this) (λ s. covered (text_of v) (λ part. covered (natural_of w) (λ i. where_true (nat_le i (length s)) (Gives (place_value (first_place part i (drop i s)))))))

-- 15.5.3.2, for one unit
abbrev pub from_char_code : Val → Row
from_char_code v = covered (natural_of v) (λ i. where_true (nat_le i 65535) (Gives (Str (i ∷ []))))

-- ---- $host

abbrev pub write : Val → Row
write v = covered (text_of v) (λ s. Writes s)

abbrev pub line : Reading → List Val → Row
line lines [] = (let next = line_of (rest lines) in Reads (line_value next) (length next))
line lines (v ∷ vs) = not_covered

-- ---- all

abbrev pub row : HostFn → List Cell → Reading → Val → List Val → Row
row call.Create cells lines this args = covered (one_of args) create
row call.GetPrototypeOf cells lines this args = covered (one_of args) (get_prototype_of cells)
row call.SetPrototypeOf cells lines this args = covered (two_of args) (λ vs. set_prototype_of cells vs.0 vs.1)
row call.Keys cells lines this args = covered (one_of args) (names_of cells)
row call.HasOwnProperty cells lines this args = covered (one_of args) (has_own_property cells this)
row call.Call cells lines this args = call_row cells this args
row call.Apply cells lines this args = covered (two_of args) (λ vs. apply_row cells this vs.0 vs.1)
row call.IsArray cells lines this args = covered (one_of args) (is_array_row cells)
row call.Push cells lines this args = covered (one_of args) (push cells this)
row call.Slice cells lines this args = covered (two_of args) (λ vs. slice cells this vs.0 vs.1)
row call.CharCodeAt cells lines this args = covered (one_of args) (char_code_at this)
row call.Substring cells lines this args = covered (two_of args) (λ vs. substring this vs.0 vs.1)
row call.IndexOf cells lines this args = covered (two_of args) (λ vs. index_of this vs.0 vs.1)
row call.FromCharCode cells lines this args = covered (one_of args) from_char_code
row call.Write cells lines this args = covered (one_of args) write
row call.Line cells lines this args = line lines args
