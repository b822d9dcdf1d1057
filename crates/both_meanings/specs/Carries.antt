-- When a state of the script carries a state of Ruby: one object for each heap value, live chains of links that are the
-- ancestors of each class, the tables of methods in the links, and instance variables.
use Rattle.std.specs.Prelude.{◌≡◌, ℕ, ◌<◌, Bool, true, false, List, [], ◌∷◌, ◌++◌, length, pos, Option, Some, None, codes, bytes_eq, ◌==◌, ⊤}
use Rattle.std.specs.List.{filter_map, list_any, slice_get}
use Rattle.ruby_meaning.specs.declared.value.Value.{Value}
use Rattle.ruby_meaning.specs.declared.value.Value.TheVariants as value
use Rattle.es5_tree.specs.Values.{Val, Truth, Num, Str, Obj, find_own}
use Rattle.es5_tree.specs.Objects.Cells.{Cell, Kind, own}
use Rattle.es5_tree.specs.Objects.Cells as cell
use Rattle.es5_tree.specs.Objects.Links.{cell_at, chain, get}
use Rattle.es5_tree.specs.Objects.Names.{decimal}
use Rattle.es5_evaluation.specs.State.{State}
use Rattle.es5_evaluation.specs.Values.{holder_of}
use Rattle.ruby_evaluation.specs.Tables.{Name, at}
use Rattle.ruby_evaluation.specs.State.{Entry, Undefined, Form, Array, Block, Sends, Ruby, thing_at}
use Rattle.ruby_evaluation.specs.Ancestors.{class_of, ancestors, entry_at}

-- ---- names of properties

abbrev pub id_name : Name
id_name = codes "$$id"

abbrev pub mod_name : Name
mod_name = codes "$$mod"

abbrev pub stub_name : Name
stub_name = codes "$$stub"

-- a method's entry in a link
abbrev pub method_name : Name → Name
method_name m = codes "$" ++ m

-- names of methods don't begin with "$", those of instance variables with "@"
abbrev pub IsPlain : Name → Type 0
IsPlain [] = ⊤
IsPlain (unit ∷ more) = (unit == 36) ≡ false

abbrev pub IsVariable : Name → Type 0
IsVariable [] = ⊥
IsVariable (unit ∷ more) = unit ≡ 64

-- ---- reading objects

abbrev pub Heap : Type 0
Heap = List Cell

abbrev pub own_of : Heap → ℕ → Name → Option Val
own_of h o x = own (cell_at h o) x

abbrev pub number_in : Option Val → Option ℕ
number_in (Some (Num (pos n))) = Some n
number_in _ = None

abbrev pub object_in : Option Val → Option ℕ
object_in (Some (Obj o)) = Some o
object_in _ = None

-- the number of the Ruby value that an object is
abbrev pub id_of : Heap → ℕ → Option ℕ
id_of h o = number_in (own_of h o id_name)

abbrev pub id_in : Heap → Option ℕ → Option ℕ
id_in h None = None
id_in h (Some o) = id_of h o

-- the module for which a link stands
abbrev pub mod_of : Heap → ℕ → Option ℕ
mod_of h l = id_in h (object_in (own_of h l mod_name))

abbrev pub has_some : Option Val → Bool
has_some None = false
has_some (Some v) = true

abbrev pub is_stub : Heap → ℕ → Bool
is_stub h f = has_some (own_of h f stub_name)

-- the modules of the links from an object on; the root has none, nor has a link for no module
abbrev pub bases : Heap → Option ℕ → List ℕ
bases h o = filter_map (mod_of h) (chain h o)

-- a property along the links, from the link of a primitive on
abbrev pub get_from : Heap → Option ℕ → Name → Option Val
get_from h None x = None
get_from h (Some o) x = get h o x

-- ---- values

-- a value of the script carries a value of Ruby
abbrev pub CarriesValue : Heap → Value → Val → Type 0
CarriesValue h value.Nil (Obj o) = id_of h o ≡ Some 0
CarriesValue h value.True (Truth b) = b ≡ true
CarriesValue h value.False (Truth b) = b ≡ false
CarriesValue h (value.Int n) (Num m) = n ≡ m
CarriesValue h (value.Text s) (Str t) = s ≡ t
CarriesValue h (value.Ref k) (Obj o) = id_of h o ≡ Some k
CarriesValue h _ _ = ⊥

-- there where one is, and carried
abbrev pub CarriesOption : Heap → Option Value → Option Val → Type 0
CarriesOption h None None = ⊤
CarriesOption h (Some v) (Some w) = CarriesValue h v w
CarriesOption h _ _ = ⊥

-- ---- kinds

abbrev pub IsFunction : Kind → Type 0
IsFunction (cell.Function code scope) = ⊤
IsFunction _ = ⊥

-- An array for an Array, with its items; a function for a Proc; an object for every other value.
abbrev pub FitsForm : Heap → Cell → Form → Type 0
FitsForm h c (Array items) = (c.kind ≡ cell.Array) × (c.array_length ≡ length items) × ((i : ℕ) → CarriesOption h (slice_get items i) (find_own c.properties (decimal i)))
FitsForm h c (Block closure) = IsFunction c.kind
FitsForm h c (Sends name) = IsFunction c.kind
FitsForm h c _ = c.kind ≡ cell.Object

-- ---- tables

abbrev pub IsStub : Heap → Option Val → Type 0
IsStub h v = (f : ℕ) × (v ≡ Some (Obj f)) × (is_stub h f ≡ true)

-- what stands under a method's name in a link, for the module's entry
abbrev pub Matches : Heap → Option Entry → Option Val → Type 0
Matches h None v = v ≡ None
Matches h (Some Undefined) v = IsStub h v
Matches h (Some e) v = (f : ℕ) × (v ≡ Some (Obj f)) × IsFunction (cell_at h f).kind × (is_stub h f ≡ false)

-- one value stands under the name of m in all links of M
pub record Slot (R : Ruby) (h : Heap) (M : ℕ) (m : Name) : Type 0 where
  pub value : Option Val
  pub same : (l : ℕ) → mod_of h l ≡ Some M → own_of h l (method_name m) ≡ value
  pub fits : Matches h (entry_at R m M) value

-- what a look-up gives where no module has an entry
abbrev pub Missed : Heap → Bool → Option Val → Type 0
Missed h true v = IsStub h v
Missed h false v = v ≡ None

-- the first of the modules with an entry for the name, the undefined mark being one
abbrev pub holder_at : Option Entry → ℕ → Option ℕ → Option ℕ
holder_at None k later = later
holder_at (Some e) k later = Some k

abbrev pub holder : Ruby → Name → List ℕ → Option ℕ
holder R m [] = None
holder R m (k ∷ ks) = holder_at (entry_at R m k) k (holder R m ks)

-- ---- states

-- the called names are those for which the root has a stub
pub record CarriesHeap (called : List Name) (R : Ruby) (h : Heap) : Type 0 where
  pub one : (k : ℕ) → k < length R.heap → (o : ℕ) × (id_of h o ≡ Some k) × ((p : ℕ) → id_of h p ≡ Some k → p ≡ o)
  pub only : (o k : ℕ) → id_of h o ≡ Some k → k < length R.heap
  pub forms : (o k : ℕ) → id_of h o ≡ Some k → FitsForm h (cell_at h o) (thing_at R k).form
  pub chains : (v : Value) (w : Val) → CarriesValue h v w → bases h (holder_of w) ≡ ancestors R (class_of R v)
  pub tables : (M : ℕ) (m : Name) → IsPlain m → Slot R h M m
  pub found : (v : Value) (w : Val) (M : ℕ) (m : Name) → IsPlain m → CarriesValue h v w → holder R m (ancestors R (class_of R v)) ≡ Some M → (l : ℕ) → mod_of h l ≡ Some M → get_from h (holder_of w) (method_name m) ≡ own_of h l (method_name m)
  pub missed : (v : Value) (w : Val) (m : Name) → IsPlain m → CarriesValue h v w → holder R m (ancestors R (class_of R v)) ≡ None → Missed h (list_any (bytes_eq m) called) (get_from h (holder_of w) (method_name m))
  pub variables : (o k : ℕ) (x : Name) → IsVariable x → id_of h o ≡ Some k → CarriesOption h (at x (thing_at R k).variables) (own_of h o x)

abbrev pub Carries : List Name → Ruby → State → Type 0
Carries called R s = CarriesHeap called R s.heap
