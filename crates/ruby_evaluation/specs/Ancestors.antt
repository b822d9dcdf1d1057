-- Ancestors of classes and modules, the search for entries along them, and `include`. `prepend` changes `lineage`, the count
-- that `super` hands to `behind`, and adds a list beside `included`.
use Rattle.std.specs.Prelude.{ℕ, zero, suc, Bool, not, ◌&&◌, if◌then◌else◌, nat_eq, nat_le, List, [], ◌∷◌, ◌++◌, Option, Some, None, length, filter}
use Rattle.std.specs.List.{flat_map, list_any}
use Rattle.ruby_meaning.specs.declared.value.Value.{Value}
use Rattle.ruby_meaning.specs.declared.value.Value.TheVariants as value
use Rattle.ruby_evaluation.specs.Tables.{Name, at, or_else}
use Rattle.ruby_evaluation.specs.State.{Entry, Undefined, Ruby, thing_at, module_at, with_module}

-- ---- the numbers of the boot state

abbrev pub object_class : ℕ
object_class = 1

abbrev pub module_class : ℕ
module_class = 3

abbrev pub class_class : ℕ
class_class = 5

abbrev pub boolean_class : ℕ
boolean_class = 12

abbrev pub integer_class : ℕ
integer_class = 14

abbrev pub string_class : ℕ
string_class = 16

abbrev pub array_class : ℕ
array_class = 18

abbrev pub hash_class : ℕ
hash_class = 20

abbrev pub range_class : ℕ
range_class = 22

abbrev pub proc_class : ℕ
proc_class = 24

abbrev pub exception_class : ℕ
exception_class = 26

abbrev pub main_object : ℕ
main_object = 28

-- ---- the class of a value

-- its singleton class, where it has one
abbrev pub or_own : ℕ → Option ℕ → ℕ
or_own k None = k
or_own k (Some s) = s

abbrev pub class_at : Ruby → ℕ → ℕ
class_at r k = let t = thing_at r k in or_own t.class t.singleton

abbrev pub class_of : Ruby → Value → ℕ
class_of r value.Nil = class_at r 0
class_of r value.True = boolean_class
class_of r value.False = boolean_class
class_of r (value.Int n) = integer_class
class_of r (value.Text t) = string_class
class_of r (value.Ref k) = class_at r k

-- without singleton classes
abbrev pub made_class : Ruby → Value → ℕ
made_class r value.Nil = (thing_at r 0).class
made_class r value.True = boolean_class
made_class r value.False = boolean_class
made_class r (value.Int n) = integer_class
made_class r (value.Text t) = string_class
made_class r (value.Ref k) = (thing_at r k).class

-- CLASS in the text of an exception
abbrev pub class_name : Ruby → Value → Name
class_name r v = (module_at r (made_class r v)).name

-- ---- ancestors

-- the numbers from o on, at most n of them
abbrev pub walk : (ℕ → Option ℕ) → ℕ → Option ℕ → List ℕ
walk next zero o = []
walk next (suc n) None = []
walk next (suc n) (Some x) = x ∷ walk next n (next x)

abbrev pub super_of : Ruby → ℕ → Option ℕ
super_of r k = (module_at r k).superclass

-- the class or module, and its inclusion list
abbrev pub lineage : Ruby → ℕ → List ℕ
lineage r k = k ∷ (module_at r k).included

abbrev pub ancestors : Ruby → ℕ → List ℕ
ancestors r k = flat_map (lineage r) (walk (super_of r) (length r.heap) (Some k))

abbrev pub is_among : ℕ → List ℕ → Bool
is_among k ks = list_any (nat_eq k) ks

abbrev pub is_a : Ruby → Value → ℕ → Bool
is_a r v m = is_among m (ancestors r (class_of r v))

-- ---- the search for an entry

abbrev pub entry_at : Ruby → Name → ℕ → Option Entry
entry_at r name k = at name (module_at r k).table

abbrev pub search_in : Ruby → Name → List ℕ → Option Entry
search_in r name [] = None
search_in r name (k ∷ ks) = or_else (entry_at r name k) (search_in r name ks)

-- a mark ends the search with none
abbrev pub unless_undefined : Option Entry → Option Entry
unless_undefined None = None
unless_undefined (Some Undefined) = None
unless_undefined (Some e) = Some e

abbrev pub find_for : Ruby → ℕ → Name → Option Entry
find_for r c name = unless_undefined (search_in r name (ancestors r c))

abbrev pub find : Ruby → Value → Name → Option Entry
find r v name = find_for r (class_of r v) name

-- how many members pass
abbrev pub places : (ℕ → Bool) → List ℕ → ℕ
places test [] = 0
places test (x ∷ xs) = if test x then suc (places test xs) else places test xs

-- what stands behind the first member that passes with at most n others that pass behind it, or nothing; at 0 behind the last
abbrev pub behind : (ℕ → Bool) → ℕ → List ℕ → List ℕ
behind test n [] = []
behind test n (x ∷ xs) = if test x && nat_le (places test xs) n then xs else behind test n xs

-- the search behind a place of the module
abbrev pub find_behind : Ruby → Value → ℕ → ℕ → Name → Option Entry
find_behind r v m n name = unless_undefined (search_in r name (behind (nat_eq m) n (ancestors r (class_of r v))))

-- ---- include

-- the ancestors of n that aren't ancestors of c
abbrev pub missing : Ruby → ℕ → ℕ → List ℕ
missing r c n = filter (λ k. not (is_among k (ancestors r c))) (ancestors r n)

abbrev pub included_into : ℕ → ℕ → Ruby → Ruby
included_into c n r = let m = module_at r c in with_module c (record m { included = missing r c n ++ m.included }) r
