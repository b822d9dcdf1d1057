-- Values, and the operators on them (ECMA-262 5.1, sections 8, 9 and 11, profile).
use Rattle.std.specs.Prelude.{ℕ, Bool, true, false, not, ◌&&◌, if◌then◌else◌, List, [], ◌∷◌, ◌++◌, length, nat_eq, nat_lt, nat_le, ℤ, pos, negsuc, suc, neg_ℤ, ◌+ℤ◌, ◌-ℤ◌, ◌*ℤ◌, int_le, int_lt, int_div, int_rem, slice_get, option_map, Option, None, Some, bytes_eq, codes}
use Rattle.std.specs.Ordering.{int_eq}
use Rattle.es5_tree.specs.declared.tree.Operator.{Operator}
use Rattle.es5_tree.specs.declared.tree.Operator.TheVariants as operator
use Rattle.es5_tree.specs.Values.{Text, Val, Undefined, Null, Truth, Num, Str, Obj, first}
use Rattle.es5_tree.specs.Ends.{OutKind, Number, Division, Conversion}
use Rattle.es5_tree.specs.Objects.Names.{decimal, index_of, is_length}
use Rattle.es5_tree.specs.Objects.Cells.{Kind, Object, Array, Arguments, Function, Host, Record, Cell}
use Rattle.es5_tree.specs.Objects.Links.{cell_at, get}
use Rattle.es5_tree.specs.Intrinsics.Made.{text_prototype, number_prototype, truth_prototype}

-- a value, or why there is none in the profile
pub data Result : Type 0 where
  Is : Val → Result
  Out : OutKind → Result

-- ---- numbers: whole ones within 2^53-1 (8.5)

abbrev pub largest : ℕ
largest = 9007199254740991

-- a number within the range
abbrev pub in_range : ℤ → Result
in_range z = if int_le (neg_ℤ (pos largest)) z && int_le z (pos largest) then Is (Num z) else Out Number

abbrev pub is_zero : ℤ → Bool
is_zero z = int_eq z (pos 0)

-- a quotient without a rest (11.5.2)
abbrev pub quotient : ℤ → ℤ → Result
quotient m n = if is_zero n then Out Division else if is_zero (int_rem m n) then in_range (int_div m n) else Out Division

-- a rest, which has the sign of the dividend (11.5.3)
abbrev pub remainder : ℤ → ℤ → Result
remainder m n = if is_zero n then Out Division else in_range (int_rem m n)

-- a whole number in decimal digits (9.8.1)
abbrev pub numeral : ℤ → Text
numeral (pos n) = decimal n
numeral (negsuc n) = codes "-" ++ decimal (suc n)

-- ---- texts

-- a text of a length within the range
abbrev pub of_length : Text → Result
of_length text = if nat_le (length text) largest then Is (Str text) else Out Number

-- a text stands before another, by their units (11.8.5)
unfoldable pub text_before : Text → Text → Bool
text_before [] [] = false
text_before [] (v ∷ vs) = true
text_before (u ∷ us) [] = false
text_before (u ∷ us) (v ∷ vs) = if nat_lt u v then true else if nat_lt v u then false else text_before us vs

-- ---- values

-- the truth value that a condition takes of a value (9.2)
abbrev pub truthy : Val → Bool
truthy Undefined = false
truthy Null = false
truthy (Truth b) = b
truthy (Num z) = not (is_zero z)
truthy (Str []) = false
truthy (Str (u ∷ us)) = true
truthy (Obj o) = true

-- the same value (11.9.6)
abbrev pub same : Val → Val → Bool
same Undefined Undefined = true
same Null Null = true
same (Truth true) (Truth b) = b
same (Truth false) (Truth b) = not b
same (Num m) (Num n) = int_eq m n
same (Str s) (Str t) = bytes_eq s t
same (Obj o) (Obj p) = nat_eq o p
same _ _ = false

-- the name of a property that a value is: a text, or the digits of a number
abbrev pub key_of : Val → Option Text
key_of Undefined = None
key_of Null = None
key_of (Truth b) = None
key_of (Num z) = Some (numeral z)
key_of (Str text) = Some text
key_of (Obj o) = None

-- what an object of a kind is called (11.4.3)
abbrev pub kind_name : Kind → Text
kind_name Object = codes "object"
kind_name Array = codes "object"
kind_name Arguments = codes "object"
kind_name (Function code scope) = codes "function"
kind_name (Host which) = codes "function"
kind_name (Record outer) = codes "object"

abbrev pub type_name : List Cell → Val → Text
type_name cells Undefined = codes "undefined"
type_name cells Null = codes "object"
type_name cells (Truth b) = codes "boolean"
type_name cells (Num z) = codes "number"
type_name cells (Str text) = codes "string"
type_name cells (Obj o) = kind_name (cell_at cells o).kind

-- ---- operators (11.4.7, 11.5 to 11.9); other kinds of values leave the profile

abbrev pub negated : Val → Result
negated (Num z) = Is (Num (neg_ℤ z))
negated _ = Out Conversion

-- 11.6.1
abbrev pub sum : Val → Val → Result
sum (Num m) (Num n) = in_range (m +ℤ n)
sum (Num m) (Str t) = of_length (numeral m ++ t)
sum (Str s) (Num n) = of_length (s ++ numeral n)
sum (Str s) (Str t) = of_length (s ++ t)
sum _ _ = Out Conversion

-- of two numbers
abbrev pub on_numbers : (ℤ → ℤ → Result) → Val → Val → Result
on_numbers f (Num m) (Num n) = f m n
on_numbers f _ _ = Out Conversion

-- of two numbers or two texts
abbrev pub compared : (ℤ → ℤ → Bool) → (Text → Text → Bool) → Val → Val → Result
compared f g (Num m) (Num n) = Is (Truth (f m n))
compared f g (Str s) (Str t) = Is (Truth (g s t))
compared f g _ _ = Out Conversion

abbrev pub binary : Operator → Val → Val → Result
binary operator.Same v w = Is (Truth (same v w))
binary operator.Different v w = Is (Truth (not (same v w)))
binary operator.Less v w = compared int_lt text_before v w
binary operator.Greater v w = compared (λ m n. int_lt n m) (λ s t. text_before t s) v w
binary operator.LessOrEqual v w = compared int_le (λ s t. not (text_before t s)) v w
binary operator.GreaterOrEqual v w = compared (λ m n. int_le n m) (λ s t. not (text_before s t)) v w
binary operator.Add v w = sum v w
binary operator.Subtract v w = on_numbers (λ m n. in_range (m -ℤ n)) v w
binary operator.Multiply v w = on_numbers (λ m n. in_range (m *ℤ n)) v w
binary operator.Divide v w = on_numbers quotient v w
binary operator.Remainder v w = on_numbers remainder v w

-- ---- properties of values (8.7.1, 8.12.3)

-- the object from which a value has its properties: an object from itself, a primitive from its prototype object
abbrev pub holder_of : Val → Option ℕ
holder_of Undefined = None
holder_of Null = None
holder_of (Truth b) = Some truth_prototype
holder_of (Num z) = Some number_prototype
holder_of (Str text) = Some text_prototype
holder_of (Obj o) = Some o

-- a unit of a text, by its index
abbrev pub unit_at : Text → Option ℕ → Option Val
unit_at text None = None
unit_at text (Some i) = option_map (λ u. Str (u ∷ [])) (slice_get text i)

-- the own properties of a primitive: the `length` and the indices of a text (15.5.5)
abbrev pub own_of_primitive : Val → Text → Option Val
own_of_primitive (Str text) name = if is_length name then Some (Num (pos (length text))) else unit_at text (index_of name)
own_of_primitive _ name = None

abbrev pub or_undefined : Option Val → Val
or_undefined None = Undefined
or_undefined (Some v) = v

-- a property of a value that has its properties from this object
abbrev pub property_from : List Cell → ℕ → Val → Text → Val
property_from cells o v name = or_undefined (first (own_of_primitive v name) (λ u. get cells o name))
