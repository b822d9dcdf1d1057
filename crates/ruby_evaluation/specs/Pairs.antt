-- The pairs of a Hash: equal keys, reading, setting, removing.
use Rattle.std.specs.Prelude.{Bool, true, false, if◌then◌else◌, nat_eq, List, [], ◌∷◌, Option, Some, None, bytes_eq}
use Rattle.std.specs.Ordering.{int_eq}
use Rattle.ruby_meaning.specs.declared.value.Value.{Value}
use Rattle.ruby_meaning.specs.declared.value.Value.TheVariants as value

-- equal integers, texts or truth values, both nil, or the same reference
abbrev pub same : Value → Value → Bool
same value.Nil value.Nil = true
same value.True value.True = true
same value.False value.False = true
same (value.Int m) (value.Int n) = int_eq m n
same (value.Text s) (value.Text t) = bytes_eq s t
same (value.Ref j) (value.Ref k) = nat_eq j k
same _ _ = false

abbrev pub Pairs : Type 0
Pairs = List (Value × Value)

abbrev pub value_of : Value → Pairs → Option Value
value_of x [] = None
value_of x (p ∷ ps) = if same x p.0 then Some p.1 else value_of x ps

-- a key that is set again keeps its place
abbrev pub put_pair : Value → Value → Pairs → Pairs
put_pair x y [] = (x, y) ∷ []
put_pair x y (p ∷ ps) = if same x p.0 then (p.0, y) ∷ ps else p ∷ put_pair x y ps

abbrev pub drop_pair : Value → Pairs → Pairs
drop_pair x [] = []
drop_pair x (p ∷ ps) = if same x p.0 then drop_pair x ps else p ∷ drop_pair x ps

abbrev pub put_all : Pairs → Pairs → Pairs
put_all [] qs = qs
put_all (p ∷ ps) qs = put_all ps (put_pair p.0 p.1 qs)
