-- Tests of lists of nodes.
use Rattle.std.specs.Prelude.{Bool, true, false, List, [], ◌∷◌, ◌++◌, Option, Some, None}
use Rattle.opal_base.specs.declared.place.Span.{Span}
use Rattle.ruby_meaning.specs.declared.tree.Kind.TheVariants as kind
use Rattle.ruby_meaning.specs.declared.tree.Node.{Node}
use Rattle.ruby_meaning.specs.Grammar.Actions as act
use Rattle.ruby_reading.specs.Shown.{pairs_of}

abbrev pub is_none : Option Node → Bool
is_none (Some n) = false
is_none None = true

abbrev pub has_items : List Node → Bool
has_items [] = false
has_items (n ∷ ns) = true

abbrev pub has_one : List Node → Bool
has_one (n ∷ []) = true
has_one ns = false

abbrev pub first_span : List Node → Option Span
first_span [] = None
first_span (n ∷ ns) = Some n.span

abbrev pub arguments_of : List Node → List Node → List Node → List Node
arguments_of items keys values = items ++ act.hash (pairs_of keys values)

abbrev pub hash_at : Option Span → List Node → List Node → List Node
hash_at None keys values = []
hash_at (Some s) keys values = act.make (kind.HashLit keys values) (act.to_end s (act.last_span s values)) s.from ∷ []

abbrev pub is_no_args : act.Args → Bool
is_no_args ([], ([], None)) = true
is_no_args _ = false
