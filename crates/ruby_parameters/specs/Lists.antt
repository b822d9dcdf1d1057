-- Lists of values.
use Rattle.std.specs.Prelude.{ℕ, Bool, List, Result}
use Rattle.grammar.specs.CommonRules.{behind}
use Rattle.grammar.specs.FormReaders.{read_view}
use Rattle.grammar.specs.Readers.{read_named, read_rule}
use Rattle.grammar.specs.Rules.{tree}
use Rattle.opal_base.specs.declared.place.Span.{Span}
use Rattle.ruby_meaning.specs.declared.token.Mark.TheVariants as mark
use Rattle.ruby_meaning.specs.declared.tree.Kind.TheVariants as kind
use Rattle.ruby_meaning.specs.declared.tree.Node.{Node}
use Rattle.ruby_meaning.specs.Grammar.Actions as act
use Rattle.ruby_meaning.specs.Grammar.Classes.{op}
use Rattle.ruby_meaning.specs.Grammar.Expressions as g
use Rattle.ruby_meaning.specs.Grammar.Names.{R}
use Rattle.ruby_meaning.specs.Grammar.Seen.{Seen}
use Rattle.ruby_meaning.specs.Grammar.Table.{table}
use Rattle.ruby_reading.specs.Named.{many_from}

-- a list that begins with the span of its first item
abbrev pub array_of : List Node → Span → Node
array_of items first = act.make (kind.ArrayLit items) (act.to_end first (act.last_span first items)) first.from

abbrev pub next_item : Bool → Bool → R tree
next_item d r = behind (op mark.Comma) (g.item d r)

abbrev pub items_from : Bool → Bool → ℕ → ℕ → List Node → List Seen → Result (List Node × List Seen) (List Seen)
items_from d r levels n found ts = many_from (next_item d r) levels n found ts

-- a list behind its first item
abbrev pub list_behind : Bool → Bool → ℕ → Node → List Seen → Result (Node × List Seen) (List Seen)
list_behind d r levels n ts = read_view {B = Node} (λ xs. act.array_of n xs) (read_rule table (read_named table) (g.other_items d r) levels) ts
