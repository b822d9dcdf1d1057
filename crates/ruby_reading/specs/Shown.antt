-- What the parser's values are in the grammar.
use Rattle.std.specs.Prelude.{◌≡◌, ℕ, Bool, true, false, List, [], ◌∷◌, map, Option, Some, None}
use Rattle.std.specs.Option.{option_map}
use Rattle.grammar.specs.Rules.{El, Held}
use Rattle.ruby_meaning.specs.declared.production.Production.{Production}
use Rattle.ruby_meaning.specs.declared.production.Production.TheVariants as p
use Rattle.ruby_meaning.specs.declared.tree.Node.{Node}
use Rattle.ruby_meaning.specs.Grammar.Actions as act
use Rattle.ruby_meaning.specs.Grammar.Names.{sort_of}
use Rattle.ruby_meaning.specs.Grammar.Seen.{Seen}
use Rattle.ruby_reading.specs.declared.value.Written.{Written}
use Rattle.ruby_reading.specs.declared.value.Written.TheVariants as written
use Rattle.ruby_reading.specs.declared.value.Value.{Value}
use Rattle.ruby_reading.specs.declared.value.Body.{Body}
use Rattle.ruby_reading.specs.declared.args.Args.{Args}
use Rattle.ruby_reading.specs.declared.value.Reading.{Reading}
use Rattle.ruby_reading.specs.declared.value.Reading.TheVariants as reading

abbrev pub written_code : Written → ℕ
written_code written.Other = act.other
written_code written.Variable = act.variable
written_code written.Asking = act.asking
written_code written.Attribute = act.attribute
written_code written.Method = act.method
written_code written.Indexed = act.indexed
written_code written.Compared = act.compared
written_code written.Commanded = act.commanded
written_code written.Begun = act.begun
written_code written.Yielding = act.yielding

abbrev pub shown_value : Value → Node × ℕ
shown_value v = (v.node, written_code v.written)

abbrev pub absent_code : Bool → ℕ
absent_code true = 1
absent_code false = 0

abbrev pub shown_body : Body → Node × ℕ
shown_body b = (b.node, absent_code b.absent)

-- as many as there are of both
abbrev pub pairs_of : List Node → List Node → act.Pairs
pairs_of (k ∷ ks) (v ∷ vs) = act.key_held k v ∷ pairs_of ks vs
pairs_of ks vs = []

abbrev pub shown_args : Args → act.Args
shown_args x = (x.items, (pairs_of x.keys x.values, x.block))

-- the value of a production, as the parser gives it
abbrev pub Shows : (k : Production) → El Seen Node (sort_of k) → Reading → Type 0
Shows p.Statements x (reading.Body b) = x ≡ shown_body b
Shows p.Otherwise x (reading.Body b) = x ≡ shown_body b
Shows p.OneValue x (reading.Value v) = x ≡ shown_value v
Shows p.NestedValue x (reading.Value v) = x ≡ shown_value v
Shows (p.Arguments blocks) x (reading.Args a) = x ≡ shown_args a
Shows (p.CommandArguments blocks) x (reading.Args a) = x ≡ shown_args a
Shows (p.MorePairs blocks) x (reading.Args a) = x ≡ shown_args a
Shows p.Statement x (reading.Tree n) = x ≡ n
Shows p.Expression x (reading.Tree n) = x ≡ n
Shows p.NotExpression x (reading.Tree n) = x ≡ n
Shows p.RightSide x (reading.Tree n) = x ≡ n
Shows p.Argument x (reading.Tree n) = x ≡ n
Shows p.Ternary x (reading.Tree n) = x ≡ n
Shows p.RangeOperand x (reading.Tree n) = x ≡ n
Shows p.OrOperand x (reading.Tree n) = x ≡ n
Shows p.AndOperand x (reading.Tree n) = x ≡ n
Shows p.EqualityOperand x (reading.Tree n) = x ≡ n
Shows p.ComparisonOperand x (reading.Tree n) = x ≡ n
Shows p.ShiftOperand x (reading.Tree n) = x ≡ n
Shows p.SumOperand x (reading.Tree n) = x ≡ n
Shows p.ProductOperand x (reading.Tree n) = x ≡ n
Shows p.PowerOperand x (reading.Tree n) = x ≡ n
Shows p.NotOperand x (reading.Tree n) = x ≡ n
Shows k x r = ⊥
