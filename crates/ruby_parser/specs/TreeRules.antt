-- The rules of the productions that give a node, and what is read as the reading of a production.
use Rattle.std.specs.Prelude.{Bool, Result, Ok, Err}
use Rattle.descent.specs.declared.fail.Fail.{Fail}
use Rattle.grammar.specs.Rules.{tree}
use Rattle.ruby_meaning.specs.Grammar.Expressions as e
use Rattle.ruby_meaning.specs.Grammar.Names.{R}
use Rattle.ruby_meaning.specs.Grammar.Statements as s
use Rattle.ruby_meaning.specs.declared.tree.Node.{Node}
use Rattle.ruby_reading.specs.declared.args.Args.{Args}
use Rattle.ruby_reading.specs.declared.names.Tree.{Tree}
use Rattle.ruby_reading.specs.declared.value.Body.{Body}
use Rattle.ruby_reading.specs.declared.value.Reading.{Reading}
use Rattle.ruby_reading.specs.declared.value.Reading.TheVariants as reading
use Rattle.ruby_reading.specs.declared.value.Value.{Value}
use Rattle.ruby_reading.specs.declared.names.Tree.TheVariants as t

abbrev pub tree_rule : Tree → Bool → Bool → R tree
tree_rule t.Statement d r = e.value_of (s.statement r)
tree_rule t.Expression d r = e.value_of (s.expression d r)
tree_rule t.NotExpression d r = e.value_of (s.not_expression d r)
tree_rule t.RightSide d r = e.value_of (e.right_side d r)
tree_rule t.Argument d r = e.value_of (e.argument d r)
tree_rule t.Ternary d r = e.value_of (e.ternary d r)
tree_rule t.RangeOperand d r = e.value_of (e.or_level d r)
tree_rule t.OrOperand d r = e.value_of (e.and_level d r)
tree_rule t.AndOperand d r = e.value_of (e.equality_level d r)
tree_rule t.EqualityOperand d r = e.value_of (e.comparison_level d r)
tree_rule t.ComparisonOperand d r = e.value_of (e.shift_level d r)
tree_rule t.ShiftOperand d r = e.value_of (e.sum_level d r)
tree_rule t.SumOperand d r = e.value_of (e.product_level d r)
tree_rule t.ProductOperand d r = e.value_of (e.minus_level d r)
tree_rule t.PowerOperand d r = e.value_of (e.power_level d r)
tree_rule t.NotOperand d r = e.value_of (e.not_level d r)

-- ---- what is read, as what a production gives

abbrev pub of_tree : Result Node Fail → Result Reading Fail
of_tree (Ok n) = Ok (reading.Tree n)
of_tree (Err f) = Err f

abbrev pub of_value : Result Value Fail → Result Reading Fail
of_value (Ok v) = Ok (reading.Value v)
of_value (Err f) = Err f

abbrev pub of_body : Result Body Fail → Result Reading Fail
of_body (Ok b) = Ok (reading.Body b)
of_body (Err f) = Err f

abbrev pub of_args : Result Args Fail → Result Reading Fail
of_args (Ok a) = Ok (reading.Args a)
of_args (Err f) = Err f
