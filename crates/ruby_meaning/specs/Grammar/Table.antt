-- The grammar: each production, and the classes of tokens that begin it and that can go on behind it.
use Rattle.std.specs.Prelude.{ℕ, Bool, true, false, not, ◌&&◌, ◌||◌, nat_eq}
use Rattle.grammar.specs.Rules.{El, Grammar}
use Rattle.grammar.specs.CommonRules.{◌or◌}
use Rattle.ruby_meaning.specs.declared.production.Part.{Part}
use Rattle.ruby_meaning.specs.declared.production.Production.{Production}
use Rattle.ruby_meaning.specs.declared.production.Production.TheVariants as p
use Rattle.ruby_meaning.specs.declared.production.Sign.TheVariants as sign
use Rattle.ruby_meaning.specs.declared.token.Mark.TheVariants as mark
use Rattle.ruby_meaning.specs.declared.token.Word.TheVariants as word
use Rattle.ruby_meaning.specs.declared.tree.Node.{Node}
use Rattle.ruby_meaning.specs.Depth.{depth_of}
use Rattle.ruby_meaning.specs.Grammar.Seen.{Seen}
use Rattle.ruby_meaning.specs.Grammar.Classes.{size, code_of, a, op, marked_op, key}
use Rattle.ruby_meaning.specs.Grammar.Names.{sort_of, sorts, R}
use Rattle.ruby_meaning.specs.Grammar.Actions.{commanded}
use Rattle.ruby_meaning.specs.Grammar.Definitions.{separators, otherwise}
use Rattle.ruby_meaning.specs.Grammar.Parameters.{parameters}
use Rattle.ruby_meaning.specs.Grammar.Expressions.{value_of, updates, begins_marked, begins_plain, not_level, power_level, minus_level, product_level, sum_level, shift_level, comparison_level, equality_level, and_level, or_level, ternary, argument, one_value, nested_value, right_side, cargs, arguments, more_pairs}
use Rattle.ruby_meaning.specs.Grammar.Statements.{not_expression, expression, more_targets, statement, statement_list}

abbrev pub rule_of : (k : Production) → Bool → Bool → R (sort_of k)
rule_of p.Statements d r = statement_list r
rule_of p.Statement d r = value_of (statement r)
rule_of p.Expression d r = value_of (expression d r)
rule_of p.NotExpression d r = value_of (not_expression d r)
rule_of p.RightSide d r = value_of (right_side d r)
rule_of p.NestedValue d r = nested_value d r
rule_of p.OneValue d r = one_value d r
rule_of p.Argument d r = value_of (argument d r)
rule_of p.Ternary d r = value_of (ternary d r)
rule_of p.RangeOperand d r = value_of (or_level d r)
rule_of p.OrOperand d r = value_of (and_level d r)
rule_of p.AndOperand d r = value_of (equality_level d r)
rule_of p.EqualityOperand d r = value_of (comparison_level d r)
rule_of p.ComparisonOperand d r = value_of (shift_level d r)
rule_of p.ShiftOperand d r = value_of (sum_level d r)
rule_of p.SumOperand d r = value_of (product_level d r)
rule_of p.ProductOperand d r = value_of (minus_level d r)
rule_of p.PowerOperand d r = value_of (power_level d r)
rule_of p.NotOperand d r = value_of (not_level d r)
rule_of p.Otherwise d r = otherwise r
rule_of (p.CommandArguments blocks) d r = cargs d r blocks
rule_of (p.Arguments blocks) d r = arguments d r blocks
rule_of (p.MorePairs blocks) d r = more_pairs d r blocks
rule_of (p.MoreTargets starred) d r = more_targets r starred
rule_of (p.Parameters stage brackets) d r = parameters r brackets stage

-- ---- what begins a production

abbrev pub begins_simple_value : ℕ → Bool
begins_simple_value = a sign.Name or a sign.Const or a sign.Ivar or a sign.Gvar or a sign.Int or a sign.Text or a sign.TextBegin
    or key word.Nil or key word.True or key word.False or key word.Self_ or key word.Retry or key word.Yield or key word.Super
    or op mark.WordsRound or op mark.WordsSquare or op mark.SymbolsRound or op mark.SymbolsSquare
    or marked_op mark.WordsRound or marked_op mark.WordsSquare or marked_op mark.SymbolsRound or marked_op mark.SymbolsSquare
    or op mark.ColonColon or marked_op mark.ColonColon or op mark.ParenOpen or marked_op mark.ParenOpen
    or op mark.BracketOpen or marked_op mark.BracketOpen or op mark.BraceOpen or op mark.Bang or op mark.Minus or marked_op mark.Minus
    or op mark.Arrow or key word.Case or key word.Class or key word.Module or key word.Def or key word.Begin

abbrev pub begins_value : ℕ → Bool
begins_value = begins_simple_value or key word.If or key word.Unless or key word.While or key word.Until

abbrev pub begins_splat : ℕ → Bool
begins_splat = op mark.Star or marked_op mark.Star

abbrev pub begins_expression : ℕ → Bool
begins_expression = begins_value or key word.Not or key word.Return or key word.Break or key word.Next

abbrev pub begins_statement : ℕ → Bool
begins_statement = begins_expression or key word.Alias or key word.Undef or op mark.Star

abbrev pub begins_argument : ℕ → Bool
begins_argument = begins_value or begins_splat or a sign.Label or op mark.Ampersand or marked_op mark.Ampersand

abbrev pub begins_parameter : Bool → ℕ → Bool
begins_parameter true = a sign.Name or op mark.Star or op mark.Ampersand or op mark.ParenOpen
begins_parameter false = a sign.Name or op mark.Star or op mark.Ampersand

abbrev pub begins : Production → ℕ → Bool
begins p.Statements = begins_statement or separators
begins p.Statement = begins_statement
begins p.Expression = begins_expression
begins p.NotExpression = begins_expression
begins p.RightSide = begins_value or begins_splat
begins p.NestedValue = begins_value or begins_splat
begins p.Otherwise = key word.Elsif or key word.Else
begins (p.CommandArguments blocks) = begins_argument
begins (p.Arguments blocks) = begins_argument
begins (p.MorePairs blocks) = begins_argument
begins (p.MoreTargets starred) = op mark.Comma
begins (p.Parameters stage brackets) = begins_parameter brackets
begins _ = begins_value

-- ---- what can go on behind a whole one

abbrev pub behind_value : Bool → ℕ → Bool
behind_value true = op mark.Dot or op mark.ColonColon or op mark.BracketOpen or a sign.CallOpen or op mark.BraceOpen or key word.Do
behind_value false = op mark.Dot or op mark.ColonColon or op mark.BracketOpen or a sign.CallOpen or op mark.BraceOpen

abbrev pub behind_power : Bool → ℕ → Bool
behind_power d = behind_value d or op mark.Power

abbrev pub behind_product : Bool → ℕ → Bool
behind_product d = behind_power d or op mark.Star or op mark.Slash or op mark.Percent

abbrev pub behind_sum : Bool → ℕ → Bool
behind_sum d = behind_product d or op mark.Plus or op mark.Minus

abbrev pub behind_shift : Bool → ℕ → Bool
behind_shift d = behind_sum d or op mark.ShiftLeft

abbrev pub behind_comparison : Bool → ℕ → Bool
behind_comparison d = behind_shift d or op mark.Less or op mark.LessEqual or op mark.Greater or op mark.GreaterEqual

abbrev pub behind_equality : Bool → ℕ → Bool
behind_equality d = behind_comparison d or op mark.Compare or op mark.Equal or op mark.TripleEqual or op mark.NotEqual

abbrev pub behind_and : Bool → ℕ → Bool
behind_and d = behind_equality d or op mark.And

abbrev pub behind_or : Bool → ℕ → Bool
behind_or d = behind_and d or op mark.Or

abbrev pub behind_ternary : Bool → ℕ → Bool
behind_ternary d = behind_or d or op mark.DotDot or op mark.DotDotDot or op mark.Question

abbrev pub behind_argument : Bool → ℕ → Bool
behind_argument d = behind_ternary d or op mark.Assign or updates

abbrev pub begins_command : ℕ → Bool
begins_command = begins_marked or begins_plain

abbrev pub behind_command : Bool → ℕ → Bool
behind_command d = behind_argument d or begins_command or op mark.Comma or op mark.FatArrow

-- behind a jump without a value a value may still begin
abbrev pub behind_jump : Bool → ℕ → Bool
behind_jump d = behind_command d or begins_simple_value or begins_splat

abbrev pub behind_expression : Bool → ℕ → Bool
behind_expression d = behind_jump d or key word.And or key word.Or

abbrev pub behind_statement : ℕ → Bool
behind_statement = behind_expression true or key word.If or key word.Unless or key word.While or key word.Until

-- in brackets a comma may end the arguments, so that an argument may still begin behind it
abbrev pub behind_arguments : Bool → ℕ → Bool
behind_arguments true = behind_command true or begins_argument
behind_arguments false = behind_argument false or op mark.Comma or op mark.FatArrow

-- behind a "*" a name may stand
abbrev pub behind_parameters : ℕ → Bool
behind_parameters = behind_argument true or op mark.Comma or a sign.Name

abbrev pub continues : Production → Bool → ℕ → Bool
continues p.Statements d = behind_statement or begins_statement or separators
continues p.Statement d = behind_statement
continues p.Expression d = behind_expression d
continues p.NotExpression d = behind_jump d
continues p.RightSide d = behind_command d
continues p.NestedValue d = behind_command d
continues p.OneValue d = behind_command d
continues p.Otherwise d = behind_statement or begins_statement or separators or key word.Elsif or key word.Else or key word.Then
continues p.Argument d = behind_argument d
continues p.Ternary d = behind_ternary d
continues p.RangeOperand d = behind_or d
continues p.OrOperand d = behind_and d
continues p.AndOperand d = behind_equality d
continues p.EqualityOperand d = behind_comparison d
continues p.ComparisonOperand d = behind_shift d
continues p.ShiftOperand d = behind_sum d
continues p.SumOperand d = behind_product d
continues p.ProductOperand d = behind_power d
continues p.PowerOperand d = behind_power d
continues p.NotOperand d = behind_value d
continues (p.CommandArguments blocks) d = behind_arguments d or begins_command
continues (p.Arguments blocks) d = behind_arguments d
continues (p.MorePairs blocks) d = behind_arguments d
continues (p.MoreTargets starred) d = behind_command true
continues (p.Parameters stage brackets) d = behind_parameters

-- A comma goes on behind a command alone.
abbrev pub value_goes_on : ℕ → ℕ → Bool
value_goes_on n t = nat_eq n commanded || not (op mark.Comma t)

abbrev pub goes_on_of : (k : Production) → Bool → El Seen Node (sort_of k) → ℕ → Bool
goes_on_of p.OneValue d x t = continues p.OneValue d t && value_goes_on x.1 t
goes_on_of p.NestedValue d x t = continues p.NestedValue d t && value_goes_on x.1 t
goes_on_of k d x t = continues k d t

abbrev pub is_nullable : Production → Bool
is_nullable p.Statements = true
is_nullable p.Otherwise = true
is_nullable _ = false

abbrev pub production : (k : Part) → R (sorts k)
production k = rule_of k.production k.takes_do k.in_rescue

abbrev pub goes_on : (k : Part) → El Seen Node (sorts k) → ℕ → Bool
goes_on k = goes_on_of k.production k.takes_do

unfoldable pub table : Grammar Seen Node Part sorts
table = record {
  code = λ t. code_of t.sign;
  size = size;
  depth = depth_of;
  production = production;
  name_nullable = λ k. is_nullable k.production;
  name_first = λ k. begins k.production;
  name_continues = λ k. continues k.production k.takes_do;
  name_goes_on = goes_on;
}
