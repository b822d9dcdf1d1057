-- The grammar: each production, and the terminals that begin it and that can go on behind it.
use Rattle.std.specs.Prelude.{ℕ, Bool, true, false, ◌&&◌, ◌||◌, nat_eq}
use Rattle.grammar.specs.Rules.{El, leaf, tree, pair, view, Grammar}
use Rattle.grammar.specs.CommonRules.{◌or◌}
use Rattle.es5_tree.specs.declared.terminal.Keyword.TheVariants as keyword
use Rattle.es5_tree.specs.declared.terminal.Level.{Level}
use Rattle.es5_tree.specs.declared.terminal.Level.TheVariants as level
use Rattle.es5_tree.specs.declared.terminal.Terminal.TheVariants as terminal
use Rattle.es5_tree.specs.declared.token.EsMark.TheVariants as mark
use Rattle.es5_tree.specs.declared.token.EsToken.{EsToken}
use Rattle.es5_tree.specs.Grammar.Terminals.{size, token_code, a, op, key, identifier}
use Rattle.es5_tree.specs.Grammar.Nodes.{Node, depth}
use Rattle.es5_tree.specs.Grammar.Names.{Name, script, statement, expr, items, pairs, params, sorts, R, expr_sort}
use Rattle.es5_tree.specs.Grammar.Expressions.{behind_call, behind_product, behind_sum, behind_relation, behind_equality, behind_and, behind_expression, behind_pairs, more_items, pair_list, param_list, call_level, unary_level, product_level, sum_level, relation_level, equality_level, and_level, assignment_level}
use Rattle.es5_tree.specs.Grammar.Statements.{any_statement, whole_script}

-- an expression without its first token
abbrev pub value_of : R expr_sort → R tree
value_of r = view {s = pair leaf tree} (λ x. x.1) r

abbrev pub level_rule : Level → R expr_sort
level_rule level.Assignment = assignment_level
level_rule level.And = and_level
level_rule level.Equality = equality_level
level_rule level.Relational = relation_level
level_rule level.Additive = sum_level
level_rule level.Multiplicative = product_level
level_rule level.Unary = unary_level
level_rule level.Call = call_level

abbrev pub production : (k : Name) → R (sorts k)
production script = whole_script
production (statement in_function in_loop) = any_statement in_function in_loop
production (expr l) = value_of (level_rule l)
production items = more_items
production (pairs seen) = pair_list seen
production (params seen) = param_list seen

-- ---- what begins a production

abbrev pub begins_primary : ℕ → Bool
begins_primary = identifier or a terminal.Num or a terminal.Str or key keyword.This or key keyword.Null or key keyword.True or key keyword.False
    or op mark.OpenParen or op mark.OpenBracket or op mark.OpenBrace or key keyword.Function

abbrev pub begins_expression : ℕ → Bool
begins_expression = begins_primary
    or op mark.Not or op mark.Minus or key keyword.Typeof or key keyword.Delete

abbrev pub begins_statement : ℕ → Bool
begins_statement = begins_expression or key keyword.Var or op mark.Semicolon or key keyword.If or key keyword.While or key keyword.Throw or key keyword.Try
    or key keyword.Return or key keyword.Break or key keyword.Continue

abbrev pub begins : Name → ℕ → Bool
begins script = a terminal.Str
begins (statement in_function in_loop) = begins_statement
begins (expr level.Call) = begins_primary
begins (expr l) = begins_expression
begins items = op mark.Comma
begins (pairs seen) = identifier
begins (params seen) = a terminal.Name

-- ---- what can go on behind a whole one

abbrev pub behind_level : Level → ℕ → Bool
behind_level level.Assignment = behind_expression
behind_level level.And = behind_and
behind_level level.Equality = behind_equality
behind_level level.Relational = behind_relation
behind_level level.Additive = behind_sum
behind_level level.Multiplicative = behind_product
behind_level level.Unary = behind_call
behind_level level.Call = behind_call

abbrev pub behind_statement : ℕ → Bool
behind_statement = key keyword.Else or key keyword.Finally

abbrev pub continues : Name → ℕ → Bool
continues script = begins_statement or behind_statement
continues (statement in_function in_loop) = behind_statement
continues (expr l) = behind_level l
-- a comma may end the items, so that one may still begin behind it
continues items = behind_expression or op mark.Comma or begins_expression
continues (pairs seen) = behind_pairs
continues (params seen) = op mark.Comma

-- an `else` goes on with a statement that has the number 1
abbrev pub statement_goes_on : ℕ → ℕ → Bool
statement_goes_on m n = key keyword.Finally n || (key keyword.Else n && nat_eq 1 m)

abbrev pub goes_on : (k : Name) → El EsToken Node (sorts k) → ℕ → Bool
goes_on (statement in_function in_loop) x n = statement_goes_on (x.1) n
goes_on script x n = continues script n
goes_on (expr l) x n = continues (expr l) n
goes_on items x n = continues items n
goes_on (pairs seen) x n = continues (pairs seen) n
goes_on (params seen) x n = continues (params seen) n

abbrev pub is_nullable : Name → Bool
is_nullable items = true
is_nullable _ = false

unfoldable pub table : Grammar EsToken Node Name sorts
table = record { code = token_code; size = size; depth = depth; production = production; name_nullable = is_nullable; name_first = begins; name_continues = continues; name_goes_on = goes_on }
