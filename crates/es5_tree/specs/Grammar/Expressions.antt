-- Expressions (ECMA-262 5.1, section 11), from the tightest level on.
use Rattle.std.specs.Prelude.{ℕ, Bool, true, false, List, [], ◌∷◌}
use Rattle.grammar.specs.Rules.{leaf, tree, marked, pair, list, optional, flag, token, token_where, absent, sequence, choice, view, node, many, suffixes, suffix, bind, named}
use Rattle.grammar.specs.CommonRules.{◌or◌, behind, before, between, maybe, separated}
use Rattle.es5_tree.specs.declared.terminal.Keyword.TheVariants as keyword
use Rattle.es5_tree.specs.declared.terminal.Level.TheVariants as level
use Rattle.es5_tree.specs.declared.terminal.Terminal.TheVariants as terminal
use Rattle.es5_tree.specs.declared.token.EsMark.TheVariants as mark
use Rattle.es5_tree.specs.declared.tree.EsKind.TheVariants as kind
use Rattle.es5_tree.specs.Grammar.Terminals.{a, op, key, identifier}
use Rattle.es5_tree.specs.Grammar.Nodes.{made, expr_of, exprs, name_of, is_new, token_kind, object, function, is_member, is_target, by_name, by_key, by_arguments, accessed, negated, binary, conjunction, disjunction, conditional as conditional_node, assigned}
use Rattle.es5_tree.specs.Grammar.Names.{statement, expr, items, pairs, params, R, expr_sort}

-- ---- primary expressions (11.1)

-- an identifier, `this`, a literal
unfoldable pub simple : R expr_sort
simple = node {s = leaf} (λ t. (t, made t (token_kind t.kind)))
    (token (identifier or a terminal.Num or a terminal.Str or key keyword.This or key keyword.Null or key keyword.True or key keyword.False))

-- "(" expression ")": brackets make no node (11.1.6)
unfoldable pub parenthesized : R expr_sort
parenthesized = view {s = pair leaf (pair tree leaf)} (λ x. (x.0, x.1.0)) (sequence (token (op mark.OpenParen)) (sequence (named (expr level.Assignment)) (token (op mark.CloseParen))))

-- [expression ["," [..]]]       a comma may end them, and there is no elision (11.1.4)
unfoldable pub item_list : R (list tree)
item_list = choice (view {s = pair tree (list tree)} (λ x. x.0 ∷ x.1) (sequence (named (expr level.Assignment)) (named items))) (absent [])

-- items behind an item
unfoldable pub more_items : R (list tree)
more_items = choice (behind (op mark.Comma) item_list) (absent [])

-- "[" items "]"
unfoldable pub array : R expr_sort
array = node {s = pair leaf (list tree)} (λ x. (x.0, made x.0 (kind.Array (exprs x.1)))) (sequence (token (op mark.OpenBracket)) (before item_list (op mark.CloseBracket)))

unfoldable pub more_pairs : List (List ℕ) → R (list (pair leaf tree))
more_pairs seen = choice (behind (op mark.Comma) (choice (named (pairs seen)) (absent []))) (absent [])

-- the value of a pair and the pairs behind it
unfoldable pub value_and_more : List (List ℕ) → R (pair tree (list (pair leaf tree)))
value_and_more seen = behind (op mark.Colon) (sequence (named (expr level.Assignment)) (more_pairs seen))

-- what goes on behind an expression, and behind the pairs
abbrev pub behind_call : ℕ → Bool
behind_call = op mark.Dot or op mark.OpenBracket or op mark.OpenParen

abbrev pub behind_product : ℕ → Bool
behind_product = behind_call or op mark.Times or op mark.Divide or op mark.Remainder

abbrev pub behind_sum : ℕ → Bool
behind_sum = behind_product or op mark.Plus or op mark.Minus

abbrev pub behind_relation : ℕ → Bool
behind_relation = behind_sum or op mark.Less or op mark.Greater or op mark.LessOrEqual or op mark.GreaterOrEqual

abbrev pub behind_equality : ℕ → Bool
behind_equality = behind_relation or op mark.Same or op mark.Different

abbrev pub behind_and : ℕ → Bool
behind_and = behind_equality or op mark.And

abbrev pub behind_expression : ℕ → Bool
behind_expression = behind_and or op mark.Or or op mark.Question or op mark.Assign

abbrev pub behind_pairs : ℕ → Bool
behind_pairs = behind_expression or op mark.Comma or identifier

-- pairs : identifier ":" expression ["," [pairs]]       no key twice (11.1.5)
unfoldable pub pair_list : List (List ℕ) → R (list (pair leaf tree))
pair_list seen = view {s = pair leaf (pair tree (list (pair leaf tree)))} (λ x. (x.0, x.1.0) ∷ x.1.1)
    (bind {s = leaf} (token_where identifier (is_new seen)) false (op mark.Colon) behind_pairs (λ t. value_and_more (name_of t ∷ seen)))

-- "{" [pairs] "}"
unfoldable pub object_literal : R expr_sort
object_literal = node {s = pair leaf (list (pair leaf tree))} (λ x. (x.0, made x.0 (object x.1)))
    (sequence (token (op mark.OpenBrace)) (before (choice (named (pairs [])) (absent [])) (op mark.CloseBrace)))

unfoldable pub more_params : List (List ℕ) → R (list leaf)
more_params seen = choice (behind (op mark.Comma) (named (params seen))) (absent [])

-- params : name ("," name)*       none twice (13.1)
unfoldable pub param_list : List (List ℕ) → R (list leaf)
param_list seen = view {s = pair leaf (list leaf)} (λ x. x.0 ∷ x.1)
    (bind {s = leaf} (token_where (a terminal.Name) (is_new seen)) true (op mark.Comma) (op mark.Comma) (λ t. more_params (name_of t ∷ seen)))

-- "(" [params] ")"
unfoldable pub parameters : R (list leaf)
parameters = between (op mark.OpenParen) (choice (named (params [])) (absent [])) (op mark.CloseParen)

-- statement*
unfoldable pub statement_list : Bool → Bool → R (list tree)
statement_list in_function in_loop = many (view {s = marked tree} (λ x. x.0) (named (statement in_function in_loop)))

-- block : "{" statement* "}" (12.1)
unfoldable pub block : Bool → Bool → R (list tree)
block in_function in_loop = between (op mark.OpenBrace) (statement_list in_function in_loop) (op mark.CloseBrace)

-- "function" [name] "(" [params] ")" block       a loop around it is none of its own (13)
unfoldable pub function_expression : R expr_sort
function_expression = node {s = pair leaf (pair (optional leaf) (pair (list leaf) (list tree)))} (λ x. (x.0, made x.0 (function (x.1.0) (x.1.1.0) (x.1.1.1))))
    (sequence (token (key keyword.Function)) (sequence (maybe (token (a terminal.Name))) (sequence parameters (block true false))))

unfoldable pub primary : R expr_sort
primary = choice simple (choice parenthesized (choice array (choice object_literal function_expression)))

-- ---- members, indices and calls (11.2)

-- "." identifier
unfoldable pub member_part : R (marked (pair leaf (list tree)))
member_part = view {s = leaf} (λ t. ((t, []), by_name)) (behind (op mark.Dot) (token identifier))

-- "[" expression "]"
unfoldable pub index_part : R (marked (pair leaf (list tree)))
index_part = view {s = pair leaf tree} (λ x. ((x.0, x.1 ∷ []), by_key)) (sequence (token (op mark.OpenBracket)) (before (named (expr level.Assignment)) (op mark.CloseBracket)))

-- "(" [expression ("," expression)*] ")"
unfoldable pub arguments : R (list tree)
arguments = choice (separated (named (expr level.Assignment)) (op mark.Comma)) (absent [])

unfoldable pub call_part : R (marked (pair leaf (list tree)))
call_part = view {s = pair leaf (list tree)} (λ x. (x, by_arguments)) (sequence (token (op mark.OpenParen)) (before arguments (op mark.CloseParen)))

unfoldable pub access_part : R (marked (pair leaf (list tree)))
access_part = choice member_part (choice index_part call_part)

unfoldable pub call_level : R expr_sort
call_level = suffixes 1 primary access_part accessed

-- ---- unary operators (11.4)

-- nothing, where it may end there, and else no token does
abbrev pub ends_where : Bool → R flag
ends_where true = absent 0
ends_where false = view {s = leaf} (λ t. 0) (token (λ n. false))

-- "delete", and a member or an index (11.4.1)
unfoldable pub deletion : R expr_sort
deletion = node {s = pair leaf (pair tree flag)} (λ x. (x.0, made x.0 (kind.Delete (expr_of (x.1.0)))))
    (sequence (token (key keyword.Delete)) (bind {s = tree} (named (expr level.Call)) true (λ n. false) (λ n. false) (λ e. ends_where (is_member e))))

-- ("!" | "-" | "typeof") unary
unfoldable pub operation : R expr_sort
operation = node {s = pair leaf tree} negated (sequence (token (op mark.Not or op mark.Minus or key keyword.Typeof)) (named (expr level.Unary)))

unfoldable pub unary_level : R expr_sort
unary_level = choice operation (choice deletion call_level)

-- ---- binary operators (11.5 to 11.11)

unfoldable pub product_part : R (pair leaf tree)
product_part = sequence (token (op mark.Times or op mark.Divide or op mark.Remainder)) (named (expr level.Unary))

unfoldable pub product_level : R expr_sort
product_level = suffixes 1 unary_level product_part binary

unfoldable pub sum_part : R (pair leaf tree)
sum_part = sequence (token (op mark.Plus or op mark.Minus)) (named (expr level.Multiplicative))

unfoldable pub sum_level : R expr_sort
sum_level = suffixes 1 product_level sum_part binary

unfoldable pub relation_part : R (pair leaf tree)
relation_part = sequence (token (op mark.Less or op mark.Greater or op mark.LessOrEqual or op mark.GreaterOrEqual)) (named (expr level.Additive))

unfoldable pub relation_level : R expr_sort
relation_level = suffixes 1 sum_level relation_part binary

unfoldable pub equality_part : R (pair leaf tree)
equality_part = sequence (token (op mark.Same or op mark.Different)) (named (expr level.Relational))

unfoldable pub equality_level : R expr_sort
equality_level = suffixes 1 relation_level equality_part binary

unfoldable pub and_part : R tree
and_part = behind (op mark.And) (named (expr level.Equality))

unfoldable pub and_level : R expr_sort
and_level = suffixes 1 equality_level and_part conjunction

unfoldable pub or_part : R tree
or_part = behind (op mark.Or) (named (expr level.And))

unfoldable pub or_level : R expr_sort
or_level = suffixes 1 and_level or_part disjunction

-- ---- the conditional operator (11.12) and assignments (11.13)

-- "?" expression ":" expression
unfoldable pub choices : R (pair tree tree)
choices = behind (op mark.Question) (sequence (named (expr level.Assignment)) (behind (op mark.Colon) (named (expr level.Assignment))))

unfoldable pub conditional_level : R expr_sort
conditional_level = suffix 1 or_level (λ l. true) choices conditional_node

unfoldable pub assigned_part : R tree
assigned_part = behind (op mark.Assign) (named (expr level.Assignment))

-- [target "="] expression       to a name but `arguments`, a member or an index
unfoldable pub assignment_level : R expr_sort
assignment_level = suffix 1 conditional_level (λ l. is_target l.1) assigned_part assigned
