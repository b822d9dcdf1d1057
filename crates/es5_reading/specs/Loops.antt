-- What stands behind an operand, as the parser's loops read it.
use Rattle.std.specs.Prelude.{ℕ, Bool, ◌&&◌, Option, List, Result, nat_le, zero, suc, [], ◌∷◌, ◌++◌, if◌then◌else◌, Ok}
use Rattle.grammar.specs.Rules.{deep, leaf, tree, pair, marked, choice, view, named}
use Rattle.grammar.specs.CommonRules.{behind}
use Rattle.grammar.specs.FormReaders.{read_many_from, read_more_suffixes, read_one_suffix, next_in, and_then, read_token}
use Rattle.grammar.specs.Spelling.{token_in}
use Rattle.grammar.specs.Readers.{read_named, read_rule}
use Rattle.grammar.specs.Checks.{first}
use Rattle.es5_tree.specs.declared.token.EsToken.{EsToken}
use Rattle.es5_tree.specs.Grammar.Nodes.{Node, depth, accessed, binary, conjunction, disjunction, conditional, assigned, is_target}
use Rattle.es5_tree.specs.declared.terminal.Level.TheVariants as level
use Rattle.es5_tree.specs.declared.token.EsMark.TheVariants as mark
use Rattle.es5_tree.specs.Grammar.Names.{R, expr_sort, expr, statement}
use Rattle.es5_tree.specs.Grammar.Terminals.{op, token_code}
use Rattle.es5_tree.specs.Grammar.Expressions.{product_part, sum_part, relation_part, equality_part, and_part, or_part, choices, assigned_part, access_part}
use Rattle.es5_tree.specs.Grammar.Statements.{branches, or_jump, variable_statement, empty_statement, expression_statement, throw_statement, block_statement, if_statement, while_statement, try_statement}
use Rattle.es5_tree.specs.Grammar.Table.{table, begins_expression}
use Rattle.es5_reading.specs.declared.parts.Binary.{Binary}
use Rattle.es5_reading.specs.declared.parts.Binary.TheVariants as of_two
use Rattle.es5_reading.specs.declared.parts.Logical.{Logical}
use Rattle.es5_reading.specs.declared.parts.Logical.TheVariants as logical

abbrev pub Outcome : Type 0 → Type 0
Outcome A = Result (A × List EsToken) (List EsToken)

-- it has no more levels than that
abbrev pub fits : ℕ → EsToken × Node → Bool
fits b l = nat_le (deep EsToken depth expr_sort l) b

-- ---- binary operators

abbrev pub binary_part : Binary → R (pair leaf tree)
binary_part of_two.Product = product_part
binary_part of_two.Sum = sum_part
binary_part of_two.Relation = relation_part
binary_part of_two.Equality = equality_part

abbrev pub binaries : Binary → ℕ → ℕ → EsToken × Node → List EsToken → Outcome (EsToken × Node)
binaries which n b l ts = read_more_suffixes (λ t. first table (binary_part which) (table.code t)) (fits b) binary (read_rule table (read_named table) (binary_part which) b) n l ts

abbrev pub logical_part : Logical → R tree
logical_part logical.And = and_part
logical_part logical.Or = or_part

abbrev pub joined : Logical → EsToken × Node → Node → EsToken × Node
joined logical.And = conjunction
joined logical.Or = disjunction

abbrev pub logicals : Logical → ℕ → ℕ → EsToken × Node → List EsToken → Outcome (EsToken × Node)
logicals which n b l ts = read_more_suffixes (λ t. first table (logical_part which) (table.code t)) (fits b) (joined which) (read_rule table (read_named table) (logical_part which) b) n l ts

-- ---- the conditional operator and assignments

abbrev pub conditional_behind : ℕ → EsToken × Node → List EsToken → Outcome (EsToken × Node)
conditional_behind b l ts = read_one_suffix (λ t. first table choices (table.code t)) (fits b) conditional (read_rule table (read_named table) choices b) l ts

abbrev pub target_fits : ℕ → EsToken × Node → Bool
target_fits b l = is_target l.1 && fits b l

abbrev pub assigned_behind : ℕ → EsToken × Node → List EsToken → Outcome (EsToken × Node)
assigned_behind b l ts = read_one_suffix (λ t. first table assigned_part (table.code t)) (target_fits b) assigned (read_rule table (read_named table) assigned_part b) l ts

-- ---- members, indices and calls

abbrev pub accesses : ℕ → ℕ → EsToken × Node → List EsToken → Outcome (EsToken × Node)
accesses n b l ts = read_more_suffixes (λ t. first table access_part (table.code t)) (fits b) accessed (read_rule table (read_named table) access_part b) n l ts

-- an argument behind others
abbrev pub next_argument : R tree
next_argument = behind (op mark.Comma) (named (expr level.Assignment))

abbrev pub more_arguments : ℕ → ℕ → List Node → List EsToken → Outcome (List Node)
more_arguments n b found ts = read_many_from (λ t. first table next_argument (table.code t)) (read_rule table (read_named table) next_argument b) n found ts

-- ---- statements

abbrev pub one_statement : Bool → Bool → R tree
one_statement f l = view {s = marked tree} (λ x. x.0) (named (statement f l))

abbrev pub more_statements : Bool → Bool → ℕ → ℕ → List Node → List EsToken → Outcome (List Node)
more_statements f l n b found ts = read_many_from (λ t. first table (one_statement f l) (table.code t)) (read_rule table (read_named table) (one_statement f l) b) n found ts

-- a test, a statement and maybe another have no more levels than that
abbrev pub branches_fit : ℕ → (Node × (Node × ℕ)) × Option (Node × ℕ) → Bool
branches_fit b x = nat_le (deep EsToken depth branches x) b

-- a statement that is no jump
abbrev pub plain_statement : Bool → Bool → R (marked tree)
plain_statement f l = choice (block_statement f l) (choice variable_statement (choice empty_statement (choice (if_statement f l) (choice (while_statement f l) (choice throw_statement (choice (try_statement f l) expression_statement))))))

abbrev pub statement_or_jump : Bool → Bool → R (marked tree)
statement_or_jump f l = or_jump l (plain_statement f l)

-- ---- items of an array, behind those found

unfoldable pub items_from : ℕ → ℕ → List Node → List EsToken → Outcome (List Node)
items_from zero b found ts = Ok (found, ts)
items_from (suc n) b found ts =
    if next_in (λ t. begins_expression (token_code t)) ts
    then and_then (read_named table b (expr level.Assignment) ts) (λ e rest.
    if next_in (λ t. op mark.Comma (token_code t)) rest
    then and_then (read_token (token_in token_code (op mark.Comma)) rest) (λ c after. items_from n b (found ++ e ∷ []) after)
    else Ok (found ++ e ∷ [], rest))
    else Ok (found, ts)
