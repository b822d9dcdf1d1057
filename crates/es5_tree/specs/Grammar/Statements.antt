-- Statements and scripts (ECMA-262 5.1, sections 12 and 14).
use Rattle.std.specs.Prelude.{ℕ, Bool, true, false, not, Some, None}
use Rattle.grammar.specs.Rules.{Sort, leaf, tree, marked, pair, list, optional, token, token_where, sequence, choice, view, node, suffix, starting, named}
use Rattle.grammar.specs.CommonRules.{◌or◌, behind, before, between, maybe}
use Rattle.es5_tree.specs.declared.terminal.Keyword.TheVariants as keyword
use Rattle.es5_tree.specs.declared.terminal.Level.TheVariants as level
use Rattle.es5_tree.specs.declared.terminal.Terminal.TheVariants as terminal
use Rattle.es5_tree.specs.declared.token.EsMark.TheVariants as mark
use Rattle.es5_tree.specs.declared.tree.EsStmt.TheVariants as stmt
use Rattle.es5_tree.specs.Grammar.Terminals.{a, op, key}
use Rattle.es5_tree.specs.Lexed.{is_directive}
use Rattle.es5_tree.specs.Grammar.Nodes.{expr_of, expr_if, stmts, name_of, closed, takes_else, branched, looped, tried}
use Rattle.es5_tree.specs.Grammar.Names.{statement, expr, R}
use Rattle.es5_tree.specs.Grammar.Expressions.{statement_list, block}

-- `expression ;` behind a keyword and the like
unfoldable pub ended : R tree
ended = before (named (expr level.Assignment)) (op mark.Semicolon)

-- "var" name ["=" expression] ";"       one name (12.2)
unfoldable pub variable_statement : R (marked tree)
variable_statement = node {s = pair leaf (optional tree)} (λ x. closed (stmt.Var (name_of x.0) (expr_if x.1)))
    (behind (key keyword.Var) (sequence (token (a terminal.Name)) (before (maybe (behind (op mark.Assign) (named (expr level.Assignment)))) (op mark.Semicolon))))

-- ";" (12.3)
unfoldable pub empty_statement : R (marked tree)
empty_statement = node {s = leaf} (λ t. closed stmt.Empty) (token (op mark.Semicolon))

-- begins with neither `{` nor `function` (12.4)
abbrev pub begins_no_other : ℕ → Bool
begins_no_other n = not ((op mark.OpenBrace or key keyword.Function) n)

-- expression ";"
unfoldable pub expression_statement : R (marked tree)
expression_statement = node {s = tree} (λ e. closed (stmt.Expr (expr_of e))) (starting begins_no_other ended)

-- "(" expression ")"
unfoldable pub condition : R tree
condition = between (op mark.OpenParen) (named (expr level.Assignment)) (op mark.CloseParen)

-- "return" [expression] ";" (12.9)
unfoldable pub return_statement : R (marked tree)
return_statement = node {s = optional tree} (λ x. closed (stmt.Return (expr_if x))) (behind (key keyword.Return) (before (maybe (named (expr level.Assignment))) (op mark.Semicolon)))

-- "throw" expression ";" (12.13)
unfoldable pub throw_statement : R (marked tree)
throw_statement = node {s = tree} (λ e. closed (stmt.Throw (expr_of e))) (behind (key keyword.Throw) ended)

-- "break" ";" (12.8)
unfoldable pub break_statement : R (marked tree)
break_statement = node {s = leaf} (λ t. closed stmt.Break) (before (token (key keyword.Break)) (op mark.Semicolon))

-- "continue" ";" (12.7)
unfoldable pub continue_statement : R (marked tree)
continue_statement = node {s = leaf} (λ t. closed stmt.Continue) (before (token (key keyword.Continue)) (op mark.Semicolon))

-- they end a loop or its turn
abbrev pub or_jump : Bool → R (marked tree) → R (marked tree)
or_jump true r = choice break_statement (choice continue_statement r)
or_jump false r = r

abbrev pub or_return : Bool → R (marked tree) → R (marked tree)
or_return true r = choice return_statement r
or_return false r = r

-- the parts of an `if`, and what stands behind the block of a `try`
abbrev pub branches : Sort
branches = pair (pair tree (marked tree)) (optional (marked tree))

abbrev pub handlers_sort : Sort
handlers_sort = pair (optional (pair leaf (list tree))) (optional (list tree))

module _ (in_function in_loop : Bool) where
  -- block (12.1)
  unfoldable pub block_statement : R (marked tree)
  block_statement = node {s = list tree} (λ xs. closed (stmt.Block (stmts xs))) (block in_function in_loop)

  -- "if" "(" expression ")" statement ["else" statement]       an `else` belongs to the nearest `if` that takes one (12.5)
  unfoldable pub first_branch : R branches
  first_branch = view {s = pair tree (marked tree)} (λ x. (x, None)) (behind (key keyword.If) (sequence condition (named (statement in_function in_loop))))

  unfoldable pub both_branches : R branches
  both_branches = suffix {r = marked tree} 0 first_branch takes_else (behind (key keyword.Else) (named (statement in_function in_loop))) (λ x y. (x.0, Some y))

  unfoldable pub if_statement : R (marked tree)
  if_statement = node {s = branches} branched both_branches

  -- "while" "(" expression ")" statement (12.6.2)
  unfoldable pub while_statement : R (marked tree)
  while_statement = node {s = pair tree (marked tree)} looped (behind (key keyword.While) (sequence condition (named (statement in_function true))))

  -- "catch" "(" name ")" block
  unfoldable pub catch_part : R (pair leaf (list tree))
  catch_part = behind (key keyword.Catch) (sequence (between (op mark.OpenParen) (token (a terminal.Name)) (op mark.CloseParen)) (block in_function in_loop))

  -- "finally" block
  unfoldable pub finally_part : R (list tree)
  finally_part = behind (key keyword.Finally) (block in_function in_loop)

  -- one of the two or both
  unfoldable pub handlers : R handlers_sort
  handlers = choice (sequence (view {s = pair leaf (list tree)} (λ x. Some x) catch_part) (maybe finally_part)) (view {s = list tree} (λ x. (None, Some x)) finally_part)

  -- "try" block handlers (12.14)
  unfoldable pub try_statement : R (marked tree)
  try_statement = node {s = pair (list tree) handlers_sort} (λ x. closed (tried x)) (behind (key keyword.Try) (sequence (block in_function in_loop) handlers))

  unfoldable pub any_statement : R (marked tree)
  any_statement = or_return in_function (or_jump in_loop
      (choice block_statement (choice variable_statement (choice empty_statement (choice if_statement (choice while_statement (choice throw_statement (choice try_statement expression_statement))))))))

-- script : directive ";" statement*       the directive is `"use strict"` or `'use strict'` as it stands (14, 14.1)
unfoldable pub whole_script : R (list tree)
whole_script = view {s = pair leaf (list tree)} (λ x. x.1) (sequence (token_where (a terminal.Str) is_directive) (behind (op mark.Semicolon) (statement_list false false)))
