-- Brackets and blocks of calls.
use Rattle.std.specs.Prelude.{ℕ, Bool, true, false, Some, None, is_some}
use Rattle.grammar.specs.Rules.{Sort, leaf, tree, marked, pair, optional, token, absent, sequence, choice, view, node, bind, named}
use Rattle.grammar.specs.CommonRules.{◌or◌, behind, before, maybe}
use Rattle.ruby_meaning.specs.declared.production.Production.TheVariants as p
use Rattle.ruby_meaning.specs.declared.production.Sign.TheVariants as sign
use Rattle.ruby_meaning.specs.declared.token.Mark.TheVariants as mark
use Rattle.ruby_meaning.specs.declared.token.Word.TheVariants as word
use Rattle.ruby_meaning.specs.declared.tree.Kind.TheVariants as kind
use Rattle.ruby_meaning.specs.declared.tree.Node.{Node}
use Rattle.ruby_meaning.specs.Grammar.Seen.{Seen}
use Rattle.ruby_meaning.specs.Grammar.Classes.{a, op, key}
use Rattle.ruby_meaning.specs.Grammar.Names.{args_sort, params_sort, R, part}
use Rattle.ruby_meaning.specs.Grammar.Actions.{make, start, tokens, filled, no_args, no_parameters, params_of, block_pass, Parameters}
use Rattle.ruby_meaning.specs.Grammar.Parameters.{behind_newlines, some_parameters}

-- a block: its opening token, parameters, statements and closing token
abbrev pub block_sort : Sort
block_sort = pair leaf (pair params_sort (pair (marked tree) leaf))

abbrev pub block_node : Seen × (Parameters × ((Node × ℕ) × Seen)) → Node
block_node x = make (kind.Block (params_of (x.1.0)) (filled (tokens x.0 (x.1.1.1)) (x.1.1.0))) (tokens x.0 (x.1.1.1)) (start x.0)

-- the arguments in brackets with the closing one, and a block
abbrev pub tail_sort : Sort
tail_sort = pair (optional (pair args_sort leaf)) (optional tree)

module _ (in_rescue : Bool) where
  -- [arguments] and the closing bracket
  unfoldable pub closed : Bool → (ℕ → Bool) → R (pair args_sort leaf)
  closed blocks close = sequence (choice (named (part (p.Arguments blocks) true in_rescue)) (absent no_args)) (behind_newlines (token close))

  -- paren : "(" [cargs] ")", directly behind a name
  unfoldable pub paren : Bool → R (pair args_sort leaf)
  paren blocks = behind (a sign.CallOpen)
      (sequence (choice (named (part (p.CommandArguments blocks) true in_rescue)) (absent no_args)) (behind_newlines (token (op mark.ParenClose))))

  -- ["|" [params] "|"]
  unfoldable pub block_parameters : R params_sort
  block_parameters = choice (behind (op mark.Pipe) (before (some_parameters in_rescue true) (op mark.Pipe))) (absent no_parameters)

  -- block : ("{" | "do") ["|" [params] "|"] stmts ("}" | "end"), as parts
  unfoldable pub brace_parts : R block_sort
  brace_parts = sequence (token (op mark.BraceOpen)) (sequence block_parameters (sequence (named (part p.Statements true in_rescue)) (token (op mark.BraceClose))))

  unfoldable pub do_parts : R block_sort
  do_parts = sequence (token (key word.Do)) (sequence block_parameters (sequence (named (part p.Statements true in_rescue)) (token (key word.End))))

  -- block
  unfoldable pub brace_block : R tree
  brace_block = node {s = block_sort} block_node brace_parts

  unfoldable pub do_block : R tree
  do_block = node {s = block_sort} block_node do_parts

  unfoldable pub block : Bool → R tree
  block true = choice brace_block do_block
  block false = brace_block

  abbrev pub begins_block : Bool → ℕ → Bool
  begins_block true = op mark.BraceOpen or key word.Do
  begins_block false = op mark.BraceOpen

  -- no block stands beside a block pass
  abbrev pub block_beside : Bool → Bool → R (optional tree)
  block_beside takes_do true = absent None
  block_beside takes_do false = maybe (block takes_do)

  -- [paren] [block]
  unfoldable pub tail : Bool → R tail_sort
  tail takes_do = bind {s = optional (pair args_sort leaf)} (maybe (paren true)) true (begins_block takes_do) (begins_block takes_do) (λ x. block_beside takes_do (is_some (block_pass x)))

  -- paren [block]
  unfoldable pub paren_tail : Bool → R tail_sort
  paren_tail takes_do = bind {s = optional (pair args_sort leaf)} (view {s = pair args_sort leaf} (λ x. Some x) (paren true)) true (begins_block takes_do) (begins_block takes_do) (λ x. block_beside takes_do (is_some (block_pass x)))
