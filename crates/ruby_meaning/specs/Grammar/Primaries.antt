-- What a value begins with, and what stands behind it.
use Rattle.std.specs.Prelude.{ℕ, Bool, true, false, [], map, Some, None, is_some}
use Rattle.grammar.specs.Rules.{Sort, leaf, tree, marked, pair, list, optional, token, absent, sequence, choice, view, node, many, suffixes, bind, needs, named}
use Rattle.grammar.specs.CommonRules.{◌or◌, behind, maybe, separated}
use Rattle.ruby_meaning.specs.declared.production.Production.TheVariants as p
use Rattle.ruby_meaning.specs.declared.production.Sign.TheVariants as sign
use Rattle.ruby_meaning.specs.declared.token.Mark.TheVariants as mark
use Rattle.ruby_meaning.specs.declared.token.Word.{Word}
use Rattle.ruby_meaning.specs.declared.token.Word.TheVariants as word
use Rattle.ruby_meaning.specs.declared.tree.Base.TheVariants as base
use Rattle.ruby_meaning.specs.declared.tree.Kind.{Kind}
use Rattle.ruby_meaning.specs.declared.tree.Kind.TheVariants as kind
use Rattle.ruby_meaning.specs.declared.tree.Literal.TheVariants as literal
use Rattle.ruby_meaning.specs.Grammar.Classes.{a, op, marked_op, key}
use Rattle.ruby_meaning.specs.Grammar.Names.{args_sort, params_sort, R, part}
use Rattle.ruby_meaning.specs.Grammar.Actions.{make, start, span_of, tokens, filled, units, integer, other, variable, items_of, no_args, no_parameters, named_node, is_lambda, lambda_of, constant_node, super_node, yield_node, by_selector, constant_part, index_part, call_part, with_part, replaced}
use Rattle.ruby_meaning.specs.Grammar.Definitions.{operator_names, keyword_form}
use Rattle.ruby_meaning.specs.Grammar.Parameters.{behind_newlines, some_parameters}
use Rattle.ruby_meaning.specs.Grammar.Calls.{closed, paren, block_sort, brace_parts, do_parts, begins_block, block_beside, tail_sort, tail, paren_tail}
use Rattle.ruby_meaning.specs.Grammar.Seen.{Seen}

-- ---- literals and variables

unfoldable pub keyword_value : Word → Kind → R (marked tree)
keyword_value w k = node {s = leaf} (λ t. (make k (span_of t) (start t), other)) (token (key w))

-- "nil" | "true" | "false" | "self" | "retry"
unfoldable pub word_value : R (marked tree)
word_value = choice (keyword_value word.Nil (kind.Lit literal.Nil)) (choice (keyword_value word.True (kind.Lit literal.True))
    (choice (keyword_value word.False (kind.Lit literal.False)) (choice (keyword_value word.Self_ kind.SelfRef) (keyword_value word.Retry kind.Retry))))

unfoldable pub integer_value : R (marked tree)
integer_value = node {s = leaf} (λ t. (make (kind.Int (integer t)) (span_of t) (start t), other)) (token (a sign.Int))

unfoldable pub text : R tree
text = node {s = leaf} (λ t. make (kind.Str (units t)) (span_of t) (start t)) (token (a sign.Text))

unfoldable pub ivar_value : R (marked tree)
ivar_value = node {s = leaf} (λ t. (make (kind.IvarGet (units t)) (span_of t) (start t), variable)) (token (a sign.Ivar))

unfoldable pub gvar_value : R (marked tree)
gvar_value = node {s = leaf} (λ t. (make (kind.GlobalGet (units t)) (span_of t) (start t), variable)) (token (a sign.Gvar))

-- "::" CONST
unfoldable pub top_constant : R (marked tree)
top_constant = node {s = pair leaf leaf} (λ x. (make (kind.ConstGet base.Top (units x.1)) (tokens x.0 x.1) (start x.1), other))
    (sequence (token (op mark.ColonColon or marked_op mark.ColonColon)) (token (a sign.Const)))

-- words : ("%w[" | "%w(" | "%i[" | "%i(") text* (")" | "]")
unfoldable pub word_list : R (marked tree)
word_list = node {s = pair leaf (pair (list tree) leaf)} (λ x. (make (kind.ArrayLit (x.1.0)) (tokens x.0 x.1.1) (start x.0), other))
    (sequence (token (op mark.WordsRound or op mark.WordsSquare or op mark.SymbolsRound or op mark.SymbolsSquare
    or marked_op mark.WordsRound or marked_op mark.WordsSquare or marked_op mark.SymbolsRound or marked_op mark.SymbolsSquare))
    (sequence (many text) (token (op mark.ListEndRound or op mark.ListEndSquare))))

-- the names of methods
abbrev pub methods : ℕ → Bool
methods = a sign.Name or a sign.Const or operator_names

-- the key of a pair
unfoldable pub label_key : R tree
label_key = node {s = leaf} (λ t. make (kind.Str (units t)) (span_of t) (start t)) (token (a sign.Label))

module _ (in_rescue : Bool) where
  -- an interpolated text: its texts, and the statements of its parts
  unfoldable pub embedded : R tree
  embedded = view {s = pair leaf (pair (marked tree) leaf)} (λ x. filled (tokens x.0 x.1.1) x.1.0)
      (sequence (token (a sign.PartBegin)) (sequence (named (part p.Statements true in_rescue)) (token (a sign.PartEnd))))

  unfoldable pub interpolated : R (marked tree)
  interpolated = node {s = pair leaf (pair (list tree) leaf)} (λ x. (make (kind.Interp (x.1.0)) (tokens x.0 x.1.1) (start x.0), other))
      (sequence (token (a sign.TextBegin)) (sequence (many (choice text embedded)) (token (a sign.TextEnd))))

  -- "(" stmts ")"
  unfoldable pub parenthesized : R (marked tree)
  parenthesized = view {s = pair leaf (pair (marked tree) leaf)} (λ x. (replaced (tokens x.0 x.1.1) (start x.0) (x.1.0.0), other))
      (sequence (token (op mark.ParenOpen or marked_op mark.ParenOpen)) (sequence (named (part p.Statements true in_rescue)) (token (op mark.ParenClose))))

  -- "[" [arguments] "]"
  unfoldable pub array : R (marked tree)
  array = node {s = pair leaf (pair args_sort leaf)} (λ x. (make (kind.ArrayLit (items_of (x.1.0))) (tokens x.0 x.1.1) (start x.0), other))
      (sequence (token (op mark.BracketOpen or marked_op mark.BracketOpen)) (closed in_rescue false (op mark.BracketClose)))

  -- pair : arg "=>" arg | label arg
  unfoldable pub pair_in_braces : R (pair tree tree)
  pair_in_braces = choice (sequence label_key (named (part p.Argument true in_rescue)))
      (sequence (named (part p.Argument true in_rescue)) (behind (op mark.FatArrow) (named (part p.Argument true in_rescue))))

  -- "{" [pairs] "}"
  unfoldable pub hash_value : R (marked tree)
  hash_value = node {s = pair leaf (pair (list (pair tree tree)) leaf)} (λ x. (make (kind.HashLit (map (λ y. y.0) (x.1.0)) (map (λ y. y.1) (x.1.0))) (tokens x.0 x.1.1) (start x.0), other))
      (sequence (token (op mark.BraceOpen)) (sequence (choice (separated pair_in_braces (op mark.Comma)) (absent [])) (behind_newlines (token (op mark.BraceClose)))))

  -- name [paren] [block], behind the name
  unfoldable pub plain_call : Bool → Seen → R (marked tree)
  plain_call takes_do t = node {s = tail_sort} (λ x. named_node in_rescue t x) (tail in_rescue takes_do)

  -- the block of a `lambda`
  abbrev pub lambda_literal : Seen → R block_sort → R tree
  lambda_literal t parts = node {s = block_sort} (λ x. lambda_of (x.1.0) (x.1.1.0) (tokens t (x.1.1.1))) parts

  unfoldable pub lambda_block : Bool → Seen → R (marked tree)
  lambda_block true t = view {s = tree} (λ n. (n, other)) (choice (lambda_literal t (brace_parts in_rescue)) (lambda_literal t (do_parts in_rescue)))
  lambda_block false t = view {s = tree} (λ n. (n, other)) (lambda_literal t (brace_parts in_rescue))

  -- ")" [block] behind a `lambda` and "("
  unfoldable pub empty_brackets : Bool → Seen → R (marked tree)
  empty_brackets takes_do t = view {s = pair leaf (marked tree)} (λ x. x.1) (bind (behind_newlines (token (op mark.ParenClose))) true (begins_block in_rescue takes_do) (begins_block in_rescue takes_do)
      (λ close. choice (lambda_block takes_do t) (absent (named_node in_rescue t (Some (no_args, close), None)))))

  -- cargs ")" [block]
  unfoldable pub full_brackets : Bool → Seen → R (marked tree)
  full_brackets takes_do t = node {s = pair (pair args_sort leaf) (optional tree)} (λ x. named_node in_rescue t (Some x.0, x.1))
      (bind (sequence (named (part (p.CommandArguments true) true in_rescue)) (behind_newlines (token (op mark.ParenClose)))) true (begins_block in_rescue takes_do) (begins_block in_rescue takes_do)
      (λ x. block_beside in_rescue takes_do (is_some (x.0.1.1))))

  -- behind a `lambda`: with a block and without arguments it is a Lambda, else a call
  unfoldable pub lambda_call : Bool → Seen → R (marked tree)
  lambda_call takes_do t = choice (lambda_block takes_do t)
      (choice (behind (a sign.CallOpen) (choice (empty_brackets takes_do t) (full_brackets takes_do t))) (absent (named_node in_rescue t (None, None))))

  unfoldable pub called : Bool → Bool → Seen → R (marked tree)
  called takes_do true t = lambda_call takes_do t
  called takes_do false t = plain_call takes_do t

  abbrev pub begins_tail : Bool → ℕ → Bool
  begins_tail takes_do = a sign.CallOpen or begins_block in_rescue takes_do

  -- name [paren] [block]
  unfoldable pub name_call : Bool → R (marked tree)
  name_call takes_do = view {s = pair leaf (marked tree)} (λ x. x.1) (needs 1 (bind (token (a sign.Name)) true (begins_tail takes_do) (begins_tail takes_do) (λ t. called takes_do (is_lambda t) t)))

  -- "->" ["(" [params] ")"] block, where the block has no "|"
  unfoldable pub arrow_parameters : R params_sort
  arrow_parameters = choice (behind (op mark.ParenOpen) (view {s = pair params_sort leaf} (λ x. x.0) (sequence (some_parameters in_rescue false) (behind_newlines (token (op mark.ParenClose)))))) (absent no_parameters)

  abbrev pub plain_block_between : (ℕ → Bool) → (ℕ → Bool) → R (pair (marked tree) leaf)
  plain_block_between opening closing = behind opening (sequence (named (part p.Statements true in_rescue)) (token closing))

  unfoldable pub plain_block : Bool → R (pair (marked tree) leaf)
  plain_block true = choice (plain_block_between (op mark.BraceOpen) (op mark.BraceClose)) (plain_block_between (key word.Do) (key word.End))
  plain_block false = plain_block_between (op mark.BraceOpen) (op mark.BraceClose)

  unfoldable pub arrow_value : Bool → R (marked tree)
  arrow_value takes_do = node {s = pair leaf (pair params_sort (pair (marked tree) leaf))} (λ x. (lambda_of (x.1.0) (x.1.1.0) (tokens x.0 (x.1.1.1)), other))
      (sequence (token (op mark.Arrow)) (sequence arrow_parameters (plain_block takes_do)))

  -- CONST, or CONST paren [block]
  unfoldable pub constant_value : Bool → R (marked tree)
  constant_value takes_do = node {s = pair leaf tail_sort} (λ x. constant_node x.0 x.1) (sequence (token (a sign.Const)) (choice (paren_tail in_rescue takes_do) (absent (None, None))))

  -- "super" [paren] [block]
  unfoldable pub super_value : Bool → R (marked tree)
  super_value takes_do = node {s = pair leaf tail_sort} (λ x. super_node x.0 x.1) (sequence (token (key word.Super)) (tail in_rescue takes_do))

  -- "yield" [paren]
  unfoldable pub yield_value : R (marked tree)
  yield_value = node {s = pair leaf (optional (pair args_sort leaf))} (λ x. yield_node x.0 x.1) (sequence (token (key word.Yield)) (maybe (paren in_rescue false)))

  unfoldable pub prim : Bool → R (marked tree)
  prim takes_do = choice word_value (choice integer_value (choice (view {s = tree} (λ n. (n, other)) text) (choice interpolated (choice word_list
      (choice ivar_value (choice gvar_value (choice top_constant (choice (name_call takes_do) (choice (constant_value takes_do)
      (choice parenthesized (choice array (choice hash_value (choice yield_value (choice (super_value takes_do) (choice (arrow_value takes_do) (keyword_form in_rescue))))))))))))))))

  -- ---- what stands behind a value

  abbrev pub part_sort : Sort
  part_sort = marked (pair leaf tail_sort)

  -- "." mname [paren] [block] | "." paren [block]
  unfoldable pub dot_part : Bool → R part_sort
  dot_part takes_do = view {s = pair leaf (pair (optional leaf) tail_sort)} (λ x. by_selector x.0 x.1.0 x.1.1) (sequence (token (op mark.Dot)) (choice
      (sequence (view {s = leaf} (λ t. Some t) (token methods)) (tail in_rescue takes_do))
      (view {s = tail_sort} (λ x. (None, x)) (paren_tail in_rescue takes_do))))

  -- "::" CONST | "::" name paren [block]
  unfoldable pub scope_part : Bool → R part_sort
  scope_part takes_do = behind (op mark.ColonColon) (choice
      (view {s = leaf} (λ t. ((t, (None, None)), constant_part)) (token (a sign.Const)))
      (view {s = pair leaf tail_sort} (λ x. (x, call_part)) (sequence (token (a sign.Name)) (paren_tail in_rescue takes_do))))

  -- "[" [arguments] "]"
  unfoldable pub bracket : R part_sort
  bracket = view {s = pair leaf (pair args_sort leaf)} (λ x. ((x.0, (Some x.1, None)), index_part)) (sequence (token (op mark.BracketOpen)) (closed in_rescue true (op mark.BracketClose)))

  unfoldable pub post : Bool → R (marked tree)
  post takes_do = suffixes {r = part_sort} 1 (prim takes_do) (choice (dot_part takes_do) (choice (scope_part takes_do) bracket)) with_part
