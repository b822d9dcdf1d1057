-- Operators by levels, assignments, commands and arguments.
use Rattle.std.specs.Prelude.{ℕ, Bool, true, false, not, nat_eq, [], ◌∷◌, Some, None, is_some}
use Rattle.grammar.specs.Rules.{leaf, tree, marked, pair, list, optional, under, token, absent, sequence, choice, view, node, many, suffixes, suffix, starting, bind, needs, named}
use Rattle.grammar.specs.CommonRules.{◌or◌, behind, maybe}
use Rattle.ruby_meaning.specs.declared.production.Part.{Part}
use Rattle.ruby_meaning.specs.declared.production.Production.{Production}
use Rattle.ruby_meaning.specs.declared.production.Production.TheVariants as p
use Rattle.ruby_meaning.specs.declared.production.Sign.TheVariants as sign
use Rattle.ruby_meaning.specs.declared.token.Mark.TheVariants as mark
use Rattle.ruby_meaning.specs.declared.token.Word.TheVariants as word
use Rattle.ruby_meaning.specs.declared.tree.Kind.TheVariants as kind
use Rattle.ruby_meaning.specs.Grammar.Classes.{a, op, marked_op, key}
use Rattle.ruby_meaning.specs.Grammar.Names.{args_sort, R, part}
use Rattle.ruby_meaning.specs.Grammar.Actions.{make, start, from_token, nodes, other, compared, commanded, binary, negated, different, without_end, is_place, assigned, sets_variable, sets_attribute, operator_updated, variable_updated, attribute_updated, callee, yields, command_node, yield_command, single, paired, key_first, has_pair, with_more, first_argument, takes_more, takes_pairs, argued, keyed, whole, array_of, jump_node, nothing, no_args, Args}
use Rattle.ruby_meaning.specs.Grammar.Calls.{do_block}
use Rattle.ruby_meaning.specs.Grammar.Primaries.{post, label_key}

-- a value with a number, which nothing tells of
abbrev pub plain : R tree → R (marked tree)
plain r = view {s = tree} (λ n. (n, other)) r

abbrev pub value_of : R (marked tree) → R tree
value_of r = view {s = marked tree} (λ x. x.0) r

-- the signs of an assignment with an operator that is called
abbrev pub calling : ℕ → Bool
calling = op mark.PlusSet or op mark.MinusSet or op mark.StarSet or op mark.SlashSet or op mark.PercentSet or op mark.PowerSet or op mark.ShiftLeftSet

-- `||=` and `&&=`
abbrev pub guarding : ℕ → Bool
guarding = op mark.OrSet or op mark.AndSet

-- the signs of an assignment with an operator
abbrev pub updates : ℕ → Bool
updates = calling or guarding

-- the marks that begin the arguments of a command
abbrev pub begins_marked : ℕ → Bool
begins_marked = marked_op mark.Minus or marked_op mark.BracketOpen or marked_op mark.Star or marked_op mark.Ampersand or marked_op mark.ParenOpen
    or marked_op mark.ColonColon or marked_op mark.WordsRound or marked_op mark.WordsSquare or marked_op mark.SymbolsRound or marked_op mark.SymbolsSquare

-- what begins the arguments of a command besides
abbrev pub begins_plain : ℕ → Bool
begins_plain = a sign.Name or a sign.Const or a sign.Ivar or a sign.Gvar or a sign.Int or a sign.Text or a sign.TextBegin or a sign.Label
    or op mark.WordsRound or op mark.WordsSquare or op mark.SymbolsRound or op mark.SymbolsSquare or op mark.Arrow or op mark.Bang
    or key word.Nil or key word.True or key word.False or key word.Self_ or key word.Super or key word.Yield or key word.Def or key word.Case or key word.Begin

module _ (takes_do : Bool) (in_rescue : Bool) where
  abbrev pub here : (k : Production) → Part
  here k = part k takes_do in_rescue

  -- ---- levels, from the tightest one

  -- "!"
  unfoldable pub not_level : R (marked tree)
  not_level = choice (node {s = pair leaf tree} (λ x. (make (kind.Not x.1) (from_token x.0 x.1) (start x.0), other)) (sequence (token (op mark.Bang)) (named (here p.NotOperand)))) (post in_rescue takes_do)

  -- "**", to the right
  unfoldable pub power_level : R (marked tree)
  power_level = suffix {r = pair leaf tree} 1 not_level (λ l. true) (sequence (token (op mark.Power)) (named (here p.PowerOperand))) binary

  -- unary "-"
  unfoldable pub minus_level : R (marked tree)
  minus_level = choice (node {s = pair leaf tree} (λ x. (negated x.0 x.1, other)) (sequence (token (op mark.Minus or marked_op mark.Minus)) (named (here p.ProductOperand)))) power_level

  -- "*" "/" "%"
  unfoldable pub product_level : R (marked tree)
  product_level = suffixes {r = pair leaf tree} 1 minus_level (sequence (token (op mark.Star or op mark.Slash or op mark.Percent)) (named (here p.ProductOperand))) binary

  -- "+" "-"
  unfoldable pub sum_level : R (marked tree)
  sum_level = suffixes {r = pair leaf tree} 1 product_level (sequence (token (op mark.Plus or op mark.Minus)) (named (here p.SumOperand))) binary

  -- "<<"
  unfoldable pub shift_level : R (marked tree)
  shift_level = suffixes {r = pair leaf tree} 1 sum_level (sequence (token (op mark.ShiftLeft)) (named (here p.ShiftOperand))) binary

  -- "<" "<=" ">" ">="
  unfoldable pub comparison_level : R (marked tree)
  comparison_level = suffixes {r = pair leaf tree} 1 shift_level (sequence (token (op mark.Less or op mark.LessEqual or op mark.Greater or op mark.GreaterEqual)) (named (here p.ComparisonOperand))) binary

  -- "<=>" "==" "===", at most one
  unfoldable pub equal_level : R (marked tree)
  equal_level = suffix {r = pair leaf tree} 1 comparison_level (λ l. true) (sequence (token (op mark.Compare or op mark.Equal or op mark.TripleEqual)) (named (here p.EqualityOperand))) (λ l x. ((binary l x).0, compared))

  -- "!=" in its place, two nodes
  unfoldable pub equality_level : R (marked tree)
  equality_level = suffix {r = pair leaf tree} 2 equal_level (λ l. not (nat_eq l.1 compared)) (sequence (token (op mark.NotEqual)) (named (here p.EqualityOperand))) different

  -- "&&"
  unfoldable pub and_level : R (marked tree)
  and_level = suffixes {r = pair leaf tree} 1 equality_level (sequence (token (op mark.And)) (named (here p.AndOperand)))
      (λ l x. (make (kind.And l.0 x.1) (nodes l.0 x.1) (start x.0), other))

  -- "||"
  unfoldable pub or_level : R (marked tree)
  or_level = suffixes {r = pair leaf tree} 1 and_level (sequence (token (op mark.Or)) (named (here p.OrOperand)))
      (λ l x. (make (kind.Or l.0 x.1) (nodes l.0 x.1) (start x.0), other))

  -- ".." "...", at most one
  unfoldable pub range_level : R (marked tree)
  range_level = suffix {r = pair leaf tree} 1 or_level (λ l. true) (sequence (token (op mark.DotDot or op mark.DotDotDot)) (named (here p.RangeOperand)))
      (λ l x. (make (kind.RangeLit l.0 x.1 (without_end x.0)) (nodes l.0 x.1) (start x.0), other))

  -- "?" ":", to the right
  unfoldable pub ternary : R (marked tree)
  ternary = suffix {r = pair leaf (pair tree tree)} 1 range_level (λ l. true)
      (sequence (token (op mark.Question)) (sequence (named (here p.Ternary)) (behind (op mark.Colon) (named (here p.Ternary)))))
      (λ l x. (make (kind.If l.0 (x.1.0) (x.1.1)) (nodes l.0 (x.1.1)) (start x.0), other))

  -- ---- assignments

  -- "=" and a value, under the node that it makes
  abbrev pub set_part : R (marked tree) → R (under (marked tree))
  set_part value = node {r = under (marked tree)} (λ x. record { value = x }) (behind (op mark.Assign) value)

  -- OP"=" and a value
  abbrev pub update_part : R (marked tree) → R (under (pair leaf (marked tree)))
  update_part value = node {s = pair leaf (marked tree)} {r = under (pair leaf (marked tree))} (λ x. record { value = x }) (sequence (token updates) value)

  -- the sign of an operator that is called, and a value
  abbrev pub call_part : R (marked tree) → R (pair leaf (marked tree))
  call_part value = sequence (token calling) value

  -- `||=` or `&&=` and a value, under two nodes, which are there as soon as it begins
  abbrev pub two_nodes : R (marked tree) → R (under (under (pair leaf (marked tree))))
  two_nodes value = needs 2 (node {s = under (pair leaf (marked tree))} {r = under (under (pair leaf (marked tree)))} (λ x. record { value = x })
      (node {s = pair leaf (marked tree)} {r = under (pair leaf (marked tree))} (λ x. record { value = x }) (sequence (token guarding) value)))

  -- target "=" value | target OP"=" updated | what stands without them. The call of an operator is two nodes above the
  -- variable that it reads
  abbrev pub assignment : R (marked tree) → R (marked tree) → R (marked tree)
  assignment value updated = suffix {r = under (pair leaf (marked tree))} 0
      (suffix {r = under (under (pair leaf (marked tree)))} 0
      (suffix {r = pair leaf (marked tree)} 2
      (suffix {r = under (marked tree)} 0 ternary is_place (set_part value) assigned)
      sets_variable (call_part updated) operator_updated)
      sets_variable (two_nodes updated) variable_updated)
      sets_attribute (update_part updated) attribute_updated

  -- arg : target "=" arg | target OP"=" arg | ternary
  unfoldable pub argument : R (marked tree)
  argument = assignment (plain (named (here p.Argument))) (plain (named (here p.Argument)))

  -- ---- commands

  -- 1 where a mark begins them
  unfoldable pub command_arguments : Bool → R (marked args_sort)
  command_arguments blocks = choice
      (view {s = args_sort} (λ x. (x, 1)) (starting begins_marked (named (part (p.CommandArguments blocks) false in_rescue))))
      (view {s = args_sort} (λ x. (x, 0)) (starting begins_plain (named (part (p.CommandArguments blocks) false in_rescue))))

-- a `do` block behind the arguments, where one may be taken and no block pass stands there
abbrev pub do_beside : Bool → Bool → R (optional tree)
do_beside in_rescue true = absent None
do_beside in_rescue false = maybe (do_block in_rescue)

unfoldable pub command_part : Bool → Bool → R (pair (marked args_sort) (optional tree))
command_part true in_rescue = bind {s = marked args_sort} (command_arguments true in_rescue true) true (key word.Do) (key word.Do) (λ x. do_beside in_rescue (is_some (x.0.1.1)))
command_part false in_rescue = sequence (command_arguments false in_rescue true) (absent None)

module _ (takes_do : Bool) (in_rescue : Bool) where
  -- a value, or a command that begins with it: a name or "super" with arguments and a block, or "yield" with arguments
  abbrev pub commanding : R (marked tree) → R (marked tree)
  commanding value = suffix {r = under (marked args_sort)} 0
      (suffix {r = under (pair (marked args_sort) (optional tree))} 0 value (λ l. is_some (callee l))
      (node {s = pair (marked args_sort) (optional tree)} {r = under (pair (marked args_sort) (optional tree))} (λ x. record { value = x }) (command_part takes_do in_rescue)) command_node)
      yields (node {s = marked args_sort} {r = under (marked args_sort)} (λ x. record { value = x }) (command_arguments takes_do in_rescue false)) yield_command

  -- ---- lists

  -- "*" arg
  unfoldable pub splat : R tree
  splat = node {s = pair leaf tree} (λ x. make (kind.Splat x.1) (from_token x.0 x.1) (start x.0)) (sequence (token (op mark.Star or marked_op mark.Star)) (named (part p.Argument takes_do in_rescue)))

  unfoldable pub item : R tree
  item = choice splat (named (part p.Argument takes_do in_rescue))

  unfoldable pub more_items : R (list tree)
  more_items = many (behind (op mark.Comma) item)

  -- "*" arg and others
  unfoldable pub splat_list : R tree
  splat_list = node {s = pair tree (list tree)} (λ x. array_of x.0 x.1) (sequence splat more_items)

  -- others behind a first one
  unfoldable pub other_items : R (list tree)
  other_items = view {s = pair tree (list tree)} (λ x. x.0 ∷ x.1) (sequence (behind (op mark.Comma) item) more_items)

  -- ---- right sides

  -- rhs1 : command | target "=" (rhs1 | list that begins with "*") | target OP"=" rhs1 | arg
  unfoldable pub one_value : R (marked tree)
  one_value = commanding (assignment takes_do in_rescue (named (part p.NestedValue takes_do in_rescue)) (named (part p.OneValue takes_do in_rescue)))

  unfoldable pub nested_value : R (marked tree)
  nested_value = choice (view {s = tree} (λ n. (n, commanded)) splat_list) one_value

  -- rhs : rhs1 | list of two or more, or of one "*" arg
  unfoldable pub right_side : R (marked tree)
  right_side = choice (plain splat_list) (suffix {r = list tree} 1 one_value (λ l. not (nat_eq l.1 commanded)) other_items (λ l xs. (array_of l.0 xs, commanded)))

  -- behind a jump these keywords are modifiers
  abbrev pub begins_no_modifier : ℕ → Bool
  begins_no_modifier n = not ((key word.If or key word.Unless or key word.While or key word.Until) n)

  -- ("return"|"break"|"next") [list]
  unfoldable pub jump_value : R (marked tree)
  jump_value = choice (plain splat_list) (suffix {r = list tree} 1 (plain (named (part p.Argument takes_do in_rescue))) (λ l. true) other_items (λ l xs. (array_of l.0 xs, other)))

  unfoldable pub jump : R (marked tree)
  jump = node {s = pair leaf (marked tree)} (λ x. (jump_node x.0 x.1, other)) (sequence (token (key word.Return or key word.Break or key word.Next)) (choice (starting begins_no_modifier jump_value) (absent (nothing, 1))))

module _ (takes_do : Bool) (in_rescue : Bool) where
  -- cmd : jump | command | target "=" rhs | target OP"=" rhs1 | arg; no `do` block is taken in what a jump gives
  unfoldable pub command_level : R (marked tree)
  command_level = choice (jump false in_rescue) (commanding takes_do in_rescue (assignment takes_do in_rescue (plain (named (part p.RightSide takes_do in_rescue))) (named (part p.OneValue takes_do in_rescue))))

  -- ---- arguments

  -- "&" arg
  unfoldable pub block_argument : R args_sort
  block_argument = view {s = tree} (λ n. ([], ([], Some n)))
      (node {s = pair leaf tree} (λ x. make (kind.BlockPass x.1) (from_token x.0 x.1) (start x.0)) (sequence (token (op mark.Ampersand or marked_op mark.Ampersand)) (named (part p.Argument takes_do in_rescue))))

  -- label arg, under the hash that it makes
  unfoldable pub label_pair : R args_sort
  label_pair = view {s = under (pair tree tree)} paired (node {s = pair tree tree} {r = under (pair tree tree)} (λ x. record { value = x })
      (sequence label_key (named (part p.Argument takes_do in_rescue))))

  unfoldable pub arrow_pair : R args_sort
  arrow_pair = view {s = under (pair tree tree)} paired (node {s = pair tree tree} {r = under (pair tree tree)} (λ x. record { value = x })
      (sequence (named (part p.Argument takes_do in_rescue)) (behind (op mark.FatArrow) (named (part p.Argument takes_do in_rescue)))))

  abbrev pub finished : Args × ℕ → Args → Args × ℕ
  finished l x = (with_more l.0 x, whole)

-- what stands behind a comma: in brackets nothing need stand there
abbrev pub after_comma : Bool → R args_sort → R args_sort
after_comma true r = choice r (absent no_args)
after_comma false r = r

-- with a block pass or without one
abbrev pub with_block : Bool → Bool → Bool → R args_sort → R args_sort
with_block takes_do in_rescue true r = choice (block_argument takes_do in_rescue) r
with_block takes_do in_rescue false r = r

module _ (takes_do : Bool) (in_rescue : Bool) where
  -- arguments that begin with the value, with "*", with a label or with a key
  unfoldable pub arguments_from : R (marked tree) → Bool → R (marked args_sort)
  arguments_from value blocks = suffix 0
      (suffix 0
      (choice (view {s = tree} (λ n. (single n, argued)) (splat takes_do in_rescue))
      (choice (view {s = args_sort} (λ x. (x, keyed)) (label_pair takes_do in_rescue))
      (suffix 1 (view {s = marked tree} first_argument value) takes_more (behind (op mark.FatArrow) (named (part p.Argument takes_do in_rescue))) (λ l v. (key_first l.0 v, keyed)))))
      takes_more (behind (op mark.Comma) (after_comma takes_do (named (part (p.Arguments blocks) takes_do in_rescue)))) (finished takes_do in_rescue))
      takes_pairs (behind (op mark.Comma) (after_comma takes_do (named (part (p.MorePairs blocks) takes_do in_rescue)))) (finished takes_do in_rescue)

  -- arguments
  unfoldable pub arguments : Bool → R args_sort
  arguments blocks = with_block takes_do in_rescue blocks (view {s = marked args_sort} (λ x. x.0) (arguments_from (argument takes_do in_rescue) blocks))

  -- cargs : command | arguments
  unfoldable pub cargs : Bool → R args_sort
  cargs blocks = with_block takes_do in_rescue blocks (view {s = marked args_sort} (λ x. x.0) (arguments_from (commanding takes_do in_rescue (argument takes_do in_rescue)) blocks))

  -- arguments behind a pair: pairs, and then a block pass
  unfoldable pub more_pairs : Bool → R args_sort
  more_pairs blocks = with_block takes_do in_rescue blocks
      (suffix 0 (choice (label_pair takes_do in_rescue) (arrow_pair takes_do in_rescue)) has_pair (behind (op mark.Comma) (after_comma takes_do (named (part (p.MorePairs blocks) takes_do in_rescue)))) with_more)
