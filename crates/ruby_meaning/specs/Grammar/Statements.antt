-- Statements.
use Rattle.std.specs.Prelude.{Bool, true, false, [], ◌∷◌}
use Rattle.grammar.specs.Rules.{leaf, tree, flag, marked, pair, list, optional, token, absent, sequence, choice, view, node, many, suffixes, suffix, bind, needs, named}
use Rattle.grammar.specs.CommonRules.{◌or◌, behind, maybe, separated}
use Rattle.ruby_meaning.specs.declared.production.Production.TheVariants as p
use Rattle.ruby_meaning.specs.declared.token.Mark.TheVariants as mark
use Rattle.ruby_meaning.specs.declared.token.Word.TheVariants as word
use Rattle.ruby_meaning.specs.declared.tree.Kind.TheVariants as kind
use Rattle.ruby_meaning.specs.Grammar.Classes.{op, key}
use Rattle.ruby_meaning.specs.Grammar.Names.{targets_sort, R, part}
use Rattle.ruby_meaning.specs.Grammar.Actions.{make, start, span_of, from_token, to_end, other, full_name, full_names, name_span, names_span, is_place, target_node, multi_set, joined, modified, if_behind, unless_behind, while_behind, until_behind, until_condition, statements, sequence_of}
use Rattle.ruby_meaning.specs.Grammar.Definitions.{separators, method_name}
use Rattle.ruby_meaning.specs.Grammar.Primaries.{post}
use Rattle.ruby_meaning.specs.Grammar.Expressions.{command_level}

module _ (takes_do : Bool) (in_rescue : Bool) where
  -- expr : nexpr (("and"|"or") nexpr)*      nexpr : "not" nexpr | cmd
  unfoldable pub not_expression : R (marked tree)
  not_expression = choice (node {s = pair leaf tree} (λ x. (make (kind.Not x.1) (from_token x.0 x.1) (start x.0), other)) (sequence (token (key word.Not)) (named (part p.NotExpression takes_do in_rescue))))
      (command_level takes_do in_rescue)

  unfoldable pub expression : R (marked tree)
  expression = suffixes {r = pair leaf tree} 1 not_expression (sequence (token (key word.And or key word.Or)) (named (part p.NotExpression takes_do in_rescue))) joined

module _ (in_rescue : Bool) where
  -- "alias" mname mname
  unfoldable pub alias_statement : R (marked tree)
  alias_statement = node {s = pair leaf (pair (pair leaf (optional leaf)) (pair leaf (optional leaf)))}
      (λ x. (make (kind.Alias (full_name (x.1.0)) (full_name (x.1.1))) (to_end (span_of x.0) (name_span (x.1.1))) (start (x.1.0.0)), other))
      (sequence (token (key word.Alias)) (sequence method_name method_name))

  -- "undef" mname ("," mname)*
  unfoldable pub undef_statement : R (marked tree)
  undef_statement = node {s = pair leaf (list (pair leaf (optional leaf)))} (λ x. (make (kind.Undef (full_names x.1)) (to_end (span_of x.0) (names_span (span_of x.0) x.1)) (start x.0), other))
      (sequence (token (key word.Undef)) (separated method_name (op mark.Comma)))

  -- nothing stands behind what can't be set
  unfoldable pub placed : Bool → R flag
  placed true = absent 0
  placed false = view {s = leaf} (λ t. 0) (token (λ n. false))

  -- target : Name | Ivar | Gvar | CONST | post "." name | post "[" arguments "]"
  unfoldable pub target : R tree
  target = view {s = pair (marked tree) flag} (λ x. target_node x.0) (bind (post in_rescue true) true (λ n. false) (λ n. false) (λ l. placed (is_place l)))

  -- "*" target
  unfoldable pub star_target : R tree
  star_target = node {s = pair leaf tree} (λ x. make (kind.Splat x.1) (from_token x.0 x.1) (start x.0)) (sequence (token (op mark.Star)) target)

  unfoldable pub behind_target : Bool → R targets_sort
  behind_target starred = choice (named (part (p.MoreTargets starred) true in_rescue)) (view {s = tree} (λ n. ([], n)) (behind (op mark.Assign) (named (part p.RightSide true in_rescue))))

  -- one target may have a "*"
  unfoldable pub next_target : Bool → R (pair tree targets_sort)
  next_target true = choice (sequence star_target (behind_target false)) (sequence target (behind_target true))
  next_target false = sequence target (behind_target false)

  -- ("," target)+ "=" rhs
  unfoldable pub more_targets : Bool → R targets_sort
  more_targets starred = behind (op mark.Comma) (view {s = pair tree targets_sort} (λ x. (x.0 ∷ x.1.0, x.1.1)) (next_target starred))

  -- "*" target ("," target)+ "=" rhs
  unfoldable pub starred_set : R (marked tree)
  starred_set = node {s = pair tree targets_sort} (λ x. (multi_set x.0 x.1, other)) (sequence star_target (named (part (p.MoreTargets false) true in_rescue)))

  -- target ("," target)+ "=" rhs | expr
  unfoldable pub several_set : R (marked tree)
  several_set = suffix {r = targets_sort} 1 (expression true in_rescue) is_place (named (part (p.MoreTargets true) true in_rescue)) (λ l x. (multi_set (target_node l) x, other))

  -- simple : "alias" mname mname | "undef" mname ("," mname)* | target ("," target)+ "=" rhs | expr
  unfoldable pub simple : R (marked tree)
  simple = choice alias_statement (choice undef_statement (choice starred_set several_set))

  -- ("if"|"unless"|"while"|"until") expr
  unfoldable pub modifier : R (marked (pair leaf tree))
  modifier = choice (view {s = pair leaf tree} (λ x. (x, if_behind)) (sequence (token (key word.If)) (named (part p.Expression true in_rescue))))
      (choice (view {s = pair leaf tree} (λ x. (x, unless_behind)) (sequence (token (key word.Unless)) (named (part p.Expression true in_rescue))))
      (choice (view {s = pair leaf tree} (λ x. (x, while_behind)) (sequence (token (key word.While)) (named (part p.Expression false in_rescue))))
      (view {s = pair leaf tree} (λ x. (x, until_behind)) (needs 1 (node {s = pair leaf tree} until_condition (sequence (token (key word.Until)) (named (part p.Expression false in_rescue))))))))

  -- stmt : simple modifier*
  unfoldable pub statement : R (marked tree)
  statement = suffixes {r = marked (pair leaf tree)} 1 simple modifier modified

  -- stmts : sep* [stmt (sep+ stmt)* sep*]; that is, statements or none, with a sep between
  unfoldable pub line : R (optional tree)
  line = maybe (named (part p.Statement true in_rescue))

  unfoldable pub statement_list : R (marked tree)
  statement_list = node {s = pair (optional tree) (list (optional tree))} (λ x. sequence_of (statements (x.0 ∷ x.1))) (sequence line (many (behind separators line)))
