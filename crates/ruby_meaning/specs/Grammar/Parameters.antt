-- Parameters of methods, blocks and lambdas.
use Rattle.std.specs.Prelude.{Bool, true, false, ◌∷◌, Some, None}
use Rattle.grammar.specs.Rules.{Sort, leaf, tree, pair, list, optional, token, token_where, absent, sequence, choice, view, many, named}
use Rattle.grammar.specs.CommonRules.{behind, maybe}
use Rattle.ruby_meaning.specs.declared.production.Production.TheVariants as p
use Rattle.ruby_meaning.specs.declared.production.Stage.{Stage}
use Rattle.ruby_meaning.specs.declared.production.Stage.TheVariants as stage
use Rattle.ruby_meaning.specs.declared.production.Sign.TheVariants as sign
use Rattle.ruby_meaning.specs.declared.token.Mark.TheVariants as mark
use Rattle.ruby_meaning.specs.Grammar.Classes.{a, op}
use Rattle.ruby_meaning.specs.Grammar.Names.{params_sort, R, part}
use Rattle.ruby_meaning.specs.Grammar.Actions.{is_variable_name, no_parameters, with_slot, with_name, with_rest, block_name}

-- Newlines may stand before a closing bracket.
unfoldable pub newlines : R (list leaf)
newlines = many (token (a sign.Newline))

unfoldable pub behind_newlines : R leaf → R leaf
behind_newlines r = view {s = pair (list leaf) leaf} (λ x. x.1) (sequence newlines r)

unfoldable pub parameter_name : R leaf
parameter_name = token_where (a sign.Name) is_variable_name

-- "(" name ("," name)+ ")"
unfoldable pub bracketed_names : R (list leaf)
bracketed_names = behind (op mark.ParenOpen) (view {s = pair (pair leaf (pair leaf (list leaf))) leaf} (λ x. x.0.0 ∷ x.0.1.0 ∷ x.0.1.1)
    (sequence (sequence parameter_name (sequence (behind (op mark.Comma) parameter_name) (many (behind (op mark.Comma) parameter_name)))) (behind_newlines (token (op mark.ParenClose)))))

-- behind a name without a default
abbrev pub behind_plain : Stage → Stage
behind_plain stage.Plain = stage.Plain
behind_plain _ = stage.After

module _ (in_rescue : Bool) (brackets : Bool) where
  -- the parameters behind one
  unfoldable pub more_parameters : Stage → R params_sort
  more_parameters s = choice (behind (op mark.Comma) (named (part (p.Parameters s brackets) true in_rescue))) (absent no_parameters)

  -- ["=" arg] and what stands behind
  abbrev pub default_sort : Sort
  default_sort = pair (optional tree) params_sort

  unfoldable pub default_value : R default_sort
  default_value = sequence (view {s = tree} (λ n. Some n) (behind (op mark.Assign) (named (part p.Argument true in_rescue)))) (more_parameters stage.Optional)

  unfoldable pub no_default : Stage → R default_sort
  no_default s = view {s = params_sort} (λ x. (None, x)) (more_parameters (behind_plain s))

  -- behind a default or a name before it a default may stand
  unfoldable pub behind_name : Stage → R default_sort
  behind_name stage.Plain = choice default_value (no_default stage.Plain)
  behind_name stage.Optional = choice default_value (no_default stage.Optional)
  behind_name stage.Rest = no_default stage.Rest
  behind_name stage.After = no_default stage.After

  -- name | name "=" arg
  unfoldable pub named_parameter : Stage → R params_sort
  named_parameter s = view {s = pair leaf default_sort} (λ x. with_name s x.0 (x.1.0) (x.1.1)) (sequence parameter_name (behind_name s))

  unfoldable pub bracketed_parameter : Stage → R params_sort
  bracketed_parameter s = view {s = pair (list leaf) params_sort} (λ x. with_slot s x.0 x.1) (sequence bracketed_names (more_parameters (behind_plain s)))

  -- "*" [name]
  unfoldable pub rest_parameter : R params_sort
  rest_parameter = view {s = pair leaf (pair (optional leaf) params_sort)} (λ x. with_rest (x.1.0) (x.1.1)) (sequence (token (op mark.Star)) (sequence (maybe parameter_name) (more_parameters stage.Rest)))

  -- "&" name
  unfoldable pub block_parameter : R params_sort
  block_parameter = view {s = leaf} block_name (behind (op mark.Ampersand) parameter_name)

  -- a "*" stands before all names behind a default, and once
  unfoldable pub sign_parameter : Stage → R params_sort
  sign_parameter stage.Plain = choice rest_parameter block_parameter
  sign_parameter stage.Optional = choice rest_parameter block_parameter
  sign_parameter stage.Rest = block_parameter
  sign_parameter stage.After = block_parameter

  unfoldable pub simple_parameters : Stage → R params_sort
  simple_parameters s = choice (named_parameter s) (sign_parameter s)

-- params : name*, name "=" arg*, "*" [name], name*, "&" name, in this order, the second name* behind a default or a "*" alone;
-- from one on. In a block's a plain name may also be "(" name ("," name)+ ")".
unfoldable pub parameters : Bool → Bool → Stage → R params_sort
parameters in_rescue true s = choice (bracketed_parameter in_rescue true s) (simple_parameters in_rescue true s)
parameters in_rescue false s = simple_parameters in_rescue false s

-- [params]
abbrev pub some_parameters : Bool → Bool → R params_sort
some_parameters in_rescue brackets = choice (named (part (p.Parameters stage.Plain brackets) true in_rescue)) (absent no_parameters)
