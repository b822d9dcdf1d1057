-- One token tells how to go on: the checks of the rules.
use Rattle.std.proofs.Common.{◌≡◌, ℕ, zero, suc, ◌<◌, max, Bool, true, false, ◌&&◌, ◌||◌, List, [], ◌∷◌, map, Option, Some, None, ◌⊎◌, inl, inr, refl, sym, ap, ◌∙◌, subst, arith, true≢false}
use Rattle.std.specs.Prelude.{nat_eq, not, is_some, codes, if◌then◌else◌}
use Rattle.grammar.specs.Forms.{deepest}
use Rattle.grammar.specs.Rules.{Sort, leaf, tree, marked, pair, optional, under, El, node, view, choice, named, suffix, suffixes, Held, deep_if}
use Rattle.grammar.specs.Checks.{nullable, first, continues, GoesOn, Disjoint, Included, Checks}
use Rattle.grammar.specs.CommonRules.{behind as behind_token}
use Rattle.grammar.proofs.Depths.{deepest_flat}
use Rattle.grammar.proofs.Classes.{clear_at, included_at, continues_of}
use Rattle.grammar.proofs.CommonChecks.{behind_checks}
use Rattle.grammar.proofs.Lists.{and_split, and_both}
use Rattle.ruby_meaning.specs.declared.token.Mark.TheVariants as mark
use Rattle.ruby_meaning.specs.declared.token.Word.{Word}
use Rattle.ruby_meaning.specs.declared.token.Word.TheVariants as word
use Rattle.ruby_meaning.specs.declared.tree.Base.TheVariants as base
use Rattle.ruby_meaning.specs.declared.tree.Kind.{Kind}
use Rattle.ruby_meaning.specs.declared.tree.Kind.TheVariants as kind
use Rattle.ruby_meaning.specs.declared.tree.Literal.TheVariants as literal
use Rattle.opal_base.specs.declared.place.Pos.{Pos}
use Rattle.opal_base.specs.declared.place.Span.{Span}
use Rattle.ruby_meaning.specs.declared.tree.Node.{Node}
use Rattle.ruby_meaning.specs.Depth.{depth_of, form_depth}
use Rattle.ruby_meaning.specs.Grammar.Seen.{Seen}
use Rattle.ruby_meaning.specs.Grammar.Classes.{size, mark_code, op, key}
use Rattle.ruby_meaning.specs.declared.production.Part.{Part}
use Rattle.ruby_meaning.specs.declared.production.Production.{Production}
use Rattle.ruby_meaning.specs.declared.production.Production.TheVariants as p
use Rattle.ruby_meaning.specs.declared.production.Stage.{Stage}
use Rattle.ruby_meaning.specs.declared.production.Stage.TheVariants as stage
use Rattle.ruby_meaning.specs.Grammar.Names.{args_sort, sort_of, sorts, R, part}
use Rattle.ruby_meaning.specs.Grammar.Actions as act
use Rattle.ruby_meaning.specs.Grammar.Actions.{make, Args}
use Rattle.ruby_meaning.specs.Grammar.Parameters.{newlines, behind_newlines, parameter_name, bracketed_names, behind_plain, more_parameters, default_value, no_default, behind_name, named_parameter, bracketed_parameter, rest_parameter, block_parameter, sign_parameter, simple_parameters, parameters}
use Rattle.ruby_meaning.specs.Grammar.Calls.{closed, paren, block_parameters, block_node, brace_parts, do_parts, brace_block, do_block, block, begins_block, block_beside, tail, paren_tail}
use Rattle.ruby_meaning.specs.declared.tree.ModuleForm.TheVariants as form
use Rattle.ruby_meaning.specs.Grammar.Definitions.{then_sign, else_part, branch, otherwise, if_value, unless_value, loop_body, while_value, until_value, when_clause, case_value, class_header, rescue_clause, body_else, body_ensure, handlers, body_behind, begin_value, module_body, class_value, module_value, method_name, def_name, def_in_brackets, def_plain, def_value, keyword_form}
use Rattle.ruby_meaning.specs.Grammar.Primaries.{keyword_value, word_value, integer_value, text, ivar_value, gvar_value, top_constant, word_list, embedded, interpolated, parenthesized, array, label_key, pair_in_braces, hash_value, plain_call, lambda_block, empty_brackets, full_brackets, lambda_call, called, begins_tail, name_call, arrow_parameters, plain_block, arrow_value, constant_value, super_value, yield_value, prim, dot_part, scope_part, bracket, post}
use Rattle.ruby_meaning.specs.Grammar.Expressions.{plain, calling, guarding, not_level, power_level, minus_level, product_level, sum_level, shift_level, comparison_level, equal_level, equality_level, and_level, or_level, range_level, ternary, updates, set_part, update_part, call_part, two_nodes, assignment, argument, command_arguments, do_beside, command_part, commanding, splat, item, more_items, splat_list, other_items, one_value, nested_value, right_side, jump_value, jump, command_level, block_argument, label_pair, arrow_pair, after_comma, finished, arguments_from, arguments, cargs, more_pairs}
use Rattle.ruby_meaning.specs.Grammar.Statements.{not_expression, expression, alias_statement, undef_statement, placed, target, star_target, behind_target, next_target, more_targets, starred_set, several_set, simple, modifier, statement, line, statement_list}
use Rattle.ruby_meaning.specs.Grammar.Table.{table, begins_command, value_goes_on, goes_on_of}
use Rattle.ruby_meaning.specs.Grammar.Table.{continues as behind}
use Rattle.ruby_meaning.proofs.Grammar.Depths as d
use Rattle.ruby_meaning.proofs.Grammar.ActionDepths.{flat_option, args_depth, parameters_depth, slot_deep, name_deep, rest_deep, target_deep, parameters_deep, lambda_deep, handlers_deep, on_deep, def_deep, filled_deep, replaced_deep, spread_deep, items_deep, named_deep, constant_deep, super_deep, yield_deep, part_deep, selector_deep, some_level, joined_deep, statements_deep, sequence_deep, jump_deep, array_deep, assigned_deep, variable_deep, operator_deep, attribute_deep, command_deep, yield_command_deep, key_deep, more_deep, single_open, pair_open}

binary_deep : (l : Node × ℕ) (x : Seen × Node) → depth_of ((act.binary l x).0) ≡ suc (max (depth_of l.0) (depth_of x.1))
binary_deep l x = omega (arith, d.depth_call (Some l.0) (act.method_name x.0) (x.1 ∷ []) None None (act.nodes l.0 x.1) (act.start x.0))

different_deep : (l : Node × ℕ) (x : Seen × Node) → depth_of ((act.different l x).0) ≡ suc (suc (max (depth_of l.0) (depth_of x.1)))
different_deep l x = omega (
  arith,
  d.depth_not (make (kind.Call (Some l.0) (codes "==") (x.1 ∷ []) None None) (act.nodes l.0 x.1) (act.start x.0)) (act.nodes l.0 x.1) (act.start x.0),
  d.depth_call (Some l.0) (codes "==") (x.1 ∷ []) None None (act.nodes l.0 x.1) (act.start x.0),
)

negated_deep : (t : Seen) (n : Node) → depth_of (act.negated t n) ≡ suc (depth_of n)
negated_deep t n = omega (arith, d.depth_call (Some n) (codes "-@") [] None None (act.from_token t n) (act.start t))

braces_deep : (ps : List (Node × Node)) → max (deepest depth_of (map (λ y. y.0) ps)) (deepest depth_of (map (λ y. y.1) ps)) ≡ deepest (λ p. max (depth_of p.0) (depth_of p.1)) ps
braces_deep [] = refl
braces_deep (p ∷ ps) = omega (arith, braces_deep ps)

no_classes_of : {s : Sort} (q : R s) → Disjoint table (λ k. false) (first table q)
unfolding table
no_classes_of q = refl

pub bounded : (k : Part) (x : El Seen Node (sorts k)) (t : ℕ) → table.name_goes_on k x t ≡ true → table.name_continues k t ≡ true
unfolding table
bounded k x t h = by k.production x h
  where
    by : (n : Production) (x : El Seen Node (sort_of n)) → goes_on_of n k.takes_do x t ≡ true → behind n k.takes_do t ≡ true
    by p.OneValue x h = (and_split (behind p.OneValue k.takes_do t) _ h).0
    by p.Otherwise x h = h
    by p.NestedValue x h = (and_split (behind p.NestedValue k.takes_do t) _ h).0
    by p.Statements x h = h
    by p.Statement x h = h
    by p.Expression x h = h
    by p.NotExpression x h = h
    by p.RightSide x h = h
    by p.Argument x h = h
    by p.Ternary x h = h
    by p.RangeOperand x h = h
    by p.OrOperand x h = h
    by p.AndOperand x h = h
    by p.EqualityOperand x h = h
    by p.ComparisonOperand x h = h
    by p.ShiftOperand x h = h
    by p.SumOperand x h = h
    by p.ProductOperand x h = h
    by p.PowerOperand x h = h
    by p.NotOperand x h = h
    by (p.CommandArguments blocks) x h = h
    by (p.Arguments blocks) x h = h
    by (p.MorePairs blocks) x h = h
    by (p.MoreTargets starred) x h = h
    by (p.Parameters stage brackets) x h = h

empty_deep : (s : Span) → depth_of (act.empty_at s) ≡ 1
empty_deep s = d.depth_seq [] s s.from

modified_deep : (l : Node × ℕ) (x : (Seen × Node) × ℕ) → depth_of ((act.modified l x).0) ≡ suc (max (depth_of l.0) (depth_of (x.0.1)))
modified_deep l x = by x.1
  where
    s : Span
    s = act.nodes l.0 (x.0.1)

    by : (n : ℕ) → depth_of (make (act.modified_kind n l (x.0.1) s) s (act.start (x.0.0))) ≡ suc (max (depth_of l.0) (depth_of (x.0.1)))
    by zero = omega (arith, d.depth_if (x.0.1) l.0 (act.empty_at s) s (act.start (x.0.0)), empty_deep s, some_level l.0)
    by (suc zero) = omega (arith, d.depth_if (x.0.1) (act.empty_at s) l.0 s (act.start (x.0.0)), empty_deep s, some_level l.0)
    by (suc (suc zero)) = omega (arith, d.depth_while (x.0.1) l.0 (nat_eq l.1 act.begun) s (act.start (x.0.0)))
    by (suc (suc (suc n))) = omega (arith, d.depth_while (act.replaced s (x.0.1).mark (x.0.1)) l.0 (nat_eq l.1 act.begun) s (act.start (x.0.0)), replaced_deep s (x.0.1).mark (x.0.1))

until_deep : (x : Seen × Node) → max 0 (depth_of ((act.until_condition x).1)) ≡ suc (max 0 (depth_of x.1))
until_deep x = omega (arith, d.depth_not x.1 (act.from_token x.0 x.1) (act.start x.0))

form_deep : (x : Option Seen × Option Node) → form_depth (act.form_of x) ≡ max (deep_if (λ t. 0) x.0) (deep_if depth_of x.1)
form_deep (Some t, o) = omega (arith, d.depth_class o)
form_deep (None, Some n) = omega (arith, d.depth_singleton n)
form_deep (None, None) = d.depth_module

c_newlines : Checks table (newlines)
unfolding table placed target star_target behind_target next_target more_targets starred_set several_set parameter_name bracketed_names more_parameters default_value no_default behind_name named_parameter bracketed_parameter rest_parameter block_parameter sign_parameter simple_parameters parameters block_parameters brace_parts do_parts body_behind def_name def_in_brackets def_plain def_value plain_call lambda_block empty_brackets full_brackets lambda_call called arrow_parameters plain_block arrow_value then_sign else_part branch otherwise if_value unless_value loop_body while_value until_value when_clause case_value class_header rescue_clause body_else body_ensure handlers begin_value module_body class_value module_value keyword_form newlines behind_newlines paren closed brace_block do_block block tail paren_tail keyword_value word_value integer_value text ivar_value gvar_value top_constant word_list embedded interpolated parenthesized array label_key pair_in_braces hash_value name_call constant_value super_value yield_value prim dot_part scope_part bracket post not_level power_level minus_level product_level sum_level shift_level comparison_level equal_level equality_level and_level or_level range_level ternary argument command_arguments command_part splat item more_items splat_list other_items one_value nested_value right_side jump_value jump command_level block_argument label_pair arrow_pair arguments_from arguments cargs more_pairs method_name not_expression expression alias_statement undef_statement simple modifier statement line statement_list
c_newlines = (refl, refl, tt)

c_close : (r blocks : Bool) → Checks table (closed r blocks (op mark.BracketClose))
unfolding table placed target star_target behind_target next_target more_targets starred_set several_set parameter_name bracketed_names more_parameters default_value no_default behind_name named_parameter bracketed_parameter rest_parameter block_parameter sign_parameter simple_parameters parameters block_parameters brace_parts do_parts body_behind def_name def_in_brackets def_plain def_value plain_call lambda_block empty_brackets full_brackets lambda_call called arrow_parameters plain_block arrow_value then_sign else_part branch otherwise if_value unless_value loop_body while_value until_value when_clause case_value class_header rescue_clause body_else body_ensure handlers begin_value module_body class_value module_value keyword_form newlines behind_newlines paren closed brace_block do_block block tail paren_tail keyword_value word_value integer_value text ivar_value gvar_value top_constant word_list embedded interpolated parenthesized array label_key pair_in_braces hash_value name_call constant_value super_value yield_value prim dot_part scope_part bracket post not_level power_level minus_level product_level sum_level shift_level comparison_level equal_level equality_level and_level or_level range_level ternary argument command_arguments command_part splat item more_items splat_list other_items one_value nested_value right_side jump_value jump command_level block_argument label_pair arrow_pair arguments_from arguments cargs more_pairs method_name not_expression expression alias_statement undef_statement simple modifier statement line statement_list
c_close r blocks = (refl, (refl, refl, tt, tt), (λ x. omega (arith, deepest_flat x.0), (refl, c_newlines, tt)))

c_paren : (r blocks : Bool) → Checks table (paren r blocks)
unfolding table placed target star_target behind_target next_target more_targets starred_set several_set parameter_name bracketed_names more_parameters default_value no_default behind_name named_parameter bracketed_parameter rest_parameter block_parameter sign_parameter simple_parameters parameters block_parameters brace_parts do_parts body_behind def_name def_in_brackets def_plain def_value plain_call lambda_block empty_brackets full_brackets lambda_call called arrow_parameters plain_block arrow_value then_sign else_part branch otherwise if_value unless_value loop_body while_value until_value when_clause case_value class_header rescue_clause body_else body_ensure handlers begin_value module_body class_value module_value keyword_form newlines behind_newlines paren closed brace_block do_block block tail paren_tail keyword_value word_value integer_value text ivar_value gvar_value top_constant word_list embedded interpolated parenthesized array label_key pair_in_braces hash_value name_call constant_value super_value yield_value prim dot_part scope_part bracket post not_level power_level minus_level product_level sum_level shift_level comparison_level equal_level equality_level and_level or_level range_level ternary argument command_arguments command_part splat item more_items splat_list other_items one_value nested_value right_side jump_value jump command_level block_argument label_pair arrow_pair arguments_from arguments cargs more_pairs method_name not_expression expression alias_statement undef_statement simple modifier statement line statement_list
c_paren r blocks = (λ x. omega arith, (refl, tt, (refl, (refl, refl, tt, tt), (λ x. omega (arith, deepest_flat x.0), (refl, c_newlines, tt)))))

-- ---- parameters

c_more_parameters : (r b : Bool) (s : Stage) → Checks table (more_parameters r b s)
unfolding table placed target star_target behind_target next_target more_targets starred_set several_set parameter_name bracketed_names more_parameters default_value no_default behind_name named_parameter bracketed_parameter rest_parameter block_parameter sign_parameter simple_parameters parameters block_parameters brace_parts do_parts body_behind def_name def_in_brackets def_plain def_value plain_call lambda_block empty_brackets full_brackets lambda_call called arrow_parameters plain_block arrow_value then_sign else_part branch otherwise if_value unless_value loop_body while_value until_value when_clause case_value class_header rescue_clause body_else body_ensure handlers begin_value module_body class_value module_value keyword_form newlines behind_newlines paren closed brace_block do_block block tail paren_tail keyword_value word_value integer_value text ivar_value gvar_value top_constant word_list embedded interpolated parenthesized array label_key pair_in_braces hash_value name_call constant_value super_value yield_value prim dot_part scope_part bracket post not_level power_level minus_level product_level sum_level shift_level comparison_level equal_level equality_level and_level or_level range_level ternary argument command_arguments command_part splat item more_items splat_list other_items one_value nested_value right_side jump_value jump command_level block_argument label_pair arrow_pair arguments_from arguments cargs more_pairs method_name not_expression expression alias_statement undef_statement simple modifier statement line statement_list
c_more_parameters r b s = (refl, refl, (λ x. omega arith, (refl, tt, tt)), tt)

c_default : (r b : Bool) → Checks table (default_value r b)
unfolding table placed target star_target behind_target next_target more_targets starred_set several_set parameter_name bracketed_names more_parameters default_value no_default behind_name named_parameter bracketed_parameter rest_parameter block_parameter sign_parameter simple_parameters parameters block_parameters brace_parts do_parts body_behind def_name def_in_brackets def_plain def_value plain_call lambda_block empty_brackets full_brackets lambda_call called arrow_parameters plain_block arrow_value then_sign else_part branch otherwise if_value unless_value loop_body while_value until_value when_clause case_value class_header rescue_clause body_else body_ensure handlers begin_value module_body class_value module_value keyword_form newlines behind_newlines paren closed brace_block do_block block tail paren_tail keyword_value word_value integer_value text ivar_value gvar_value top_constant word_list embedded interpolated parenthesized array label_key pair_in_braces hash_value name_call constant_value super_value yield_value prim dot_part scope_part bracket post not_level power_level minus_level product_level sum_level shift_level comparison_level equal_level equality_level and_level or_level range_level ternary argument command_arguments command_part splat item more_items splat_list other_items one_value nested_value right_side jump_value jump command_level block_argument label_pair arrow_pair arguments_from arguments cargs more_pairs method_name not_expression expression alias_statement undef_statement simple modifier statement line statement_list
c_default r b = (refl, (λ x. refl, (λ x. omega arith, (refl, tt, tt))), c_more_parameters r b stage.Optional)

c_no_default : (r b : Bool) (s : Stage) → Checks table (no_default r b s)
unfolding table placed target star_target behind_target next_target more_targets starred_set several_set parameter_name bracketed_names more_parameters default_value no_default behind_name named_parameter bracketed_parameter rest_parameter block_parameter sign_parameter simple_parameters parameters block_parameters brace_parts do_parts body_behind def_name def_in_brackets def_plain def_value plain_call lambda_block empty_brackets full_brackets lambda_call called arrow_parameters plain_block arrow_value then_sign else_part branch otherwise if_value unless_value loop_body while_value until_value when_clause case_value class_header rescue_clause body_else body_ensure handlers begin_value module_body class_value module_value keyword_form newlines behind_newlines paren closed brace_block do_block block tail paren_tail keyword_value word_value integer_value text ivar_value gvar_value top_constant word_list embedded interpolated parenthesized array label_key pair_in_braces hash_value name_call constant_value super_value yield_value prim dot_part scope_part bracket post not_level power_level minus_level product_level sum_level shift_level comparison_level equal_level equality_level and_level or_level range_level ternary argument command_arguments command_part splat item more_items splat_list other_items one_value nested_value right_side jump_value jump command_level block_argument label_pair arrow_pair arguments_from arguments cargs more_pairs method_name not_expression expression alias_statement undef_statement simple modifier statement line statement_list
c_no_default r b s = (λ x. omega arith, c_more_parameters r b (behind_plain s))

c_behind_name : (r b : Bool) (s : Stage) → Checks table (behind_name r b s)
unfolding table placed target star_target behind_target next_target more_targets starred_set several_set parameter_name bracketed_names more_parameters default_value no_default behind_name named_parameter bracketed_parameter rest_parameter block_parameter sign_parameter simple_parameters parameters block_parameters brace_parts do_parts body_behind def_name def_in_brackets def_plain def_value plain_call lambda_block empty_brackets full_brackets lambda_call called arrow_parameters plain_block arrow_value then_sign else_part branch otherwise if_value unless_value loop_body while_value until_value when_clause case_value class_header rescue_clause body_else body_ensure handlers begin_value module_body class_value module_value keyword_form newlines behind_newlines paren closed brace_block do_block block tail paren_tail keyword_value word_value integer_value text ivar_value gvar_value top_constant word_list embedded interpolated parenthesized array label_key pair_in_braces hash_value name_call constant_value super_value yield_value prim dot_part scope_part bracket post not_level power_level minus_level product_level sum_level shift_level comparison_level equal_level equality_level and_level or_level range_level ternary argument command_arguments command_part splat item more_items splat_list other_items one_value nested_value right_side jump_value jump command_level block_argument label_pair arrow_pair arguments_from arguments cargs more_pairs method_name not_expression expression alias_statement undef_statement simple modifier statement line statement_list
c_behind_name r b stage.Plain = (refl, refl, c_default r b, c_no_default r b stage.Plain)
c_behind_name r b stage.Optional = (refl, refl, c_default r b, c_no_default r b stage.Optional)
c_behind_name r b stage.Rest = c_no_default r b stage.Rest
c_behind_name r b stage.After = c_no_default r b stage.After

c_named_parameter : (r b : Bool) (s : Stage) → Checks table (named_parameter r b s)
unfolding table placed target star_target behind_target next_target more_targets starred_set several_set parameter_name bracketed_names more_parameters default_value no_default behind_name named_parameter bracketed_parameter rest_parameter block_parameter sign_parameter simple_parameters parameters block_parameters brace_parts do_parts body_behind def_name def_in_brackets def_plain def_value plain_call lambda_block empty_brackets full_brackets lambda_call called arrow_parameters plain_block arrow_value then_sign else_part branch otherwise if_value unless_value loop_body while_value until_value when_clause case_value class_header rescue_clause body_else body_ensure handlers begin_value module_body class_value module_value keyword_form newlines behind_newlines paren closed brace_block do_block block tail paren_tail keyword_value word_value integer_value text ivar_value gvar_value top_constant word_list embedded interpolated parenthesized array label_key pair_in_braces hash_value name_call constant_value super_value yield_value prim dot_part scope_part bracket post not_level power_level minus_level product_level sum_level shift_level comparison_level equal_level equality_level and_level or_level range_level ternary argument command_arguments command_part splat item more_items splat_list other_items one_value nested_value right_side jump_value jump command_level block_argument label_pair arrow_pair arguments_from arguments cargs more_pairs method_name not_expression expression alias_statement undef_statement simple modifier statement line statement_list
c_named_parameter r b s = (λ x. omega (arith, name_deep s x.0 (x.1.0) (x.1.1)), (refl, tt, c_behind_name r b s))

c_bracketed_names : Checks table (bracketed_names)
unfolding table placed target star_target behind_target next_target more_targets starred_set several_set parameter_name bracketed_names more_parameters default_value no_default behind_name named_parameter bracketed_parameter rest_parameter block_parameter sign_parameter simple_parameters parameters block_parameters brace_parts do_parts body_behind def_name def_in_brackets def_plain def_value plain_call lambda_block empty_brackets full_brackets lambda_call called arrow_parameters plain_block arrow_value then_sign else_part branch otherwise if_value unless_value loop_body while_value until_value when_clause case_value class_header rescue_clause body_else body_ensure handlers begin_value module_body class_value module_value keyword_form newlines behind_newlines paren closed brace_block do_block block tail paren_tail keyword_value word_value integer_value text ivar_value gvar_value top_constant word_list embedded interpolated parenthesized array label_key pair_in_braces hash_value name_call constant_value super_value yield_value prim dot_part scope_part bracket post not_level power_level minus_level product_level sum_level shift_level comparison_level equal_level equality_level and_level or_level range_level ternary argument command_arguments command_part splat item more_items splat_list other_items one_value nested_value right_side jump_value jump command_level block_argument label_pair arrow_pair arguments_from arguments cargs more_pairs method_name not_expression expression alias_statement undef_statement simple modifier statement line statement_list
c_bracketed_names = (
  λ x. omega arith,
  (
    refl,
    tt,
    (
      λ x. omega arith,
      (refl, (refl, tt, (refl, (λ x. omega arith, (refl, tt, tt)), (refl, refl, (λ x. omega arith, (refl, tt, tt))))), (λ x. omega (arith, deepest_flat x.0), (refl, c_newlines, tt))),
    ),
  ),
)

c_bracketed : (r b : Bool) (s : Stage) → Checks table (bracketed_parameter r b s)
unfolding table placed target star_target behind_target next_target more_targets starred_set several_set parameter_name bracketed_names more_parameters default_value no_default behind_name named_parameter bracketed_parameter rest_parameter block_parameter sign_parameter simple_parameters parameters block_parameters brace_parts do_parts body_behind def_name def_in_brackets def_plain def_value plain_call lambda_block empty_brackets full_brackets lambda_call called arrow_parameters plain_block arrow_value then_sign else_part branch otherwise if_value unless_value loop_body while_value until_value when_clause case_value class_header rescue_clause body_else body_ensure handlers begin_value module_body class_value module_value keyword_form newlines behind_newlines paren closed brace_block do_block block tail paren_tail keyword_value word_value integer_value text ivar_value gvar_value top_constant word_list embedded interpolated parenthesized array label_key pair_in_braces hash_value name_call constant_value super_value yield_value prim dot_part scope_part bracket post not_level power_level minus_level product_level sum_level shift_level comparison_level equal_level equality_level and_level or_level range_level ternary argument command_arguments command_part splat item more_items splat_list other_items one_value nested_value right_side jump_value jump command_level block_argument label_pair arrow_pair arguments_from arguments cargs more_pairs method_name not_expression expression alias_statement undef_statement simple modifier statement line statement_list
c_bracketed r b s = (λ x. omega (arith, slot_deep s x.0 x.1), (refl, c_bracketed_names, c_more_parameters r b (behind_plain s)))

c_rest : (r b : Bool) → Checks table (rest_parameter r b)
unfolding table placed target star_target behind_target next_target more_targets starred_set several_set parameter_name bracketed_names more_parameters default_value no_default behind_name named_parameter bracketed_parameter rest_parameter block_parameter sign_parameter simple_parameters parameters block_parameters brace_parts do_parts body_behind def_name def_in_brackets def_plain def_value plain_call lambda_block empty_brackets full_brackets lambda_call called arrow_parameters plain_block arrow_value then_sign else_part branch otherwise if_value unless_value loop_body while_value until_value when_clause case_value class_header rescue_clause body_else body_ensure handlers begin_value module_body class_value module_value keyword_form newlines behind_newlines paren closed brace_block do_block block tail paren_tail keyword_value word_value integer_value text ivar_value gvar_value top_constant word_list embedded interpolated parenthesized array label_key pair_in_braces hash_value name_call constant_value super_value yield_value prim dot_part scope_part bracket post not_level power_level minus_level product_level sum_level shift_level comparison_level equal_level equality_level and_level or_level range_level ternary argument command_arguments command_part splat item more_items splat_list other_items one_value nested_value right_side jump_value jump command_level block_argument label_pair arrow_pair arguments_from arguments cargs more_pairs method_name not_expression expression alias_statement undef_statement simple modifier statement line statement_list
c_rest r b = (λ x. omega (arith, rest_deep (x.1.0) (x.1.1), flat_option (x.1.0)), (refl, tt, (refl, (refl, refl, (λ x. refl, tt), tt), c_more_parameters r b stage.Rest)))

c_block_parameter : (r b : Bool) → Checks table (block_parameter r b)
unfolding table placed target star_target behind_target next_target more_targets starred_set several_set parameter_name bracketed_names more_parameters default_value no_default behind_name named_parameter bracketed_parameter rest_parameter block_parameter sign_parameter simple_parameters parameters block_parameters brace_parts do_parts body_behind def_name def_in_brackets def_plain def_value plain_call lambda_block empty_brackets full_brackets lambda_call called arrow_parameters plain_block arrow_value then_sign else_part branch otherwise if_value unless_value loop_body while_value until_value when_clause case_value class_header rescue_clause body_else body_ensure handlers begin_value module_body class_value module_value keyword_form newlines behind_newlines paren closed brace_block do_block block tail paren_tail keyword_value word_value integer_value text ivar_value gvar_value top_constant word_list embedded interpolated parenthesized array label_key pair_in_braces hash_value name_call constant_value super_value yield_value prim dot_part scope_part bracket post not_level power_level minus_level product_level sum_level shift_level comparison_level equal_level equality_level and_level or_level range_level ternary argument command_arguments command_part splat item more_items splat_list other_items one_value nested_value right_side jump_value jump command_level block_argument label_pair arrow_pair arguments_from arguments cargs more_pairs method_name not_expression expression alias_statement undef_statement simple modifier statement line statement_list
c_block_parameter r b = (λ x. omega arith, (λ x. omega arith, (refl, tt, tt)))

c_sign : (r b : Bool) (s : Stage) → Checks table (sign_parameter r b s)
unfolding table placed target star_target behind_target next_target more_targets starred_set several_set parameter_name bracketed_names more_parameters default_value no_default behind_name named_parameter bracketed_parameter rest_parameter block_parameter sign_parameter simple_parameters parameters block_parameters brace_parts do_parts body_behind def_name def_in_brackets def_plain def_value plain_call lambda_block empty_brackets full_brackets lambda_call called arrow_parameters plain_block arrow_value then_sign else_part branch otherwise if_value unless_value loop_body while_value until_value when_clause case_value class_header rescue_clause body_else body_ensure handlers begin_value module_body class_value module_value keyword_form newlines behind_newlines paren closed brace_block do_block block tail paren_tail keyword_value word_value integer_value text ivar_value gvar_value top_constant word_list embedded interpolated parenthesized array label_key pair_in_braces hash_value name_call constant_value super_value yield_value prim dot_part scope_part bracket post not_level power_level minus_level product_level sum_level shift_level comparison_level equal_level equality_level and_level or_level range_level ternary argument command_arguments command_part splat item more_items splat_list other_items one_value nested_value right_side jump_value jump command_level block_argument label_pair arrow_pair arguments_from arguments cargs more_pairs method_name not_expression expression alias_statement undef_statement simple modifier statement line statement_list
c_sign r b stage.Plain = (refl, refl, c_rest r b, c_block_parameter r b)
c_sign r b stage.Optional = (refl, refl, c_rest r b, c_block_parameter r b)
c_sign r b stage.Rest = c_block_parameter r b
c_sign r b stage.After = c_block_parameter r b

c_simple_parameters : (r b : Bool) (s : Stage) → Checks table (simple_parameters r b s)
unfolding table placed target star_target behind_target next_target more_targets starred_set several_set parameter_name bracketed_names more_parameters default_value no_default behind_name named_parameter bracketed_parameter rest_parameter block_parameter sign_parameter simple_parameters parameters block_parameters brace_parts do_parts body_behind def_name def_in_brackets def_plain def_value plain_call lambda_block empty_brackets full_brackets lambda_call called arrow_parameters plain_block arrow_value then_sign else_part branch otherwise if_value unless_value loop_body while_value until_value when_clause case_value class_header rescue_clause body_else body_ensure handlers begin_value module_body class_value module_value keyword_form newlines behind_newlines paren closed brace_block do_block block tail paren_tail keyword_value word_value integer_value text ivar_value gvar_value top_constant word_list embedded interpolated parenthesized array label_key pair_in_braces hash_value name_call constant_value super_value yield_value prim dot_part scope_part bracket post not_level power_level minus_level product_level sum_level shift_level comparison_level equal_level equality_level and_level or_level range_level ternary argument command_arguments command_part splat item more_items splat_list other_items one_value nested_value right_side jump_value jump command_level block_argument label_pair arrow_pair arguments_from arguments cargs more_pairs method_name not_expression expression alias_statement undef_statement simple modifier statement line statement_list
c_simple_parameters r b stage.Plain = (refl, refl, c_named_parameter r b stage.Plain, c_sign r b stage.Plain)
c_simple_parameters r b stage.Optional = (refl, refl, c_named_parameter r b stage.Optional, c_sign r b stage.Optional)
c_simple_parameters r b stage.Rest = (refl, refl, c_named_parameter r b stage.Rest, c_sign r b stage.Rest)
c_simple_parameters r b stage.After = (refl, refl, c_named_parameter r b stage.After, c_sign r b stage.After)

pub c_parameters : (r b : Bool) (s : Stage) → Checks table (parameters r b s)
unfolding table placed target star_target behind_target next_target more_targets starred_set several_set parameter_name bracketed_names more_parameters default_value no_default behind_name named_parameter bracketed_parameter rest_parameter block_parameter sign_parameter simple_parameters parameters block_parameters brace_parts do_parts body_behind def_name def_in_brackets def_plain def_value plain_call lambda_block empty_brackets full_brackets lambda_call called arrow_parameters plain_block arrow_value then_sign else_part branch otherwise if_value unless_value loop_body while_value until_value when_clause case_value class_header rescue_clause body_else body_ensure handlers begin_value module_body class_value module_value keyword_form newlines behind_newlines paren closed brace_block do_block block tail paren_tail keyword_value word_value integer_value text ivar_value gvar_value top_constant word_list embedded interpolated parenthesized array label_key pair_in_braces hash_value name_call constant_value super_value yield_value prim dot_part scope_part bracket post not_level power_level minus_level product_level sum_level shift_level comparison_level equal_level equality_level and_level or_level range_level ternary argument command_arguments command_part splat item more_items splat_list other_items one_value nested_value right_side jump_value jump command_level block_argument label_pair arrow_pair arguments_from arguments cargs more_pairs method_name not_expression expression alias_statement undef_statement simple modifier statement line statement_list
c_parameters r true stage.Plain = (refl, refl, c_bracketed r true stage.Plain, c_simple_parameters r true stage.Plain)
c_parameters r true stage.Optional = (refl, refl, c_bracketed r true stage.Optional, c_simple_parameters r true stage.Optional)
c_parameters r true stage.Rest = (refl, refl, c_bracketed r true stage.Rest, c_simple_parameters r true stage.Rest)
c_parameters r true stage.After = (refl, refl, c_bracketed r true stage.After, c_simple_parameters r true stage.After)
c_parameters r false s = c_simple_parameters r false s

-- ---- blocks

c_block_parameters : (r : Bool) → Checks table (block_parameters r)
unfolding table placed target star_target behind_target next_target more_targets starred_set several_set parameter_name bracketed_names more_parameters default_value no_default behind_name named_parameter bracketed_parameter rest_parameter block_parameter sign_parameter simple_parameters parameters block_parameters brace_parts do_parts body_behind def_name def_in_brackets def_plain def_value plain_call lambda_block empty_brackets full_brackets lambda_call called arrow_parameters plain_block arrow_value then_sign else_part branch otherwise if_value unless_value loop_body while_value until_value when_clause case_value class_header rescue_clause body_else body_ensure handlers begin_value module_body class_value module_value keyword_form newlines behind_newlines paren closed brace_block do_block block tail paren_tail keyword_value word_value integer_value text ivar_value gvar_value top_constant word_list embedded interpolated parenthesized array label_key pair_in_braces hash_value name_call constant_value super_value yield_value prim dot_part scope_part bracket post not_level power_level minus_level product_level sum_level shift_level comparison_level equal_level equality_level and_level or_level range_level ternary argument command_arguments command_part splat item more_items splat_list other_items one_value nested_value right_side jump_value jump command_level block_argument label_pair arrow_pair arguments_from arguments cargs more_pairs method_name not_expression expression alias_statement undef_statement simple modifier statement line statement_list
c_block_parameters r = (refl, refl, (λ x. omega arith, (refl, tt, (λ x. omega arith, (refl, (refl, refl, tt, tt), tt)))), tt)

c_brace_parts : (r : Bool) → Checks table (brace_parts r)
unfolding table placed target star_target behind_target next_target more_targets starred_set several_set parameter_name bracketed_names more_parameters default_value no_default behind_name named_parameter bracketed_parameter rest_parameter block_parameter sign_parameter simple_parameters parameters block_parameters brace_parts do_parts body_behind def_name def_in_brackets def_plain def_value plain_call lambda_block empty_brackets full_brackets lambda_call called arrow_parameters plain_block arrow_value then_sign else_part branch otherwise if_value unless_value loop_body while_value until_value when_clause case_value class_header rescue_clause body_else body_ensure handlers begin_value module_body class_value module_value keyword_form newlines behind_newlines paren closed brace_block do_block block tail paren_tail keyword_value word_value integer_value text ivar_value gvar_value top_constant word_list embedded interpolated parenthesized array label_key pair_in_braces hash_value name_call constant_value super_value yield_value prim dot_part scope_part bracket post not_level power_level minus_level product_level sum_level shift_level comparison_level equal_level equality_level and_level or_level range_level ternary argument command_arguments command_part splat item more_items splat_list other_items one_value nested_value right_side jump_value jump command_level block_argument label_pair arrow_pair arguments_from arguments cargs more_pairs method_name not_expression expression alias_statement undef_statement simple modifier statement line statement_list
c_brace_parts r = (refl, tt, (refl, c_block_parameters r, (refl, tt, tt)))

c_do_parts : (r : Bool) → Checks table (do_parts r)
unfolding table placed target star_target behind_target next_target more_targets starred_set several_set parameter_name bracketed_names more_parameters default_value no_default behind_name named_parameter bracketed_parameter rest_parameter block_parameter sign_parameter simple_parameters parameters block_parameters brace_parts do_parts body_behind def_name def_in_brackets def_plain def_value plain_call lambda_block empty_brackets full_brackets lambda_call called arrow_parameters plain_block arrow_value then_sign else_part branch otherwise if_value unless_value loop_body while_value until_value when_clause case_value class_header rescue_clause body_else body_ensure handlers begin_value module_body class_value module_value keyword_form newlines behind_newlines paren closed brace_block do_block block tail paren_tail keyword_value word_value integer_value text ivar_value gvar_value top_constant word_list embedded interpolated parenthesized array label_key pair_in_braces hash_value name_call constant_value super_value yield_value prim dot_part scope_part bracket post not_level power_level minus_level product_level sum_level shift_level comparison_level equal_level equality_level and_level or_level range_level ternary argument command_arguments command_part splat item more_items splat_list other_items one_value nested_value right_side jump_value jump command_level block_argument label_pair arrow_pair arguments_from arguments cargs more_pairs method_name not_expression expression alias_statement undef_statement simple modifier statement line statement_list
c_do_parts r = (refl, tt, (refl, c_block_parameters r, (refl, tt, tt)))

block_deep : (x : Seen × (act.Parameters × ((Node × ℕ) × Seen))) → depth_of (block_node x) ≡ suc (max (parameters_depth (x.1.0)) (depth_of (x.1.1.0.0)))
block_deep x = omega (
  arith,
  d.depth_block (act.params_of (x.1.0)) (act.filled (act.tokens x.0 (x.1.1.1)) (x.1.1.0)) (act.tokens x.0 (x.1.1.1)) (act.start x.0),
  parameters_deep (x.1.0),
  filled_deep (act.tokens x.0 (x.1.1.1)) (x.1.1.0),
)

c_brace : (r : Bool) → Checks table (brace_block r)
unfolding table placed target star_target behind_target next_target more_targets starred_set several_set parameter_name bracketed_names more_parameters default_value no_default behind_name named_parameter bracketed_parameter rest_parameter block_parameter sign_parameter simple_parameters parameters block_parameters brace_parts do_parts body_behind def_name def_in_brackets def_plain def_value plain_call lambda_block empty_brackets full_brackets lambda_call called arrow_parameters plain_block arrow_value then_sign else_part branch otherwise if_value unless_value loop_body while_value until_value when_clause case_value class_header rescue_clause body_else body_ensure handlers begin_value module_body class_value module_value keyword_form newlines behind_newlines paren closed brace_block do_block block tail paren_tail keyword_value word_value integer_value text ivar_value gvar_value top_constant word_list embedded interpolated parenthesized array label_key pair_in_braces hash_value name_call constant_value super_value yield_value prim dot_part scope_part bracket post not_level power_level minus_level product_level sum_level shift_level comparison_level equal_level equality_level and_level or_level range_level ternary argument command_arguments command_part splat item more_items splat_list other_items one_value nested_value right_side jump_value jump command_level block_argument label_pair arrow_pair arguments_from arguments cargs more_pairs method_name not_expression expression alias_statement undef_statement simple modifier statement line statement_list
c_brace r = (λ x. omega (arith, block_deep x), c_brace_parts r)

c_do : (r : Bool) → Checks table (do_block r)
unfolding table placed target star_target behind_target next_target more_targets starred_set several_set parameter_name bracketed_names more_parameters default_value no_default behind_name named_parameter bracketed_parameter rest_parameter block_parameter sign_parameter simple_parameters parameters block_parameters brace_parts do_parts body_behind def_name def_in_brackets def_plain def_value plain_call lambda_block empty_brackets full_brackets lambda_call called arrow_parameters plain_block arrow_value then_sign else_part branch otherwise if_value unless_value loop_body while_value until_value when_clause case_value class_header rescue_clause body_else body_ensure handlers begin_value module_body class_value module_value keyword_form newlines behind_newlines paren closed brace_block do_block block tail paren_tail keyword_value word_value integer_value text ivar_value gvar_value top_constant word_list embedded interpolated parenthesized array label_key pair_in_braces hash_value name_call constant_value super_value yield_value prim dot_part scope_part bracket post not_level power_level minus_level product_level sum_level shift_level comparison_level equal_level equality_level and_level or_level range_level ternary argument command_arguments command_part splat item more_items splat_list other_items one_value nested_value right_side jump_value jump command_level block_argument label_pair arrow_pair arguments_from arguments cargs more_pairs method_name not_expression expression alias_statement undef_statement simple modifier statement line statement_list
c_do r = (λ x. omega (arith, block_deep x), c_do_parts r)

c_block : (d r : Bool) → Checks table (block r d)
unfolding table placed target star_target behind_target next_target more_targets starred_set several_set parameter_name bracketed_names more_parameters default_value no_default behind_name named_parameter bracketed_parameter rest_parameter block_parameter sign_parameter simple_parameters parameters block_parameters brace_parts do_parts body_behind def_name def_in_brackets def_plain def_value plain_call lambda_block empty_brackets full_brackets lambda_call called arrow_parameters plain_block arrow_value then_sign else_part branch otherwise if_value unless_value loop_body while_value until_value when_clause case_value class_header rescue_clause body_else body_ensure handlers begin_value module_body class_value module_value keyword_form newlines behind_newlines paren closed brace_block do_block block tail paren_tail keyword_value word_value integer_value text ivar_value gvar_value top_constant word_list embedded interpolated parenthesized array label_key pair_in_braces hash_value name_call constant_value super_value yield_value prim dot_part scope_part bracket post not_level power_level minus_level product_level sum_level shift_level comparison_level equal_level equality_level and_level or_level range_level ternary argument command_arguments command_part splat item more_items splat_list other_items one_value nested_value right_side jump_value jump command_level block_argument label_pair arrow_pair arguments_from arguments cargs more_pairs method_name not_expression expression alias_statement undef_statement simple modifier statement line statement_list
c_block true r = (refl, refl, c_brace r, c_do r)
c_block false r = c_brace r

c_beside : (d r pass : Bool) → Included table (first table (block_beside r d pass)) (begins_block r d) × Included table (continues table (block_beside r d pass)) (begins_block r d) × (nullable table (block_beside r d pass) ≡ true → true ≡ true) × Checks table (block_beside r d pass)
unfolding table placed target star_target behind_target next_target more_targets starred_set several_set parameter_name bracketed_names more_parameters default_value no_default behind_name named_parameter bracketed_parameter rest_parameter block_parameter sign_parameter simple_parameters parameters block_parameters brace_parts do_parts body_behind def_name def_in_brackets def_plain def_value plain_call lambda_block empty_brackets full_brackets lambda_call called arrow_parameters plain_block arrow_value then_sign else_part branch otherwise if_value unless_value loop_body while_value until_value when_clause case_value class_header rescue_clause body_else body_ensure handlers begin_value module_body class_value module_value keyword_form newlines behind_newlines paren closed brace_block do_block block tail paren_tail keyword_value word_value integer_value text ivar_value gvar_value top_constant word_list embedded interpolated parenthesized array label_key pair_in_braces hash_value name_call constant_value super_value yield_value prim dot_part scope_part bracket post not_level power_level minus_level product_level sum_level shift_level comparison_level equal_level equality_level and_level or_level range_level ternary argument command_arguments command_part splat item more_items splat_list other_items one_value nested_value right_side jump_value jump command_level block_argument label_pair arrow_pair arguments_from arguments cargs more_pairs method_name not_expression expression alias_statement undef_statement simple modifier statement line statement_list
c_beside true r true = (refl, refl, (λ h. refl), tt)
c_beside true r false = (refl, refl, (λ h. refl), (refl, refl, (λ x. refl, c_block true r), tt))
c_beside false r true = (refl, refl, (λ h. refl), tt)
c_beside false r false = (refl, refl, (λ h. refl), (refl, refl, (λ x. refl, c_block false r), tt))

c_tail : (d r : Bool) → Checks table (tail r d)
unfolding table placed target star_target behind_target next_target more_targets starred_set several_set parameter_name bracketed_names more_parameters default_value no_default behind_name named_parameter bracketed_parameter rest_parameter block_parameter sign_parameter simple_parameters parameters block_parameters brace_parts do_parts body_behind def_name def_in_brackets def_plain def_value plain_call lambda_block empty_brackets full_brackets lambda_call called arrow_parameters plain_block arrow_value then_sign else_part branch otherwise if_value unless_value loop_body while_value until_value when_clause case_value class_header rescue_clause body_else body_ensure handlers begin_value module_body class_value module_value keyword_form newlines behind_newlines paren closed brace_block do_block block tail paren_tail keyword_value word_value integer_value text ivar_value gvar_value top_constant word_list embedded interpolated parenthesized array label_key pair_in_braces hash_value name_call constant_value super_value yield_value prim dot_part scope_part bracket post not_level power_level minus_level product_level sum_level shift_level comparison_level equal_level equality_level and_level or_level range_level ternary argument command_arguments command_part splat item more_items splat_list other_items one_value nested_value right_side jump_value jump command_level block_argument label_pair arrow_pair arguments_from arguments cargs more_pairs method_name not_expression expression alias_statement undef_statement simple modifier statement line statement_list
c_tail true r = (refl, (refl, refl, (λ x. refl, c_paren r true), tt), λ x. c_beside true r (is_some (act.block_pass x)))
c_tail false r = (refl, (refl, refl, (λ x. refl, c_paren r true), tt), λ x. c_beside false r (is_some (act.block_pass x)))

c_paren_tail : (d r : Bool) → Checks table (paren_tail r d)
unfolding table placed target star_target behind_target next_target more_targets starred_set several_set parameter_name bracketed_names more_parameters default_value no_default behind_name named_parameter bracketed_parameter rest_parameter block_parameter sign_parameter simple_parameters parameters block_parameters brace_parts do_parts body_behind def_name def_in_brackets def_plain def_value plain_call lambda_block empty_brackets full_brackets lambda_call called arrow_parameters plain_block arrow_value then_sign else_part branch otherwise if_value unless_value loop_body while_value until_value when_clause case_value class_header rescue_clause body_else body_ensure handlers begin_value module_body class_value module_value keyword_form newlines behind_newlines paren closed brace_block do_block block tail paren_tail keyword_value word_value integer_value text ivar_value gvar_value top_constant word_list embedded interpolated parenthesized array label_key pair_in_braces hash_value name_call constant_value super_value yield_value prim dot_part scope_part bracket post not_level power_level minus_level product_level sum_level shift_level comparison_level equal_level equality_level and_level or_level range_level ternary argument command_arguments command_part splat item more_items splat_list other_items one_value nested_value right_side jump_value jump command_level block_argument label_pair arrow_pair arguments_from arguments cargs more_pairs method_name not_expression expression alias_statement undef_statement simple modifier statement line statement_list
c_paren_tail true r = (refl, (λ x. refl, c_paren r true), λ x. c_beside true r (is_some (act.block_pass x)))
c_paren_tail false r = (refl, (λ x. refl, c_paren r true), λ x. c_beside false r (is_some (act.block_pass x)))

c_keyword : (w : Word) (k : Kind) → ((s : Span) (m : Pos) → depth_of (make k s m) ≡ 1) → Checks table (keyword_value w k)
unfolding table placed target star_target behind_target next_target more_targets starred_set several_set parameter_name bracketed_names more_parameters default_value no_default behind_name named_parameter bracketed_parameter rest_parameter block_parameter sign_parameter simple_parameters parameters block_parameters brace_parts do_parts body_behind def_name def_in_brackets def_plain def_value plain_call lambda_block empty_brackets full_brackets lambda_call called arrow_parameters plain_block arrow_value then_sign else_part branch otherwise if_value unless_value loop_body while_value until_value when_clause case_value class_header rescue_clause body_else body_ensure handlers begin_value module_body class_value module_value keyword_form newlines behind_newlines paren closed brace_block do_block block tail paren_tail keyword_value word_value integer_value text ivar_value gvar_value top_constant word_list embedded interpolated parenthesized array label_key pair_in_braces hash_value name_call constant_value super_value yield_value prim dot_part scope_part bracket post not_level power_level minus_level product_level sum_level shift_level comparison_level equal_level equality_level and_level or_level range_level ternary argument command_arguments command_part splat item more_items splat_list other_items one_value nested_value right_side jump_value jump command_level block_argument label_pair arrow_pair arguments_from arguments cargs more_pairs method_name not_expression expression alias_statement undef_statement simple modifier statement line statement_list
c_keyword w k e = (λ t. e (act.span_of t) (act.start t), tt)

c_word : Checks table (word_value)
unfolding table placed target star_target behind_target next_target more_targets starred_set several_set parameter_name bracketed_names more_parameters default_value no_default behind_name named_parameter bracketed_parameter rest_parameter block_parameter sign_parameter simple_parameters parameters block_parameters brace_parts do_parts body_behind def_name def_in_brackets def_plain def_value plain_call lambda_block empty_brackets full_brackets lambda_call called arrow_parameters plain_block arrow_value then_sign else_part branch otherwise if_value unless_value loop_body while_value until_value when_clause case_value class_header rescue_clause body_else body_ensure handlers begin_value module_body class_value module_value keyword_form newlines behind_newlines paren closed brace_block do_block block tail paren_tail keyword_value word_value integer_value text ivar_value gvar_value top_constant word_list embedded interpolated parenthesized array label_key pair_in_braces hash_value name_call constant_value super_value yield_value prim dot_part scope_part bracket post not_level power_level minus_level product_level sum_level shift_level comparison_level equal_level equality_level and_level or_level range_level ternary argument command_arguments command_part splat item more_items splat_list other_items one_value nested_value right_side jump_value jump command_level block_argument label_pair arrow_pair arguments_from arguments cargs more_pairs method_name not_expression expression alias_statement undef_statement simple modifier statement line statement_list
c_word = (refl, refl, c_keyword word.Nil (kind.Lit literal.Nil) (λ s m. d.depth_lit literal.Nil s m), (refl, refl, c_keyword word.True (kind.Lit literal.True) (λ s m. d.depth_lit literal.True s m), (refl, refl, c_keyword word.False (kind.Lit literal.False) (λ s m. d.depth_lit literal.False s m), (refl, refl, c_keyword word.Self_ kind.SelfRef (λ s m. d.depth_self_ref s m), c_keyword word.Retry kind.Retry (λ s m. d.depth_retry s m)))))

c_integer : Checks table (integer_value)
unfolding table placed target star_target behind_target next_target more_targets starred_set several_set parameter_name bracketed_names more_parameters default_value no_default behind_name named_parameter bracketed_parameter rest_parameter block_parameter sign_parameter simple_parameters parameters block_parameters brace_parts do_parts body_behind def_name def_in_brackets def_plain def_value plain_call lambda_block empty_brackets full_brackets lambda_call called arrow_parameters plain_block arrow_value then_sign else_part branch otherwise if_value unless_value loop_body while_value until_value when_clause case_value class_header rescue_clause body_else body_ensure handlers begin_value module_body class_value module_value keyword_form newlines behind_newlines paren closed brace_block do_block block tail paren_tail keyword_value word_value integer_value text ivar_value gvar_value top_constant word_list embedded interpolated parenthesized array label_key pair_in_braces hash_value name_call constant_value super_value yield_value prim dot_part scope_part bracket post not_level power_level minus_level product_level sum_level shift_level comparison_level equal_level equality_level and_level or_level range_level ternary argument command_arguments command_part splat item more_items splat_list other_items one_value nested_value right_side jump_value jump command_level block_argument label_pair arrow_pair arguments_from arguments cargs more_pairs method_name not_expression expression alias_statement undef_statement simple modifier statement line statement_list
c_integer = (λ t. d.depth_int (act.integer t) (act.span_of t) (act.start t), tt)

c_text : Checks table (text)
unfolding table placed target star_target behind_target next_target more_targets starred_set several_set parameter_name bracketed_names more_parameters default_value no_default behind_name named_parameter bracketed_parameter rest_parameter block_parameter sign_parameter simple_parameters parameters block_parameters brace_parts do_parts body_behind def_name def_in_brackets def_plain def_value plain_call lambda_block empty_brackets full_brackets lambda_call called arrow_parameters plain_block arrow_value then_sign else_part branch otherwise if_value unless_value loop_body while_value until_value when_clause case_value class_header rescue_clause body_else body_ensure handlers begin_value module_body class_value module_value keyword_form newlines behind_newlines paren closed brace_block do_block block tail paren_tail keyword_value word_value integer_value text ivar_value gvar_value top_constant word_list embedded interpolated parenthesized array label_key pair_in_braces hash_value name_call constant_value super_value yield_value prim dot_part scope_part bracket post not_level power_level minus_level product_level sum_level shift_level comparison_level equal_level equality_level and_level or_level range_level ternary argument command_arguments command_part splat item more_items splat_list other_items one_value nested_value right_side jump_value jump command_level block_argument label_pair arrow_pair arguments_from arguments cargs more_pairs method_name not_expression expression alias_statement undef_statement simple modifier statement line statement_list
c_text = (λ t. d.depth_str (act.units t) (act.span_of t) (act.start t), tt)

c_ivar : Checks table (ivar_value)
unfolding table placed target star_target behind_target next_target more_targets starred_set several_set parameter_name bracketed_names more_parameters default_value no_default behind_name named_parameter bracketed_parameter rest_parameter block_parameter sign_parameter simple_parameters parameters block_parameters brace_parts do_parts body_behind def_name def_in_brackets def_plain def_value plain_call lambda_block empty_brackets full_brackets lambda_call called arrow_parameters plain_block arrow_value then_sign else_part branch otherwise if_value unless_value loop_body while_value until_value when_clause case_value class_header rescue_clause body_else body_ensure handlers begin_value module_body class_value module_value keyword_form newlines behind_newlines paren closed brace_block do_block block tail paren_tail keyword_value word_value integer_value text ivar_value gvar_value top_constant word_list embedded interpolated parenthesized array label_key pair_in_braces hash_value name_call constant_value super_value yield_value prim dot_part scope_part bracket post not_level power_level minus_level product_level sum_level shift_level comparison_level equal_level equality_level and_level or_level range_level ternary argument command_arguments command_part splat item more_items splat_list other_items one_value nested_value right_side jump_value jump command_level block_argument label_pair arrow_pair arguments_from arguments cargs more_pairs method_name not_expression expression alias_statement undef_statement simple modifier statement line statement_list
c_ivar = (λ t. d.depth_ivar_get (act.units t) (act.span_of t) (act.start t), tt)

c_gvar : Checks table (gvar_value)
unfolding table placed target star_target behind_target next_target more_targets starred_set several_set parameter_name bracketed_names more_parameters default_value no_default behind_name named_parameter bracketed_parameter rest_parameter block_parameter sign_parameter simple_parameters parameters block_parameters brace_parts do_parts body_behind def_name def_in_brackets def_plain def_value plain_call lambda_block empty_brackets full_brackets lambda_call called arrow_parameters plain_block arrow_value then_sign else_part branch otherwise if_value unless_value loop_body while_value until_value when_clause case_value class_header rescue_clause body_else body_ensure handlers begin_value module_body class_value module_value keyword_form newlines behind_newlines paren closed brace_block do_block block tail paren_tail keyword_value word_value integer_value text ivar_value gvar_value top_constant word_list embedded interpolated parenthesized array label_key pair_in_braces hash_value name_call constant_value super_value yield_value prim dot_part scope_part bracket post not_level power_level minus_level product_level sum_level shift_level comparison_level equal_level equality_level and_level or_level range_level ternary argument command_arguments command_part splat item more_items splat_list other_items one_value nested_value right_side jump_value jump command_level block_argument label_pair arrow_pair arguments_from arguments cargs more_pairs method_name not_expression expression alias_statement undef_statement simple modifier statement line statement_list
c_gvar = (λ t. d.depth_global_get (act.units t) (act.span_of t) (act.start t), tt)

c_top : Checks table (top_constant)
unfolding table placed target star_target behind_target next_target more_targets starred_set several_set parameter_name bracketed_names more_parameters default_value no_default behind_name named_parameter bracketed_parameter rest_parameter block_parameter sign_parameter simple_parameters parameters block_parameters brace_parts do_parts body_behind def_name def_in_brackets def_plain def_value plain_call lambda_block empty_brackets full_brackets lambda_call called arrow_parameters plain_block arrow_value then_sign else_part branch otherwise if_value unless_value loop_body while_value until_value when_clause case_value class_header rescue_clause body_else body_ensure handlers begin_value module_body class_value module_value keyword_form newlines behind_newlines paren closed brace_block do_block block tail paren_tail keyword_value word_value integer_value text ivar_value gvar_value top_constant word_list embedded interpolated parenthesized array label_key pair_in_braces hash_value name_call constant_value super_value yield_value prim dot_part scope_part bracket post not_level power_level minus_level product_level sum_level shift_level comparison_level equal_level equality_level and_level or_level range_level ternary argument command_arguments command_part splat item more_items splat_list other_items one_value nested_value right_side jump_value jump command_level block_argument label_pair arrow_pair arguments_from arguments cargs more_pairs method_name not_expression expression alias_statement undef_statement simple modifier statement line statement_list
c_top = (λ x. omega (arith, d.depth_const_get base.Top (act.units x.1) (act.tokens x.0 x.1) (act.start x.1), d.depth_top), (refl, tt, tt))

c_words : Checks table (word_list)
unfolding table placed target star_target behind_target next_target more_targets starred_set several_set parameter_name bracketed_names more_parameters default_value no_default behind_name named_parameter bracketed_parameter rest_parameter block_parameter sign_parameter simple_parameters parameters block_parameters brace_parts do_parts body_behind def_name def_in_brackets def_plain def_value plain_call lambda_block empty_brackets full_brackets lambda_call called arrow_parameters plain_block arrow_value then_sign else_part branch otherwise if_value unless_value loop_body while_value until_value when_clause case_value class_header rescue_clause body_else body_ensure handlers begin_value module_body class_value module_value keyword_form newlines behind_newlines paren closed brace_block do_block block tail paren_tail keyword_value word_value integer_value text ivar_value gvar_value top_constant word_list embedded interpolated parenthesized array label_key pair_in_braces hash_value name_call constant_value super_value yield_value prim dot_part scope_part bracket post not_level power_level minus_level product_level sum_level shift_level comparison_level equal_level equality_level and_level or_level range_level ternary argument command_arguments command_part splat item more_items splat_list other_items one_value nested_value right_side jump_value jump command_level block_argument label_pair arrow_pair arguments_from arguments cargs more_pairs method_name not_expression expression alias_statement undef_statement simple modifier statement line statement_list
c_words = (λ x. omega (arith, d.depth_array_lit (x.1.0) (act.tokens x.0 x.1.1) (act.start x.0)), (refl, tt, (refl, (refl, refl, c_text), tt)))

c_embedded : (r : Bool) → Checks table (embedded r)
unfolding table placed target star_target behind_target next_target more_targets starred_set several_set parameter_name bracketed_names more_parameters default_value no_default behind_name named_parameter bracketed_parameter rest_parameter block_parameter sign_parameter simple_parameters parameters block_parameters brace_parts do_parts body_behind def_name def_in_brackets def_plain def_value plain_call lambda_block empty_brackets full_brackets lambda_call called arrow_parameters plain_block arrow_value then_sign else_part branch otherwise if_value unless_value loop_body while_value until_value when_clause case_value class_header rescue_clause body_else body_ensure handlers begin_value module_body class_value module_value keyword_form newlines behind_newlines paren closed brace_block do_block block tail paren_tail keyword_value word_value integer_value text ivar_value gvar_value top_constant word_list embedded interpolated parenthesized array label_key pair_in_braces hash_value name_call constant_value super_value yield_value prim dot_part scope_part bracket post not_level power_level minus_level product_level sum_level shift_level comparison_level equal_level equality_level and_level or_level range_level ternary argument command_arguments command_part splat item more_items splat_list other_items one_value nested_value right_side jump_value jump command_level block_argument label_pair arrow_pair arguments_from arguments cargs more_pairs method_name not_expression expression alias_statement undef_statement simple modifier statement line statement_list
c_embedded r = (λ x. omega (arith, filled_deep (act.tokens x.0 x.1.1) x.1.0), (refl, tt, (refl, tt, tt)))

c_interpolated : (r : Bool) → Checks table (interpolated r)
unfolding table placed target star_target behind_target next_target more_targets starred_set several_set parameter_name bracketed_names more_parameters default_value no_default behind_name named_parameter bracketed_parameter rest_parameter block_parameter sign_parameter simple_parameters parameters block_parameters brace_parts do_parts body_behind def_name def_in_brackets def_plain def_value plain_call lambda_block empty_brackets full_brackets lambda_call called arrow_parameters plain_block arrow_value then_sign else_part branch otherwise if_value unless_value loop_body while_value until_value when_clause case_value class_header rescue_clause body_else body_ensure handlers begin_value module_body class_value module_value keyword_form newlines behind_newlines paren closed brace_block do_block block tail paren_tail keyword_value word_value integer_value text ivar_value gvar_value top_constant word_list embedded interpolated parenthesized array label_key pair_in_braces hash_value name_call constant_value super_value yield_value prim dot_part scope_part bracket post not_level power_level minus_level product_level sum_level shift_level comparison_level equal_level equality_level and_level or_level range_level ternary argument command_arguments command_part splat item more_items splat_list other_items one_value nested_value right_side jump_value jump command_level block_argument label_pair arrow_pair arguments_from arguments cargs more_pairs method_name not_expression expression alias_statement undef_statement simple modifier statement line statement_list
c_interpolated r = (λ x. omega (arith, d.depth_interp (x.1.0) (act.tokens x.0 x.1.1) (act.start x.0)), (refl, tt, (refl, (refl, refl, (refl, refl, c_text, c_embedded r)), tt)))

c_parenthesized : (r : Bool) → Checks table (parenthesized r)
unfolding table placed target star_target behind_target next_target more_targets starred_set several_set parameter_name bracketed_names more_parameters default_value no_default behind_name named_parameter bracketed_parameter rest_parameter block_parameter sign_parameter simple_parameters parameters block_parameters brace_parts do_parts body_behind def_name def_in_brackets def_plain def_value plain_call lambda_block empty_brackets full_brackets lambda_call called arrow_parameters plain_block arrow_value then_sign else_part branch otherwise if_value unless_value loop_body while_value until_value when_clause case_value class_header rescue_clause body_else body_ensure handlers begin_value module_body class_value module_value keyword_form newlines behind_newlines paren closed brace_block do_block block tail paren_tail keyword_value word_value integer_value text ivar_value gvar_value top_constant word_list embedded interpolated parenthesized array label_key pair_in_braces hash_value name_call constant_value super_value yield_value prim dot_part scope_part bracket post not_level power_level minus_level product_level sum_level shift_level comparison_level equal_level equality_level and_level or_level range_level ternary argument command_arguments command_part splat item more_items splat_list other_items one_value nested_value right_side jump_value jump command_level block_argument label_pair arrow_pair arguments_from arguments cargs more_pairs method_name not_expression expression alias_statement undef_statement simple modifier statement line statement_list
c_parenthesized r = (λ x. omega (arith, replaced_deep (act.tokens x.0 x.1.1) (act.start x.0) (x.1.0.0)), (refl, tt, (refl, tt, tt)))

c_array : (r : Bool) → Checks table (array r)
unfolding table placed target star_target behind_target next_target more_targets starred_set several_set parameter_name bracketed_names more_parameters default_value no_default behind_name named_parameter bracketed_parameter rest_parameter block_parameter sign_parameter simple_parameters parameters block_parameters brace_parts do_parts body_behind def_name def_in_brackets def_plain def_value plain_call lambda_block empty_brackets full_brackets lambda_call called arrow_parameters plain_block arrow_value then_sign else_part branch otherwise if_value unless_value loop_body while_value until_value when_clause case_value class_header rescue_clause body_else body_ensure handlers begin_value module_body class_value module_value keyword_form newlines behind_newlines paren closed brace_block do_block block tail paren_tail keyword_value word_value integer_value text ivar_value gvar_value top_constant word_list embedded interpolated parenthesized array label_key pair_in_braces hash_value name_call constant_value super_value yield_value prim dot_part scope_part bracket post not_level power_level minus_level product_level sum_level shift_level comparison_level equal_level equality_level and_level or_level range_level ternary argument command_arguments command_part splat item more_items splat_list other_items one_value nested_value right_side jump_value jump command_level block_argument label_pair arrow_pair arguments_from arguments cargs more_pairs method_name not_expression expression alias_statement undef_statement simple modifier statement line statement_list
c_array r = (λ x. omega (arith, d.depth_array_lit (act.items_of (x.1.0)) (act.tokens x.0 x.1.1) (act.start x.0), items_deep (x.1.0)), (refl, tt, c_close r false))

c_key : Checks table (label_key)
unfolding table placed target star_target behind_target next_target more_targets starred_set several_set parameter_name bracketed_names more_parameters default_value no_default behind_name named_parameter bracketed_parameter rest_parameter block_parameter sign_parameter simple_parameters parameters block_parameters brace_parts do_parts body_behind def_name def_in_brackets def_plain def_value plain_call lambda_block empty_brackets full_brackets lambda_call called arrow_parameters plain_block arrow_value then_sign else_part branch otherwise if_value unless_value loop_body while_value until_value when_clause case_value class_header rescue_clause body_else body_ensure handlers begin_value module_body class_value module_value keyword_form newlines behind_newlines paren closed brace_block do_block block tail paren_tail keyword_value word_value integer_value text ivar_value gvar_value top_constant word_list embedded interpolated parenthesized array label_key pair_in_braces hash_value name_call constant_value super_value yield_value prim dot_part scope_part bracket post not_level power_level minus_level product_level sum_level shift_level comparison_level equal_level equality_level and_level or_level range_level ternary argument command_arguments command_part splat item more_items splat_list other_items one_value nested_value right_side jump_value jump command_level block_argument label_pair arrow_pair arguments_from arguments cargs more_pairs method_name not_expression expression alias_statement undef_statement simple modifier statement line statement_list
c_key = (λ t. d.depth_str (act.units t) (act.span_of t) (act.start t), tt)

c_pair : (r : Bool) → Checks table (pair_in_braces r)
unfolding table placed target star_target behind_target next_target more_targets starred_set several_set parameter_name bracketed_names more_parameters default_value no_default behind_name named_parameter bracketed_parameter rest_parameter block_parameter sign_parameter simple_parameters parameters block_parameters brace_parts do_parts body_behind def_name def_in_brackets def_plain def_value plain_call lambda_block empty_brackets full_brackets lambda_call called arrow_parameters plain_block arrow_value then_sign else_part branch otherwise if_value unless_value loop_body while_value until_value when_clause case_value class_header rescue_clause body_else body_ensure handlers begin_value module_body class_value module_value keyword_form newlines behind_newlines paren closed brace_block do_block block tail paren_tail keyword_value word_value integer_value text ivar_value gvar_value top_constant word_list embedded interpolated parenthesized array label_key pair_in_braces hash_value name_call constant_value super_value yield_value prim dot_part scope_part bracket post not_level power_level minus_level product_level sum_level shift_level comparison_level equal_level equality_level and_level or_level range_level ternary argument command_arguments command_part splat item more_items splat_list other_items one_value nested_value right_side jump_value jump command_level block_argument label_pair arrow_pair arguments_from arguments cargs more_pairs method_name not_expression expression alias_statement undef_statement simple modifier statement line statement_list
c_pair r = (refl, refl, (refl, c_key, tt), (refl, tt, (λ x. omega arith, (refl, tt, tt))))

c_hash : (r : Bool) → Checks table (hash_value r)
unfolding table placed target star_target behind_target next_target more_targets starred_set several_set parameter_name bracketed_names more_parameters default_value no_default behind_name named_parameter bracketed_parameter rest_parameter block_parameter sign_parameter simple_parameters parameters block_parameters brace_parts do_parts body_behind def_name def_in_brackets def_plain def_value plain_call lambda_block empty_brackets full_brackets lambda_call called arrow_parameters plain_block arrow_value then_sign else_part branch otherwise if_value unless_value loop_body while_value until_value when_clause case_value class_header rescue_clause body_else body_ensure handlers begin_value module_body class_value module_value keyword_form newlines behind_newlines paren closed brace_block do_block block tail paren_tail keyword_value word_value integer_value text ivar_value gvar_value top_constant word_list embedded interpolated parenthesized array label_key pair_in_braces hash_value name_call constant_value super_value yield_value prim dot_part scope_part bracket post not_level power_level minus_level product_level sum_level shift_level comparison_level equal_level equality_level and_level or_level range_level ternary argument command_arguments command_part splat item more_items splat_list other_items one_value nested_value right_side jump_value jump command_level block_argument label_pair arrow_pair arguments_from arguments cargs more_pairs method_name not_expression expression alias_statement undef_statement simple modifier statement line statement_list
c_hash r = (λ x. omega (arith, d.depth_hash_lit (map (λ y. y.0) (x.1.0)) (map (λ y. y.1) (x.1.0)) (act.tokens x.0 x.1.1) (act.start x.0), braces_deep (x.1.0)), (refl, tt, (refl, (refl, refl, (λ x. refl, (refl, c_pair r, (refl, refl, (λ x. omega arith, (refl, tt, c_pair r))))), tt), (λ x. omega (arith, deepest_flat x.0), (refl, c_newlines, tt)))))

c_plain_call : (d r : Bool) (t : Seen) → Checks table (plain_call r d t)
unfolding table placed target star_target behind_target next_target more_targets starred_set several_set parameter_name bracketed_names more_parameters default_value no_default behind_name named_parameter bracketed_parameter rest_parameter block_parameter sign_parameter simple_parameters parameters block_parameters brace_parts do_parts body_behind def_name def_in_brackets def_plain def_value plain_call lambda_block empty_brackets full_brackets lambda_call called arrow_parameters plain_block arrow_value then_sign else_part branch otherwise if_value unless_value loop_body while_value until_value when_clause case_value class_header rescue_clause body_else body_ensure handlers begin_value module_body class_value module_value keyword_form newlines behind_newlines paren closed brace_block do_block block tail paren_tail keyword_value word_value integer_value text ivar_value gvar_value top_constant word_list embedded interpolated parenthesized array label_key pair_in_braces hash_value name_call constant_value super_value yield_value prim dot_part scope_part bracket post not_level power_level minus_level product_level sum_level shift_level comparison_level equal_level equality_level and_level or_level range_level ternary argument command_arguments command_part splat item more_items splat_list other_items one_value nested_value right_side jump_value jump command_level block_argument label_pair arrow_pair arguments_from arguments cargs more_pairs method_name not_expression expression alias_statement undef_statement simple modifier statement line statement_list
c_plain_call true r t = (λ x. omega (arith, named_deep r t x), c_tail true r)
c_plain_call false r t = (λ x. omega (arith, named_deep r t x), c_tail false r)

c_lambda_block : (d r : Bool) (t : Seen) → Checks table (lambda_block r d t)
unfolding table placed target star_target behind_target next_target more_targets starred_set several_set parameter_name bracketed_names more_parameters default_value no_default behind_name named_parameter bracketed_parameter rest_parameter block_parameter sign_parameter simple_parameters parameters block_parameters brace_parts do_parts body_behind def_name def_in_brackets def_plain def_value plain_call lambda_block empty_brackets full_brackets lambda_call called arrow_parameters plain_block arrow_value then_sign else_part branch otherwise if_value unless_value loop_body while_value until_value when_clause case_value class_header rescue_clause body_else body_ensure handlers begin_value module_body class_value module_value keyword_form newlines behind_newlines paren closed brace_block do_block block tail paren_tail keyword_value word_value integer_value text ivar_value gvar_value top_constant word_list embedded interpolated parenthesized array label_key pair_in_braces hash_value name_call constant_value super_value yield_value prim dot_part scope_part bracket post not_level power_level minus_level product_level sum_level shift_level comparison_level equal_level equality_level and_level or_level range_level ternary argument command_arguments command_part splat item more_items splat_list other_items one_value nested_value right_side jump_value jump command_level block_argument label_pair arrow_pair arguments_from arguments cargs more_pairs method_name not_expression expression alias_statement undef_statement simple modifier statement line statement_list
c_lambda_block true r t = (λ x. refl, (refl, refl, (λ x. omega (arith, lambda_deep (x.1.0) (x.1.1.0) (act.tokens t (x.1.1.1))), c_brace_parts r), (λ x. omega (arith, lambda_deep (x.1.0) (x.1.1.0) (act.tokens t (x.1.1.1))), c_do_parts r)))
c_lambda_block false r t = (λ x. refl, (λ x. omega (arith, lambda_deep (x.1.0) (x.1.1.0) (act.tokens t (x.1.1.1))), c_brace_parts r))

c_empty_brackets : (d r : Bool) (t : Seen) → Checks table (empty_brackets r d t)
unfolding table placed target star_target behind_target next_target more_targets starred_set several_set parameter_name bracketed_names more_parameters default_value no_default behind_name named_parameter bracketed_parameter rest_parameter block_parameter sign_parameter simple_parameters parameters block_parameters brace_parts do_parts body_behind def_name def_in_brackets def_plain def_value plain_call lambda_block empty_brackets full_brackets lambda_call called arrow_parameters plain_block arrow_value then_sign else_part branch otherwise if_value unless_value loop_body while_value until_value when_clause case_value class_header rescue_clause body_else body_ensure handlers begin_value module_body class_value module_value keyword_form newlines behind_newlines paren closed brace_block do_block block tail paren_tail keyword_value word_value integer_value text ivar_value gvar_value top_constant word_list embedded interpolated parenthesized array label_key pair_in_braces hash_value name_call constant_value super_value yield_value prim dot_part scope_part bracket post not_level power_level minus_level product_level sum_level shift_level comparison_level equal_level equality_level and_level or_level range_level ternary argument command_arguments command_part splat item more_items splat_list other_items one_value nested_value right_side jump_value jump command_level block_argument label_pair arrow_pair arguments_from arguments cargs more_pairs method_name not_expression expression alias_statement undef_statement simple modifier statement line statement_list
c_empty_brackets true r t = (λ x. omega arith, (refl, (λ x. omega (arith, deepest_flat x.0), (refl, c_newlines, tt)), λ close. (refl, refl, (λ h. refl), (refl, refl, c_lambda_block true r t, tt))))
c_empty_brackets false r t = (λ x. omega arith, (refl, (λ x. omega (arith, deepest_flat x.0), (refl, c_newlines, tt)), λ close. (refl, refl, (λ h. refl), (refl, refl, c_lambda_block false r t, tt))))

c_full_brackets : (d r : Bool) (t : Seen) → Checks table (full_brackets r d t)
unfolding table placed target star_target behind_target next_target more_targets starred_set several_set parameter_name bracketed_names more_parameters default_value no_default behind_name named_parameter bracketed_parameter rest_parameter block_parameter sign_parameter simple_parameters parameters block_parameters brace_parts do_parts body_behind def_name def_in_brackets def_plain def_value plain_call lambda_block empty_brackets full_brackets lambda_call called arrow_parameters plain_block arrow_value then_sign else_part branch otherwise if_value unless_value loop_body while_value until_value when_clause case_value class_header rescue_clause body_else body_ensure handlers begin_value module_body class_value module_value keyword_form newlines behind_newlines paren closed brace_block do_block block tail paren_tail keyword_value word_value integer_value text ivar_value gvar_value top_constant word_list embedded interpolated parenthesized array label_key pair_in_braces hash_value name_call constant_value super_value yield_value prim dot_part scope_part bracket post not_level power_level minus_level product_level sum_level shift_level comparison_level equal_level equality_level and_level or_level range_level ternary argument command_arguments command_part splat item more_items splat_list other_items one_value nested_value right_side jump_value jump command_level block_argument label_pair arrow_pair arguments_from arguments cargs more_pairs method_name not_expression expression alias_statement undef_statement simple modifier statement line statement_list
c_full_brackets true r t = (λ x. omega (arith, named_deep r t (Some x.0, x.1)), (refl, (refl, tt, (λ x. omega (arith, deepest_flat x.0), (refl, c_newlines, tt))), λ x. c_beside true r (is_some (x.0.1.1))))
c_full_brackets false r t = (λ x. omega (arith, named_deep r t (Some x.0, x.1)), (refl, (refl, tt, (λ x. omega (arith, deepest_flat x.0), (refl, c_newlines, tt))), λ x. c_beside false r (is_some (x.0.1.1))))

c_lambda_call : (d r : Bool) (t : Seen) → Checks table (lambda_call r d t)
unfolding table placed target star_target behind_target next_target more_targets starred_set several_set parameter_name bracketed_names more_parameters default_value no_default behind_name named_parameter bracketed_parameter rest_parameter block_parameter sign_parameter simple_parameters parameters block_parameters brace_parts do_parts body_behind def_name def_in_brackets def_plain def_value plain_call lambda_block empty_brackets full_brackets lambda_call called arrow_parameters plain_block arrow_value then_sign else_part branch otherwise if_value unless_value loop_body while_value until_value when_clause case_value class_header rescue_clause body_else body_ensure handlers begin_value module_body class_value module_value keyword_form newlines behind_newlines paren closed brace_block do_block block tail paren_tail keyword_value word_value integer_value text ivar_value gvar_value top_constant word_list embedded interpolated parenthesized array label_key pair_in_braces hash_value name_call constant_value super_value yield_value prim dot_part scope_part bracket post not_level power_level minus_level product_level sum_level shift_level comparison_level equal_level equality_level and_level or_level range_level ternary argument command_arguments command_part splat item more_items splat_list other_items one_value nested_value right_side jump_value jump command_level block_argument label_pair arrow_pair arguments_from arguments cargs more_pairs method_name not_expression expression alias_statement undef_statement simple modifier statement line statement_list
c_lambda_call true r t = (refl, refl, c_lambda_block true r t, (refl, refl, (λ x. omega arith, (refl, tt, (refl, refl, c_empty_brackets true r t, c_full_brackets true r t))), tt))
c_lambda_call false r t = (refl, refl, c_lambda_block false r t, (refl, refl, (λ x. omega arith, (refl, tt, (refl, refl, c_empty_brackets false r t, c_full_brackets false r t))), tt))

c_called : (d r lambda : Bool) (t : Seen) → Included table (first table (called r d lambda t)) (begins_tail r d) × Included table (continues table (called r d lambda t)) (begins_tail r d) × (nullable table (called r d lambda t) ≡ true → true ≡ true) × Checks table (called r d lambda t)
unfolding table placed target star_target behind_target next_target more_targets starred_set several_set parameter_name bracketed_names more_parameters default_value no_default behind_name named_parameter bracketed_parameter rest_parameter block_parameter sign_parameter simple_parameters parameters block_parameters brace_parts do_parts body_behind def_name def_in_brackets def_plain def_value plain_call lambda_block empty_brackets full_brackets lambda_call called arrow_parameters plain_block arrow_value then_sign else_part branch otherwise if_value unless_value loop_body while_value until_value when_clause case_value class_header rescue_clause body_else body_ensure handlers begin_value module_body class_value module_value keyword_form newlines behind_newlines paren closed brace_block do_block block tail paren_tail keyword_value word_value integer_value text ivar_value gvar_value top_constant word_list embedded interpolated parenthesized array label_key pair_in_braces hash_value name_call constant_value super_value yield_value prim dot_part scope_part bracket post not_level power_level minus_level product_level sum_level shift_level comparison_level equal_level equality_level and_level or_level range_level ternary argument command_arguments command_part splat item more_items splat_list other_items one_value nested_value right_side jump_value jump command_level block_argument label_pair arrow_pair arguments_from arguments cargs more_pairs method_name not_expression expression alias_statement undef_statement simple modifier statement line statement_list
c_called true r true t = (refl, refl, (λ h. refl), c_lambda_call true r t)
c_called true r false t = (refl, refl, (λ h. refl), c_plain_call true r t)
c_called false r true t = (refl, refl, (λ h. refl), c_lambda_call false r t)
c_called false r false t = (refl, refl, (λ h. refl), c_plain_call false r t)

c_name : (d r : Bool) → Checks table (name_call r d)
unfolding table placed target star_target behind_target next_target more_targets starred_set several_set parameter_name bracketed_names more_parameters default_value no_default behind_name named_parameter bracketed_parameter rest_parameter block_parameter sign_parameter simple_parameters parameters block_parameters brace_parts do_parts body_behind def_name def_in_brackets def_plain def_value plain_call lambda_block empty_brackets full_brackets lambda_call called arrow_parameters plain_block arrow_value then_sign else_part branch otherwise if_value unless_value loop_body while_value until_value when_clause case_value class_header rescue_clause body_else body_ensure handlers begin_value module_body class_value module_value keyword_form newlines behind_newlines paren closed brace_block do_block block tail paren_tail keyword_value word_value integer_value text ivar_value gvar_value top_constant word_list embedded interpolated parenthesized array label_key pair_in_braces hash_value name_call constant_value super_value yield_value prim dot_part scope_part bracket post not_level power_level minus_level product_level sum_level shift_level comparison_level equal_level equality_level and_level or_level range_level ternary argument command_arguments command_part splat item more_items splat_list other_items one_value nested_value right_side jump_value jump command_level block_argument label_pair arrow_pair arguments_from arguments cargs more_pairs method_name not_expression expression alias_statement undef_statement simple modifier statement line statement_list
c_name true r = (λ x. omega arith, ((λ x. omega (arith, some_level (x.1.0))), (refl, tt, λ t. c_called true r (act.is_lambda t) t)))
c_name false r = (λ x. omega arith, ((λ x. omega (arith, some_level (x.1.0))), (refl, tt, λ t. c_called false r (act.is_lambda t) t)))

c_arrow_parameters : (r : Bool) → Checks table (arrow_parameters r)
unfolding table placed target star_target behind_target next_target more_targets starred_set several_set parameter_name bracketed_names more_parameters default_value no_default behind_name named_parameter bracketed_parameter rest_parameter block_parameter sign_parameter simple_parameters parameters block_parameters brace_parts do_parts body_behind def_name def_in_brackets def_plain def_value plain_call lambda_block empty_brackets full_brackets lambda_call called arrow_parameters plain_block arrow_value then_sign else_part branch otherwise if_value unless_value loop_body while_value until_value when_clause case_value class_header rescue_clause body_else body_ensure handlers begin_value module_body class_value module_value keyword_form newlines behind_newlines paren closed brace_block do_block block tail paren_tail keyword_value word_value integer_value text ivar_value gvar_value top_constant word_list embedded interpolated parenthesized array label_key pair_in_braces hash_value name_call constant_value super_value yield_value prim dot_part scope_part bracket post not_level power_level minus_level product_level sum_level shift_level comparison_level equal_level equality_level and_level or_level range_level ternary argument command_arguments command_part splat item more_items splat_list other_items one_value nested_value right_side jump_value jump command_level block_argument label_pair arrow_pair arguments_from arguments cargs more_pairs method_name not_expression expression alias_statement undef_statement simple modifier statement line statement_list
c_arrow_parameters r = (refl, refl, (λ x. omega arith, (refl, tt, (λ x. omega arith, (refl, (refl, refl, tt, tt), (λ x. omega (arith, deepest_flat x.0), (refl, c_newlines, tt)))))), tt)

c_plain_block : (d r : Bool) → Checks table (plain_block r d)
unfolding table placed target star_target behind_target next_target more_targets starred_set several_set parameter_name bracketed_names more_parameters default_value no_default behind_name named_parameter bracketed_parameter rest_parameter block_parameter sign_parameter simple_parameters parameters block_parameters brace_parts do_parts body_behind def_name def_in_brackets def_plain def_value plain_call lambda_block empty_brackets full_brackets lambda_call called arrow_parameters plain_block arrow_value then_sign else_part branch otherwise if_value unless_value loop_body while_value until_value when_clause case_value class_header rescue_clause body_else body_ensure handlers begin_value module_body class_value module_value keyword_form newlines behind_newlines paren closed brace_block do_block block tail paren_tail keyword_value word_value integer_value text ivar_value gvar_value top_constant word_list embedded interpolated parenthesized array label_key pair_in_braces hash_value name_call constant_value super_value yield_value prim dot_part scope_part bracket post not_level power_level minus_level product_level sum_level shift_level comparison_level equal_level equality_level and_level or_level range_level ternary argument command_arguments command_part splat item more_items splat_list other_items one_value nested_value right_side jump_value jump command_level block_argument label_pair arrow_pair arguments_from arguments cargs more_pairs method_name not_expression expression alias_statement undef_statement simple modifier statement line statement_list
c_plain_block true r = (refl, refl, (λ x. omega arith, (refl, tt, (refl, tt, tt))), (λ x. omega arith, (refl, tt, (refl, tt, tt))))
c_plain_block false r = (λ x. omega arith, (refl, tt, (refl, tt, tt)))

c_arrow_value : (d r : Bool) → Checks table (arrow_value r d)
unfolding table placed target star_target behind_target next_target more_targets starred_set several_set parameter_name bracketed_names more_parameters default_value no_default behind_name named_parameter bracketed_parameter rest_parameter block_parameter sign_parameter simple_parameters parameters block_parameters brace_parts do_parts body_behind def_name def_in_brackets def_plain def_value plain_call lambda_block empty_brackets full_brackets lambda_call called arrow_parameters plain_block arrow_value then_sign else_part branch otherwise if_value unless_value loop_body while_value until_value when_clause case_value class_header rescue_clause body_else body_ensure handlers begin_value module_body class_value module_value keyword_form newlines behind_newlines paren closed brace_block do_block block tail paren_tail keyword_value word_value integer_value text ivar_value gvar_value top_constant word_list embedded interpolated parenthesized array label_key pair_in_braces hash_value name_call constant_value super_value yield_value prim dot_part scope_part bracket post not_level power_level minus_level product_level sum_level shift_level comparison_level equal_level equality_level and_level or_level range_level ternary argument command_arguments command_part splat item more_items splat_list other_items one_value nested_value right_side jump_value jump command_level block_argument label_pair arrow_pair arguments_from arguments cargs more_pairs method_name not_expression expression alias_statement undef_statement simple modifier statement line statement_list
c_arrow_value true r = (λ x. omega (arith, lambda_deep (x.1.0) (x.1.1.0) (act.tokens x.0 (x.1.1.1))), (refl, tt, (refl, c_arrow_parameters r, c_plain_block true r)))
c_arrow_value false r = (λ x. omega (arith, lambda_deep (x.1.0) (x.1.1.0) (act.tokens x.0 (x.1.1.1))), (refl, tt, (refl, c_arrow_parameters r, c_plain_block false r)))

c_constant : (d r : Bool) → Checks table (constant_value r d)
unfolding table placed target star_target behind_target next_target more_targets starred_set several_set parameter_name bracketed_names more_parameters default_value no_default behind_name named_parameter bracketed_parameter rest_parameter block_parameter sign_parameter simple_parameters parameters block_parameters brace_parts do_parts body_behind def_name def_in_brackets def_plain def_value plain_call lambda_block empty_brackets full_brackets lambda_call called arrow_parameters plain_block arrow_value then_sign else_part branch otherwise if_value unless_value loop_body while_value until_value when_clause case_value class_header rescue_clause body_else body_ensure handlers begin_value module_body class_value module_value keyword_form newlines behind_newlines paren closed brace_block do_block block tail paren_tail keyword_value word_value integer_value text ivar_value gvar_value top_constant word_list embedded interpolated parenthesized array label_key pair_in_braces hash_value name_call constant_value super_value yield_value prim dot_part scope_part bracket post not_level power_level minus_level product_level sum_level shift_level comparison_level equal_level equality_level and_level or_level range_level ternary argument command_arguments command_part splat item more_items splat_list other_items one_value nested_value right_side jump_value jump command_level block_argument label_pair arrow_pair arguments_from arguments cargs more_pairs method_name not_expression expression alias_statement undef_statement simple modifier statement line statement_list
c_constant true r = (λ x. omega (arith, constant_deep x.0 x.1), (refl, tt, (refl, refl, c_paren_tail true r, tt)))
c_constant false r = (λ x. omega (arith, constant_deep x.0 x.1), (refl, tt, (refl, refl, c_paren_tail false r, tt)))

c_super : (d r : Bool) → Checks table (super_value r d)
unfolding table placed target star_target behind_target next_target more_targets starred_set several_set parameter_name bracketed_names more_parameters default_value no_default behind_name named_parameter bracketed_parameter rest_parameter block_parameter sign_parameter simple_parameters parameters block_parameters brace_parts do_parts body_behind def_name def_in_brackets def_plain def_value plain_call lambda_block empty_brackets full_brackets lambda_call called arrow_parameters plain_block arrow_value then_sign else_part branch otherwise if_value unless_value loop_body while_value until_value when_clause case_value class_header rescue_clause body_else body_ensure handlers begin_value module_body class_value module_value keyword_form newlines behind_newlines paren closed brace_block do_block block tail paren_tail keyword_value word_value integer_value text ivar_value gvar_value top_constant word_list embedded interpolated parenthesized array label_key pair_in_braces hash_value name_call constant_value super_value yield_value prim dot_part scope_part bracket post not_level power_level minus_level product_level sum_level shift_level comparison_level equal_level equality_level and_level or_level range_level ternary argument command_arguments command_part splat item more_items splat_list other_items one_value nested_value right_side jump_value jump command_level block_argument label_pair arrow_pair arguments_from arguments cargs more_pairs method_name not_expression expression alias_statement undef_statement simple modifier statement line statement_list
c_super true r = (λ x. omega (arith, super_deep x.0 x.1), (refl, tt, c_tail true r))
c_super false r = (λ x. omega (arith, super_deep x.0 x.1), (refl, tt, c_tail false r))

c_yield : (r : Bool) → Checks table (yield_value r)
unfolding table placed target star_target behind_target next_target more_targets starred_set several_set parameter_name bracketed_names more_parameters default_value no_default behind_name named_parameter bracketed_parameter rest_parameter block_parameter sign_parameter simple_parameters parameters block_parameters brace_parts do_parts body_behind def_name def_in_brackets def_plain def_value plain_call lambda_block empty_brackets full_brackets lambda_call called arrow_parameters plain_block arrow_value then_sign else_part branch otherwise if_value unless_value loop_body while_value until_value when_clause case_value class_header rescue_clause body_else body_ensure handlers begin_value module_body class_value module_value keyword_form newlines behind_newlines paren closed brace_block do_block block tail paren_tail keyword_value word_value integer_value text ivar_value gvar_value top_constant word_list embedded interpolated parenthesized array label_key pair_in_braces hash_value name_call constant_value super_value yield_value prim dot_part scope_part bracket post not_level power_level minus_level product_level sum_level shift_level comparison_level equal_level equality_level and_level or_level range_level ternary argument command_arguments command_part splat item more_items splat_list other_items one_value nested_value right_side jump_value jump command_level block_argument label_pair arrow_pair arguments_from arguments cargs more_pairs method_name not_expression expression alias_statement undef_statement simple modifier statement line statement_list
c_yield r = (λ x. omega (arith, yield_deep x.0 x.1), (refl, tt, (refl, refl, (λ x. refl, c_paren r false), tt)))

c_then : Checks table (then_sign)
unfolding table placed target star_target behind_target next_target more_targets starred_set several_set parameter_name bracketed_names more_parameters default_value no_default behind_name named_parameter bracketed_parameter rest_parameter block_parameter sign_parameter simple_parameters parameters block_parameters brace_parts do_parts body_behind def_name def_in_brackets def_plain def_value plain_call lambda_block empty_brackets full_brackets lambda_call called arrow_parameters plain_block arrow_value then_sign else_part branch otherwise if_value unless_value loop_body while_value until_value when_clause case_value class_header rescue_clause body_else body_ensure handlers begin_value module_body class_value module_value keyword_form newlines behind_newlines paren closed brace_block do_block block tail paren_tail keyword_value word_value integer_value text ivar_value gvar_value top_constant word_list embedded interpolated parenthesized array label_key pair_in_braces hash_value name_call constant_value super_value yield_value prim dot_part scope_part bracket post not_level power_level minus_level product_level sum_level shift_level comparison_level equal_level equality_level and_level or_level range_level ternary argument command_arguments command_part splat item more_items splat_list other_items one_value nested_value right_side jump_value jump command_level block_argument label_pair arrow_pair arguments_from arguments cargs more_pairs method_name not_expression expression alias_statement undef_statement simple modifier statement line statement_list
c_then = (refl, refl, (λ x. omega (arith, flat_option x.1), (refl, tt, (refl, refl, (λ x. refl, tt), tt))), tt)

c_else : (r : Bool) → Checks table (else_part r)
unfolding table placed target star_target behind_target next_target more_targets starred_set several_set parameter_name bracketed_names more_parameters default_value no_default behind_name named_parameter bracketed_parameter rest_parameter block_parameter sign_parameter simple_parameters parameters block_parameters brace_parts do_parts body_behind def_name def_in_brackets def_plain def_value plain_call lambda_block empty_brackets full_brackets lambda_call called arrow_parameters plain_block arrow_value then_sign else_part branch otherwise if_value unless_value loop_body while_value until_value when_clause case_value class_header rescue_clause body_else body_ensure handlers begin_value module_body class_value module_value keyword_form newlines behind_newlines paren closed brace_block do_block block tail paren_tail keyword_value word_value integer_value text ivar_value gvar_value top_constant word_list embedded interpolated parenthesized array label_key pair_in_braces hash_value name_call constant_value super_value yield_value prim dot_part scope_part bracket post not_level power_level minus_level product_level sum_level shift_level comparison_level equal_level equality_level and_level or_level range_level ternary argument command_arguments command_part splat item more_items splat_list other_items one_value nested_value right_side jump_value jump command_level block_argument label_pair arrow_pair arguments_from arguments cargs more_pairs method_name not_expression expression alias_statement undef_statement simple modifier statement line statement_list
c_else r = (refl, refl, (λ x. omega arith, (refl, tt, tt)), tt)

c_branch : (r : Bool) → Checks table (branch r)
unfolding table placed target star_target behind_target next_target more_targets starred_set several_set parameter_name bracketed_names more_parameters default_value no_default behind_name named_parameter bracketed_parameter rest_parameter block_parameter sign_parameter simple_parameters parameters block_parameters brace_parts do_parts body_behind def_name def_in_brackets def_plain def_value plain_call lambda_block empty_brackets full_brackets lambda_call called arrow_parameters plain_block arrow_value then_sign else_part branch otherwise if_value unless_value loop_body while_value until_value when_clause case_value class_header rescue_clause body_else body_ensure handlers begin_value module_body class_value module_value keyword_form newlines behind_newlines paren closed brace_block do_block block tail paren_tail keyword_value word_value integer_value text ivar_value gvar_value top_constant word_list embedded interpolated parenthesized array label_key pair_in_braces hash_value name_call constant_value super_value yield_value prim dot_part scope_part bracket post not_level power_level minus_level product_level sum_level shift_level comparison_level equal_level equality_level and_level or_level range_level ternary argument command_arguments command_part splat item more_items splat_list other_items one_value nested_value right_side jump_value jump command_level block_argument label_pair arrow_pair arguments_from arguments cargs more_pairs method_name not_expression expression alias_statement undef_statement simple modifier statement line statement_list
c_branch r = (refl, tt, (refl, c_then, tt))

pub c_otherwise : (r : Bool) → Checks table (otherwise r)
unfolding table placed target star_target behind_target next_target more_targets starred_set several_set parameter_name bracketed_names more_parameters default_value no_default behind_name named_parameter bracketed_parameter rest_parameter block_parameter sign_parameter simple_parameters parameters block_parameters brace_parts do_parts body_behind def_name def_in_brackets def_plain def_value plain_call lambda_block empty_brackets full_brackets lambda_call called arrow_parameters plain_block arrow_value then_sign else_part branch otherwise if_value unless_value loop_body while_value until_value when_clause case_value class_header rescue_clause body_else body_ensure handlers begin_value module_body class_value module_value keyword_form newlines behind_newlines paren closed brace_block do_block block tail paren_tail keyword_value word_value integer_value text ivar_value gvar_value top_constant word_list embedded interpolated parenthesized array label_key pair_in_braces hash_value name_call constant_value super_value yield_value prim dot_part scope_part bracket post not_level power_level minus_level product_level sum_level shift_level comparison_level equal_level equality_level and_level or_level range_level ternary argument command_arguments command_part splat item more_items splat_list other_items one_value nested_value right_side jump_value jump command_level block_argument label_pair arrow_pair arguments_from arguments cargs more_pairs method_name not_expression expression alias_statement undef_statement simple modifier statement line statement_list
c_otherwise r = (refl, refl, (λ x. omega (arith, d.depth_if (x.1.0.0) (act.filled (act.elsif_span x.0 (x.1.0) x.1.1) (x.1.0.1.1)) (act.filled (act.elsif_span x.0 (x.1.0) x.1.1) x.1.1) (act.elsif_span x.0 (x.1.0) x.1.1) (act.start x.0), filled_deep (act.elsif_span x.0 (x.1.0) x.1.1) (x.1.0.1.1), filled_deep (act.elsif_span x.0 (x.1.0) x.1.1) x.1.1), (refl, tt, (refl, c_branch r, tt))), c_else r)

c_if : (r : Bool) → Checks table (if_value r)
unfolding table placed target star_target behind_target next_target more_targets starred_set several_set parameter_name bracketed_names more_parameters default_value no_default behind_name named_parameter bracketed_parameter rest_parameter block_parameter sign_parameter simple_parameters parameters block_parameters brace_parts do_parts body_behind def_name def_in_brackets def_plain def_value plain_call lambda_block empty_brackets full_brackets lambda_call called arrow_parameters plain_block arrow_value then_sign else_part branch otherwise if_value unless_value loop_body while_value until_value when_clause case_value class_header rescue_clause body_else body_ensure handlers begin_value module_body class_value module_value keyword_form newlines behind_newlines paren closed brace_block do_block block tail paren_tail keyword_value word_value integer_value text ivar_value gvar_value top_constant word_list embedded interpolated parenthesized array label_key pair_in_braces hash_value name_call constant_value super_value yield_value prim dot_part scope_part bracket post not_level power_level minus_level product_level sum_level shift_level comparison_level equal_level equality_level and_level or_level range_level ternary argument command_arguments command_part splat item more_items splat_list other_items one_value nested_value right_side jump_value jump command_level block_argument label_pair arrow_pair arguments_from arguments cargs more_pairs method_name not_expression expression alias_statement undef_statement simple modifier statement line statement_list
c_if r = (λ x. omega (arith, d.depth_if (x.1.0.0) (act.filled (act.tokens x.0 (x.1.1.1)) (x.1.0.1.1)) (act.filled (act.tokens x.0 (x.1.1.1)) (x.1.1.0)) (act.tokens x.0 (x.1.1.1)) (act.start x.0), filled_deep (act.tokens x.0 (x.1.1.1)) (x.1.0.1.1), filled_deep (act.tokens x.0 (x.1.1.1)) (x.1.1.0)), (refl, tt, (refl, c_branch r, (refl, tt, tt))))

c_unless : (r : Bool) → Checks table (unless_value r)
unfolding table placed target star_target behind_target next_target more_targets starred_set several_set parameter_name bracketed_names more_parameters default_value no_default behind_name named_parameter bracketed_parameter rest_parameter block_parameter sign_parameter simple_parameters parameters block_parameters brace_parts do_parts body_behind def_name def_in_brackets def_plain def_value plain_call lambda_block empty_brackets full_brackets lambda_call called arrow_parameters plain_block arrow_value then_sign else_part branch otherwise if_value unless_value loop_body while_value until_value when_clause case_value class_header rescue_clause body_else body_ensure handlers begin_value module_body class_value module_value keyword_form newlines behind_newlines paren closed brace_block do_block block tail paren_tail keyword_value word_value integer_value text ivar_value gvar_value top_constant word_list embedded interpolated parenthesized array label_key pair_in_braces hash_value name_call constant_value super_value yield_value prim dot_part scope_part bracket post not_level power_level minus_level product_level sum_level shift_level comparison_level equal_level equality_level and_level or_level range_level ternary argument command_arguments command_part splat item more_items splat_list other_items one_value nested_value right_side jump_value jump command_level block_argument label_pair arrow_pair arguments_from arguments cargs more_pairs method_name not_expression expression alias_statement undef_statement simple modifier statement line statement_list
c_unless r = (λ x. omega (arith, d.depth_if (x.1.0.0) (act.filled (act.tokens x.0 (x.1.1.1)) (x.1.1.0)) (act.filled (act.tokens x.0 (x.1.1.1)) (x.1.0.1.1)) (act.tokens x.0 (x.1.1.1)) (act.start x.0), filled_deep (act.tokens x.0 (x.1.1.1)) (x.1.0.1.1), filled_deep (act.tokens x.0 (x.1.1.1)) (x.1.1.0)), (refl, tt, (refl, c_branch r, (refl, c_else r, tt))))

c_loop : (r : Bool) → Checks table (loop_body r)
unfolding table placed target star_target behind_target next_target more_targets starred_set several_set parameter_name bracketed_names more_parameters default_value no_default behind_name named_parameter bracketed_parameter rest_parameter block_parameter sign_parameter simple_parameters parameters block_parameters brace_parts do_parts body_behind def_name def_in_brackets def_plain def_value plain_call lambda_block empty_brackets full_brackets lambda_call called arrow_parameters plain_block arrow_value then_sign else_part branch otherwise if_value unless_value loop_body while_value until_value when_clause case_value class_header rescue_clause body_else body_ensure handlers begin_value module_body class_value module_value keyword_form newlines behind_newlines paren closed brace_block do_block block tail paren_tail keyword_value word_value integer_value text ivar_value gvar_value top_constant word_list embedded interpolated parenthesized array label_key pair_in_braces hash_value name_call constant_value super_value yield_value prim dot_part scope_part bracket post not_level power_level minus_level product_level sum_level shift_level comparison_level equal_level equality_level and_level or_level range_level ternary argument command_arguments command_part splat item more_items splat_list other_items one_value nested_value right_side jump_value jump command_level block_argument label_pair arrow_pair arguments_from arguments cargs more_pairs method_name not_expression expression alias_statement undef_statement simple modifier statement line statement_list
c_loop r = (λ x. omega arith, (refl, tt, (refl, tt, tt)))

c_while : (r : Bool) → Checks table (while_value r)
unfolding table placed target star_target behind_target next_target more_targets starred_set several_set parameter_name bracketed_names more_parameters default_value no_default behind_name named_parameter bracketed_parameter rest_parameter block_parameter sign_parameter simple_parameters parameters block_parameters brace_parts do_parts body_behind def_name def_in_brackets def_plain def_value plain_call lambda_block empty_brackets full_brackets lambda_call called arrow_parameters plain_block arrow_value then_sign else_part branch otherwise if_value unless_value loop_body while_value until_value when_clause case_value class_header rescue_clause body_else body_ensure handlers begin_value module_body class_value module_value keyword_form newlines behind_newlines paren closed brace_block do_block block tail paren_tail keyword_value word_value integer_value text ivar_value gvar_value top_constant word_list embedded interpolated parenthesized array label_key pair_in_braces hash_value name_call constant_value super_value yield_value prim dot_part scope_part bracket post not_level power_level minus_level product_level sum_level shift_level comparison_level equal_level equality_level and_level or_level range_level ternary argument command_arguments command_part splat item more_items splat_list other_items one_value nested_value right_side jump_value jump command_level block_argument label_pair arrow_pair arguments_from arguments cargs more_pairs method_name not_expression expression alias_statement undef_statement simple modifier statement line statement_list
c_while r = (λ x. omega (arith, d.depth_while (x.1.0) (act.filled (act.tokens x.0 (x.1.1.1)) (x.1.1.0)) false (act.tokens x.0 (x.1.1.1)) (act.start x.0), filled_deep (act.tokens x.0 (x.1.1.1)) (x.1.1.0)), (refl, tt, (refl, tt, c_loop r)))

c_until : (r : Bool) → Checks table (until_value r)
unfolding table placed target star_target behind_target next_target more_targets starred_set several_set parameter_name bracketed_names more_parameters default_value no_default behind_name named_parameter bracketed_parameter rest_parameter block_parameter sign_parameter simple_parameters parameters block_parameters brace_parts do_parts body_behind def_name def_in_brackets def_plain def_value plain_call lambda_block empty_brackets full_brackets lambda_call called arrow_parameters plain_block arrow_value then_sign else_part branch otherwise if_value unless_value loop_body while_value until_value when_clause case_value class_header rescue_clause body_else body_ensure handlers begin_value module_body class_value module_value keyword_form newlines behind_newlines paren closed brace_block do_block block tail paren_tail keyword_value word_value integer_value text ivar_value gvar_value top_constant word_list embedded interpolated parenthesized array label_key pair_in_braces hash_value name_call constant_value super_value yield_value prim dot_part scope_part bracket post not_level power_level minus_level product_level sum_level shift_level comparison_level equal_level equality_level and_level or_level range_level ternary argument command_arguments command_part splat item more_items splat_list other_items one_value nested_value right_side jump_value jump command_level block_argument label_pair arrow_pair arguments_from arguments cargs more_pairs method_name not_expression expression alias_statement undef_statement simple modifier statement line statement_list
c_until r = (inr (inl (λ x. omega arith)), (λ x. omega (arith, d.depth_while (act.replaced (act.tokens x.0 (x.1.1.1)) (act.start x.0) (x.1.0)) (act.filled (act.tokens x.0 (x.1.1.1)) (x.1.1.0)) false (act.tokens x.0 (x.1.1.1)) (act.start x.0), filled_deep (act.tokens x.0 (x.1.1.1)) (x.1.1.0), replaced_deep (act.tokens x.0 (x.1.1.1)) (act.start x.0) (x.1.0)), (refl, tt, (refl, (λ n. d.depth_not n n.span n.mark, tt), c_loop r))))

c_when : (r : Bool) → Checks table (when_clause r)
unfolding table placed target star_target behind_target next_target more_targets starred_set several_set parameter_name bracketed_names more_parameters default_value no_default behind_name named_parameter bracketed_parameter rest_parameter block_parameter sign_parameter simple_parameters parameters block_parameters brace_parts do_parts body_behind def_name def_in_brackets def_plain def_value plain_call lambda_block empty_brackets full_brackets lambda_call called arrow_parameters plain_block arrow_value then_sign else_part branch otherwise if_value unless_value loop_body while_value until_value when_clause case_value class_header rescue_clause body_else body_ensure handlers begin_value module_body class_value module_value keyword_form newlines behind_newlines paren closed brace_block do_block block tail paren_tail keyword_value word_value integer_value text ivar_value gvar_value top_constant word_list embedded interpolated parenthesized array label_key pair_in_braces hash_value name_call constant_value super_value yield_value prim dot_part scope_part bracket post not_level power_level minus_level product_level sum_level shift_level comparison_level equal_level equality_level and_level or_level range_level ternary argument command_arguments command_part splat item more_items splat_list other_items one_value nested_value right_side jump_value jump command_level block_argument label_pair arrow_pair arguments_from arguments cargs more_pairs method_name not_expression expression alias_statement undef_statement simple modifier statement line statement_list
c_when r = (λ x. omega (arith, d.depth_when (x.1.0) (act.filled (act.to_end (act.span_of x.0) (act.last_of (x.1.1.0) (x.1.1.1))) (x.1.1.1)) (act.to_end (act.span_of x.0) (act.last_of (x.1.1.0) (x.1.1.1))) (act.start x.0), filled_deep (act.to_end (act.span_of x.0) (act.last_of (x.1.1.0) (x.1.1.1))) (x.1.1.1)), (refl, tt, (refl, (λ x. refl, (refl, tt, (refl, refl, (λ x. omega arith, (refl, tt, tt))))), (refl, c_then, tt))))

c_case : (r : Bool) → Checks table (case_value r)
unfolding table placed target star_target behind_target next_target more_targets starred_set several_set parameter_name bracketed_names more_parameters default_value no_default behind_name named_parameter bracketed_parameter rest_parameter block_parameter sign_parameter simple_parameters parameters block_parameters brace_parts do_parts body_behind def_name def_in_brackets def_plain def_value plain_call lambda_block empty_brackets full_brackets lambda_call called arrow_parameters plain_block arrow_value then_sign else_part branch otherwise if_value unless_value loop_body while_value until_value when_clause case_value class_header rescue_clause body_else body_ensure handlers begin_value module_body class_value module_value keyword_form newlines behind_newlines paren closed brace_block do_block block tail paren_tail keyword_value word_value integer_value text ivar_value gvar_value top_constant word_list embedded interpolated parenthesized array label_key pair_in_braces hash_value name_call constant_value super_value yield_value prim dot_part scope_part bracket post not_level power_level minus_level product_level sum_level shift_level comparison_level equal_level equality_level and_level or_level range_level ternary argument command_arguments command_part splat item more_items splat_list other_items one_value nested_value right_side jump_value jump command_level block_argument label_pair arrow_pair arguments_from arguments cargs more_pairs method_name not_expression expression alias_statement undef_statement simple modifier statement line statement_list
c_case r = (λ x. omega (arith, d.depth_case (x.1.0) (x.1.1.1.0.0 ∷ x.1.1.1.0.1) (act.filled (act.tokens x.0 (x.1.1.1.1.1)) (x.1.1.1.1.0)) (act.tokens x.0 (x.1.1.1.1.1)) (act.start x.0), filled_deep (act.tokens x.0 (x.1.1.1.1.1)) (x.1.1.1.1.0), deepest_flat (x.1.1.0)), (refl, tt, (refl, (refl, refl, (λ x. refl, tt), tt), (refl, (refl, refl, tt), (refl, (refl, c_when r, (refl, refl, c_when r)), (refl, c_else r, tt))))))

c_header : (r : Bool) → Checks table (class_header r)
unfolding table placed target star_target behind_target next_target more_targets starred_set several_set parameter_name bracketed_names more_parameters default_value no_default behind_name named_parameter bracketed_parameter rest_parameter block_parameter sign_parameter simple_parameters parameters block_parameters brace_parts do_parts body_behind def_name def_in_brackets def_plain def_value plain_call lambda_block empty_brackets full_brackets lambda_call called arrow_parameters plain_block arrow_value then_sign else_part branch otherwise if_value unless_value loop_body while_value until_value when_clause case_value class_header rescue_clause body_else body_ensure handlers begin_value module_body class_value module_value keyword_form newlines behind_newlines paren closed brace_block do_block block tail paren_tail keyword_value word_value integer_value text ivar_value gvar_value top_constant word_list embedded interpolated parenthesized array label_key pair_in_braces hash_value name_call constant_value super_value yield_value prim dot_part scope_part bracket post not_level power_level minus_level product_level sum_level shift_level comparison_level equal_level equality_level and_level or_level range_level ternary argument command_arguments command_part splat item more_items splat_list other_items one_value nested_value right_side jump_value jump command_level block_argument label_pair arrow_pair arguments_from arguments cargs more_pairs method_name not_expression expression alias_statement undef_statement simple modifier statement line statement_list
c_header r = (refl, refl, (refl, (λ x. refl, tt), (refl, refl, (λ x. refl, (λ x. omega arith, (refl, tt, tt))), tt)), (λ x. omega arith, (λ x. omega arith, (refl, tt, tt))))

c_rescue : (r : Bool) → Checks table (rescue_clause r)
unfolding table placed target star_target behind_target next_target more_targets starred_set several_set parameter_name bracketed_names more_parameters default_value no_default behind_name named_parameter bracketed_parameter rest_parameter block_parameter sign_parameter simple_parameters parameters block_parameters brace_parts do_parts body_behind def_name def_in_brackets def_plain def_value plain_call lambda_block empty_brackets full_brackets lambda_call called arrow_parameters plain_block arrow_value then_sign else_part branch otherwise if_value unless_value loop_body while_value until_value when_clause case_value class_header rescue_clause body_else body_ensure handlers begin_value module_body class_value module_value keyword_form newlines behind_newlines paren closed brace_block do_block block tail paren_tail keyword_value word_value integer_value text ivar_value gvar_value top_constant word_list embedded interpolated parenthesized array label_key pair_in_braces hash_value name_call constant_value super_value yield_value prim dot_part scope_part bracket post not_level power_level minus_level product_level sum_level shift_level comparison_level equal_level equality_level and_level or_level range_level ternary argument command_arguments command_part splat item more_items splat_list other_items one_value nested_value right_side jump_value jump command_level block_argument label_pair arrow_pair arguments_from arguments cargs more_pairs method_name not_expression expression alias_statement undef_statement simple modifier statement line statement_list
c_rescue r = (λ x. omega (arith, d.depth_rescue (x.1.0) (act.name_if (x.1.1.0)) (act.filled (act.to_end (act.span_of x.0) (act.last_of (x.1.1.1.0) (x.1.1.1.1))) (x.1.1.1.1)) (act.to_end (act.span_of x.0) (act.last_of (x.1.1.1.0) (x.1.1.1.1))) (act.rescue_place x.0 (x.1.1.0)), filled_deep (act.to_end (act.span_of x.0) (act.last_of (x.1.1.1.0) (x.1.1.1.1))) (x.1.1.1.1), flat_option (x.1.1.0)), (refl, tt, (refl, (refl, refl, (λ x. refl, (refl, tt, (refl, refl, (λ x. omega arith, (refl, tt, tt))))), tt), (refl, (refl, refl, (λ x. refl, (λ x. omega arith, (refl, tt, tt))), tt), (refl, c_then, tt)))))

c_body_else : (r : Bool) → Checks table (body_else r)
unfolding table placed target star_target behind_target next_target more_targets starred_set several_set parameter_name bracketed_names more_parameters default_value no_default behind_name named_parameter bracketed_parameter rest_parameter block_parameter sign_parameter simple_parameters parameters block_parameters brace_parts do_parts body_behind def_name def_in_brackets def_plain def_value plain_call lambda_block empty_brackets full_brackets lambda_call called arrow_parameters plain_block arrow_value then_sign else_part branch otherwise if_value unless_value loop_body while_value until_value when_clause case_value class_header rescue_clause body_else body_ensure handlers begin_value module_body class_value module_value keyword_form newlines behind_newlines paren closed brace_block do_block block tail paren_tail keyword_value word_value integer_value text ivar_value gvar_value top_constant word_list embedded interpolated parenthesized array label_key pair_in_braces hash_value name_call constant_value super_value yield_value prim dot_part scope_part bracket post not_level power_level minus_level product_level sum_level shift_level comparison_level equal_level equality_level and_level or_level range_level ternary argument command_arguments command_part splat item more_items splat_list other_items one_value nested_value right_side jump_value jump command_level block_argument label_pair arrow_pair arguments_from arguments cargs more_pairs method_name not_expression expression alias_statement undef_statement simple modifier statement line statement_list
c_body_else r = (refl, tt, tt)

c_body_ensure : (r : Bool) → Checks table (body_ensure r)
unfolding table placed target star_target behind_target next_target more_targets starred_set several_set parameter_name bracketed_names more_parameters default_value no_default behind_name named_parameter bracketed_parameter rest_parameter block_parameter sign_parameter simple_parameters parameters block_parameters brace_parts do_parts body_behind def_name def_in_brackets def_plain def_value plain_call lambda_block empty_brackets full_brackets lambda_call called arrow_parameters plain_block arrow_value then_sign else_part branch otherwise if_value unless_value loop_body while_value until_value when_clause case_value class_header rescue_clause body_else body_ensure handlers begin_value module_body class_value module_value keyword_form newlines behind_newlines paren closed brace_block do_block block tail paren_tail keyword_value word_value integer_value text ivar_value gvar_value top_constant word_list embedded interpolated parenthesized array label_key pair_in_braces hash_value name_call constant_value super_value yield_value prim dot_part scope_part bracket post not_level power_level minus_level product_level sum_level shift_level comparison_level equal_level equality_level and_level or_level range_level ternary argument command_arguments command_part splat item more_items splat_list other_items one_value nested_value right_side jump_value jump command_level block_argument label_pair arrow_pair arguments_from arguments cargs more_pairs method_name not_expression expression alias_statement undef_statement simple modifier statement line statement_list
c_body_ensure r = (refl, tt, tt)

c_handlers : (r : Bool) → Checks table (handlers r)
unfolding table placed target star_target behind_target next_target more_targets starred_set several_set parameter_name bracketed_names more_parameters default_value no_default behind_name named_parameter bracketed_parameter rest_parameter block_parameter sign_parameter simple_parameters parameters block_parameters brace_parts do_parts body_behind def_name def_in_brackets def_plain def_value plain_call lambda_block empty_brackets full_brackets lambda_call called arrow_parameters plain_block arrow_value then_sign else_part branch otherwise if_value unless_value loop_body while_value until_value when_clause case_value class_header rescue_clause body_else body_ensure handlers begin_value module_body class_value module_value keyword_form newlines behind_newlines paren closed brace_block do_block block tail paren_tail keyword_value word_value integer_value text ivar_value gvar_value top_constant word_list embedded interpolated parenthesized array label_key pair_in_braces hash_value name_call constant_value super_value yield_value prim dot_part scope_part bracket post not_level power_level minus_level product_level sum_level shift_level comparison_level equal_level equality_level and_level or_level range_level ternary argument command_arguments command_part splat item more_items splat_list other_items one_value nested_value right_side jump_value jump command_level block_argument label_pair arrow_pair arguments_from arguments cargs more_pairs method_name not_expression expression alias_statement undef_statement simple modifier statement line statement_list
c_handlers r = (refl, refl, (λ x. omega arith, (refl, (refl, c_rescue r, (refl, refl, c_rescue r)), (refl, (refl, refl, (λ x. refl, c_body_else r), tt), (refl, refl, (λ x. refl, c_body_ensure r), tt)))), (refl, refl, (λ x. omega arith, (refl, c_body_else r, (refl, refl, (λ x. refl, c_body_ensure r), tt))), (λ x. omega arith, c_body_ensure r)))

c_begin : (r : Bool) → Checks table (begin_value r)
unfolding table placed target star_target behind_target next_target more_targets starred_set several_set parameter_name bracketed_names more_parameters default_value no_default behind_name named_parameter bracketed_parameter rest_parameter block_parameter sign_parameter simple_parameters parameters block_parameters brace_parts do_parts body_behind def_name def_in_brackets def_plain def_value plain_call lambda_block empty_brackets full_brackets lambda_call called arrow_parameters plain_block arrow_value then_sign else_part branch otherwise if_value unless_value loop_body while_value until_value when_clause case_value class_header rescue_clause body_else body_ensure handlers begin_value module_body class_value module_value keyword_form newlines behind_newlines paren closed brace_block do_block block tail paren_tail keyword_value word_value integer_value text ivar_value gvar_value top_constant word_list embedded interpolated parenthesized array label_key pair_in_braces hash_value name_call constant_value super_value yield_value prim dot_part scope_part bracket post not_level power_level minus_level product_level sum_level shift_level comparison_level equal_level equality_level and_level or_level range_level ternary argument command_arguments command_part splat item more_items splat_list other_items one_value nested_value right_side jump_value jump command_level block_argument label_pair arrow_pair arguments_from arguments cargs more_pairs method_name not_expression expression alias_statement undef_statement simple modifier statement line statement_list
c_begin r = (λ x. omega (arith, spread_deep (act.tokens (x.0.0) x.1) (x.0.1.0)), (refl, (inl refl, refl, refl, (λ l x k. omega (arith, handlers_deep l x)), (refl, tt, tt), c_handlers r), tt))

c_method : Checks table (method_name)
unfolding table placed target star_target behind_target next_target more_targets starred_set several_set parameter_name bracketed_names more_parameters default_value no_default behind_name named_parameter bracketed_parameter rest_parameter block_parameter sign_parameter simple_parameters parameters block_parameters brace_parts do_parts body_behind def_name def_in_brackets def_plain def_value plain_call lambda_block empty_brackets full_brackets lambda_call called arrow_parameters plain_block arrow_value then_sign else_part branch otherwise if_value unless_value loop_body while_value until_value when_clause case_value class_header rescue_clause body_else body_ensure handlers begin_value module_body class_value module_value keyword_form newlines behind_newlines paren closed brace_block do_block block tail paren_tail keyword_value word_value integer_value text ivar_value gvar_value top_constant word_list embedded interpolated parenthesized array label_key pair_in_braces hash_value name_call constant_value super_value yield_value prim dot_part scope_part bracket post not_level power_level minus_level product_level sum_level shift_level comparison_level equal_level equality_level and_level or_level range_level ternary argument command_arguments command_part splat item more_items splat_list other_items one_value nested_value right_side jump_value jump command_level block_argument label_pair arrow_pair arguments_from arguments cargs more_pairs method_name not_expression expression alias_statement undef_statement simple modifier statement line statement_list
c_method = (refl, refl, (refl, tt, (refl, refl, (λ x. refl, tt), tt)), (refl, tt, tt))

c_def_name : Checks table (def_name)
unfolding table placed target star_target behind_target next_target more_targets starred_set several_set parameter_name bracketed_names more_parameters default_value no_default behind_name named_parameter bracketed_parameter rest_parameter block_parameter sign_parameter simple_parameters parameters block_parameters brace_parts do_parts body_behind def_name def_in_brackets def_plain def_value plain_call lambda_block empty_brackets full_brackets lambda_call called arrow_parameters plain_block arrow_value then_sign else_part branch otherwise if_value unless_value loop_body while_value until_value when_clause case_value class_header rescue_clause body_else body_ensure handlers begin_value module_body class_value module_value keyword_form newlines behind_newlines paren closed brace_block do_block block tail paren_tail keyword_value word_value integer_value text ivar_value gvar_value top_constant word_list embedded interpolated parenthesized array label_key pair_in_braces hash_value name_call constant_value super_value yield_value prim dot_part scope_part bracket post not_level power_level minus_level product_level sum_level shift_level comparison_level equal_level equality_level and_level or_level range_level ternary argument command_arguments command_part splat item more_items splat_list other_items one_value nested_value right_side jump_value jump command_level block_argument label_pair arrow_pair arguments_from arguments cargs more_pairs method_name not_expression expression alias_statement undef_statement simple modifier statement line statement_list
c_def_name = (inl refl, refl, refl, (λ l x k. on_deep l x k), (λ x. omega arith, c_method), (λ x. omega arith, (refl, tt, c_method)))

c_def_in_brackets : Checks table (def_in_brackets)
unfolding table placed target star_target behind_target next_target more_targets starred_set several_set parameter_name bracketed_names more_parameters default_value no_default behind_name named_parameter bracketed_parameter rest_parameter block_parameter sign_parameter simple_parameters parameters block_parameters brace_parts do_parts body_behind def_name def_in_brackets def_plain def_value plain_call lambda_block empty_brackets full_brackets lambda_call called arrow_parameters plain_block arrow_value then_sign else_part branch otherwise if_value unless_value loop_body while_value until_value when_clause case_value class_header rescue_clause body_else body_ensure handlers begin_value module_body class_value module_value keyword_form newlines behind_newlines paren closed brace_block do_block block tail paren_tail keyword_value word_value integer_value text ivar_value gvar_value top_constant word_list embedded interpolated parenthesized array label_key pair_in_braces hash_value name_call constant_value super_value yield_value prim dot_part scope_part bracket post not_level power_level minus_level product_level sum_level shift_level comparison_level equal_level equality_level and_level or_level range_level ternary argument command_arguments command_part splat item more_items splat_list other_items one_value nested_value right_side jump_value jump command_level block_argument label_pair arrow_pair arguments_from arguments cargs more_pairs method_name not_expression expression alias_statement undef_statement simple modifier statement line statement_list
c_def_in_brackets = (
  λ x. omega arith,
  (refl, tt, (refl, (refl, refl, tt, tt), (refl, (inl refl, refl, refl, (λ l x k. omega (arith, handlers_deep l x)), (refl, (λ x. omega (arith, deepest_flat x.0), (refl, c_newlines, tt)), tt), c_handlers false), tt))),
)

c_def_plain : Checks table (def_plain)
unfolding table placed target star_target behind_target next_target more_targets starred_set several_set parameter_name bracketed_names more_parameters default_value no_default behind_name named_parameter bracketed_parameter rest_parameter block_parameter sign_parameter simple_parameters parameters block_parameters brace_parts do_parts body_behind def_name def_in_brackets def_plain def_value plain_call lambda_block empty_brackets full_brackets lambda_call called arrow_parameters plain_block arrow_value then_sign else_part branch otherwise if_value unless_value loop_body while_value until_value when_clause case_value class_header rescue_clause body_else body_ensure handlers begin_value module_body class_value module_value keyword_form newlines behind_newlines paren closed brace_block do_block block tail paren_tail keyword_value word_value integer_value text ivar_value gvar_value top_constant word_list embedded interpolated parenthesized array label_key pair_in_braces hash_value name_call constant_value super_value yield_value prim dot_part scope_part bracket post not_level power_level minus_level product_level sum_level shift_level comparison_level equal_level equality_level and_level or_level range_level ternary argument command_arguments command_part splat item more_items splat_list other_items one_value nested_value right_side jump_value jump command_level block_argument label_pair arrow_pair arguments_from arguments cargs more_pairs method_name not_expression expression alias_statement undef_statement simple modifier statement line statement_list
c_def_plain = (refl, (refl, refl, tt, tt), (refl, (inl refl, refl, refl, (λ l x k. omega (arith, handlers_deep l x)), (refl, tt, tt), c_handlers false), tt))

c_def : Checks table (def_value)
unfolding table placed target star_target behind_target next_target more_targets starred_set several_set parameter_name bracketed_names more_parameters default_value no_default behind_name named_parameter bracketed_parameter rest_parameter block_parameter sign_parameter simple_parameters parameters block_parameters brace_parts do_parts body_behind def_name def_in_brackets def_plain def_value plain_call lambda_block empty_brackets full_brackets lambda_call called arrow_parameters plain_block arrow_value then_sign else_part branch otherwise if_value unless_value loop_body while_value until_value when_clause case_value class_header rescue_clause body_else body_ensure handlers begin_value module_body class_value module_value keyword_form newlines behind_newlines paren closed brace_block do_block block tail paren_tail keyword_value word_value integer_value text ivar_value gvar_value top_constant word_list embedded interpolated parenthesized array label_key pair_in_braces hash_value name_call constant_value super_value yield_value prim dot_part scope_part bracket post not_level power_level minus_level product_level sum_level shift_level comparison_level equal_level equality_level and_level or_level range_level ternary argument command_arguments command_part splat item more_items splat_list other_items one_value nested_value right_side jump_value jump command_level block_argument label_pair arrow_pair arguments_from arguments cargs more_pairs method_name not_expression expression alias_statement undef_statement simple modifier statement line statement_list
c_def = (λ x. omega (arith, def_deep (x.1.0) (x.1.1.0) (x.1.1.1.0.1) (act.tokens x.0 (x.1.1.1.1)), flat_option (x.1.0.1.1)), (refl, tt, (refl, c_def_name, (refl, refl, c_def_in_brackets, c_def_plain))))

c_module_body : Checks table (module_body)
unfolding table placed target star_target behind_target next_target more_targets starred_set several_set parameter_name bracketed_names more_parameters default_value no_default behind_name named_parameter bracketed_parameter rest_parameter block_parameter sign_parameter simple_parameters parameters block_parameters brace_parts do_parts body_behind def_name def_in_brackets def_plain def_value plain_call lambda_block empty_brackets full_brackets lambda_call called arrow_parameters plain_block arrow_value then_sign else_part branch otherwise if_value unless_value loop_body while_value until_value when_clause case_value class_header rescue_clause body_else body_ensure handlers begin_value module_body class_value module_value keyword_form newlines behind_newlines paren closed brace_block do_block block tail paren_tail keyword_value word_value integer_value text ivar_value gvar_value top_constant word_list embedded interpolated parenthesized array label_key pair_in_braces hash_value name_call constant_value super_value yield_value prim dot_part scope_part bracket post not_level power_level minus_level product_level sum_level shift_level comparison_level equal_level equality_level and_level or_level range_level ternary argument command_arguments command_part splat item more_items splat_list other_items one_value nested_value right_side jump_value jump command_level block_argument label_pair arrow_pair arguments_from arguments cargs more_pairs method_name not_expression expression alias_statement undef_statement simple modifier statement line statement_list
c_module_body = (λ x. omega arith, (refl, tt, (refl, tt, tt)))

c_class : (r : Bool) → Checks table (class_value r)
unfolding table placed target star_target behind_target next_target more_targets starred_set several_set parameter_name bracketed_names more_parameters default_value no_default behind_name named_parameter bracketed_parameter rest_parameter block_parameter sign_parameter simple_parameters parameters block_parameters brace_parts do_parts body_behind def_name def_in_brackets def_plain def_value plain_call lambda_block empty_brackets full_brackets lambda_call called arrow_parameters plain_block arrow_value then_sign else_part branch otherwise if_value unless_value loop_body while_value until_value when_clause case_value class_header rescue_clause body_else body_ensure handlers begin_value module_body class_value module_value keyword_form newlines behind_newlines paren closed brace_block do_block block tail paren_tail keyword_value word_value integer_value text ivar_value gvar_value top_constant word_list embedded interpolated parenthesized array label_key pair_in_braces hash_value name_call constant_value super_value yield_value prim dot_part scope_part bracket post not_level power_level minus_level product_level sum_level shift_level comparison_level equal_level equality_level and_level or_level range_level ternary argument command_arguments command_part splat item more_items splat_list other_items one_value nested_value right_side jump_value jump command_level block_argument label_pair arrow_pair arguments_from arguments cargs more_pairs method_name not_expression expression alias_statement undef_statement simple modifier statement line statement_list
c_class r = (λ x. omega (arith, d.depth_module_def (act.form_of (x.1.0)) (act.form_name (x.1.0)) (act.filled (act.tokens x.0 (x.1.1.1)) (x.1.1.0)) (act.tokens x.0 (x.1.1.1)) (act.form_place x.0 (x.1.0)), form_deep (x.1.0), filled_deep (act.tokens x.0 (x.1.1.1)) (x.1.1.0)), (refl, tt, (refl, c_header r, c_module_body)))

c_module : Checks table (module_value)
unfolding table placed target star_target behind_target next_target more_targets starred_set several_set parameter_name bracketed_names more_parameters default_value no_default behind_name named_parameter bracketed_parameter rest_parameter block_parameter sign_parameter simple_parameters parameters block_parameters brace_parts do_parts body_behind def_name def_in_brackets def_plain def_value plain_call lambda_block empty_brackets full_brackets lambda_call called arrow_parameters plain_block arrow_value then_sign else_part branch otherwise if_value unless_value loop_body while_value until_value when_clause case_value class_header rescue_clause body_else body_ensure handlers begin_value module_body class_value module_value keyword_form newlines behind_newlines paren closed brace_block do_block block tail paren_tail keyword_value word_value integer_value text ivar_value gvar_value top_constant word_list embedded interpolated parenthesized array label_key pair_in_braces hash_value name_call constant_value super_value yield_value prim dot_part scope_part bracket post not_level power_level minus_level product_level sum_level shift_level comparison_level equal_level equality_level and_level or_level range_level ternary argument command_arguments command_part splat item more_items splat_list other_items one_value nested_value right_side jump_value jump command_level block_argument label_pair arrow_pair arguments_from arguments cargs more_pairs method_name not_expression expression alias_statement undef_statement simple modifier statement line statement_list
c_module = (λ x. omega (arith, d.depth_module_def form.Module (act.units (x.1.0)) (act.filled (act.tokens x.0 (x.1.1.1)) (x.1.1.0)) (act.tokens x.0 (x.1.1.1)) (act.start (x.1.0)), d.depth_module, filled_deep (act.tokens x.0 (x.1.1.1)) (x.1.1.0)), (refl, tt, (refl, tt, c_module_body)))

c_forms : (r : Bool) → Checks table (keyword_form r)
unfolding table placed target star_target behind_target next_target more_targets starred_set several_set parameter_name bracketed_names more_parameters default_value no_default behind_name named_parameter bracketed_parameter rest_parameter block_parameter sign_parameter simple_parameters parameters block_parameters brace_parts do_parts body_behind def_name def_in_brackets def_plain def_value plain_call lambda_block empty_brackets full_brackets lambda_call called arrow_parameters plain_block arrow_value then_sign else_part branch otherwise if_value unless_value loop_body while_value until_value when_clause case_value class_header rescue_clause body_else body_ensure handlers begin_value module_body class_value module_value keyword_form newlines behind_newlines paren closed brace_block do_block block tail paren_tail keyword_value word_value integer_value text ivar_value gvar_value top_constant word_list embedded interpolated parenthesized array label_key pair_in_braces hash_value name_call constant_value super_value yield_value prim dot_part scope_part bracket post not_level power_level minus_level product_level sum_level shift_level comparison_level equal_level equality_level and_level or_level range_level ternary argument command_arguments command_part splat item more_items splat_list other_items one_value nested_value right_side jump_value jump command_level block_argument label_pair arrow_pair arguments_from arguments cargs more_pairs method_name not_expression expression alias_statement undef_statement simple modifier statement line statement_list
c_forms r = (refl, refl, c_if r, (refl, refl, c_unless r, (refl, refl, c_while r, (refl, refl, c_until r, (refl, refl, c_case r, (refl, refl, c_class r, (refl, refl, c_module, (refl, refl, c_def, c_begin r))))))))

c_prim : (d r : Bool) → Checks table (prim r d)
unfolding table placed target star_target behind_target next_target more_targets starred_set several_set parameter_name bracketed_names more_parameters default_value no_default behind_name named_parameter bracketed_parameter rest_parameter block_parameter sign_parameter simple_parameters parameters block_parameters brace_parts do_parts body_behind def_name def_in_brackets def_plain def_value plain_call lambda_block empty_brackets full_brackets lambda_call called arrow_parameters plain_block arrow_value then_sign else_part branch otherwise if_value unless_value loop_body while_value until_value when_clause case_value class_header rescue_clause body_else body_ensure handlers begin_value module_body class_value module_value keyword_form newlines behind_newlines paren closed brace_block do_block block tail paren_tail keyword_value word_value integer_value text ivar_value gvar_value top_constant word_list embedded interpolated parenthesized array label_key pair_in_braces hash_value name_call constant_value super_value yield_value prim dot_part scope_part bracket post not_level power_level minus_level product_level sum_level shift_level comparison_level equal_level equality_level and_level or_level range_level ternary argument command_arguments command_part splat item more_items splat_list other_items one_value nested_value right_side jump_value jump command_level block_argument label_pair arrow_pair arguments_from arguments cargs more_pairs method_name not_expression expression alias_statement undef_statement simple modifier statement line statement_list
c_prim true r = (refl, refl, c_word, (refl, refl, c_integer, (refl, refl, (λ x. omega arith, c_text), (refl, refl, c_interpolated r, (refl, refl, c_words, (refl, refl, c_ivar, (refl, refl, c_gvar, (refl, refl, c_top, (refl, refl, c_name true r, (refl, refl, c_constant true r, (refl, refl, c_parenthesized r, (refl, refl, c_array r, (refl, refl, c_hash r, (refl, refl, c_yield r, (refl, refl, c_super true r, (refl, refl, c_arrow_value true r, c_forms r))))))))))))))))
c_prim false r = (refl, refl, c_word, (refl, refl, c_integer, (refl, refl, (λ x. omega arith, c_text), (refl, refl, c_interpolated r, (refl, refl, c_words, (refl, refl, c_ivar, (refl, refl, c_gvar, (refl, refl, c_top, (refl, refl, c_name false r, (refl, refl, c_constant false r, (refl, refl, c_parenthesized r, (refl, refl, c_array r, (refl, refl, c_hash r, (refl, refl, c_yield r, (refl, refl, c_super false r, (refl, refl, c_arrow_value false r, c_forms r))))))))))))))))

c_dot : (d r : Bool) → Checks table (dot_part r d)
unfolding table placed target star_target behind_target next_target more_targets starred_set several_set parameter_name bracketed_names more_parameters default_value no_default behind_name named_parameter bracketed_parameter rest_parameter block_parameter sign_parameter simple_parameters parameters block_parameters brace_parts do_parts body_behind def_name def_in_brackets def_plain def_value plain_call lambda_block empty_brackets full_brackets lambda_call called arrow_parameters plain_block arrow_value then_sign else_part branch otherwise if_value unless_value loop_body while_value until_value when_clause case_value class_header rescue_clause body_else body_ensure handlers begin_value module_body class_value module_value keyword_form newlines behind_newlines paren closed brace_block do_block block tail paren_tail keyword_value word_value integer_value text ivar_value gvar_value top_constant word_list embedded interpolated parenthesized array label_key pair_in_braces hash_value name_call constant_value super_value yield_value prim dot_part scope_part bracket post not_level power_level minus_level product_level sum_level shift_level comparison_level equal_level equality_level and_level or_level range_level ternary argument command_arguments command_part splat item more_items splat_list other_items one_value nested_value right_side jump_value jump command_level block_argument label_pair arrow_pair arguments_from arguments cargs more_pairs method_name not_expression expression alias_statement undef_statement simple modifier statement line statement_list
c_dot true r = (λ x. omega (arith, selector_deep x.0 (x.1.0) (x.1.1), flat_option (x.1.0)), (refl, tt, (refl, refl, (refl, (λ x. refl, tt), c_tail true r), (λ x. omega arith, c_paren_tail true r))))
c_dot false r = (λ x. omega (arith, selector_deep x.0 (x.1.0) (x.1.1), flat_option (x.1.0)), (refl, tt, (refl, refl, (refl, (λ x. refl, tt), c_tail false r), (λ x. omega arith, c_paren_tail false r))))

c_scope : (d r : Bool) → Checks table (scope_part r d)
unfolding table placed target star_target behind_target next_target more_targets starred_set several_set parameter_name bracketed_names more_parameters default_value no_default behind_name named_parameter bracketed_parameter rest_parameter block_parameter sign_parameter simple_parameters parameters block_parameters brace_parts do_parts body_behind def_name def_in_brackets def_plain def_value plain_call lambda_block empty_brackets full_brackets lambda_call called arrow_parameters plain_block arrow_value then_sign else_part branch otherwise if_value unless_value loop_body while_value until_value when_clause case_value class_header rescue_clause body_else body_ensure handlers begin_value module_body class_value module_value keyword_form newlines behind_newlines paren closed brace_block do_block block tail paren_tail keyword_value word_value integer_value text ivar_value gvar_value top_constant word_list embedded interpolated parenthesized array label_key pair_in_braces hash_value name_call constant_value super_value yield_value prim dot_part scope_part bracket post not_level power_level minus_level product_level sum_level shift_level comparison_level equal_level equality_level and_level or_level range_level ternary argument command_arguments command_part splat item more_items splat_list other_items one_value nested_value right_side jump_value jump command_level block_argument label_pair arrow_pair arguments_from arguments cargs more_pairs method_name not_expression expression alias_statement undef_statement simple modifier statement line statement_list
c_scope true r = (λ x. omega arith, (refl, tt, (refl, refl, (λ x. refl, tt), (λ x. omega arith, (refl, tt, c_paren_tail true r)))))
c_scope false r = (λ x. omega arith, (refl, tt, (refl, refl, (λ x. refl, tt), (λ x. omega arith, (refl, tt, c_paren_tail false r)))))

c_bracket : (r : Bool) → Checks table (bracket r)
unfolding table placed target star_target behind_target next_target more_targets starred_set several_set parameter_name bracketed_names more_parameters default_value no_default behind_name named_parameter bracketed_parameter rest_parameter block_parameter sign_parameter simple_parameters parameters block_parameters brace_parts do_parts body_behind def_name def_in_brackets def_plain def_value plain_call lambda_block empty_brackets full_brackets lambda_call called arrow_parameters plain_block arrow_value then_sign else_part branch otherwise if_value unless_value loop_body while_value until_value when_clause case_value class_header rescue_clause body_else body_ensure handlers begin_value module_body class_value module_value keyword_form newlines behind_newlines paren closed brace_block do_block block tail paren_tail keyword_value word_value integer_value text ivar_value gvar_value top_constant word_list embedded interpolated parenthesized array label_key pair_in_braces hash_value name_call constant_value super_value yield_value prim dot_part scope_part bracket post not_level power_level minus_level product_level sum_level shift_level comparison_level equal_level equality_level and_level or_level range_level ternary argument command_arguments command_part splat item more_items splat_list other_items one_value nested_value right_side jump_value jump command_level block_argument label_pair arrow_pair arguments_from arguments cargs more_pairs method_name not_expression expression alias_statement undef_statement simple modifier statement line statement_list
c_bracket r = (λ x. omega arith, (refl, tt, c_close r true))

c_post : (d r : Bool) → Checks table (post r d)
unfolding table placed target star_target behind_target next_target more_targets starred_set several_set parameter_name bracketed_names more_parameters default_value no_default behind_name named_parameter bracketed_parameter rest_parameter block_parameter sign_parameter simple_parameters parameters block_parameters brace_parts do_parts body_behind def_name def_in_brackets def_plain def_value plain_call lambda_block empty_brackets full_brackets lambda_call called arrow_parameters plain_block arrow_value then_sign else_part branch otherwise if_value unless_value loop_body while_value until_value when_clause case_value class_header rescue_clause body_else body_ensure handlers begin_value module_body class_value module_value keyword_form newlines behind_newlines paren closed brace_block do_block block tail paren_tail keyword_value word_value integer_value text ivar_value gvar_value top_constant word_list embedded interpolated parenthesized array label_key pair_in_braces hash_value name_call constant_value super_value yield_value prim dot_part scope_part bracket post not_level power_level minus_level product_level sum_level shift_level comparison_level equal_level equality_level and_level or_level range_level ternary argument command_arguments command_part splat item more_items splat_list other_items one_value nested_value right_side jump_value jump command_level block_argument label_pair arrow_pair arguments_from arguments cargs more_pairs method_name not_expression expression alias_statement undef_statement simple modifier statement line statement_list
c_post true r = (refl, refl, refl, refl, λ l x. omega (arith, part_deep l.0 x.1 (x.0.0) (x.0.1) (act.to_end (l.0).span (act.end_of (act.span_of (x.0.0)) (x.0.1.0) (x.0.1.1)))), c_prim true r, (refl, refl, c_dot true r, (refl, refl, c_scope true r, c_bracket r)))
c_post false r = (refl, refl, refl, refl, λ l x. omega (arith, part_deep l.0 x.1 (x.0.0) (x.0.1) (act.to_end (l.0).span (act.end_of (act.span_of (x.0.0)) (x.0.1.0) (x.0.1.1)))), c_prim false r, (refl, refl, c_dot false r, (refl, refl, c_scope false r, c_bracket r)))

pub c_not : (d r : Bool) → Checks table (not_level d r)
unfolding table placed target star_target behind_target next_target more_targets starred_set several_set parameter_name bracketed_names more_parameters default_value no_default behind_name named_parameter bracketed_parameter rest_parameter block_parameter sign_parameter simple_parameters parameters block_parameters brace_parts do_parts body_behind def_name def_in_brackets def_plain def_value plain_call lambda_block empty_brackets full_brackets lambda_call called arrow_parameters plain_block arrow_value then_sign else_part branch otherwise if_value unless_value loop_body while_value until_value when_clause case_value class_header rescue_clause body_else body_ensure handlers begin_value module_body class_value module_value keyword_form newlines behind_newlines paren closed brace_block do_block block tail paren_tail keyword_value word_value integer_value text ivar_value gvar_value top_constant word_list embedded interpolated parenthesized array label_key pair_in_braces hash_value name_call constant_value super_value yield_value prim dot_part scope_part bracket post not_level power_level minus_level product_level sum_level shift_level comparison_level equal_level equality_level and_level or_level range_level ternary argument command_arguments command_part splat item more_items splat_list other_items one_value nested_value right_side jump_value jump command_level block_argument label_pair arrow_pair arguments_from arguments cargs more_pairs method_name not_expression expression alias_statement undef_statement simple modifier statement line statement_list
c_not true r = (refl, refl, (λ x. omega (arith, d.depth_not x.1 (act.from_token x.0 x.1) (act.start x.0)), (refl, tt, tt)), c_post true r)
c_not false r = (refl, refl, (λ x. omega (arith, d.depth_not x.1 (act.from_token x.0 x.1) (act.start x.0)), (refl, tt, tt)), c_post false r)

pub c_power : (d r : Bool) → Checks table (power_level d r)
unfolding table placed target star_target behind_target next_target more_targets starred_set several_set parameter_name bracketed_names more_parameters default_value no_default behind_name named_parameter bracketed_parameter rest_parameter block_parameter sign_parameter simple_parameters parameters block_parameters brace_parts do_parts body_behind def_name def_in_brackets def_plain def_value plain_call lambda_block empty_brackets full_brackets lambda_call called arrow_parameters plain_block arrow_value then_sign else_part branch otherwise if_value unless_value loop_body while_value until_value when_clause case_value class_header rescue_clause body_else body_ensure handlers begin_value module_body class_value module_value keyword_form newlines behind_newlines paren closed brace_block do_block block tail paren_tail keyword_value word_value integer_value text ivar_value gvar_value top_constant word_list embedded interpolated parenthesized array label_key pair_in_braces hash_value name_call constant_value super_value yield_value prim dot_part scope_part bracket post not_level power_level minus_level product_level sum_level shift_level comparison_level equal_level equality_level and_level or_level range_level ternary argument command_arguments command_part splat item more_items splat_list other_items one_value nested_value right_side jump_value jump command_level block_argument label_pair arrow_pair arguments_from arguments cargs more_pairs method_name not_expression expression alias_statement undef_statement simple modifier statement line statement_list
c_power true r = (inl refl, refl, refl, λ l x k. omega (arith, binary_deep l x), c_not true r, (refl, tt, tt))
c_power false r = (inl refl, refl, refl, λ l x k. omega (arith, binary_deep l x), c_not false r, (refl, tt, tt))

pub c_minus : (d r : Bool) → Checks table (minus_level d r)
unfolding table placed target star_target behind_target next_target more_targets starred_set several_set parameter_name bracketed_names more_parameters default_value no_default behind_name named_parameter bracketed_parameter rest_parameter block_parameter sign_parameter simple_parameters parameters block_parameters brace_parts do_parts body_behind def_name def_in_brackets def_plain def_value plain_call lambda_block empty_brackets full_brackets lambda_call called arrow_parameters plain_block arrow_value then_sign else_part branch otherwise if_value unless_value loop_body while_value until_value when_clause case_value class_header rescue_clause body_else body_ensure handlers begin_value module_body class_value module_value keyword_form newlines behind_newlines paren closed brace_block do_block block tail paren_tail keyword_value word_value integer_value text ivar_value gvar_value top_constant word_list embedded interpolated parenthesized array label_key pair_in_braces hash_value name_call constant_value super_value yield_value prim dot_part scope_part bracket post not_level power_level minus_level product_level sum_level shift_level comparison_level equal_level equality_level and_level or_level range_level ternary argument command_arguments command_part splat item more_items splat_list other_items one_value nested_value right_side jump_value jump command_level block_argument label_pair arrow_pair arguments_from arguments cargs more_pairs method_name not_expression expression alias_statement undef_statement simple modifier statement line statement_list
c_minus true r = (refl, refl, (λ x. omega (arith, negated_deep x.0 x.1), (refl, tt, tt)), c_power true r)
c_minus false r = (refl, refl, (λ x. omega (arith, negated_deep x.0 x.1), (refl, tt, tt)), c_power false r)

pub c_product : (d r : Bool) → Checks table (product_level d r)
unfolding table placed target star_target behind_target next_target more_targets starred_set several_set parameter_name bracketed_names more_parameters default_value no_default behind_name named_parameter bracketed_parameter rest_parameter block_parameter sign_parameter simple_parameters parameters block_parameters brace_parts do_parts body_behind def_name def_in_brackets def_plain def_value plain_call lambda_block empty_brackets full_brackets lambda_call called arrow_parameters plain_block arrow_value then_sign else_part branch otherwise if_value unless_value loop_body while_value until_value when_clause case_value class_header rescue_clause body_else body_ensure handlers begin_value module_body class_value module_value keyword_form newlines behind_newlines paren closed brace_block do_block block tail paren_tail keyword_value word_value integer_value text ivar_value gvar_value top_constant word_list embedded interpolated parenthesized array label_key pair_in_braces hash_value name_call constant_value super_value yield_value prim dot_part scope_part bracket post not_level power_level minus_level product_level sum_level shift_level comparison_level equal_level equality_level and_level or_level range_level ternary argument command_arguments command_part splat item more_items splat_list other_items one_value nested_value right_side jump_value jump command_level block_argument label_pair arrow_pair arguments_from arguments cargs more_pairs method_name not_expression expression alias_statement undef_statement simple modifier statement line statement_list
c_product true r = (refl, refl, refl, refl, λ l x. omega (arith, binary_deep l x), c_minus true r, (refl, tt, tt))
c_product false r = (refl, refl, refl, refl, λ l x. omega (arith, binary_deep l x), c_minus false r, (refl, tt, tt))

pub c_sum : (d r : Bool) → Checks table (sum_level d r)
unfolding table placed target star_target behind_target next_target more_targets starred_set several_set parameter_name bracketed_names more_parameters default_value no_default behind_name named_parameter bracketed_parameter rest_parameter block_parameter sign_parameter simple_parameters parameters block_parameters brace_parts do_parts body_behind def_name def_in_brackets def_plain def_value plain_call lambda_block empty_brackets full_brackets lambda_call called arrow_parameters plain_block arrow_value then_sign else_part branch otherwise if_value unless_value loop_body while_value until_value when_clause case_value class_header rescue_clause body_else body_ensure handlers begin_value module_body class_value module_value keyword_form newlines behind_newlines paren closed brace_block do_block block tail paren_tail keyword_value word_value integer_value text ivar_value gvar_value top_constant word_list embedded interpolated parenthesized array label_key pair_in_braces hash_value name_call constant_value super_value yield_value prim dot_part scope_part bracket post not_level power_level minus_level product_level sum_level shift_level comparison_level equal_level equality_level and_level or_level range_level ternary argument command_arguments command_part splat item more_items splat_list other_items one_value nested_value right_side jump_value jump command_level block_argument label_pair arrow_pair arguments_from arguments cargs more_pairs method_name not_expression expression alias_statement undef_statement simple modifier statement line statement_list
c_sum true r = (refl, refl, refl, refl, λ l x. omega (arith, binary_deep l x), c_product true r, (refl, tt, tt))
c_sum false r = (refl, refl, refl, refl, λ l x. omega (arith, binary_deep l x), c_product false r, (refl, tt, tt))

pub c_shift : (d r : Bool) → Checks table (shift_level d r)
unfolding table placed target star_target behind_target next_target more_targets starred_set several_set parameter_name bracketed_names more_parameters default_value no_default behind_name named_parameter bracketed_parameter rest_parameter block_parameter sign_parameter simple_parameters parameters block_parameters brace_parts do_parts body_behind def_name def_in_brackets def_plain def_value plain_call lambda_block empty_brackets full_brackets lambda_call called arrow_parameters plain_block arrow_value then_sign else_part branch otherwise if_value unless_value loop_body while_value until_value when_clause case_value class_header rescue_clause body_else body_ensure handlers begin_value module_body class_value module_value keyword_form newlines behind_newlines paren closed brace_block do_block block tail paren_tail keyword_value word_value integer_value text ivar_value gvar_value top_constant word_list embedded interpolated parenthesized array label_key pair_in_braces hash_value name_call constant_value super_value yield_value prim dot_part scope_part bracket post not_level power_level minus_level product_level sum_level shift_level comparison_level equal_level equality_level and_level or_level range_level ternary argument command_arguments command_part splat item more_items splat_list other_items one_value nested_value right_side jump_value jump command_level block_argument label_pair arrow_pair arguments_from arguments cargs more_pairs method_name not_expression expression alias_statement undef_statement simple modifier statement line statement_list
c_shift true r = (refl, refl, refl, refl, λ l x. omega (arith, binary_deep l x), c_sum true r, (refl, tt, tt))
c_shift false r = (refl, refl, refl, refl, λ l x. omega (arith, binary_deep l x), c_sum false r, (refl, tt, tt))

pub c_comparison : (d r : Bool) → Checks table (comparison_level d r)
unfolding table placed target star_target behind_target next_target more_targets starred_set several_set parameter_name bracketed_names more_parameters default_value no_default behind_name named_parameter bracketed_parameter rest_parameter block_parameter sign_parameter simple_parameters parameters block_parameters brace_parts do_parts body_behind def_name def_in_brackets def_plain def_value plain_call lambda_block empty_brackets full_brackets lambda_call called arrow_parameters plain_block arrow_value then_sign else_part branch otherwise if_value unless_value loop_body while_value until_value when_clause case_value class_header rescue_clause body_else body_ensure handlers begin_value module_body class_value module_value keyword_form newlines behind_newlines paren closed brace_block do_block block tail paren_tail keyword_value word_value integer_value text ivar_value gvar_value top_constant word_list embedded interpolated parenthesized array label_key pair_in_braces hash_value name_call constant_value super_value yield_value prim dot_part scope_part bracket post not_level power_level minus_level product_level sum_level shift_level comparison_level equal_level equality_level and_level or_level range_level ternary argument command_arguments command_part splat item more_items splat_list other_items one_value nested_value right_side jump_value jump command_level block_argument label_pair arrow_pair arguments_from arguments cargs more_pairs method_name not_expression expression alias_statement undef_statement simple modifier statement line statement_list
c_comparison true r = (refl, refl, refl, refl, λ l x. omega (arith, binary_deep l x), c_shift true r, (refl, tt, tt))
c_comparison false r = (refl, refl, refl, refl, λ l x. omega (arith, binary_deep l x), c_shift false r, (refl, tt, tt))

c_equal : (d r : Bool) → Checks table (equal_level d r)
unfolding table placed target star_target behind_target next_target more_targets starred_set several_set parameter_name bracketed_names more_parameters default_value no_default behind_name named_parameter bracketed_parameter rest_parameter block_parameter sign_parameter simple_parameters parameters block_parameters brace_parts do_parts body_behind def_name def_in_brackets def_plain def_value plain_call lambda_block empty_brackets full_brackets lambda_call called arrow_parameters plain_block arrow_value then_sign else_part branch otherwise if_value unless_value loop_body while_value until_value when_clause case_value class_header rescue_clause body_else body_ensure handlers begin_value module_body class_value module_value keyword_form newlines behind_newlines paren closed brace_block do_block block tail paren_tail keyword_value word_value integer_value text ivar_value gvar_value top_constant word_list embedded interpolated parenthesized array label_key pair_in_braces hash_value name_call constant_value super_value yield_value prim dot_part scope_part bracket post not_level power_level minus_level product_level sum_level shift_level comparison_level equal_level equality_level and_level or_level range_level ternary argument command_arguments command_part splat item more_items splat_list other_items one_value nested_value right_side jump_value jump command_level block_argument label_pair arrow_pair arguments_from arguments cargs more_pairs method_name not_expression expression alias_statement undef_statement simple modifier statement line statement_list
c_equal true r = (inl refl, refl, refl, λ l x k. omega (arith, binary_deep l x), c_comparison true r, (refl, tt, tt))
c_equal false r = (inl refl, refl, refl, λ l x k. omega (arith, binary_deep l x), c_comparison false r, (refl, tt, tt))

pub c_equality : (d r : Bool) → Checks table (equality_level d r)
unfolding table placed target star_target behind_target next_target more_targets starred_set several_set parameter_name bracketed_names more_parameters default_value no_default behind_name named_parameter bracketed_parameter rest_parameter block_parameter sign_parameter simple_parameters parameters block_parameters brace_parts do_parts body_behind def_name def_in_brackets def_plain def_value plain_call lambda_block empty_brackets full_brackets lambda_call called arrow_parameters plain_block arrow_value then_sign else_part branch otherwise if_value unless_value loop_body while_value until_value when_clause case_value class_header rescue_clause body_else body_ensure handlers begin_value module_body class_value module_value keyword_form newlines behind_newlines paren closed brace_block do_block block tail paren_tail keyword_value word_value integer_value text ivar_value gvar_value top_constant word_list embedded interpolated parenthesized array label_key pair_in_braces hash_value name_call constant_value super_value yield_value prim dot_part scope_part bracket post not_level power_level minus_level product_level sum_level shift_level comparison_level equal_level equality_level and_level or_level range_level ternary argument command_arguments command_part splat item more_items splat_list other_items one_value nested_value right_side jump_value jump command_level block_argument label_pair arrow_pair arguments_from arguments cargs more_pairs method_name not_expression expression alias_statement undef_statement simple modifier statement line statement_list
c_equality true r = (inl refl, refl, refl, λ l x k. omega (arith, different_deep l x), c_equal true r, (refl, tt, tt))
c_equality false r = (inl refl, refl, refl, λ l x k. omega (arith, different_deep l x), c_equal false r, (refl, tt, tt))

pub c_and : (d r : Bool) → Checks table (and_level d r)
unfolding table placed target star_target behind_target next_target more_targets starred_set several_set parameter_name bracketed_names more_parameters default_value no_default behind_name named_parameter bracketed_parameter rest_parameter block_parameter sign_parameter simple_parameters parameters block_parameters brace_parts do_parts body_behind def_name def_in_brackets def_plain def_value plain_call lambda_block empty_brackets full_brackets lambda_call called arrow_parameters plain_block arrow_value then_sign else_part branch otherwise if_value unless_value loop_body while_value until_value when_clause case_value class_header rescue_clause body_else body_ensure handlers begin_value module_body class_value module_value keyword_form newlines behind_newlines paren closed brace_block do_block block tail paren_tail keyword_value word_value integer_value text ivar_value gvar_value top_constant word_list embedded interpolated parenthesized array label_key pair_in_braces hash_value name_call constant_value super_value yield_value prim dot_part scope_part bracket post not_level power_level minus_level product_level sum_level shift_level comparison_level equal_level equality_level and_level or_level range_level ternary argument command_arguments command_part splat item more_items splat_list other_items one_value nested_value right_side jump_value jump command_level block_argument label_pair arrow_pair arguments_from arguments cargs more_pairs method_name not_expression expression alias_statement undef_statement simple modifier statement line statement_list
c_and true r = (refl, refl, refl, refl, λ l x. omega (arith, d.depth_and l.0 x.1 (act.nodes l.0 x.1) (act.start x.0)), c_equality true r, (refl, tt, tt))
c_and false r = (refl, refl, refl, refl, λ l x. omega (arith, d.depth_and l.0 x.1 (act.nodes l.0 x.1) (act.start x.0)), c_equality false r, (refl, tt, tt))

pub c_or : (d r : Bool) → Checks table (or_level d r)
unfolding table placed target star_target behind_target next_target more_targets starred_set several_set parameter_name bracketed_names more_parameters default_value no_default behind_name named_parameter bracketed_parameter rest_parameter block_parameter sign_parameter simple_parameters parameters block_parameters brace_parts do_parts body_behind def_name def_in_brackets def_plain def_value plain_call lambda_block empty_brackets full_brackets lambda_call called arrow_parameters plain_block arrow_value then_sign else_part branch otherwise if_value unless_value loop_body while_value until_value when_clause case_value class_header rescue_clause body_else body_ensure handlers begin_value module_body class_value module_value keyword_form newlines behind_newlines paren closed brace_block do_block block tail paren_tail keyword_value word_value integer_value text ivar_value gvar_value top_constant word_list embedded interpolated parenthesized array label_key pair_in_braces hash_value name_call constant_value super_value yield_value prim dot_part scope_part bracket post not_level power_level minus_level product_level sum_level shift_level comparison_level equal_level equality_level and_level or_level range_level ternary argument command_arguments command_part splat item more_items splat_list other_items one_value nested_value right_side jump_value jump command_level block_argument label_pair arrow_pair arguments_from arguments cargs more_pairs method_name not_expression expression alias_statement undef_statement simple modifier statement line statement_list
c_or true r = (refl, refl, refl, refl, λ l x. omega (arith, d.depth_or l.0 x.1 (act.nodes l.0 x.1) (act.start x.0)), c_and true r, (refl, tt, tt))
c_or false r = (refl, refl, refl, refl, λ l x. omega (arith, d.depth_or l.0 x.1 (act.nodes l.0 x.1) (act.start x.0)), c_and false r, (refl, tt, tt))

c_range : (d r : Bool) → Checks table (range_level d r)
unfolding table placed target star_target behind_target next_target more_targets starred_set several_set parameter_name bracketed_names more_parameters default_value no_default behind_name named_parameter bracketed_parameter rest_parameter block_parameter sign_parameter simple_parameters parameters block_parameters brace_parts do_parts body_behind def_name def_in_brackets def_plain def_value plain_call lambda_block empty_brackets full_brackets lambda_call called arrow_parameters plain_block arrow_value then_sign else_part branch otherwise if_value unless_value loop_body while_value until_value when_clause case_value class_header rescue_clause body_else body_ensure handlers begin_value module_body class_value module_value keyword_form newlines behind_newlines paren closed brace_block do_block block tail paren_tail keyword_value word_value integer_value text ivar_value gvar_value top_constant word_list embedded interpolated parenthesized array label_key pair_in_braces hash_value name_call constant_value super_value yield_value prim dot_part scope_part bracket post not_level power_level minus_level product_level sum_level shift_level comparison_level equal_level equality_level and_level or_level range_level ternary argument command_arguments command_part splat item more_items splat_list other_items one_value nested_value right_side jump_value jump command_level block_argument label_pair arrow_pair arguments_from arguments cargs more_pairs method_name not_expression expression alias_statement undef_statement simple modifier statement line statement_list
c_range true r = (inl refl, refl, refl, λ l x k. omega (arith, d.depth_range_lit l.0 x.1 (act.without_end x.0) (act.nodes l.0 x.1) (act.start x.0)), c_or true r, (refl, tt, tt))
c_range false r = (inl refl, refl, refl, λ l x k. omega (arith, d.depth_range_lit l.0 x.1 (act.without_end x.0) (act.nodes l.0 x.1) (act.start x.0)), c_or false r, (refl, tt, tt))

pub c_ternary : (d r : Bool) → Checks table (ternary d r)
unfolding table placed target star_target behind_target next_target more_targets starred_set several_set parameter_name bracketed_names more_parameters default_value no_default behind_name named_parameter bracketed_parameter rest_parameter block_parameter sign_parameter simple_parameters parameters block_parameters brace_parts do_parts body_behind def_name def_in_brackets def_plain def_value plain_call lambda_block empty_brackets full_brackets lambda_call called arrow_parameters plain_block arrow_value then_sign else_part branch otherwise if_value unless_value loop_body while_value until_value when_clause case_value class_header rescue_clause body_else body_ensure handlers begin_value module_body class_value module_value keyword_form newlines behind_newlines paren closed brace_block do_block block tail paren_tail keyword_value word_value integer_value text ivar_value gvar_value top_constant word_list embedded interpolated parenthesized array label_key pair_in_braces hash_value name_call constant_value super_value yield_value prim dot_part scope_part bracket post not_level power_level minus_level product_level sum_level shift_level comparison_level equal_level equality_level and_level or_level range_level ternary argument command_arguments command_part splat item more_items splat_list other_items one_value nested_value right_side jump_value jump command_level block_argument label_pair arrow_pair arguments_from arguments cargs more_pairs method_name not_expression expression alias_statement undef_statement simple modifier statement line statement_list
c_ternary true r = (inl refl, refl, refl, λ l x k. omega (arith, d.depth_if l.0 (x.1.0) (x.1.1) (act.nodes l.0 (x.1.1)) (act.start x.0)), c_range true r, (refl, tt, (refl, tt, (λ x. omega arith, (refl, tt, tt)))))
c_ternary false r = (inl refl, refl, refl, λ l x k. omega (arith, d.depth_if l.0 (x.1.0) (x.1.1) (act.nodes l.0 (x.1.1)) (act.start x.0)), c_range false r, (refl, tt, (refl, tt, (λ x. omega arith, (refl, tt, tt)))))

-- ---- values that something doesn't go on behind

unfoldable pub Quiet : {s : Sort} → R s → El Seen Node s → (ℕ → Bool) → Type 0
Quiet q l f = (t : ℕ) → t < size → GoesOn table q l t → f t ≡ true → ⊥

no_class : (c f : ℕ → Bool) → Disjoint table c f → (t : ℕ) → t < size → c t ≡ true → f t ≡ true → ⊥
unfolding table
no_class c f h t less k j = clear_at size (λ n. c n && f n) t h less (and_both (c t) _ k j)

quiet_class : {s : Sort} (q : R s) (l : El Seen Node s) (f : ℕ → Bool) → Disjoint table (continues table q) f → Quiet q l f
unfolding Quiet
quiet_class q l f h = λ t less g j. no_class (continues table q) f h t less (continues_of table bounded q l t g) j

quiet_suffix : {s r : Sort} (levels : ℕ) (q : R s) (ok : El Seen Node s → Bool) (p : R r) (f : El Seen Node s → El Seen Node r → El Seen Node s) (l : El Seen Node s) (c : ℕ → Bool)
    → Quiet q l c
    → ((t : ℕ) → t < size → ok l ≡ true → first table p t ≡ true → c t ≡ true → ⊥)
    → ((m : El Seen Node s) (y : El Seen Node r) (t : ℕ) → t < size → l ≡ f m y → GoesOn table p y t → c t ≡ true → ⊥)
    → Quiet (suffix levels q ok p f) l c
unfolding Quiet
quiet_suffix levels q ok p f l c base third made t less (inl g) j = base t less g j
quiet_suffix levels q ok p f l c base third made t less (inr (inl (m, y, e, k, g))) j = made m y t less e g j
quiet_suffix levels q ok p f l c base third made t less (inr (inr (k, h))) j = third t less k h j

-- ---- what an assignment or a command gives is no place, and calls nothing

set_not : (f : act.Place → Bool) (l : Node × ℕ) (n : Node) (m : ℕ) → l ≡ (n, act.ended m) → act.takes f (act.place_of l) ≡ true → ⊥
set_not f l n m e h = by (nat_eq m act.commanded) (subst (λ z. act.takes f (act.place_of z) ≡ true) e h)
  where
    by : (c : Bool) → act.takes f (act.place_of (n, if c then act.commanded else act.other)) ≡ true → ⊥
    by true h = true≢false (sym h)
    by false h = true≢false (sym h)

callee_not : (l : Node × ℕ) (n : Node) (m : ℕ) → l ≡ (n, act.ended m) → is_some (act.callee l) ≡ true → ⊥
callee_not l n m e h = by (nat_eq m act.commanded) (subst (λ z. is_some (act.callee z) ≡ true) e h)
  where
    by : (c : Bool) → is_some (act.callee (n, if c then act.commanded else act.other)) ≡ true → ⊥
    by true h = true≢false (sym h)
    by false h = true≢false (sym h)

yield_not : (l : Node × ℕ) (n : Node) (m : ℕ) → l ≡ (n, act.ended m) → act.yields l ≡ true → ⊥
yield_not l n m e h = by (nat_eq m act.commanded) (subst (λ z. act.yields z ≡ true) e h)
  where
    by : (c : Bool) → act.yields (n, if c then act.commanded else act.other) ≡ true → ⊥
    by true h = true≢false (sym h)
    by false h = true≢false (sym h)

yield_or_callee : (l : Node × ℕ) → act.yields l ≡ true → is_some (act.callee l) ≡ true → ⊥
yield_or_callee l h k = true≢false (sym (subst (λ n. is_some (if act.is_bare n then act.callee_in (act.layer l.0) else None) ≡ true) (number l.1 ((and_split (nat_eq l.1 act.yielding) _ h).0)) k))
  where
    number : (n : ℕ) → nat_eq n act.yielding ≡ true → n ≡ act.yielding
    number n h = search (arith, h)

variable_or_attribute : (l : Node × ℕ) → act.sets_attribute l ≡ true → act.sets_variable l ≡ true → ⊥
variable_or_attribute l h k = by (act.place_of l) h k
  where
    by : (o : Option act.Place) → act.takes act.is_attribute o ≡ true → act.takes act.is_variable o ≡ true → ⊥
    by None h k = true≢false (sym h)
    by (Some (act.local name)) h k = true≢false (sym h)
    by (Some (act.ivar name)) h k = true≢false (sym h)
    by (Some (act.global name)) h k = true≢false (sym h)
    by (Some (act.constant name)) h k = true≢false (sym h)
    by (Some (act.attribute_of receiver name args)) h k = true≢false (sym k)

module _ (d r : Bool) (value updated : R (marked tree)) where
  abbrev sets : R (marked tree)
  sets = suffix {r = under (marked tree)} 0 (ternary d r) act.is_place (set_part d r value) act.assigned

  abbrev calls_operator : R (marked tree)
  calls_operator = suffix {r = pair leaf (marked tree)} 2 sets act.sets_variable (call_part d r updated) act.operator_updated

  abbrev updates_variable : R (marked tree)
  updates_variable = suffix {r = under (under (pair leaf (marked tree)))} 0 calls_operator act.sets_variable (two_nodes d r updated) act.variable_updated

  quiet_sets : (l : Node × ℕ) (c : ℕ → Bool) → Quiet (ternary d r) l c → Disjoint table (op mark.Assign) c → ((n : Node) (m : ℕ) → l ≡ (n, act.ended m) → ⊥) → Quiet sets l c
  quiet_sets l c q h fresh = quiet_suffix 0 (ternary d r) act.is_place (set_part d r value) act.assigned l c q (λ t less k g j. no_class (op mark.Assign) c h t less g j) (λ m y t less e g j. fresh _ _ e)

  quiet_called : (l : Node × ℕ) (c : ℕ → Bool) → Quiet sets l c → ((t : ℕ) → t < size → act.sets_variable l ≡ true → calling t ≡ true → c t ≡ true → ⊥) → ((n : Node) (m : ℕ) → l ≡ (n, act.ended m) → ⊥) → Quiet calls_operator l c
  quiet_called l c q h fresh = quiet_suffix 2 sets act.sets_variable (call_part d r updated) act.operator_updated l c q h (λ m y t less e g j. fresh _ _ e)

  quiet_variable : (l : Node × ℕ) (c : ℕ → Bool) → Quiet calls_operator l c → ((t : ℕ) → t < size → act.sets_variable l ≡ true → guarding t ≡ true → c t ≡ true → ⊥) → ((n : Node) (m : ℕ) → l ≡ (n, act.ended m) → ⊥) → Quiet updates_variable l c
  quiet_variable l c q h fresh = quiet_suffix 0 calls_operator act.sets_variable (two_nodes d r updated) act.variable_updated l c q h (λ m y t less e g j. fresh _ _ e)

  quiet_assignment : (l : Node × ℕ) (c : ℕ → Bool) → Quiet (ternary d r) l c → Disjoint table (op mark.Assign) c → Disjoint table calling c → Disjoint table guarding c → Disjoint table updates c → ((n : Node) (m : ℕ) → l ≡ (n, act.ended m) → ⊥) → Quiet (assignment d r value updated) l c
  quiet_assignment l c q h a b g fresh = quiet_suffix 0 updates_variable act.sets_attribute (update_part d r updated) act.attribute_updated l c
      (quiet_variable l c (quiet_called l c (quiet_sets l c q h fresh) (λ t less k x j. no_class calling c a t less x j) fresh) (λ t less k x j. no_class guarding c b t less x j) fresh)
      (λ t less k x j. no_class updates c g t less x j) (λ m y t less e x j. fresh _ _ e)

c_assignment : (d r : Bool) (value updated : R (marked tree)) → Checks table value → Checks table updated → Checks table (assignment d r value updated)
unfolding table placed target star_target behind_target next_target more_targets starred_set several_set parameter_name bracketed_names more_parameters default_value no_default behind_name named_parameter bracketed_parameter rest_parameter block_parameter sign_parameter simple_parameters parameters block_parameters brace_parts do_parts body_behind def_name def_in_brackets def_plain def_value plain_call lambda_block empty_brackets full_brackets lambda_call called arrow_parameters plain_block arrow_value then_sign else_part branch otherwise if_value unless_value loop_body while_value until_value when_clause case_value class_header rescue_clause body_else body_ensure handlers begin_value module_body class_value module_value keyword_form newlines behind_newlines paren closed brace_block do_block block tail paren_tail keyword_value word_value integer_value text ivar_value gvar_value top_constant word_list embedded interpolated parenthesized array label_key pair_in_braces hash_value name_call constant_value super_value yield_value prim dot_part scope_part bracket post not_level power_level minus_level product_level sum_level shift_level comparison_level equal_level equality_level and_level or_level range_level ternary argument command_arguments command_part splat item more_items splat_list other_items one_value nested_value right_side jump_value jump command_level block_argument label_pair arrow_pair arguments_from arguments cargs more_pairs method_name not_expression expression alias_statement undef_statement simple modifier statement line statement_list Quiet
c_assignment true r value updated cv cu = (
  inr (λ l t less k g h. quiet_variable true r value updated l updates
      (quiet_called true r value updated l updates
      (quiet_sets true r value updated l updates (quiet_class (ternary true r) l updates refl) refl (λ n m e. set_not act.is_attribute l n m e k))
      (λ t less x y z. variable_or_attribute l k x) (λ n m e. set_not act.is_attribute l n m e k))
      (λ t less x y z. variable_or_attribute l k x) (λ n m e. set_not act.is_attribute l n m e k) t less g h),
  refl,
  refl,
  λ l x k. omega (arith, attribute_deep l x k),
  (
    inr (λ l t less k g h. quiet_called true r value updated l guarding
        (quiet_sets true r value updated l guarding (quiet_class (ternary true r) l guarding refl) refl (λ n m e. set_not act.is_variable l n m e k))
        (λ t less x y z. no_class calling guarding refl t less y z) (λ n m e. set_not act.is_variable l n m e k) t less g h),
    refl,
    refl,
    λ l x k. omega (arith, variable_deep l x k),
    (
      inr (λ l t less k g h. quiet_sets true r value updated l calling (quiet_class (ternary true r) l calling refl) refl (λ n m e. set_not act.is_variable l n m e k) t less g h),
      refl,
      refl,
      λ l x k. omega (arith, operator_deep l x k),
      (inl refl, refl, refl, λ l x k. omega (arith, assigned_deep l x k), c_ternary true r, (λ x. refl, behind_checks table value cv (op mark.Assign))),
      (no_classes_of updated, tt, cu),
    ),
    (inl (λ x. omega arith), (λ x. refl, (λ x. refl, (no_classes_of updated, tt, cu)))),
  ),
  (λ x. refl, (no_classes_of updated, tt, cu)),
)
c_assignment false r value updated cv cu = (
  inr (λ l t less k g h. quiet_variable false r value updated l updates
      (quiet_called false r value updated l updates
      (quiet_sets false r value updated l updates (quiet_class (ternary false r) l updates refl) refl (λ n m e. set_not act.is_attribute l n m e k))
      (λ t less x y z. variable_or_attribute l k x) (λ n m e. set_not act.is_attribute l n m e k))
      (λ t less x y z. variable_or_attribute l k x) (λ n m e. set_not act.is_attribute l n m e k) t less g h),
  refl,
  refl,
  λ l x k. omega (arith, attribute_deep l x k),
  (
    inr (λ l t less k g h. quiet_called false r value updated l guarding
        (quiet_sets false r value updated l guarding (quiet_class (ternary false r) l guarding refl) refl (λ n m e. set_not act.is_variable l n m e k))
        (λ t less x y z. no_class calling guarding refl t less y z) (λ n m e. set_not act.is_variable l n m e k) t less g h),
    refl,
    refl,
    λ l x k. omega (arith, variable_deep l x k),
    (
      inr (λ l t less k g h. quiet_sets false r value updated l calling (quiet_class (ternary false r) l calling refl) refl (λ n m e. set_not act.is_variable l n m e k) t less g h),
      refl,
      refl,
      λ l x k. omega (arith, operator_deep l x k),
      (inl refl, refl, refl, λ l x k. omega (arith, assigned_deep l x k), c_ternary false r, (λ x. refl, behind_checks table value cv (op mark.Assign))),
      (no_classes_of updated, tt, cu),
    ),
    (inl (λ x. omega arith), (λ x. refl, (λ x. refl, (no_classes_of updated, tt, cu)))),
  ),
  (λ x. refl, (no_classes_of updated, tt, cu)),
)

pub c_argument : (d r : Bool) → Checks table (argument d r)
unfolding table placed target star_target behind_target next_target more_targets starred_set several_set parameter_name bracketed_names more_parameters default_value no_default behind_name named_parameter bracketed_parameter rest_parameter block_parameter sign_parameter simple_parameters parameters block_parameters brace_parts do_parts body_behind def_name def_in_brackets def_plain def_value plain_call lambda_block empty_brackets full_brackets lambda_call called arrow_parameters plain_block arrow_value then_sign else_part branch otherwise if_value unless_value loop_body while_value until_value when_clause case_value class_header rescue_clause body_else body_ensure handlers begin_value module_body class_value module_value keyword_form newlines behind_newlines paren closed brace_block do_block block tail paren_tail keyword_value word_value integer_value text ivar_value gvar_value top_constant word_list embedded interpolated parenthesized array label_key pair_in_braces hash_value name_call constant_value super_value yield_value prim dot_part scope_part bracket post not_level power_level minus_level product_level sum_level shift_level comparison_level equal_level equality_level and_level or_level range_level ternary argument command_arguments command_part splat item more_items splat_list other_items one_value nested_value right_side jump_value jump command_level block_argument label_pair arrow_pair arguments_from arguments cargs more_pairs method_name not_expression expression alias_statement undef_statement simple modifier statement line statement_list
c_argument true r = c_assignment true r (plain (named (part p.Argument true r))) (plain (named (part p.Argument true r))) (λ x. omega arith, tt) (λ x. omega arith, tt)
c_argument false r = c_assignment false r (plain (named (part p.Argument false r))) (plain (named (part p.Argument false r))) (λ x. omega arith, tt) (λ x. omega arith, tt)

c_args : (d r blocks : Bool) → Checks table (command_arguments d r blocks)
unfolding table placed target star_target behind_target next_target more_targets starred_set several_set parameter_name bracketed_names more_parameters default_value no_default behind_name named_parameter bracketed_parameter rest_parameter block_parameter sign_parameter simple_parameters parameters block_parameters brace_parts do_parts body_behind def_name def_in_brackets def_plain def_value plain_call lambda_block empty_brackets full_brackets lambda_call called arrow_parameters plain_block arrow_value then_sign else_part branch otherwise if_value unless_value loop_body while_value until_value when_clause case_value class_header rescue_clause body_else body_ensure handlers begin_value module_body class_value module_value keyword_form newlines behind_newlines paren closed brace_block do_block block tail paren_tail keyword_value word_value integer_value text ivar_value gvar_value top_constant word_list embedded interpolated parenthesized array label_key pair_in_braces hash_value name_call constant_value super_value yield_value prim dot_part scope_part bracket post not_level power_level minus_level product_level sum_level shift_level comparison_level equal_level equality_level and_level or_level range_level ternary argument command_arguments command_part splat item more_items splat_list other_items one_value nested_value right_side jump_value jump command_level block_argument label_pair arrow_pair arguments_from arguments cargs more_pairs method_name not_expression expression alias_statement undef_statement simple modifier statement line statement_list
c_args d r blocks = (refl, refl, (λ x. omega arith, (refl, tt)), (λ x. omega arith, (refl, tt)))

c_do_beside : (r pass : Bool) → Included table (first table (do_beside r pass)) (key word.Do) × Included table (continues table (do_beside r pass)) (key word.Do) × (nullable table (do_beside r pass) ≡ true → true ≡ true) × Checks table (do_beside r pass)
unfolding table placed target star_target behind_target next_target more_targets starred_set several_set parameter_name bracketed_names more_parameters default_value no_default behind_name named_parameter bracketed_parameter rest_parameter block_parameter sign_parameter simple_parameters parameters block_parameters brace_parts do_parts body_behind def_name def_in_brackets def_plain def_value plain_call lambda_block empty_brackets full_brackets lambda_call called arrow_parameters plain_block arrow_value then_sign else_part branch otherwise if_value unless_value loop_body while_value until_value when_clause case_value class_header rescue_clause body_else body_ensure handlers begin_value module_body class_value module_value keyword_form newlines behind_newlines paren closed brace_block do_block block tail paren_tail keyword_value word_value integer_value text ivar_value gvar_value top_constant word_list embedded interpolated parenthesized array label_key pair_in_braces hash_value name_call constant_value super_value yield_value prim dot_part scope_part bracket post not_level power_level minus_level product_level sum_level shift_level comparison_level equal_level equality_level and_level or_level range_level ternary argument command_arguments command_part splat item more_items splat_list other_items one_value nested_value right_side jump_value jump command_level block_argument label_pair arrow_pair arguments_from arguments cargs more_pairs method_name not_expression expression alias_statement undef_statement simple modifier statement line statement_list
c_do_beside r true = (refl, refl, (λ h. refl), tt)
c_do_beside r false = (refl, refl, (λ h. refl), (refl, refl, (λ x. refl, c_do r), tt))

c_command_part : (d r : Bool) → Checks table (command_part d r)
unfolding table placed target star_target behind_target next_target more_targets starred_set several_set parameter_name bracketed_names more_parameters default_value no_default behind_name named_parameter bracketed_parameter rest_parameter block_parameter sign_parameter simple_parameters parameters block_parameters brace_parts do_parts body_behind def_name def_in_brackets def_plain def_value plain_call lambda_block empty_brackets full_brackets lambda_call called arrow_parameters plain_block arrow_value then_sign else_part branch otherwise if_value unless_value loop_body while_value until_value when_clause case_value class_header rescue_clause body_else body_ensure handlers begin_value module_body class_value module_value keyword_form newlines behind_newlines paren closed brace_block do_block block tail paren_tail keyword_value word_value integer_value text ivar_value gvar_value top_constant word_list embedded interpolated parenthesized array label_key pair_in_braces hash_value name_call constant_value super_value yield_value prim dot_part scope_part bracket post not_level power_level minus_level product_level sum_level shift_level comparison_level equal_level equality_level and_level or_level range_level ternary argument command_arguments command_part splat item more_items splat_list other_items one_value nested_value right_side jump_value jump command_level block_argument label_pair arrow_pair arguments_from arguments cargs more_pairs method_name not_expression expression alias_statement undef_statement simple modifier statement line statement_list
c_command_part true r = (refl, c_args true r true, λ x. c_do_beside r (is_some (x.0.1.1)))
c_command_part false r = (refl, c_args false r true, tt)

module _ (d r : Bool) (value : R (marked tree)) where
  abbrev commands : R (marked tree)
  commands = suffix {r = under (pair (marked args_sort) (optional tree))} 0 value (λ l. is_some (act.callee l))
      (node {s = pair (marked args_sort) (optional tree)} {r = under (pair (marked args_sort) (optional tree))} (λ x. record { value = x }) (command_part d r)) act.command_node

  -- behind no value that a command can be made of, the arguments of one go on
  abbrev Settled : Type 0
  Settled = (l : Node × ℕ) → ((n : Node) (m : ℕ) → l ≡ (n, act.ended m) → ⊥) → Quiet value l begins_command

c_commanding : (d r : Bool) (value : R (marked tree)) → Checks table value → nullable table value ≡ false → Settled d r value → Checks table (commanding d r value)
unfolding table placed target star_target behind_target next_target more_targets starred_set several_set parameter_name bracketed_names more_parameters default_value no_default behind_name named_parameter bracketed_parameter rest_parameter block_parameter sign_parameter simple_parameters parameters block_parameters brace_parts do_parts body_behind def_name def_in_brackets def_plain def_value plain_call lambda_block empty_brackets full_brackets lambda_call called arrow_parameters plain_block arrow_value then_sign else_part branch otherwise if_value unless_value loop_body while_value until_value when_clause case_value class_header rescue_clause body_else body_ensure handlers begin_value module_body class_value module_value keyword_form newlines behind_newlines paren closed brace_block do_block block tail paren_tail keyword_value word_value integer_value text ivar_value gvar_value top_constant word_list embedded interpolated parenthesized array label_key pair_in_braces hash_value name_call constant_value super_value yield_value prim dot_part scope_part bracket post not_level power_level minus_level product_level sum_level shift_level comparison_level equal_level equality_level and_level or_level range_level ternary argument command_arguments command_part splat item more_items splat_list other_items one_value nested_value right_side jump_value jump command_level block_argument label_pair arrow_pair arguments_from arguments cargs more_pairs method_name not_expression expression alias_statement undef_statement simple modifier statement line statement_list Quiet
c_commanding true r value cv e q = (
  inr (λ l t less k g h. quiet_suffix 0 value (λ l. is_some (act.callee l)) (node {s = pair (marked args_sort) (optional tree)} {r = under (pair (marked args_sort) (optional tree))} (λ x. record { value = x }) (command_part true r)) act.command_node l begins_command
      (q l (λ n m e. yield_not l n m e k)) (λ t less x y z. yield_or_callee l k x) (λ m y t less e g j. yield_not l _ act.commanded e k) t less g (included_at table (first table (command_arguments true r false)) begins_command t refl less h)),
  refl,
  refl,
  λ l x k. omega (arith, yield_command_deep l x k),
  (
    inr (λ l t less k g h. q l (λ n m e. callee_not l n m e k) t less g (included_at table (first table (command_part true r)) begins_command t refl less h)),
    e,
    refl,
    λ l x k. omega (arith, command_deep l x k),
    cv,
    (λ x. refl, c_command_part true r),
  ),
  (λ x. refl, c_args true r false),
)
c_commanding false r value cv e q = (
  inr (λ l t less k g h. quiet_suffix 0 value (λ l. is_some (act.callee l)) (node {s = pair (marked args_sort) (optional tree)} {r = under (pair (marked args_sort) (optional tree))} (λ x. record { value = x }) (command_part false r)) act.command_node l begins_command
      (q l (λ n m e. yield_not l n m e k)) (λ t less x y z. yield_or_callee l k x) (λ m y t less e g j. yield_not l _ act.commanded e k) t less g (included_at table (first table (command_arguments false r false)) begins_command t refl less h)),
  refl,
  refl,
  λ l x k. omega (arith, yield_command_deep l x k),
  (
    inr (λ l t less k g h. q l (λ n m e. callee_not l n m e k) t less g (included_at table (first table (command_part false r)) begins_command t refl less h)),
    e,
    refl,
    λ l x k. omega (arith, command_deep l x k),
    cv,
    (λ x. refl, c_command_part false r),
  ),
  (λ x. refl, c_args false r false),
)

settled : (d r : Bool) (value updated : R (marked tree)) → Settled d r (assignment d r value updated)
unfolding table placed target star_target behind_target next_target more_targets starred_set several_set parameter_name bracketed_names more_parameters default_value no_default behind_name named_parameter bracketed_parameter rest_parameter block_parameter sign_parameter simple_parameters parameters block_parameters brace_parts do_parts body_behind def_name def_in_brackets def_plain def_value plain_call lambda_block empty_brackets full_brackets lambda_call called arrow_parameters plain_block arrow_value then_sign else_part branch otherwise if_value unless_value loop_body while_value until_value when_clause case_value class_header rescue_clause body_else body_ensure handlers begin_value module_body class_value module_value keyword_form newlines behind_newlines paren closed brace_block do_block block tail paren_tail keyword_value word_value integer_value text ivar_value gvar_value top_constant word_list embedded interpolated parenthesized array label_key pair_in_braces hash_value name_call constant_value super_value yield_value prim dot_part scope_part bracket post not_level power_level minus_level product_level sum_level shift_level comparison_level equal_level equality_level and_level or_level range_level ternary argument command_arguments command_part splat item more_items splat_list other_items one_value nested_value right_side jump_value jump command_level block_argument label_pair arrow_pair arguments_from arguments cargs more_pairs method_name not_expression expression alias_statement undef_statement simple modifier statement line statement_list
settled true r value updated l fresh = quiet_assignment true r value updated l begins_command (quiet_class (ternary true r) l begins_command refl) refl refl refl refl fresh
settled false r value updated l fresh = quiet_assignment false r value updated l begins_command (quiet_class (ternary false r) l begins_command refl) refl refl refl refl fresh

c_splat : (d r : Bool) → Checks table (splat d r)
unfolding table placed target star_target behind_target next_target more_targets starred_set several_set parameter_name bracketed_names more_parameters default_value no_default behind_name named_parameter bracketed_parameter rest_parameter block_parameter sign_parameter simple_parameters parameters block_parameters brace_parts do_parts body_behind def_name def_in_brackets def_plain def_value plain_call lambda_block empty_brackets full_brackets lambda_call called arrow_parameters plain_block arrow_value then_sign else_part branch otherwise if_value unless_value loop_body while_value until_value when_clause case_value class_header rescue_clause body_else body_ensure handlers begin_value module_body class_value module_value keyword_form newlines behind_newlines paren closed brace_block do_block block tail paren_tail keyword_value word_value integer_value text ivar_value gvar_value top_constant word_list embedded interpolated parenthesized array label_key pair_in_braces hash_value name_call constant_value super_value yield_value prim dot_part scope_part bracket post not_level power_level minus_level product_level sum_level shift_level comparison_level equal_level equality_level and_level or_level range_level ternary argument command_arguments command_part splat item more_items splat_list other_items one_value nested_value right_side jump_value jump command_level block_argument label_pair arrow_pair arguments_from arguments cargs more_pairs method_name not_expression expression alias_statement undef_statement simple modifier statement line statement_list
c_splat b r = (λ x. omega (arith, d.depth_splat x.1 (act.from_token x.0 x.1) (act.start x.0)), (refl, tt, tt))

c_item : (b r : Bool) → Checks table (item b r)
unfolding table placed target star_target behind_target next_target more_targets starred_set several_set parameter_name bracketed_names more_parameters default_value no_default behind_name named_parameter bracketed_parameter rest_parameter block_parameter sign_parameter simple_parameters parameters block_parameters brace_parts do_parts body_behind def_name def_in_brackets def_plain def_value plain_call lambda_block empty_brackets full_brackets lambda_call called arrow_parameters plain_block arrow_value then_sign else_part branch otherwise if_value unless_value loop_body while_value until_value when_clause case_value class_header rescue_clause body_else body_ensure handlers begin_value module_body class_value module_value keyword_form newlines behind_newlines paren closed brace_block do_block block tail paren_tail keyword_value word_value integer_value text ivar_value gvar_value top_constant word_list embedded interpolated parenthesized array label_key pair_in_braces hash_value name_call constant_value super_value yield_value prim dot_part scope_part bracket post not_level power_level minus_level product_level sum_level shift_level comparison_level equal_level equality_level and_level or_level range_level ternary argument command_arguments command_part splat item more_items splat_list other_items one_value nested_value right_side jump_value jump command_level block_argument label_pair arrow_pair arguments_from arguments cargs more_pairs method_name not_expression expression alias_statement undef_statement simple modifier statement line statement_list
c_item b r = (refl, refl, c_splat b r, tt)

c_more : (b r : Bool) → Checks table (more_items b r)
unfolding table placed target star_target behind_target next_target more_targets starred_set several_set parameter_name bracketed_names more_parameters default_value no_default behind_name named_parameter bracketed_parameter rest_parameter block_parameter sign_parameter simple_parameters parameters block_parameters brace_parts do_parts body_behind def_name def_in_brackets def_plain def_value plain_call lambda_block empty_brackets full_brackets lambda_call called arrow_parameters plain_block arrow_value then_sign else_part branch otherwise if_value unless_value loop_body while_value until_value when_clause case_value class_header rescue_clause body_else body_ensure handlers begin_value module_body class_value module_value keyword_form newlines behind_newlines paren closed brace_block do_block block tail paren_tail keyword_value word_value integer_value text ivar_value gvar_value top_constant word_list embedded interpolated parenthesized array label_key pair_in_braces hash_value name_call constant_value super_value yield_value prim dot_part scope_part bracket post not_level power_level minus_level product_level sum_level shift_level comparison_level equal_level equality_level and_level or_level range_level ternary argument command_arguments command_part splat item more_items splat_list other_items one_value nested_value right_side jump_value jump command_level block_argument label_pair arrow_pair arguments_from arguments cargs more_pairs method_name not_expression expression alias_statement undef_statement simple modifier statement line statement_list
c_more true r = (refl, refl, (λ x. omega arith, (refl, tt, c_item true r)))
c_more false r = (refl, refl, (λ x. omega arith, (refl, tt, c_item false r)))

c_splats : (b r : Bool) → Checks table (splat_list b r)
unfolding table placed target star_target behind_target next_target more_targets starred_set several_set parameter_name bracketed_names more_parameters default_value no_default behind_name named_parameter bracketed_parameter rest_parameter block_parameter sign_parameter simple_parameters parameters block_parameters brace_parts do_parts body_behind def_name def_in_brackets def_plain def_value plain_call lambda_block empty_brackets full_brackets lambda_call called arrow_parameters plain_block arrow_value then_sign else_part branch otherwise if_value unless_value loop_body while_value until_value when_clause case_value class_header rescue_clause body_else body_ensure handlers begin_value module_body class_value module_value keyword_form newlines behind_newlines paren closed brace_block do_block block tail paren_tail keyword_value word_value integer_value text ivar_value gvar_value top_constant word_list embedded interpolated parenthesized array label_key pair_in_braces hash_value name_call constant_value super_value yield_value prim dot_part scope_part bracket post not_level power_level minus_level product_level sum_level shift_level comparison_level equal_level equality_level and_level or_level range_level ternary argument command_arguments command_part splat item more_items splat_list other_items one_value nested_value right_side jump_value jump command_level block_argument label_pair arrow_pair arguments_from arguments cargs more_pairs method_name not_expression expression alias_statement undef_statement simple modifier statement line statement_list
c_splats true r = (λ x. omega (arith, array_deep x.0 x.1), (refl, c_splat true r, c_more true r))
c_splats false r = (λ x. omega (arith, array_deep x.0 x.1), (refl, c_splat false r, c_more false r))

c_others : (b r : Bool) → Checks table (other_items b r)
unfolding table placed target star_target behind_target next_target more_targets starred_set several_set parameter_name bracketed_names more_parameters default_value no_default behind_name named_parameter bracketed_parameter rest_parameter block_parameter sign_parameter simple_parameters parameters block_parameters brace_parts do_parts body_behind def_name def_in_brackets def_plain def_value plain_call lambda_block empty_brackets full_brackets lambda_call called arrow_parameters plain_block arrow_value then_sign else_part branch otherwise if_value unless_value loop_body while_value until_value when_clause case_value class_header rescue_clause body_else body_ensure handlers begin_value module_body class_value module_value keyword_form newlines behind_newlines paren closed brace_block do_block block tail paren_tail keyword_value word_value integer_value text ivar_value gvar_value top_constant word_list embedded interpolated parenthesized array label_key pair_in_braces hash_value name_call constant_value super_value yield_value prim dot_part scope_part bracket post not_level power_level minus_level product_level sum_level shift_level comparison_level equal_level equality_level and_level or_level range_level ternary argument command_arguments command_part splat item more_items splat_list other_items one_value nested_value right_side jump_value jump command_level block_argument label_pair arrow_pair arguments_from arguments cargs more_pairs method_name not_expression expression alias_statement undef_statement simple modifier statement line statement_list
c_others true r = (λ x. refl, (refl, (λ x. omega arith, (refl, tt, c_item true r)), c_more true r))
c_others false r = (λ x. refl, (refl, (λ x. omega arith, (refl, tt, c_item false r)), c_more false r))

pub c_one : (b r : Bool) → Checks table (one_value b r)
unfolding table placed target star_target behind_target next_target more_targets starred_set several_set parameter_name bracketed_names more_parameters default_value no_default behind_name named_parameter bracketed_parameter rest_parameter block_parameter sign_parameter simple_parameters parameters block_parameters brace_parts do_parts body_behind def_name def_in_brackets def_plain def_value plain_call lambda_block empty_brackets full_brackets lambda_call called arrow_parameters plain_block arrow_value then_sign else_part branch otherwise if_value unless_value loop_body while_value until_value when_clause case_value class_header rescue_clause body_else body_ensure handlers begin_value module_body class_value module_value keyword_form newlines behind_newlines paren closed brace_block do_block block tail paren_tail keyword_value word_value integer_value text ivar_value gvar_value top_constant word_list embedded interpolated parenthesized array label_key pair_in_braces hash_value name_call constant_value super_value yield_value prim dot_part scope_part bracket post not_level power_level minus_level product_level sum_level shift_level comparison_level equal_level equality_level and_level or_level range_level ternary argument command_arguments command_part splat item more_items splat_list other_items one_value nested_value right_side jump_value jump command_level block_argument label_pair arrow_pair arguments_from arguments cargs more_pairs method_name not_expression expression alias_statement undef_statement simple modifier statement line statement_list
c_one true r = c_commanding true r (assignment true r (named (part p.NestedValue true r)) (named (part p.OneValue true r))) (c_assignment true r (named (part p.NestedValue true r)) (named (part p.OneValue true r)) tt tt) refl (settled true r (named (part p.NestedValue true r)) (named (part p.OneValue true r)))
c_one false r = c_commanding false r (assignment false r (named (part p.NestedValue false r)) (named (part p.OneValue false r))) (c_assignment false r (named (part p.NestedValue false r)) (named (part p.OneValue false r)) tt tt) refl (settled false r (named (part p.NestedValue false r)) (named (part p.OneValue false r)))

pub c_nested : (b r : Bool) → Checks table (nested_value b r)
unfolding table placed target star_target behind_target next_target more_targets starred_set several_set parameter_name bracketed_names more_parameters default_value no_default behind_name named_parameter bracketed_parameter rest_parameter block_parameter sign_parameter simple_parameters parameters block_parameters brace_parts do_parts body_behind def_name def_in_brackets def_plain def_value plain_call lambda_block empty_brackets full_brackets lambda_call called arrow_parameters plain_block arrow_value then_sign else_part branch otherwise if_value unless_value loop_body while_value until_value when_clause case_value class_header rescue_clause body_else body_ensure handlers begin_value module_body class_value module_value keyword_form newlines behind_newlines paren closed brace_block do_block block tail paren_tail keyword_value word_value integer_value text ivar_value gvar_value top_constant word_list embedded interpolated parenthesized array label_key pair_in_braces hash_value name_call constant_value super_value yield_value prim dot_part scope_part bracket post not_level power_level minus_level product_level sum_level shift_level comparison_level equal_level equality_level and_level or_level range_level ternary argument command_arguments command_part splat item more_items splat_list other_items one_value nested_value right_side jump_value jump command_level block_argument label_pair arrow_pair arguments_from arguments cargs more_pairs method_name not_expression expression alias_statement undef_statement simple modifier statement line statement_list
c_nested true r = (refl, refl, (λ x. omega arith, c_splats true r), c_one true r)
c_nested false r = (refl, refl, (λ x. omega arith, c_splats false r), c_one false r)

-- behind a value that is no command no comma goes on
not_commanded : (n : ℕ) → value_goes_on n (mark_code mark.Comma) ≡ true → not (nat_eq n act.commanded) ≡ true → ⊥
not_commanded n h k = by (nat_eq n act.commanded) h k
  where
    by : (c : Bool) → (c || false) ≡ true → not c ≡ true → ⊥
    by true h k = true≢false (sym k)
    by false h k = true≢false (sym h)

not_ended : (n : ℕ) → not (nat_eq (act.ended n) act.commanded) ≡ true → not (nat_eq n act.commanded) ≡ true
not_ended n h = by (nat_eq n act.commanded) h
  where
    by : (c : Bool) → not (nat_eq (if c then act.commanded else act.other) act.commanded) ≡ true → not c ≡ true
    by true h = absurd (true≢false (sym h))
    by false h = refl

is_comma : (t : ℕ) → op mark.Comma t ≡ true → t ≡ mark_code mark.Comma
is_comma t h = search (arith, h)

by_command : (l : Node × ℕ) (m : Node × ℕ) {n : Node} → l ≡ (n, act.commanded) → not (nat_eq l.1 act.commanded) ≡ true → ⊥
by_command l m e k = true≢false (sym (subst (λ z. not (nat_eq z.1 act.commanded) ≡ true) e k))

-- the last value in an assignment goes on as the assignment does
ends_quiet : (l : Node × ℕ) (n : Node) (m t : ℕ) (c : Bool) → l ≡ (n, act.ended m) → not (nat_eq l.1 act.commanded) ≡ true → (c && value_goes_on m t) ≡ true → op mark.Comma t ≡ true → ⊥
ends_quiet l n m t c e k g j =
    not_commanded m (subst (λ z. value_goes_on m z ≡ true) (is_comma t j) ((and_split c _ g).1)) (not_ended m (subst (λ z. not (nat_eq z.1 act.commanded) ≡ true) e k))

last_set : (d r : Bool) (l m : Node × ℕ) (y : Held (Node × ℕ)) (t : ℕ) → l ≡ act.assigned m y → GoesOn table (set_part d r (named (part p.NestedValue d r))) y t → op mark.Comma t ≡ true → not (nat_eq l.1 act.commanded) ≡ true → ⊥
unfolding table
last_set d r l m y t e (x, e2, (z, e3, inl g)) j k = ends_quiet l _ (y.value.1) t _ e k (subst (λ w. (behind p.NestedValue d t && value_goes_on w.1 t) ≡ true) (sym (ap (λ w. w.value) e2 ∙ e3)) g) j
last_set d r l m y t e (x, e2, (z, e3, inr g)) j k = true≢false (sym g.0)

last_attribute : (d r : Bool) (l m : Node × ℕ) (y : Held (Seen × (Node × ℕ))) (t : ℕ) → l ≡ act.attribute_updated m y → GoesOn table (update_part d r (named (part p.OneValue d r))) y t → op mark.Comma t ≡ true → not (nat_eq l.1 act.commanded) ≡ true → ⊥
unfolding table
last_attribute d r l m y t e (x, e2, inl g) j k = ends_quiet l _ (y.value.1.1) t _ e k (subst (λ w. (behind p.OneValue d t && value_goes_on (w.1.1) t) ≡ true) (sym (ap (λ w. w.value) e2)) g) j
last_attribute d r l m y t e (x, e2, inr g) j k = true≢false (sym g.0)

last_operator : (d r : Bool) (l m : Node × ℕ) (y : Seen × (Node × ℕ)) (t : ℕ) → l ≡ act.operator_updated m y → GoesOn table (call_part d r (named (part p.OneValue d r))) y t → op mark.Comma t ≡ true → not (nat_eq l.1 act.commanded) ≡ true → ⊥
unfolding table
last_operator d r l m y t e (inl g) j k = ends_quiet l _ (y.1.1) t _ e k g j
last_operator d r l m y t e (inr g) j k = true≢false (sym g.0)

last_variable : (d r : Bool) (l m : Node × ℕ) (y : Held (Held (Seen × (Node × ℕ)))) (t : ℕ) → l ≡ act.variable_updated m y → GoesOn table (two_nodes d r (named (part p.OneValue d r))) y t → op mark.Comma t ≡ true → not (nat_eq l.1 act.commanded) ≡ true → ⊥
unfolding table
last_variable d r l m y t e (z, e3, (x, e2, inl g)) j k = ends_quiet l _ (y.value.value.1.1) t _ e k (subst (λ w. (behind p.OneValue d t && value_goes_on (w.1.1) t) ≡ true) (sym (ap (λ w. w.value) (ap (λ w. w.value) e3 ∙ e2))) g) j
last_variable d r l m y t e (z, e3, (x, e2, inr g)) j k = true≢false (sym g.0)

pub quiet_comma : (d r : Bool) (l : Node × ℕ) → not (nat_eq l.1 act.commanded) ≡ true → Quiet (one_value d r) l (op mark.Comma)
unfolding table placed target star_target behind_target next_target more_targets starred_set several_set parameter_name bracketed_names more_parameters default_value no_default behind_name named_parameter bracketed_parameter rest_parameter block_parameter sign_parameter simple_parameters parameters block_parameters brace_parts do_parts body_behind def_name def_in_brackets def_plain def_value plain_call lambda_block empty_brackets full_brackets lambda_call called arrow_parameters plain_block arrow_value then_sign else_part branch otherwise if_value unless_value loop_body while_value until_value when_clause case_value class_header rescue_clause body_else body_ensure handlers begin_value module_body class_value module_value keyword_form newlines behind_newlines paren closed brace_block do_block block tail paren_tail keyword_value word_value integer_value text ivar_value gvar_value top_constant word_list embedded interpolated parenthesized array label_key pair_in_braces hash_value name_call constant_value super_value yield_value prim dot_part scope_part bracket post not_level power_level minus_level product_level sum_level shift_level comparison_level equal_level equality_level and_level or_level range_level ternary argument command_arguments command_part splat item more_items splat_list other_items one_value nested_value right_side jump_value jump command_level block_argument label_pair arrow_pair arguments_from arguments cargs more_pairs method_name not_expression expression alias_statement undef_statement simple modifier statement line statement_list Quiet
quiet_comma true r l k = quiet_suffix 0 (commands true r (assignment true r (named (part p.NestedValue true r)) (named (part p.OneValue true r)))) act.yields (node {s = marked args_sort} {r = under (marked args_sort)} (λ x. record { value = x }) (command_arguments true r false)) act.yield_command l (op mark.Comma)
    (quiet_suffix 0 (assignment true r (named (part p.NestedValue true r)) (named (part p.OneValue true r))) (λ l. is_some (act.callee l)) (node {s = pair (marked args_sort) (optional tree)} {r = under (pair (marked args_sort) (optional tree))} (λ x. record { value = x }) (command_part true r)) act.command_node l (op mark.Comma)
    (quiet_suffix 0 (updates_variable true r (named (part p.NestedValue true r)) (named (part p.OneValue true r))) act.sets_attribute (update_part true r (named (part p.OneValue true r))) act.attribute_updated l (op mark.Comma)
    (quiet_suffix 0 (calls_operator true r (named (part p.NestedValue true r)) (named (part p.OneValue true r))) act.sets_variable (two_nodes true r (named (part p.OneValue true r))) act.variable_updated l (op mark.Comma)
    (quiet_suffix 2 (sets true r (named (part p.NestedValue true r)) (named (part p.OneValue true r))) act.sets_variable (call_part true r (named (part p.OneValue true r))) act.operator_updated l (op mark.Comma)
    (quiet_suffix 0 (ternary true r) act.is_place (set_part true r (named (part p.NestedValue true r))) act.assigned l (op mark.Comma)
    (quiet_class (ternary true r) l (op mark.Comma) refl)
    (λ t less x y z. no_class (op mark.Assign) (op mark.Comma) refl t less y z)
    (λ m y t less e g j. last_set true r l m y t e g j k))
    (λ t less x y z. no_class calling (op mark.Comma) refl t less y z)
    (λ m y t less e g j. last_operator true r l m y t e g j k))
    (λ t less x y z. no_class guarding (op mark.Comma) refl t less y z)
    (λ m y t less e g j. last_variable true r l m y t e g j k))
    (λ t less x y z. no_class updates (op mark.Comma) refl t less y z)
    (λ m y t less e g j. last_attribute true r l m y t e g j k))
    (λ t less x y z. no_class (first table (command_part true r)) (op mark.Comma) refl t less y z)
    (λ m y t less e g j. by_command l m e k))
    (λ t less x y z. no_class (first table (command_arguments true r false)) (op mark.Comma) refl t less y z)
    (λ m y t less e g j. by_command l m e k)
quiet_comma false r l k = quiet_suffix 0 (commands false r (assignment false r (named (part p.NestedValue false r)) (named (part p.OneValue false r)))) act.yields (node {s = marked args_sort} {r = under (marked args_sort)} (λ x. record { value = x }) (command_arguments false r false)) act.yield_command l (op mark.Comma)
    (quiet_suffix 0 (assignment false r (named (part p.NestedValue false r)) (named (part p.OneValue false r))) (λ l. is_some (act.callee l)) (node {s = pair (marked args_sort) (optional tree)} {r = under (pair (marked args_sort) (optional tree))} (λ x. record { value = x }) (command_part false r)) act.command_node l (op mark.Comma)
    (quiet_suffix 0 (updates_variable false r (named (part p.NestedValue false r)) (named (part p.OneValue false r))) act.sets_attribute (update_part false r (named (part p.OneValue false r))) act.attribute_updated l (op mark.Comma)
    (quiet_suffix 0 (calls_operator false r (named (part p.NestedValue false r)) (named (part p.OneValue false r))) act.sets_variable (two_nodes false r (named (part p.OneValue false r))) act.variable_updated l (op mark.Comma)
    (quiet_suffix 2 (sets false r (named (part p.NestedValue false r)) (named (part p.OneValue false r))) act.sets_variable (call_part false r (named (part p.OneValue false r))) act.operator_updated l (op mark.Comma)
    (quiet_suffix 0 (ternary false r) act.is_place (set_part false r (named (part p.NestedValue false r))) act.assigned l (op mark.Comma)
    (quiet_class (ternary false r) l (op mark.Comma) refl)
    (λ t less x y z. no_class (op mark.Assign) (op mark.Comma) refl t less y z)
    (λ m y t less e g j. last_set false r l m y t e g j k))
    (λ t less x y z. no_class calling (op mark.Comma) refl t less y z)
    (λ m y t less e g j. last_operator false r l m y t e g j k))
    (λ t less x y z. no_class guarding (op mark.Comma) refl t less y z)
    (λ m y t less e g j. last_variable false r l m y t e g j k))
    (λ t less x y z. no_class updates (op mark.Comma) refl t less y z)
    (λ m y t less e g j. last_attribute false r l m y t e g j k))
    (λ t less x y z. no_class (first table (command_part false r)) (op mark.Comma) refl t less y z)
    (λ m y t less e g j. by_command l m e k))
    (λ t less x y z. no_class (first table (command_arguments false r false)) (op mark.Comma) refl t less y z)
    (λ m y t less e g j. by_command l m e k)

pub c_right : (b r : Bool) → Checks table (right_side b r)
unfolding table placed target star_target behind_target next_target more_targets starred_set several_set parameter_name bracketed_names more_parameters default_value no_default behind_name named_parameter bracketed_parameter rest_parameter block_parameter sign_parameter simple_parameters parameters block_parameters brace_parts do_parts body_behind def_name def_in_brackets def_plain def_value plain_call lambda_block empty_brackets full_brackets lambda_call called arrow_parameters plain_block arrow_value then_sign else_part branch otherwise if_value unless_value loop_body while_value until_value when_clause case_value class_header rescue_clause body_else body_ensure handlers begin_value module_body class_value module_value keyword_form newlines behind_newlines paren closed brace_block do_block block tail paren_tail keyword_value word_value integer_value text ivar_value gvar_value top_constant word_list embedded interpolated parenthesized array label_key pair_in_braces hash_value name_call constant_value super_value yield_value prim dot_part scope_part bracket post not_level power_level minus_level product_level sum_level shift_level comparison_level equal_level equality_level and_level or_level range_level ternary argument command_arguments command_part splat item more_items splat_list other_items one_value nested_value right_side jump_value jump command_level block_argument label_pair arrow_pair arguments_from arguments cargs more_pairs method_name not_expression expression alias_statement undef_statement simple modifier statement line statement_list Quiet
c_right true r = (refl, refl, (λ x. omega arith, c_splats true r), (inr (λ l t less k g h. quiet_comma true r l k t less g h), refl, refl, λ l x k. omega (arith, array_deep l.0 x), c_one true r, c_others true r))
c_right false r = (refl, refl, (λ x. omega arith, c_splats false r), (inr (λ l t less k g h. quiet_comma false r l k t less g h), refl, refl, λ l x k. omega (arith, array_deep l.0 x), c_one false r, c_others false r))

c_jump_value : (b r : Bool) → Checks table (jump_value b r)
unfolding table placed target star_target behind_target next_target more_targets starred_set several_set parameter_name bracketed_names more_parameters default_value no_default behind_name named_parameter bracketed_parameter rest_parameter block_parameter sign_parameter simple_parameters parameters block_parameters brace_parts do_parts body_behind def_name def_in_brackets def_plain def_value plain_call lambda_block empty_brackets full_brackets lambda_call called arrow_parameters plain_block arrow_value then_sign else_part branch otherwise if_value unless_value loop_body while_value until_value when_clause case_value class_header rescue_clause body_else body_ensure handlers begin_value module_body class_value module_value keyword_form newlines behind_newlines paren closed brace_block do_block block tail paren_tail keyword_value word_value integer_value text ivar_value gvar_value top_constant word_list embedded interpolated parenthesized array label_key pair_in_braces hash_value name_call constant_value super_value yield_value prim dot_part scope_part bracket post not_level power_level minus_level product_level sum_level shift_level comparison_level equal_level equality_level and_level or_level range_level ternary argument command_arguments command_part splat item more_items splat_list other_items one_value nested_value right_side jump_value jump command_level block_argument label_pair arrow_pair arguments_from arguments cargs more_pairs method_name not_expression expression alias_statement undef_statement simple modifier statement line statement_list
c_jump_value true r = (refl, refl, (λ x. omega arith, c_splats true r), (inl refl, refl, refl, λ l x k. omega (arith, array_deep l.0 x), (λ x. omega arith, tt), c_others true r))
c_jump_value false r = (refl, refl, (λ x. omega arith, c_splats false r), (inl refl, refl, refl, λ l x k. omega (arith, array_deep l.0 x), (λ x. omega arith, tt), c_others false r))

c_jump : (b r : Bool) → Checks table (jump b r)
unfolding table placed target star_target behind_target next_target more_targets starred_set several_set parameter_name bracketed_names more_parameters default_value no_default behind_name named_parameter bracketed_parameter rest_parameter block_parameter sign_parameter simple_parameters parameters block_parameters brace_parts do_parts body_behind def_name def_in_brackets def_plain def_value plain_call lambda_block empty_brackets full_brackets lambda_call called arrow_parameters plain_block arrow_value then_sign else_part branch otherwise if_value unless_value loop_body while_value until_value when_clause case_value class_header rescue_clause body_else body_ensure handlers begin_value module_body class_value module_value keyword_form newlines behind_newlines paren closed brace_block do_block block tail paren_tail keyword_value word_value integer_value text ivar_value gvar_value top_constant word_list embedded interpolated parenthesized array label_key pair_in_braces hash_value name_call constant_value super_value yield_value prim dot_part scope_part bracket post not_level power_level minus_level product_level sum_level shift_level comparison_level equal_level equality_level and_level or_level range_level ternary argument command_arguments command_part splat item more_items splat_list other_items one_value nested_value right_side jump_value jump command_level block_argument label_pair arrow_pair arguments_from arguments cargs more_pairs method_name not_expression expression alias_statement undef_statement simple modifier statement line statement_list
c_jump true r = (λ x. omega (arith, jump_deep x.0 x.1), (refl, tt, (refl, refl, (refl, c_jump_value true r), tt)))
c_jump false r = (λ x. omega (arith, jump_deep x.0 x.1), (refl, tt, (refl, refl, (refl, c_jump_value false r), tt)))

c_command : (b r : Bool) → Checks table (command_level b r)
unfolding table placed target star_target behind_target next_target more_targets starred_set several_set parameter_name bracketed_names more_parameters default_value no_default behind_name named_parameter bracketed_parameter rest_parameter block_parameter sign_parameter simple_parameters parameters block_parameters brace_parts do_parts body_behind def_name def_in_brackets def_plain def_value plain_call lambda_block empty_brackets full_brackets lambda_call called arrow_parameters plain_block arrow_value then_sign else_part branch otherwise if_value unless_value loop_body while_value until_value when_clause case_value class_header rescue_clause body_else body_ensure handlers begin_value module_body class_value module_value keyword_form newlines behind_newlines paren closed brace_block do_block block tail paren_tail keyword_value word_value integer_value text ivar_value gvar_value top_constant word_list embedded interpolated parenthesized array label_key pair_in_braces hash_value name_call constant_value super_value yield_value prim dot_part scope_part bracket post not_level power_level minus_level product_level sum_level shift_level comparison_level equal_level equality_level and_level or_level range_level ternary argument command_arguments command_part splat item more_items splat_list other_items one_value nested_value right_side jump_value jump command_level block_argument label_pair arrow_pair arguments_from arguments cargs more_pairs method_name not_expression expression alias_statement undef_statement simple modifier statement line statement_list
c_command true r = (refl, refl, c_jump false r, c_commanding true r (assignment true r (plain (named (part p.RightSide true r))) (named (part p.OneValue true r))) (c_assignment true r (plain (named (part p.RightSide true r))) (named (part p.OneValue true r)) (λ x. omega arith, tt) tt) refl (settled true r (plain (named (part p.RightSide true r))) (named (part p.OneValue true r))))
c_command false r = (refl, refl, c_jump false r, c_commanding false r (assignment false r (plain (named (part p.RightSide false r))) (named (part p.OneValue false r))) (c_assignment false r (plain (named (part p.RightSide false r))) (named (part p.OneValue false r)) (λ x. omega arith, tt) tt) refl (settled false r (plain (named (part p.RightSide false r))) (named (part p.OneValue false r))))

c_block_argument : (b r : Bool) → Checks table (block_argument b r)
unfolding table placed target star_target behind_target next_target more_targets starred_set several_set parameter_name bracketed_names more_parameters default_value no_default behind_name named_parameter bracketed_parameter rest_parameter block_parameter sign_parameter simple_parameters parameters block_parameters brace_parts do_parts body_behind def_name def_in_brackets def_plain def_value plain_call lambda_block empty_brackets full_brackets lambda_call called arrow_parameters plain_block arrow_value then_sign else_part branch otherwise if_value unless_value loop_body while_value until_value when_clause case_value class_header rescue_clause body_else body_ensure handlers begin_value module_body class_value module_value keyword_form newlines behind_newlines paren closed brace_block do_block block tail paren_tail keyword_value word_value integer_value text ivar_value gvar_value top_constant word_list embedded interpolated parenthesized array label_key pair_in_braces hash_value name_call constant_value super_value yield_value prim dot_part scope_part bracket post not_level power_level minus_level product_level sum_level shift_level comparison_level equal_level equality_level and_level or_level range_level ternary argument command_arguments command_part splat item more_items splat_list other_items one_value nested_value right_side jump_value jump command_level block_argument label_pair arrow_pair arguments_from arguments cargs more_pairs method_name not_expression expression alias_statement undef_statement simple modifier statement line statement_list
c_block_argument b r = (λ x. omega arith, (λ x. omega (arith, d.depth_block_pass x.1 (act.from_token x.0 x.1) (act.start x.0)), (refl, tt, tt)))

c_label : (b r : Bool) → Checks table (label_pair b r)
unfolding table placed target star_target behind_target next_target more_targets starred_set several_set parameter_name bracketed_names more_parameters default_value no_default behind_name named_parameter bracketed_parameter rest_parameter block_parameter sign_parameter simple_parameters parameters block_parameters brace_parts do_parts body_behind def_name def_in_brackets def_plain def_value plain_call lambda_block empty_brackets full_brackets lambda_call called arrow_parameters plain_block arrow_value then_sign else_part branch otherwise if_value unless_value loop_body while_value until_value when_clause case_value class_header rescue_clause body_else body_ensure handlers begin_value module_body class_value module_value keyword_form newlines behind_newlines paren closed brace_block do_block block tail paren_tail keyword_value word_value integer_value text ivar_value gvar_value top_constant word_list embedded interpolated parenthesized array label_key pair_in_braces hash_value name_call constant_value super_value yield_value prim dot_part scope_part bracket post not_level power_level minus_level product_level sum_level shift_level comparison_level equal_level equality_level and_level or_level range_level ternary argument command_arguments command_part splat item more_items splat_list other_items one_value nested_value right_side jump_value jump command_level block_argument label_pair arrow_pair arguments_from arguments cargs more_pairs method_name not_expression expression alias_statement undef_statement simple modifier statement line statement_list
c_label b r = (λ x. omega arith, (λ x. omega arith, (refl, c_key, tt)))

c_arrow : (b r : Bool) → Checks table (arrow_pair b r)
unfolding table placed target star_target behind_target next_target more_targets starred_set several_set parameter_name bracketed_names more_parameters default_value no_default behind_name named_parameter bracketed_parameter rest_parameter block_parameter sign_parameter simple_parameters parameters block_parameters brace_parts do_parts body_behind def_name def_in_brackets def_plain def_value plain_call lambda_block empty_brackets full_brackets lambda_call called arrow_parameters plain_block arrow_value then_sign else_part branch otherwise if_value unless_value loop_body while_value until_value when_clause case_value class_header rescue_clause body_else body_ensure handlers begin_value module_body class_value module_value keyword_form newlines behind_newlines paren closed brace_block do_block block tail paren_tail keyword_value word_value integer_value text ivar_value gvar_value top_constant word_list embedded interpolated parenthesized array label_key pair_in_braces hash_value name_call constant_value super_value yield_value prim dot_part scope_part bracket post not_level power_level minus_level product_level sum_level shift_level comparison_level equal_level equality_level and_level or_level range_level ternary argument command_arguments command_part splat item more_items splat_list other_items one_value nested_value right_side jump_value jump command_level block_argument label_pair arrow_pair arguments_from arguments cargs more_pairs method_name not_expression expression alias_statement undef_statement simple modifier statement line statement_list
c_arrow true r = (λ x. omega arith, (λ x. omega arith, (refl, tt, (λ x. omega arith, (refl, tt, tt)))))
c_arrow false r = (λ x. omega arith, (λ x. omega arith, (refl, tt, (λ x. omega arith, (refl, tt, tt)))))

single_of : (x : Args × ℕ) → act.takes_more x ≡ true → act.is_single x.0 ≡ true
single_of x h = (and_split (nat_eq x.1 act.argued) _ h).1

pair_of : (x : Args × ℕ) → act.takes_pairs x ≡ true → act.has_pair x.0 ≡ true
pair_of x h = (and_split (nat_eq x.1 act.keyed) _ h).1

finished_deep : (l : Args × ℕ) (x : Args) → l.0.1.1 ≡ None → args_depth (act.with_more l.0 x) ≡ max (args_depth l.0) (args_depth x)
finished_deep l x e = more_deep l.0 x e

one_of : (x : Args × ℕ) → act.takes_more x ≡ true → act.takes_pairs x ≡ true → ⊥
one_of x h k = numbers x.1 ((and_split (nat_eq x.1 act.argued) _ h).0) ((and_split (nat_eq x.1 act.keyed) _ k).0)
  where
    numbers : (n : ℕ) → nat_eq n act.argued ≡ true → nat_eq n act.keyed ≡ true → ⊥
    numbers n h k = search (arith, h, k)

whole_not : (l : Args × ℕ) (x : Args) → l ≡ (x, act.whole) → act.takes_pairs l ≡ true → ⊥
whole_not l x e h = true≢false (sym (subst (λ z. act.takes_pairs z ≡ true) e h))

quiet_choice : {s : Sort} (q p : R s) (l : El Seen Node s) (c : ℕ → Bool) → nullable table p ≡ false → Quiet q l c → Quiet p l c → Quiet (choice q p) l c
unfolding Quiet
quiet_choice q p l c e h g t less (inl x) j = h t less x j
quiet_choice q p l c e h g t less (inr (inl x)) j = g t less x j
quiet_choice q p l c e h g t less (inr (inr x)) j = true≢false (sym (x.0) ∙ e)

-- behind the value no pair's sign and no comma goes on, but where it is a command
abbrev OfArguments : R (marked tree) → Type 0
OfArguments value = (x : Node × ℕ) → not (nat_eq x.1 act.commanded) ≡ true → (c : ℕ → Bool) → (c ≡ op mark.FatArrow) ⊎ (c ≡ op mark.Comma) → Quiet value x c

abbrev first_value : R (marked tree) → R (marked args_sort)
first_value value = view {s = marked tree} act.first_argument value

first_number : (n : ℕ) → nat_eq (if nat_eq n act.commanded then act.whole else act.argued) act.argued ≡ true → not (nat_eq n act.commanded) ≡ true
first_number n h = by (nat_eq n act.commanded) h
  where
    by : (c : Bool) → nat_eq (if c then act.whole else act.argued) act.argued ≡ true → not c ≡ true
    by true h = absurd (true≢false (sym h))
    by false h = refl

first_keyed : (n : ℕ) → nat_eq (if nat_eq n act.commanded then act.whole else act.argued) act.keyed ≡ true → ⊥
first_keyed n h = by (nat_eq n act.commanded) h
  where
    by : (c : Bool) → nat_eq (if c then act.whole else act.argued) act.keyed ≡ true → ⊥
    by true h = true≢false (sym h)
    by false h = true≢false (sym h)

quiet_first : (value : R (marked tree)) → OfArguments value → (l : Args × ℕ) → act.takes_more l ≡ true → (c : ℕ → Bool) → (c ≡ op mark.FatArrow) ⊎ (c ≡ op mark.Comma) → Quiet (first_value value) l c
unfolding Quiet
quiet_first value q l k c e t less (x, e2, g) j =
    q x (first_number x.1 (subst (λ z. nat_eq z.1 act.argued ≡ true) e2 ((and_split (nat_eq l.1 act.argued) _ k).0))) c e t less g j

quiet_keyed : (value : R (marked tree)) (l : Args × ℕ) → act.takes_pairs l ≡ true → (c : ℕ → Bool) → Quiet (first_value value) l c
unfolding Quiet
quiet_keyed value l k c t less (x, e2, g) j = first_keyed x.1 (subst (λ z. nat_eq z.1 act.keyed ≡ true) e2 ((and_split (nat_eq l.1 act.keyed) _ k).0))

-- what begins arguments: "*", a label, a key or the value
module _ (d r : Bool) (value : R (marked tree)) where
  abbrev key_or_value : R (marked args_sort)
  key_or_value = suffix 1 (first_value value) act.takes_more (behind_token (op mark.FatArrow) (named (part p.Argument d r))) (λ l v. (act.key_first l.0 v, act.keyed))

  abbrev splat_first : R (marked args_sort)
  splat_first = view {s = tree} (λ n. (act.single n, act.argued)) (splat d r)

  abbrev label_first : R (marked args_sort)
  label_first = view {s = args_sort} (λ x. (x, act.keyed)) (label_pair d r)

  abbrev first_ones : R (marked args_sort)
  first_ones = choice splat_first (choice label_first key_or_value)

  abbrev with_arguments : Bool → R (marked args_sort)
  with_arguments blocks = suffix 0 first_ones act.takes_more (behind_token (op mark.Comma) (after_comma d (named (part (p.Arguments blocks) d r)))) (finished d r)

quiet_key : (d r : Bool) (value : R (marked tree)) (l : Args × ℕ) → Quiet (first_value value) l (op mark.Comma) → nullable table value ≡ false → Quiet (first_ones d r value) l (op mark.Comma)
unfolding table placed target star_target behind_target next_target more_targets starred_set several_set parameter_name bracketed_names more_parameters default_value no_default behind_name named_parameter bracketed_parameter rest_parameter block_parameter sign_parameter simple_parameters parameters block_parameters brace_parts do_parts body_behind def_name def_in_brackets def_plain def_value plain_call lambda_block empty_brackets full_brackets lambda_call called arrow_parameters plain_block arrow_value then_sign else_part branch otherwise if_value unless_value loop_body while_value until_value when_clause case_value class_header rescue_clause body_else body_ensure handlers begin_value module_body class_value module_value keyword_form newlines behind_newlines paren closed brace_block do_block block tail paren_tail keyword_value word_value integer_value text ivar_value gvar_value top_constant word_list embedded interpolated parenthesized array label_key pair_in_braces hash_value name_call constant_value super_value yield_value prim dot_part scope_part bracket post not_level power_level minus_level product_level sum_level shift_level comparison_level equal_level equality_level and_level or_level range_level ternary argument command_arguments command_part splat item more_items splat_list other_items one_value nested_value right_side jump_value jump command_level block_argument label_pair arrow_pair arguments_from arguments cargs more_pairs method_name not_expression expression alias_statement undef_statement simple modifier statement line statement_list Quiet
quiet_key true r value l q e = quiet_choice (splat_first true r value) (choice (label_first true r value) (key_or_value true r value)) l (op mark.Comma) refl
    (quiet_class (splat_first true r value) l (op mark.Comma) refl)
    (quiet_choice (label_first true r value) (key_or_value true r value) l (op mark.Comma) refl
    (quiet_class (label_first true r value) l (op mark.Comma) refl)
    (quiet_suffix 1 (first_value value) act.takes_more (behind_token (op mark.FatArrow) (named (part p.Argument true r))) (λ l v. (act.key_first l.0 v, act.keyed)) l (op mark.Comma) q
    (λ t less x y z. no_class (op mark.FatArrow) (op mark.Comma) refl t less y z)
    (λ m y t less e g j. no_class (continues table (behind_token (op mark.FatArrow) (named (part p.Argument true r)))) (op mark.Comma) refl t less (continues_of table bounded (behind_token (op mark.FatArrow) (named (part p.Argument true r))) y t g) j)))
quiet_key false r value l q e = quiet_choice (splat_first false r value) (choice (label_first false r value) (key_or_value false r value)) l (op mark.Comma) refl
    (quiet_class (splat_first false r value) l (op mark.Comma) refl)
    (quiet_choice (label_first false r value) (key_or_value false r value) l (op mark.Comma) refl
    (quiet_class (label_first false r value) l (op mark.Comma) refl)
    (quiet_suffix 1 (first_value value) act.takes_more (behind_token (op mark.FatArrow) (named (part p.Argument false r))) (λ l v. (act.key_first l.0 v, act.keyed)) l (op mark.Comma) q
    (λ t less x y z. no_class (op mark.FatArrow) (op mark.Comma) refl t less y z)
    (λ m y t less e g j. no_class (continues table (behind_token (op mark.FatArrow) (named (part p.Argument false r)))) (op mark.Comma) refl t less (continues_of table bounded (behind_token (op mark.FatArrow) (named (part p.Argument false r))) y t g) j)))

quiet_argument : (d r : Bool) → OfArguments (argument d r)
unfolding table placed target star_target behind_target next_target more_targets starred_set several_set parameter_name bracketed_names more_parameters default_value no_default behind_name named_parameter bracketed_parameter rest_parameter block_parameter sign_parameter simple_parameters parameters block_parameters brace_parts do_parts body_behind def_name def_in_brackets def_plain def_value plain_call lambda_block empty_brackets full_brackets lambda_call called arrow_parameters plain_block arrow_value then_sign else_part branch otherwise if_value unless_value loop_body while_value until_value when_clause case_value class_header rescue_clause body_else body_ensure handlers begin_value module_body class_value module_value keyword_form newlines behind_newlines paren closed brace_block do_block block tail paren_tail keyword_value word_value integer_value text ivar_value gvar_value top_constant word_list embedded interpolated parenthesized array label_key pair_in_braces hash_value name_call constant_value super_value yield_value prim dot_part scope_part bracket post not_level power_level minus_level product_level sum_level shift_level comparison_level equal_level equality_level and_level or_level range_level ternary argument command_arguments command_part splat item more_items splat_list other_items one_value nested_value right_side jump_value jump command_level block_argument label_pair arrow_pair arguments_from arguments cargs more_pairs method_name not_expression expression alias_statement undef_statement simple modifier statement line statement_list Quiet
quiet_argument true r x k c (inl e) = subst (λ z. Quiet (argument true r) x z) (sym e) (quiet_class (argument true r) x (op mark.FatArrow) refl)
quiet_argument true r x k c (inr e) = subst (λ z. Quiet (argument true r) x z) (sym e) (quiet_class (argument true r) x (op mark.Comma) refl)
quiet_argument false r x k c (inl e) = subst (λ z. Quiet (argument false r) x z) (sym e) (quiet_class (argument false r) x (op mark.FatArrow) refl)
quiet_argument false r x k c (inr e) = subst (λ z. Quiet (argument false r) x z) (sym e) (quiet_class (argument false r) x (op mark.Comma) refl)

quiet_commanding : (d r : Bool) → OfArguments (commanding d r (argument d r))
unfolding table placed target star_target behind_target next_target more_targets starred_set several_set parameter_name bracketed_names more_parameters default_value no_default behind_name named_parameter bracketed_parameter rest_parameter block_parameter sign_parameter simple_parameters parameters block_parameters brace_parts do_parts body_behind def_name def_in_brackets def_plain def_value plain_call lambda_block empty_brackets full_brackets lambda_call called arrow_parameters plain_block arrow_value then_sign else_part branch otherwise if_value unless_value loop_body while_value until_value when_clause case_value class_header rescue_clause body_else body_ensure handlers begin_value module_body class_value module_value keyword_form newlines behind_newlines paren closed brace_block do_block block tail paren_tail keyword_value word_value integer_value text ivar_value gvar_value top_constant word_list embedded interpolated parenthesized array label_key pair_in_braces hash_value name_call constant_value super_value yield_value prim dot_part scope_part bracket post not_level power_level minus_level product_level sum_level shift_level comparison_level equal_level equality_level and_level or_level range_level ternary argument command_arguments command_part splat item more_items splat_list other_items one_value nested_value right_side jump_value jump command_level block_argument label_pair arrow_pair arguments_from arguments cargs more_pairs method_name not_expression expression alias_statement undef_statement simple modifier statement line statement_list Quiet
quiet_commanding true r l k c (inl e) = subst (λ z. Quiet (commanding true r (argument true r)) l z) (sym e)
    (quiet_suffix 0 (commands true r (argument true r)) act.yields (node {s = marked args_sort} {r = under (marked args_sort)} (λ x. record { value = x }) (command_arguments true r false)) act.yield_command l (op mark.FatArrow)
    (quiet_suffix 0 (argument true r) (λ l. is_some (act.callee l)) (node {s = pair (marked args_sort) (optional tree)} {r = under (pair (marked args_sort) (optional tree))} (λ x. record { value = x }) (command_part true r)) act.command_node l (op mark.FatArrow)
    (quiet_class (argument true r) l (op mark.FatArrow) refl)
    (λ t less x y z. no_class (first table (command_part true r)) (op mark.FatArrow) refl t less y z)
    (λ m y t less e g j. by_command l m e k))
    (λ t less x y z. no_class (first table (command_arguments true r false)) (op mark.FatArrow) refl t less y z)
    (λ m y t less e g j. by_command l m e k))
quiet_commanding true r l k c (inr e) = subst (λ z. Quiet (commanding true r (argument true r)) l z) (sym e)
    (quiet_suffix 0 (commands true r (argument true r)) act.yields (node {s = marked args_sort} {r = under (marked args_sort)} (λ x. record { value = x }) (command_arguments true r false)) act.yield_command l (op mark.Comma)
    (quiet_suffix 0 (argument true r) (λ l. is_some (act.callee l)) (node {s = pair (marked args_sort) (optional tree)} {r = under (pair (marked args_sort) (optional tree))} (λ x. record { value = x }) (command_part true r)) act.command_node l (op mark.Comma)
    (quiet_class (argument true r) l (op mark.Comma) refl)
    (λ t less x y z. no_class (first table (command_part true r)) (op mark.Comma) refl t less y z)
    (λ m y t less e g j. by_command l m e k))
    (λ t less x y z. no_class (first table (command_arguments true r false)) (op mark.Comma) refl t less y z)
    (λ m y t less e g j. by_command l m e k))
quiet_commanding false r l k c (inl e) = subst (λ z. Quiet (commanding false r (argument false r)) l z) (sym e)
    (quiet_suffix 0 (commands false r (argument false r)) act.yields (node {s = marked args_sort} {r = under (marked args_sort)} (λ x. record { value = x }) (command_arguments false r false)) act.yield_command l (op mark.FatArrow)
    (quiet_suffix 0 (argument false r) (λ l. is_some (act.callee l)) (node {s = pair (marked args_sort) (optional tree)} {r = under (pair (marked args_sort) (optional tree))} (λ x. record { value = x }) (command_part false r)) act.command_node l (op mark.FatArrow)
    (quiet_class (argument false r) l (op mark.FatArrow) refl)
    (λ t less x y z. no_class (first table (command_part false r)) (op mark.FatArrow) refl t less y z)
    (λ m y t less e g j. by_command l m e k))
    (λ t less x y z. no_class (first table (command_arguments false r false)) (op mark.FatArrow) refl t less y z)
    (λ m y t less e g j. by_command l m e k))
quiet_commanding false r l k c (inr e) = subst (λ z. Quiet (commanding false r (argument false r)) l z) (sym e)
    (quiet_suffix 0 (commands false r (argument false r)) act.yields (node {s = marked args_sort} {r = under (marked args_sort)} (λ x. record { value = x }) (command_arguments false r false)) act.yield_command l (op mark.Comma)
    (quiet_suffix 0 (argument false r) (λ l. is_some (act.callee l)) (node {s = pair (marked args_sort) (optional tree)} {r = under (pair (marked args_sort) (optional tree))} (λ x. record { value = x }) (command_part false r)) act.command_node l (op mark.Comma)
    (quiet_class (argument false r) l (op mark.Comma) refl)
    (λ t less x y z. no_class (first table (command_part false r)) (op mark.Comma) refl t less y z)
    (λ m y t less e g j. by_command l m e k))
    (λ t less x y z. no_class (first table (command_arguments false r false)) (op mark.Comma) refl t less y z)
    (λ m y t less e g j. by_command l m e k))

c_arguments_of : (d r blocks : Bool) → Checks table (arguments_from d r (argument d r) blocks)
unfolding table placed target star_target behind_target next_target more_targets starred_set several_set parameter_name bracketed_names more_parameters default_value no_default behind_name named_parameter bracketed_parameter rest_parameter block_parameter sign_parameter simple_parameters parameters block_parameters brace_parts do_parts body_behind def_name def_in_brackets def_plain def_value plain_call lambda_block empty_brackets full_brackets lambda_call called arrow_parameters plain_block arrow_value then_sign else_part branch otherwise if_value unless_value loop_body while_value until_value when_clause case_value class_header rescue_clause body_else body_ensure handlers begin_value module_body class_value module_value keyword_form newlines behind_newlines paren closed brace_block do_block block tail paren_tail keyword_value word_value integer_value text ivar_value gvar_value top_constant word_list embedded interpolated parenthesized array label_key pair_in_braces hash_value name_call constant_value super_value yield_value prim dot_part scope_part bracket post not_level power_level minus_level product_level sum_level shift_level comparison_level equal_level equality_level and_level or_level range_level ternary argument command_arguments command_part splat item more_items splat_list other_items one_value nested_value right_side jump_value jump command_level block_argument label_pair arrow_pair arguments_from arguments cargs more_pairs method_name not_expression expression alias_statement undef_statement simple modifier statement line statement_list Quiet
c_arguments_of true r blocks = (
  inr (λ l t less k g h. quiet_suffix 0 (first_ones true r (argument true r)) act.takes_more (behind_token (op mark.Comma) (after_comma true (named (part (p.Arguments blocks) true r)))) (finished true r) l (op mark.Comma)
      (quiet_key true r (argument true r) l (quiet_keyed (argument true r) l k (op mark.Comma)) refl)
      (λ t less x y z. one_of l x k)
      (λ m y t less e2 x z. whole_not l (act.with_more m.0 y) e2 k) t less g h),
  refl,
  refl,
  λ l x k. omega (arith, finished_deep l x (pair_open l.0 (pair_of l k))),
  (
    inr (λ l t less k g h. quiet_key true r (argument true r) l (quiet_first (argument true r) (quiet_argument true r) l k (op mark.Comma) (inr refl)) refl t less g h),
    refl,
    refl,
    λ l x k. omega (arith, finished_deep l x (single_open l.0 (single_of l k))),
    (
      refl,
      refl,
      (λ x. omega arith, c_splat true r),
      (
        refl,
        refl,
        (λ x. refl, c_label true r),
        (inr (λ l t less k g h. quiet_first (argument true r) (quiet_argument true r) l k (op mark.FatArrow) (inl refl) t less g h), refl, refl, λ l x k. omega (arith, key_deep l.0 x (single_of l k)), (λ x. omega arith, c_argument true r), (λ x. omega arith, (refl, tt, tt))),
      ),
    ),
    (λ x. omega arith, (refl, tt, (refl, refl, tt, tt))),
  ),
  (λ x. omega arith, (refl, tt, (refl, refl, tt, tt))),
)
c_arguments_of false r blocks = (
  inr (λ l t less k g h. quiet_suffix 0 (first_ones false r (argument false r)) act.takes_more (behind_token (op mark.Comma) (after_comma false (named (part (p.Arguments blocks) false r)))) (finished false r) l (op mark.Comma)
      (quiet_key false r (argument false r) l (quiet_keyed (argument false r) l k (op mark.Comma)) refl)
      (λ t less x y z. one_of l x k)
      (λ m y t less e2 x z. whole_not l (act.with_more m.0 y) e2 k) t less g h),
  refl,
  refl,
  λ l x k. omega (arith, finished_deep l x (pair_open l.0 (pair_of l k))),
  (
    inr (λ l t less k g h. quiet_key false r (argument false r) l (quiet_first (argument false r) (quiet_argument false r) l k (op mark.Comma) (inr refl)) refl t less g h),
    refl,
    refl,
    λ l x k. omega (arith, finished_deep l x (single_open l.0 (single_of l k))),
    (
      refl,
      refl,
      (λ x. omega arith, c_splat false r),
      (
        refl,
        refl,
        (λ x. refl, c_label false r),
        (inr (λ l t less k g h. quiet_first (argument false r) (quiet_argument false r) l k (op mark.FatArrow) (inl refl) t less g h), refl, refl, λ l x k. omega (arith, key_deep l.0 x (single_of l k)), (λ x. omega arith, c_argument false r), (λ x. omega arith, (refl, tt, tt))),
      ),
    ),
    (λ x. omega arith, (refl, tt, tt)),
  ),
  (λ x. omega arith, (refl, tt, tt)),
)

c_commanded : (d r : Bool) → Checks table (commanding d r (argument d r))
unfolding table placed target star_target behind_target next_target more_targets starred_set several_set parameter_name bracketed_names more_parameters default_value no_default behind_name named_parameter bracketed_parameter rest_parameter block_parameter sign_parameter simple_parameters parameters block_parameters brace_parts do_parts body_behind def_name def_in_brackets def_plain def_value plain_call lambda_block empty_brackets full_brackets lambda_call called arrow_parameters plain_block arrow_value then_sign else_part branch otherwise if_value unless_value loop_body while_value until_value when_clause case_value class_header rescue_clause body_else body_ensure handlers begin_value module_body class_value module_value keyword_form newlines behind_newlines paren closed brace_block do_block block tail paren_tail keyword_value word_value integer_value text ivar_value gvar_value top_constant word_list embedded interpolated parenthesized array label_key pair_in_braces hash_value name_call constant_value super_value yield_value prim dot_part scope_part bracket post not_level power_level minus_level product_level sum_level shift_level comparison_level equal_level equality_level and_level or_level range_level ternary argument command_arguments command_part splat item more_items splat_list other_items one_value nested_value right_side jump_value jump command_level block_argument label_pair arrow_pair arguments_from arguments cargs more_pairs method_name not_expression expression alias_statement undef_statement simple modifier statement line statement_list Quiet
c_commanded true r = c_commanding true r (argument true r) (c_argument true r) refl (settled true r (plain (named (part p.Argument true r))) (plain (named (part p.Argument true r))))
c_commanded false r = c_commanding false r (argument false r) (c_argument false r) refl (settled false r (plain (named (part p.Argument false r))) (plain (named (part p.Argument false r))))

c_cargs_of : (d r blocks : Bool) → Checks table (arguments_from d r (commanding d r (argument d r)) blocks)
unfolding table placed target star_target behind_target next_target more_targets starred_set several_set parameter_name bracketed_names more_parameters default_value no_default behind_name named_parameter bracketed_parameter rest_parameter block_parameter sign_parameter simple_parameters parameters block_parameters brace_parts do_parts body_behind def_name def_in_brackets def_plain def_value plain_call lambda_block empty_brackets full_brackets lambda_call called arrow_parameters plain_block arrow_value then_sign else_part branch otherwise if_value unless_value loop_body while_value until_value when_clause case_value class_header rescue_clause body_else body_ensure handlers begin_value module_body class_value module_value keyword_form newlines behind_newlines paren closed brace_block do_block block tail paren_tail keyword_value word_value integer_value text ivar_value gvar_value top_constant word_list embedded interpolated parenthesized array label_key pair_in_braces hash_value name_call constant_value super_value yield_value prim dot_part scope_part bracket post not_level power_level minus_level product_level sum_level shift_level comparison_level equal_level equality_level and_level or_level range_level ternary argument command_arguments command_part splat item more_items splat_list other_items one_value nested_value right_side jump_value jump command_level block_argument label_pair arrow_pair arguments_from arguments cargs more_pairs method_name not_expression expression alias_statement undef_statement simple modifier statement line statement_list Quiet
c_cargs_of true r blocks = (
  inr (λ l t less k g h. quiet_suffix 0 (first_ones true r (commanding true r (argument true r))) act.takes_more (behind_token (op mark.Comma) (after_comma true (named (part (p.Arguments blocks) true r)))) (finished true r) l (op mark.Comma)
      (quiet_key true r (commanding true r (argument true r)) l (quiet_keyed (commanding true r (argument true r)) l k (op mark.Comma)) refl)
      (λ t less x y z. one_of l x k)
      (λ m y t less e2 x z. whole_not l (act.with_more m.0 y) e2 k) t less g h),
  refl,
  refl,
  λ l x k. omega (arith, finished_deep l x (pair_open l.0 (pair_of l k))),
  (
    inr (λ l t less k g h. quiet_key true r (commanding true r (argument true r)) l (quiet_first (commanding true r (argument true r)) (quiet_commanding true r) l k (op mark.Comma) (inr refl)) refl t less g h),
    refl,
    refl,
    λ l x k. omega (arith, finished_deep l x (single_open l.0 (single_of l k))),
    (
      refl,
      refl,
      (λ x. omega arith, c_splat true r),
      (
        refl,
        refl,
        (λ x. refl, c_label true r),
        (inr (λ l t less k g h. quiet_first (commanding true r (argument true r)) (quiet_commanding true r) l k (op mark.FatArrow) (inl refl) t less g h), refl, refl, λ l x k. omega (arith, key_deep l.0 x (single_of l k)), (λ x. omega arith, c_commanded true r), (λ x. omega arith, (refl, tt, tt))),
      ),
    ),
    (λ x. omega arith, (refl, tt, (refl, refl, tt, tt))),
  ),
  (λ x. omega arith, (refl, tt, (refl, refl, tt, tt))),
)
c_cargs_of false r blocks = (
  inr (λ l t less k g h. quiet_suffix 0 (first_ones false r (commanding false r (argument false r))) act.takes_more (behind_token (op mark.Comma) (after_comma false (named (part (p.Arguments blocks) false r)))) (finished false r) l (op mark.Comma)
      (quiet_key false r (commanding false r (argument false r)) l (quiet_keyed (commanding false r (argument false r)) l k (op mark.Comma)) refl)
      (λ t less x y z. one_of l x k)
      (λ m y t less e2 x z. whole_not l (act.with_more m.0 y) e2 k) t less g h),
  refl,
  refl,
  λ l x k. omega (arith, finished_deep l x (pair_open l.0 (pair_of l k))),
  (
    inr (λ l t less k g h. quiet_key false r (commanding false r (argument false r)) l (quiet_first (commanding false r (argument false r)) (quiet_commanding false r) l k (op mark.Comma) (inr refl)) refl t less g h),
    refl,
    refl,
    λ l x k. omega (arith, finished_deep l x (single_open l.0 (single_of l k))),
    (
      refl,
      refl,
      (λ x. omega arith, c_splat false r),
      (
        refl,
        refl,
        (λ x. refl, c_label false r),
        (inr (λ l t less k g h. quiet_first (commanding false r (argument false r)) (quiet_commanding false r) l k (op mark.FatArrow) (inl refl) t less g h), refl, refl, λ l x k. omega (arith, key_deep l.0 x (single_of l k)), (λ x. omega arith, c_commanded false r), (λ x. omega arith, (refl, tt, tt))),
      ),
    ),
    (λ x. omega arith, (refl, tt, tt)),
  ),
  (λ x. omega arith, (refl, tt, tt)),
)

pub c_arguments : (d r blocks : Bool) → Checks table (arguments d r blocks)
unfolding table placed target star_target behind_target next_target more_targets starred_set several_set parameter_name bracketed_names more_parameters default_value no_default behind_name named_parameter bracketed_parameter rest_parameter block_parameter sign_parameter simple_parameters parameters block_parameters brace_parts do_parts body_behind def_name def_in_brackets def_plain def_value plain_call lambda_block empty_brackets full_brackets lambda_call called arrow_parameters plain_block arrow_value then_sign else_part branch otherwise if_value unless_value loop_body while_value until_value when_clause case_value class_header rescue_clause body_else body_ensure handlers begin_value module_body class_value module_value keyword_form newlines behind_newlines paren closed brace_block do_block block tail paren_tail keyword_value word_value integer_value text ivar_value gvar_value top_constant word_list embedded interpolated parenthesized array label_key pair_in_braces hash_value name_call constant_value super_value yield_value prim dot_part scope_part bracket post not_level power_level minus_level product_level sum_level shift_level comparison_level equal_level equality_level and_level or_level range_level ternary argument command_arguments command_part splat item more_items splat_list other_items one_value nested_value right_side jump_value jump command_level block_argument label_pair arrow_pair arguments_from arguments cargs more_pairs method_name not_expression expression alias_statement undef_statement simple modifier statement line statement_list
c_arguments true r true = (refl, refl, c_block_argument true r, (λ x. omega arith, c_arguments_of true r true))
c_arguments true r false = (λ x. omega arith, c_arguments_of true r false)
c_arguments false r true = (refl, refl, c_block_argument false r, (λ x. omega arith, c_arguments_of false r true))
c_arguments false r false = (λ x. omega arith, c_arguments_of false r false)

pub c_cargs : (d r blocks : Bool) → Checks table (cargs d r blocks)
unfolding table placed target star_target behind_target next_target more_targets starred_set several_set parameter_name bracketed_names more_parameters default_value no_default behind_name named_parameter bracketed_parameter rest_parameter block_parameter sign_parameter simple_parameters parameters block_parameters brace_parts do_parts body_behind def_name def_in_brackets def_plain def_value plain_call lambda_block empty_brackets full_brackets lambda_call called arrow_parameters plain_block arrow_value then_sign else_part branch otherwise if_value unless_value loop_body while_value until_value when_clause case_value class_header rescue_clause body_else body_ensure handlers begin_value module_body class_value module_value keyword_form newlines behind_newlines paren closed brace_block do_block block tail paren_tail keyword_value word_value integer_value text ivar_value gvar_value top_constant word_list embedded interpolated parenthesized array label_key pair_in_braces hash_value name_call constant_value super_value yield_value prim dot_part scope_part bracket post not_level power_level minus_level product_level sum_level shift_level comparison_level equal_level equality_level and_level or_level range_level ternary argument command_arguments command_part splat item more_items splat_list other_items one_value nested_value right_side jump_value jump command_level block_argument label_pair arrow_pair arguments_from arguments cargs more_pairs method_name not_expression expression alias_statement undef_statement simple modifier statement line statement_list
c_cargs true r true = (refl, refl, c_block_argument true r, (λ x. omega arith, c_cargs_of true r true))
c_cargs true r false = (λ x. omega arith, c_cargs_of true r false)
c_cargs false r true = (refl, refl, c_block_argument false r, (λ x. omega arith, c_cargs_of false r true))
c_cargs false r false = (λ x. omega arith, c_cargs_of false r false)

pub c_pairs : (d r blocks : Bool) → Checks table (more_pairs d r blocks)
unfolding table placed target star_target behind_target next_target more_targets starred_set several_set parameter_name bracketed_names more_parameters default_value no_default behind_name named_parameter bracketed_parameter rest_parameter block_parameter sign_parameter simple_parameters parameters block_parameters brace_parts do_parts body_behind def_name def_in_brackets def_plain def_value plain_call lambda_block empty_brackets full_brackets lambda_call called arrow_parameters plain_block arrow_value then_sign else_part branch otherwise if_value unless_value loop_body while_value until_value when_clause case_value class_header rescue_clause body_else body_ensure handlers begin_value module_body class_value module_value keyword_form newlines behind_newlines paren closed brace_block do_block block tail paren_tail keyword_value word_value integer_value text ivar_value gvar_value top_constant word_list embedded interpolated parenthesized array label_key pair_in_braces hash_value name_call constant_value super_value yield_value prim dot_part scope_part bracket post not_level power_level minus_level product_level sum_level shift_level comparison_level equal_level equality_level and_level or_level range_level ternary argument command_arguments command_part splat item more_items splat_list other_items one_value nested_value right_side jump_value jump command_level block_argument label_pair arrow_pair arguments_from arguments cargs more_pairs method_name not_expression expression alias_statement undef_statement simple modifier statement line statement_list
c_pairs true r true = (refl, refl, c_block_argument true r, (inl refl, refl, refl, λ l x k. omega (arith, more_deep l x (pair_open l k)), (refl, refl, c_label true r, c_arrow true r), (λ x. omega arith, (refl, tt, (refl, refl, tt, tt)))))
c_pairs true r false = (inl refl, refl, refl, λ l x k. omega (arith, more_deep l x (pair_open l k)), (refl, refl, c_label true r, c_arrow true r), (λ x. omega arith, (refl, tt, (refl, refl, tt, tt))))
c_pairs false r true = (refl, refl, c_block_argument false r, (inl refl, refl, refl, λ l x k. omega (arith, more_deep l x (pair_open l k)), (refl, refl, c_label false r, c_arrow false r), (λ x. omega arith, (refl, tt, tt))))
c_pairs false r false = (inl refl, refl, refl, λ l x k. omega (arith, more_deep l x (pair_open l k)), (refl, refl, c_label false r, c_arrow false r), (λ x. omega arith, (refl, tt, tt)))

pub c_not_expression : (b r : Bool) → Checks table (not_expression b r)
unfolding table placed target star_target behind_target next_target more_targets starred_set several_set parameter_name bracketed_names more_parameters default_value no_default behind_name named_parameter bracketed_parameter rest_parameter block_parameter sign_parameter simple_parameters parameters block_parameters brace_parts do_parts body_behind def_name def_in_brackets def_plain def_value plain_call lambda_block empty_brackets full_brackets lambda_call called arrow_parameters plain_block arrow_value then_sign else_part branch otherwise if_value unless_value loop_body while_value until_value when_clause case_value class_header rescue_clause body_else body_ensure handlers begin_value module_body class_value module_value keyword_form newlines behind_newlines paren closed brace_block do_block block tail paren_tail keyword_value word_value integer_value text ivar_value gvar_value top_constant word_list embedded interpolated parenthesized array label_key pair_in_braces hash_value name_call constant_value super_value yield_value prim dot_part scope_part bracket post not_level power_level minus_level product_level sum_level shift_level comparison_level equal_level equality_level and_level or_level range_level ternary argument command_arguments command_part splat item more_items splat_list other_items one_value nested_value right_side jump_value jump command_level block_argument label_pair arrow_pair arguments_from arguments cargs more_pairs method_name not_expression expression alias_statement undef_statement simple modifier statement line statement_list
c_not_expression true r = (refl, refl, (λ x. omega (arith, d.depth_not x.1 (act.from_token x.0 x.1) (act.start x.0)), (refl, tt, tt)), c_command true r)
c_not_expression false r = (refl, refl, (λ x. omega (arith, d.depth_not x.1 (act.from_token x.0 x.1) (act.start x.0)), (refl, tt, tt)), c_command false r)

pub c_expression : (b r : Bool) → Checks table (expression b r)
unfolding table placed target star_target behind_target next_target more_targets starred_set several_set parameter_name bracketed_names more_parameters default_value no_default behind_name named_parameter bracketed_parameter rest_parameter block_parameter sign_parameter simple_parameters parameters block_parameters brace_parts do_parts body_behind def_name def_in_brackets def_plain def_value plain_call lambda_block empty_brackets full_brackets lambda_call called arrow_parameters plain_block arrow_value then_sign else_part branch otherwise if_value unless_value loop_body while_value until_value when_clause case_value class_header rescue_clause body_else body_ensure handlers begin_value module_body class_value module_value keyword_form newlines behind_newlines paren closed brace_block do_block block tail paren_tail keyword_value word_value integer_value text ivar_value gvar_value top_constant word_list embedded interpolated parenthesized array label_key pair_in_braces hash_value name_call constant_value super_value yield_value prim dot_part scope_part bracket post not_level power_level minus_level product_level sum_level shift_level comparison_level equal_level equality_level and_level or_level range_level ternary argument command_arguments command_part splat item more_items splat_list other_items one_value nested_value right_side jump_value jump command_level block_argument label_pair arrow_pair arguments_from arguments cargs more_pairs method_name not_expression expression alias_statement undef_statement simple modifier statement line statement_list
c_expression true r = (refl, refl, refl, refl, λ l x. omega (arith, joined_deep l x), c_not_expression true r, (refl, tt, tt))
c_expression false r = (refl, refl, refl, refl, λ l x. omega (arith, joined_deep l x), c_not_expression false r, (refl, tt, tt))

c_alias : (r : Bool) → Checks table (alias_statement r)
unfolding table placed target star_target behind_target next_target more_targets starred_set several_set parameter_name bracketed_names more_parameters default_value no_default behind_name named_parameter bracketed_parameter rest_parameter block_parameter sign_parameter simple_parameters parameters block_parameters brace_parts do_parts body_behind def_name def_in_brackets def_plain def_value plain_call lambda_block empty_brackets full_brackets lambda_call called arrow_parameters plain_block arrow_value then_sign else_part branch otherwise if_value unless_value loop_body while_value until_value when_clause case_value class_header rescue_clause body_else body_ensure handlers begin_value module_body class_value module_value keyword_form newlines behind_newlines paren closed brace_block do_block block tail paren_tail keyword_value word_value integer_value text ivar_value gvar_value top_constant word_list embedded interpolated parenthesized array label_key pair_in_braces hash_value name_call constant_value super_value yield_value prim dot_part scope_part bracket post not_level power_level minus_level product_level sum_level shift_level comparison_level equal_level equality_level and_level or_level range_level ternary argument command_arguments command_part splat item more_items splat_list other_items one_value nested_value right_side jump_value jump command_level block_argument label_pair arrow_pair arguments_from arguments cargs more_pairs method_name not_expression expression alias_statement undef_statement simple modifier statement line statement_list
c_alias r = (λ x. omega (arith, d.depth_alias (act.full_name (x.1.0)) (act.full_name (x.1.1)) (act.to_end (act.span_of x.0) (act.name_span (x.1.1))) (act.start (x.1.0.0)), flat_option (x.1.0.1), flat_option (x.1.1.1)), (refl, tt, (refl, c_method, c_method)))

flat_names : (xs : List (Seen × Option Seen)) → deepest (λ x. max 0 (deep_if (λ y. 0) x.1)) xs ≡ 0
flat_names [] = refl
flat_names (x ∷ xs) = omega (arith, flat_option x.1, flat_names xs)

c_undef : (r : Bool) → Checks table (undef_statement r)
unfolding table placed target star_target behind_target next_target more_targets starred_set several_set parameter_name bracketed_names more_parameters default_value no_default behind_name named_parameter bracketed_parameter rest_parameter block_parameter sign_parameter simple_parameters parameters block_parameters brace_parts do_parts body_behind def_name def_in_brackets def_plain def_value plain_call lambda_block empty_brackets full_brackets lambda_call called arrow_parameters plain_block arrow_value then_sign else_part branch otherwise if_value unless_value loop_body while_value until_value when_clause case_value class_header rescue_clause body_else body_ensure handlers begin_value module_body class_value module_value keyword_form newlines behind_newlines paren closed brace_block do_block block tail paren_tail keyword_value word_value integer_value text ivar_value gvar_value top_constant word_list embedded interpolated parenthesized array label_key pair_in_braces hash_value name_call constant_value super_value yield_value prim dot_part scope_part bracket post not_level power_level minus_level product_level sum_level shift_level comparison_level equal_level equality_level and_level or_level range_level ternary argument command_arguments command_part splat item more_items splat_list other_items one_value nested_value right_side jump_value jump command_level block_argument label_pair arrow_pair arguments_from arguments cargs more_pairs method_name not_expression expression alias_statement undef_statement simple modifier statement line statement_list
c_undef r = (λ x. omega (arith, d.depth_undef (act.full_names x.1) (act.to_end (act.span_of x.0) (act.names_span (act.span_of x.0) x.1)) (act.start x.0), flat_names x.1), (refl, tt, (λ x. refl, (refl, c_method, (refl, refl, (λ x. omega arith, (refl, tt, c_method)))))))

-- ---- several targets

c_placed : (r c : Bool) → Included table (first table (placed r c)) (λ n. false) × Included table (continues table (placed r c)) (λ n. false) × (nullable table (placed r c) ≡ true → true ≡ true) × Checks table (placed r c)
unfolding table placed target star_target behind_target next_target more_targets starred_set several_set parameter_name bracketed_names more_parameters default_value no_default behind_name named_parameter bracketed_parameter rest_parameter block_parameter sign_parameter simple_parameters parameters block_parameters brace_parts do_parts body_behind def_name def_in_brackets def_plain def_value plain_call lambda_block empty_brackets full_brackets lambda_call called arrow_parameters plain_block arrow_value then_sign else_part branch otherwise if_value unless_value loop_body while_value until_value when_clause case_value class_header rescue_clause body_else body_ensure handlers begin_value module_body class_value module_value keyword_form newlines behind_newlines paren closed brace_block do_block block tail paren_tail keyword_value word_value integer_value text ivar_value gvar_value top_constant word_list embedded interpolated parenthesized array label_key pair_in_braces hash_value name_call constant_value super_value yield_value prim dot_part scope_part bracket post not_level power_level minus_level product_level sum_level shift_level comparison_level equal_level equality_level and_level or_level range_level ternary argument command_arguments command_part splat item more_items splat_list other_items one_value nested_value right_side jump_value jump command_level block_argument label_pair arrow_pair arguments_from arguments cargs more_pairs method_name not_expression expression alias_statement undef_statement simple modifier statement line statement_list
c_placed r true = (refl, refl, (λ h. refl), tt)
c_placed r false = (refl, refl, (λ h. refl), (λ x. refl, tt))

c_target : (r : Bool) → Checks table (target r)
unfolding table placed target star_target behind_target next_target more_targets starred_set several_set parameter_name bracketed_names more_parameters default_value no_default behind_name named_parameter bracketed_parameter rest_parameter block_parameter sign_parameter simple_parameters parameters block_parameters brace_parts do_parts body_behind def_name def_in_brackets def_plain def_value plain_call lambda_block empty_brackets full_brackets lambda_call called arrow_parameters plain_block arrow_value then_sign else_part branch otherwise if_value unless_value loop_body while_value until_value when_clause case_value class_header rescue_clause body_else body_ensure handlers begin_value module_body class_value module_value keyword_form newlines behind_newlines paren closed brace_block do_block block tail paren_tail keyword_value word_value integer_value text ivar_value gvar_value top_constant word_list embedded interpolated parenthesized array label_key pair_in_braces hash_value name_call constant_value super_value yield_value prim dot_part scope_part bracket post not_level power_level minus_level product_level sum_level shift_level comparison_level equal_level equality_level and_level or_level range_level ternary argument command_arguments command_part splat item more_items splat_list other_items one_value nested_value right_side jump_value jump command_level block_argument label_pair arrow_pair arguments_from arguments cargs more_pairs method_name not_expression expression alias_statement undef_statement simple modifier statement line statement_list
c_target r = (λ x. omega (arith, target_deep x.0), (refl, c_post true r, λ l. c_placed r (act.is_place l)))

c_star : (r : Bool) → Checks table (star_target r)
unfolding table placed target star_target behind_target next_target more_targets starred_set several_set parameter_name bracketed_names more_parameters default_value no_default behind_name named_parameter bracketed_parameter rest_parameter block_parameter sign_parameter simple_parameters parameters block_parameters brace_parts do_parts body_behind def_name def_in_brackets def_plain def_value plain_call lambda_block empty_brackets full_brackets lambda_call called arrow_parameters plain_block arrow_value then_sign else_part branch otherwise if_value unless_value loop_body while_value until_value when_clause case_value class_header rescue_clause body_else body_ensure handlers begin_value module_body class_value module_value keyword_form newlines behind_newlines paren closed brace_block do_block block tail paren_tail keyword_value word_value integer_value text ivar_value gvar_value top_constant word_list embedded interpolated parenthesized array label_key pair_in_braces hash_value name_call constant_value super_value yield_value prim dot_part scope_part bracket post not_level power_level minus_level product_level sum_level shift_level comparison_level equal_level equality_level and_level or_level range_level ternary argument command_arguments command_part splat item more_items splat_list other_items one_value nested_value right_side jump_value jump command_level block_argument label_pair arrow_pair arguments_from arguments cargs more_pairs method_name not_expression expression alias_statement undef_statement simple modifier statement line statement_list
c_star r = (λ x. omega (arith, d.depth_splat x.1 (act.from_token x.0 x.1) (act.start x.0)), (refl, tt, c_target r))

c_behind_target : (r starred : Bool) → Checks table (behind_target r starred)
unfolding table placed target star_target behind_target next_target more_targets starred_set several_set parameter_name bracketed_names more_parameters default_value no_default behind_name named_parameter bracketed_parameter rest_parameter block_parameter sign_parameter simple_parameters parameters block_parameters brace_parts do_parts body_behind def_name def_in_brackets def_plain def_value plain_call lambda_block empty_brackets full_brackets lambda_call called arrow_parameters plain_block arrow_value then_sign else_part branch otherwise if_value unless_value loop_body while_value until_value when_clause case_value class_header rescue_clause body_else body_ensure handlers begin_value module_body class_value module_value keyword_form newlines behind_newlines paren closed brace_block do_block block tail paren_tail keyword_value word_value integer_value text ivar_value gvar_value top_constant word_list embedded interpolated parenthesized array label_key pair_in_braces hash_value name_call constant_value super_value yield_value prim dot_part scope_part bracket post not_level power_level minus_level product_level sum_level shift_level comparison_level equal_level equality_level and_level or_level range_level ternary argument command_arguments command_part splat item more_items splat_list other_items one_value nested_value right_side jump_value jump command_level block_argument label_pair arrow_pair arguments_from arguments cargs more_pairs method_name not_expression expression alias_statement undef_statement simple modifier statement line statement_list
c_behind_target r starred = (refl, refl, tt, (λ x. omega arith, (λ x. omega arith, (refl, tt, tt))))

c_next_target : (r starred : Bool) → Checks table (next_target r starred)
unfolding table placed target star_target behind_target next_target more_targets starred_set several_set parameter_name bracketed_names more_parameters default_value no_default behind_name named_parameter bracketed_parameter rest_parameter block_parameter sign_parameter simple_parameters parameters block_parameters brace_parts do_parts body_behind def_name def_in_brackets def_plain def_value plain_call lambda_block empty_brackets full_brackets lambda_call called arrow_parameters plain_block arrow_value then_sign else_part branch otherwise if_value unless_value loop_body while_value until_value when_clause case_value class_header rescue_clause body_else body_ensure handlers begin_value module_body class_value module_value keyword_form newlines behind_newlines paren closed brace_block do_block block tail paren_tail keyword_value word_value integer_value text ivar_value gvar_value top_constant word_list embedded interpolated parenthesized array label_key pair_in_braces hash_value name_call constant_value super_value yield_value prim dot_part scope_part bracket post not_level power_level minus_level product_level sum_level shift_level comparison_level equal_level equality_level and_level or_level range_level ternary argument command_arguments command_part splat item more_items splat_list other_items one_value nested_value right_side jump_value jump command_level block_argument label_pair arrow_pair arguments_from arguments cargs more_pairs method_name not_expression expression alias_statement undef_statement simple modifier statement line statement_list
c_next_target r true = (refl, refl, (refl, c_star r, c_behind_target r false), (refl, c_target r, c_behind_target r true))
c_next_target r false = (refl, c_target r, c_behind_target r false)

pub c_targets : (r starred : Bool) → Checks table (more_targets r starred)
unfolding table placed target star_target behind_target next_target more_targets starred_set several_set parameter_name bracketed_names more_parameters default_value no_default behind_name named_parameter bracketed_parameter rest_parameter block_parameter sign_parameter simple_parameters parameters block_parameters brace_parts do_parts body_behind def_name def_in_brackets def_plain def_value plain_call lambda_block empty_brackets full_brackets lambda_call called arrow_parameters plain_block arrow_value then_sign else_part branch otherwise if_value unless_value loop_body while_value until_value when_clause case_value class_header rescue_clause body_else body_ensure handlers begin_value module_body class_value module_value keyword_form newlines behind_newlines paren closed brace_block do_block block tail paren_tail keyword_value word_value integer_value text ivar_value gvar_value top_constant word_list embedded interpolated parenthesized array label_key pair_in_braces hash_value name_call constant_value super_value yield_value prim dot_part scope_part bracket post not_level power_level minus_level product_level sum_level shift_level comparison_level equal_level equality_level and_level or_level range_level ternary argument command_arguments command_part splat item more_items splat_list other_items one_value nested_value right_side jump_value jump command_level block_argument label_pair arrow_pair arguments_from arguments cargs more_pairs method_name not_expression expression alias_statement undef_statement simple modifier statement line statement_list
c_targets r true = (λ x. omega arith, (refl, tt, (λ x. omega arith, c_next_target r true)))
c_targets r false = (λ x. omega arith, (refl, tt, (λ x. omega arith, c_next_target r false)))

several_deep : (first : Node) (x : List Node × Node) → depth_of (act.multi_set first x) ≡ suc (max (depth_of first) (max (deepest depth_of x.0) (depth_of x.1)))
several_deep first x = omega (arith, d.depth_multi_set (first ∷ x.0) x.1 (act.nodes first x.1) (first.span).from)

c_starred_set : (r : Bool) → Checks table (starred_set r)
unfolding table placed target star_target behind_target next_target more_targets starred_set several_set parameter_name bracketed_names more_parameters default_value no_default behind_name named_parameter bracketed_parameter rest_parameter block_parameter sign_parameter simple_parameters parameters block_parameters brace_parts do_parts body_behind def_name def_in_brackets def_plain def_value plain_call lambda_block empty_brackets full_brackets lambda_call called arrow_parameters plain_block arrow_value then_sign else_part branch otherwise if_value unless_value loop_body while_value until_value when_clause case_value class_header rescue_clause body_else body_ensure handlers begin_value module_body class_value module_value keyword_form newlines behind_newlines paren closed brace_block do_block block tail paren_tail keyword_value word_value integer_value text ivar_value gvar_value top_constant word_list embedded interpolated parenthesized array label_key pair_in_braces hash_value name_call constant_value super_value yield_value prim dot_part scope_part bracket post not_level power_level minus_level product_level sum_level shift_level comparison_level equal_level equality_level and_level or_level range_level ternary argument command_arguments command_part splat item more_items splat_list other_items one_value nested_value right_side jump_value jump command_level block_argument label_pair arrow_pair arguments_from arguments cargs more_pairs method_name not_expression expression alias_statement undef_statement simple modifier statement line statement_list
c_starred_set r = (λ x. omega (arith, several_deep x.0 x.1), (refl, c_star r, tt))

-- no comma goes on behind a value that can be set
other_no_place : (l : Node × ℕ) (n : Node) → l ≡ (n, act.other) → act.is_place l ≡ true → ⊥
other_no_place l n e h = true≢false (sym (subst (λ z. act.is_place z ≡ true) e h))

ended_no_place : (l : Node × ℕ) (n : Node) (m : ℕ) → l ≡ (n, act.ended m) → act.is_place l ≡ true → ⊥
ended_no_place l n m e h = by (nat_eq m act.commanded) (subst (λ z. act.is_place z ≡ true) e h)
  where
    by : (c : Bool) → act.is_place (n, if c then act.commanded else act.other) ≡ true → ⊥
    by true h = true≢false (sym h)
    by false h = true≢false (sym h)

quiet_made : (s r : Sort) (q : R s) (f : El Seen Node s → El Seen Node r) (l : El Seen Node r) (c : ℕ → Bool) → ((x : El Seen Node s) → l ≡ f x → ⊥) → Quiet (node f q) l c
unfolding Quiet
quiet_made s r q f l c fresh t less (x, e, g) j = fresh x e

quiet_suffixes : {s r : Sort} (levels : ℕ) (q : R s) (p : R r) (f : El Seen Node s → El Seen Node r → El Seen Node s) (l : El Seen Node s) (c : ℕ → Bool)
    → Quiet q l c → Disjoint table (first table p) c → ((m : El Seen Node s) (y : El Seen Node r) → l ≡ f m y → ⊥) → Quiet (suffixes levels q p f) l c
unfolding Quiet
quiet_suffixes levels q p f l c base apart made t less (inl g) j = base t less g j
quiet_suffixes levels q p f l c base apart made t less (inr (inl (m, y, e, g))) j = made m y e
quiet_suffixes levels q p f l c base apart made t less (inr (inr h)) j = no_class (first table p) c apart t less h j

quiet_target : (r : Bool) (l : Node × ℕ) → act.is_place l ≡ true → Quiet (expression true r) l (op mark.Comma)
unfolding table placed target star_target behind_target next_target more_targets starred_set several_set parameter_name bracketed_names more_parameters default_value no_default behind_name named_parameter bracketed_parameter rest_parameter block_parameter sign_parameter simple_parameters parameters block_parameters brace_parts do_parts body_behind def_name def_in_brackets def_plain def_value plain_call lambda_block empty_brackets full_brackets lambda_call called arrow_parameters plain_block arrow_value then_sign else_part branch otherwise if_value unless_value loop_body while_value until_value when_clause case_value class_header rescue_clause body_else body_ensure handlers begin_value module_body class_value module_value keyword_form newlines behind_newlines paren closed brace_block do_block block tail paren_tail keyword_value word_value integer_value text ivar_value gvar_value top_constant word_list embedded interpolated parenthesized array label_key pair_in_braces hash_value name_call constant_value super_value yield_value prim dot_part scope_part bracket post not_level power_level minus_level product_level sum_level shift_level comparison_level equal_level equality_level and_level or_level range_level ternary argument command_arguments command_part splat item more_items splat_list other_items one_value nested_value right_side jump_value jump command_level block_argument label_pair arrow_pair arguments_from arguments cargs more_pairs method_name not_expression expression alias_statement undef_statement simple modifier statement line statement_list
quiet_target r l k =
    quiet_suffixes 1 (not_expression true r) _ act.joined l (op mark.Comma)
    (quiet_choice _ (command_level true r) l (op mark.Comma) refl (quiet_made _ (marked tree) _ _ l (op mark.Comma) (λ x e. other_no_place l _ e k))
    (quiet_choice (jump false r) _ l (op mark.Comma) refl (quiet_made _ (marked tree) _ _ l (op mark.Comma) (λ x e. other_no_place l _ e k))
    (quiet_suffix 0 _ act.yields _ act.yield_command l (op mark.Comma)
    (quiet_suffix 0 _ (λ l. is_some (act.callee l)) _ act.command_node l (op mark.Comma)
    (quiet_assignment true r (plain (named (part p.RightSide true r))) (named (part p.OneValue true r)) l (op mark.Comma) (quiet_class (ternary true r) l (op mark.Comma) refl) refl refl refl refl (λ n m e. ended_no_place l n m e k))
    (λ t less x y z. no_class (first table (command_part true r)) (op mark.Comma) refl t less y z)
    (λ m y t less e g j. ended_no_place l _ act.commanded e k))
    (λ t less x y z. no_class (first table (command_arguments true r false)) (op mark.Comma) refl t less y z)
    (λ m y t less e g j. ended_no_place l _ act.commanded e k))))
    refl (λ m y e. other_no_place l _ e k)

c_several_set : (r : Bool) → Checks table (several_set r)
unfolding Quiet table placed target star_target behind_target next_target more_targets starred_set several_set parameter_name bracketed_names more_parameters default_value no_default behind_name named_parameter bracketed_parameter rest_parameter block_parameter sign_parameter simple_parameters parameters block_parameters brace_parts do_parts body_behind def_name def_in_brackets def_plain def_value plain_call lambda_block empty_brackets full_brackets lambda_call called arrow_parameters plain_block arrow_value then_sign else_part branch otherwise if_value unless_value loop_body while_value until_value when_clause case_value class_header rescue_clause body_else body_ensure handlers begin_value module_body class_value module_value keyword_form newlines behind_newlines paren closed brace_block do_block block tail paren_tail keyword_value word_value integer_value text ivar_value gvar_value top_constant word_list embedded interpolated parenthesized array label_key pair_in_braces hash_value name_call constant_value super_value yield_value prim dot_part scope_part bracket post not_level power_level minus_level product_level sum_level shift_level comparison_level equal_level equality_level and_level or_level range_level ternary argument command_arguments command_part splat item more_items splat_list other_items one_value nested_value right_side jump_value jump command_level block_argument label_pair arrow_pair arguments_from arguments cargs more_pairs method_name not_expression expression alias_statement undef_statement simple modifier statement line statement_list
c_several_set r = (inr (λ l t less k g h. quiet_target r l k t less g h), refl, refl, (λ l x k. omega (arith, several_deep (act.target_node l) x, target_deep l)), c_expression true r, tt)

c_simple : (r : Bool) → Checks table (simple r)
unfolding table placed target star_target behind_target next_target more_targets starred_set several_set parameter_name bracketed_names more_parameters default_value no_default behind_name named_parameter bracketed_parameter rest_parameter block_parameter sign_parameter simple_parameters parameters block_parameters brace_parts do_parts body_behind def_name def_in_brackets def_plain def_value plain_call lambda_block empty_brackets full_brackets lambda_call called arrow_parameters plain_block arrow_value then_sign else_part branch otherwise if_value unless_value loop_body while_value until_value when_clause case_value class_header rescue_clause body_else body_ensure handlers begin_value module_body class_value module_value keyword_form newlines behind_newlines paren closed brace_block do_block block tail paren_tail keyword_value word_value integer_value text ivar_value gvar_value top_constant word_list embedded interpolated parenthesized array label_key pair_in_braces hash_value name_call constant_value super_value yield_value prim dot_part scope_part bracket post not_level power_level minus_level product_level sum_level shift_level comparison_level equal_level equality_level and_level or_level range_level ternary argument command_arguments command_part splat item more_items splat_list other_items one_value nested_value right_side jump_value jump command_level block_argument label_pair arrow_pair arguments_from arguments cargs more_pairs method_name not_expression expression alias_statement undef_statement simple modifier statement line statement_list
c_simple r = (refl, refl, c_alias r, (refl, refl, c_undef r, (refl, refl, c_starred_set r, c_several_set r)))

c_modifier : (r : Bool) → Checks table (modifier r)
unfolding table placed target star_target behind_target next_target more_targets starred_set several_set parameter_name bracketed_names more_parameters default_value no_default behind_name named_parameter bracketed_parameter rest_parameter block_parameter sign_parameter simple_parameters parameters block_parameters brace_parts do_parts body_behind def_name def_in_brackets def_plain def_value plain_call lambda_block empty_brackets full_brackets lambda_call called arrow_parameters plain_block arrow_value then_sign else_part branch otherwise if_value unless_value loop_body while_value until_value when_clause case_value class_header rescue_clause body_else body_ensure handlers begin_value module_body class_value module_value keyword_form newlines behind_newlines paren closed brace_block do_block block tail paren_tail keyword_value word_value integer_value text ivar_value gvar_value top_constant word_list embedded interpolated parenthesized array label_key pair_in_braces hash_value name_call constant_value super_value yield_value prim dot_part scope_part bracket post not_level power_level minus_level product_level sum_level shift_level comparison_level equal_level equality_level and_level or_level range_level ternary argument command_arguments command_part splat item more_items splat_list other_items one_value nested_value right_side jump_value jump command_level block_argument label_pair arrow_pair arguments_from arguments cargs more_pairs method_name not_expression expression alias_statement undef_statement simple modifier statement line statement_list
c_modifier r = (refl, refl, (λ x. refl, (refl, tt, tt)), (refl, refl, (λ x. refl, (refl, tt, tt)), (refl, refl, (λ x. refl, (refl, tt, tt)), (λ x. refl, (inl (λ x. omega arith), (λ x. until_deep x, (refl, tt, tt)))))))

pub c_statement : (r : Bool) → Checks table (statement r)
unfolding table placed target star_target behind_target next_target more_targets starred_set several_set parameter_name bracketed_names more_parameters default_value no_default behind_name named_parameter bracketed_parameter rest_parameter block_parameter sign_parameter simple_parameters parameters block_parameters brace_parts do_parts body_behind def_name def_in_brackets def_plain def_value plain_call lambda_block empty_brackets full_brackets lambda_call called arrow_parameters plain_block arrow_value then_sign else_part branch otherwise if_value unless_value loop_body while_value until_value when_clause case_value class_header rescue_clause body_else body_ensure handlers begin_value module_body class_value module_value keyword_form newlines behind_newlines paren closed brace_block do_block block tail paren_tail keyword_value word_value integer_value text ivar_value gvar_value top_constant word_list embedded interpolated parenthesized array label_key pair_in_braces hash_value name_call constant_value super_value yield_value prim dot_part scope_part bracket post not_level power_level minus_level product_level sum_level shift_level comparison_level equal_level equality_level and_level or_level range_level ternary argument command_arguments command_part splat item more_items splat_list other_items one_value nested_value right_side jump_value jump command_level block_argument label_pair arrow_pair arguments_from arguments cargs more_pairs method_name not_expression expression alias_statement undef_statement simple modifier statement line statement_list
c_statement r = (refl, refl, refl, refl, λ l x. omega (arith, modified_deep l x), c_simple r, c_modifier r)

c_line : (r : Bool) → Checks table (line r)
unfolding table placed target star_target behind_target next_target more_targets starred_set several_set parameter_name bracketed_names more_parameters default_value no_default behind_name named_parameter bracketed_parameter rest_parameter block_parameter sign_parameter simple_parameters parameters block_parameters brace_parts do_parts body_behind def_name def_in_brackets def_plain def_value plain_call lambda_block empty_brackets full_brackets lambda_call called arrow_parameters plain_block arrow_value then_sign else_part branch otherwise if_value unless_value loop_body while_value until_value when_clause case_value class_header rescue_clause body_else body_ensure handlers begin_value module_body class_value module_value keyword_form newlines behind_newlines paren closed brace_block do_block block tail paren_tail keyword_value word_value integer_value text ivar_value gvar_value top_constant word_list embedded interpolated parenthesized array label_key pair_in_braces hash_value name_call constant_value super_value yield_value prim dot_part scope_part bracket post not_level power_level minus_level product_level sum_level shift_level comparison_level equal_level equality_level and_level or_level range_level ternary argument command_arguments command_part splat item more_items splat_list other_items one_value nested_value right_side jump_value jump command_level block_argument label_pair arrow_pair arguments_from arguments cargs more_pairs method_name not_expression expression alias_statement undef_statement simple modifier statement line statement_list
c_line r = (refl, refl, (λ x. refl, tt), tt)

pub c_statements : (r : Bool) → Checks table (statement_list r)
unfolding table placed target star_target behind_target next_target more_targets starred_set several_set parameter_name bracketed_names more_parameters default_value no_default behind_name named_parameter bracketed_parameter rest_parameter block_parameter sign_parameter simple_parameters parameters block_parameters brace_parts do_parts body_behind def_name def_in_brackets def_plain def_value plain_call lambda_block empty_brackets full_brackets lambda_call called arrow_parameters plain_block arrow_value then_sign else_part branch otherwise if_value unless_value loop_body while_value until_value when_clause case_value class_header rescue_clause body_else body_ensure handlers begin_value module_body class_value module_value keyword_form newlines behind_newlines paren closed brace_block do_block block tail paren_tail keyword_value word_value integer_value text ivar_value gvar_value top_constant word_list embedded interpolated parenthesized array label_key pair_in_braces hash_value name_call constant_value super_value yield_value prim dot_part scope_part bracket post not_level power_level minus_level product_level sum_level shift_level comparison_level equal_level equality_level and_level or_level range_level ternary argument command_arguments command_part splat item more_items splat_list other_items one_value nested_value right_side jump_value jump command_level block_argument label_pair arrow_pair arguments_from arguments cargs more_pairs method_name not_expression expression alias_statement undef_statement simple modifier statement line statement_list
c_statements r = (λ x. omega (arith, sequence_deep (act.statements (x.0 ∷ x.1)), statements_deep (x.0 ∷ x.1)), (refl, c_line r, (refl, refl, (λ x. omega arith, (refl, tt, c_line r)))))
