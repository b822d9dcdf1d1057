-- The grammar meets what is asked of a grammar in which one token tells how to go on.
use Rattle.std.proofs.Common.{◌≡◌, ℕ, ◌<◌, Bool, true, false, ◌&&◌, ◌||◌, inl, inr, refl, sym, subst, arith, true≢false}
use Rattle.std.specs.Prelude.{nat_eq, not}
use Rattle.grammar.specs.Rules.{El}
use Rattle.grammar.specs.Checks.{nullable, first, continues, GoesOn, Included, Checks, Guarded, Predictive}
use Rattle.grammar.proofs.Classes.{by_class}
use Rattle.grammar.proofs.Lists.{and_both}
use Rattle.ruby_meaning.specs.declared.token.Mark.TheVariants as mark
use Rattle.ruby_meaning.specs.declared.tree.Node.{Node}
use Rattle.ruby_meaning.specs.Grammar.Seen.{Seen}
use Rattle.ruby_meaning.specs.Grammar.Classes.{size, op}
use Rattle.ruby_meaning.specs.declared.production.Production.{Production}
use Rattle.ruby_meaning.specs.declared.production.Production.TheVariants as p
use Rattle.ruby_meaning.specs.declared.production.Stage.TheVariants as stage
use Rattle.ruby_meaning.specs.Grammar.Names.{sort_of, part}
use Rattle.ruby_meaning.specs.Grammar.Actions as act
use Rattle.ruby_meaning.specs.Grammar.Actions.{make, Args}
use Rattle.ruby_meaning.specs.Grammar.Parameters.{newlines, behind_newlines, parameter_name, bracketed_names, more_parameters, default_value, no_default, behind_name, named_parameter, bracketed_parameter, rest_parameter, block_parameter, sign_parameter, simple_parameters, parameters}
use Rattle.ruby_meaning.specs.Grammar.Calls.{closed, paren, block_parameters, brace_parts, do_parts, brace_block, do_block, block, tail, paren_tail}
use Rattle.ruby_meaning.specs.Grammar.Definitions.{then_sign, else_part, branch, otherwise, if_value, unless_value, loop_body, while_value, until_value, when_clause, case_value, class_header, rescue_clause, body_else, body_ensure, handlers, body_behind, begin_value, module_body, class_value, module_value, method_name, def_name, def_in_brackets, def_plain, def_value, keyword_form}
use Rattle.ruby_meaning.specs.Grammar.Primaries.{keyword_value, word_value, integer_value, text, ivar_value, gvar_value, top_constant, word_list, embedded, interpolated, parenthesized, array, label_key, pair_in_braces, hash_value, plain_call, lambda_block, empty_brackets, full_brackets, lambda_call, called, name_call, arrow_parameters, plain_block, arrow_value, constant_value, super_value, yield_value, prim, dot_part, scope_part, bracket, post}
use Rattle.ruby_meaning.specs.Grammar.Expressions.{value_of, not_level, power_level, minus_level, product_level, sum_level, shift_level, comparison_level, equal_level, equality_level, and_level, or_level, range_level, ternary, argument, command_arguments, command_part, splat, item, more_items, splat_list, other_items, one_value, nested_value, right_side, jump_value, jump, command_level, block_argument, label_pair, arrow_pair, arguments_from, arguments, cargs, more_pairs}
use Rattle.ruby_meaning.specs.Grammar.Statements.{not_expression, expression, alias_statement, undef_statement, placed, target, star_target, behind_target, next_target, more_targets, starred_set, several_set, simple, modifier, statement, line, statement_list}
use Rattle.ruby_meaning.specs.Grammar.Table.{table, rule_of, begins, is_nullable, value_goes_on, goes_on_of}
use Rattle.ruby_meaning.specs.Grammar.Table.{continues as behind}
use Rattle.ruby_meaning.proofs.Grammar.Codes.{code_within}
use Rattle.ruby_meaning.proofs.Grammar.Checks.{Quiet, bounded, quiet_comma, c_statements, c_statement, c_expression, c_not_expression, c_right, c_nested, c_one, c_argument, c_ternary, c_or, c_and, c_equality, c_comparison, c_shift, c_sum, c_product, c_minus, c_power, c_not, c_cargs, c_arguments, c_pairs, c_targets, c_parameters, c_otherwise}

c_all : (n : Production) (d r : Bool) → Checks table (rule_of n d r)
unfolding table placed target star_target behind_target next_target more_targets starred_set several_set parameter_name bracketed_names more_parameters default_value no_default behind_name named_parameter bracketed_parameter rest_parameter block_parameter sign_parameter simple_parameters parameters block_parameters brace_parts do_parts body_behind def_name def_in_brackets def_plain def_value plain_call lambda_block empty_brackets full_brackets lambda_call called arrow_parameters plain_block arrow_value then_sign else_part branch otherwise if_value unless_value loop_body while_value until_value when_clause case_value class_header rescue_clause body_else body_ensure handlers begin_value module_body class_value module_value keyword_form newlines behind_newlines paren closed brace_block do_block block tail paren_tail keyword_value word_value integer_value text ivar_value gvar_value top_constant word_list embedded interpolated parenthesized array label_key pair_in_braces hash_value name_call constant_value super_value yield_value prim dot_part scope_part bracket post not_level power_level minus_level product_level sum_level shift_level comparison_level equal_level equality_level and_level or_level range_level ternary argument command_arguments command_part splat item more_items splat_list other_items one_value nested_value right_side jump_value jump command_level block_argument label_pair arrow_pair arguments_from arguments cargs more_pairs method_name not_expression expression alias_statement undef_statement simple modifier statement line statement_list
c_all p.Statements d r = c_statements r
c_all p.Statement d r = (λ x. omega arith, c_statement r)
c_all p.Expression d r = (λ x. omega arith, c_expression d r)
c_all p.NotExpression d r = (λ x. omega arith, c_not_expression d r)
c_all p.RightSide d r = (λ x. omega arith, c_right d r)
c_all p.NestedValue d r = c_nested d r
c_all p.OneValue d r = c_one d r
c_all p.Argument d r = (λ x. omega arith, c_argument d r)
c_all p.Ternary d r = (λ x. omega arith, c_ternary d r)
c_all p.RangeOperand d r = (λ x. omega arith, c_or d r)
c_all p.OrOperand d r = (λ x. omega arith, c_and d r)
c_all p.AndOperand d r = (λ x. omega arith, c_equality d r)
c_all p.EqualityOperand d r = (λ x. omega arith, c_comparison d r)
c_all p.ComparisonOperand d r = (λ x. omega arith, c_shift d r)
c_all p.ShiftOperand d r = (λ x. omega arith, c_sum d r)
c_all p.SumOperand d r = (λ x. omega arith, c_product d r)
c_all p.ProductOperand d r = (λ x. omega arith, c_minus d r)
c_all p.PowerOperand d r = (λ x. omega arith, c_power d r)
c_all p.NotOperand d r = (λ x. omega arith, c_not d r)
c_all p.Otherwise d r = c_otherwise r
c_all (p.CommandArguments blocks) d r = c_cargs d r blocks
c_all (p.Arguments blocks) d r = c_arguments d r blocks
c_all (p.MorePairs blocks) d r = c_pairs d r blocks
c_all (p.MoreTargets starred) d r = c_targets r starred
c_all (p.Parameters s brackets) d r = c_parameters r brackets s

g_prim : (d r : Bool) → Guarded table (prim r d)
unfolding table placed target star_target behind_target next_target more_targets starred_set several_set parameter_name bracketed_names more_parameters default_value no_default behind_name named_parameter bracketed_parameter rest_parameter block_parameter sign_parameter simple_parameters parameters block_parameters brace_parts do_parts body_behind def_name def_in_brackets def_plain def_value plain_call lambda_block empty_brackets full_brackets lambda_call called arrow_parameters plain_block arrow_value then_sign else_part branch otherwise if_value unless_value loop_body while_value until_value when_clause case_value class_header rescue_clause body_else body_ensure handlers begin_value module_body class_value module_value keyword_form newlines behind_newlines paren closed brace_block do_block block tail paren_tail keyword_value word_value integer_value text ivar_value gvar_value top_constant word_list embedded interpolated parenthesized array label_key pair_in_braces hash_value name_call constant_value super_value yield_value prim dot_part scope_part bracket post not_level power_level minus_level product_level sum_level shift_level comparison_level equal_level equality_level and_level or_level range_level ternary argument command_arguments command_part splat item more_items splat_list other_items one_value nested_value right_side jump_value jump command_level block_argument label_pair arrow_pair arguments_from arguments cargs more_pairs method_name not_expression expression alias_statement undef_statement simple modifier statement line statement_list
g_prim d r = ((tt, (tt, (tt, (tt, tt)))), (tt, (tt, (tt, (tt, (tt, (tt, (tt, ((tt, inr refl), (tt, ((tt, inr refl), (tt, (tt, (tt, (tt, (tt, (tt, (tt, (tt, (tt, (tt, (tt, (tt, (tt, ((tt, inr refl), inr refl)))))))))))))))))))))))))

g_power : (d r : Bool) → Guarded table (power_level d r)
unfolding table placed target star_target behind_target next_target more_targets starred_set several_set parameter_name bracketed_names more_parameters default_value no_default behind_name named_parameter bracketed_parameter rest_parameter block_parameter sign_parameter simple_parameters parameters block_parameters brace_parts do_parts body_behind def_name def_in_brackets def_plain def_value plain_call lambda_block empty_brackets full_brackets lambda_call called arrow_parameters plain_block arrow_value then_sign else_part branch otherwise if_value unless_value loop_body while_value until_value when_clause case_value class_header rescue_clause body_else body_ensure handlers begin_value module_body class_value module_value keyword_form newlines behind_newlines paren closed brace_block do_block block tail paren_tail keyword_value word_value integer_value text ivar_value gvar_value top_constant word_list embedded interpolated parenthesized array label_key pair_in_braces hash_value name_call constant_value super_value yield_value prim dot_part scope_part bracket post not_level power_level minus_level product_level sum_level shift_level comparison_level equal_level equality_level and_level or_level range_level ternary argument command_arguments command_part splat item more_items splat_list other_items one_value nested_value right_side jump_value jump command_level block_argument label_pair arrow_pair arguments_from arguments cargs more_pairs method_name not_expression expression alias_statement undef_statement simple modifier statement line statement_list
g_power d r = (tt, g_prim d r)

g_minus : (d r : Bool) → Guarded table (minus_level d r)
unfolding table placed target star_target behind_target next_target more_targets starred_set several_set parameter_name bracketed_names more_parameters default_value no_default behind_name named_parameter bracketed_parameter rest_parameter block_parameter sign_parameter simple_parameters parameters block_parameters brace_parts do_parts body_behind def_name def_in_brackets def_plain def_value plain_call lambda_block empty_brackets full_brackets lambda_call called arrow_parameters plain_block arrow_value then_sign else_part branch otherwise if_value unless_value loop_body while_value until_value when_clause case_value class_header rescue_clause body_else body_ensure handlers begin_value module_body class_value module_value keyword_form newlines behind_newlines paren closed brace_block do_block block tail paren_tail keyword_value word_value integer_value text ivar_value gvar_value top_constant word_list embedded interpolated parenthesized array label_key pair_in_braces hash_value name_call constant_value super_value yield_value prim dot_part scope_part bracket post not_level power_level minus_level product_level sum_level shift_level comparison_level equal_level equality_level and_level or_level range_level ternary argument command_arguments command_part splat item more_items splat_list other_items one_value nested_value right_side jump_value jump command_level block_argument label_pair arrow_pair arguments_from arguments cargs more_pairs method_name not_expression expression alias_statement undef_statement simple modifier statement line statement_list
g_minus d r = (tt, g_power d r)

guards : (n : Production) (d r : Bool) → Guarded table (rule_of n d r)
unfolding table placed target star_target behind_target next_target more_targets starred_set several_set parameter_name bracketed_names more_parameters default_value no_default behind_name named_parameter bracketed_parameter rest_parameter block_parameter sign_parameter simple_parameters parameters block_parameters brace_parts do_parts body_behind def_name def_in_brackets def_plain def_value plain_call lambda_block empty_brackets full_brackets lambda_call called arrow_parameters plain_block arrow_value then_sign else_part branch otherwise if_value unless_value loop_body while_value until_value when_clause case_value class_header rescue_clause body_else body_ensure handlers begin_value module_body class_value module_value keyword_form newlines behind_newlines paren closed brace_block do_block block tail paren_tail keyword_value word_value integer_value text ivar_value gvar_value top_constant word_list embedded interpolated parenthesized array label_key pair_in_braces hash_value name_call constant_value super_value yield_value prim dot_part scope_part bracket post not_level power_level minus_level product_level sum_level shift_level comparison_level equal_level equality_level and_level or_level range_level ternary argument command_arguments command_part splat item more_items splat_list other_items one_value nested_value right_side jump_value jump command_level block_argument label_pair arrow_pair arguments_from arguments cargs more_pairs method_name not_expression expression alias_statement undef_statement simple modifier statement line statement_list
guards p.Statements d r = tt
guards p.Statement d r = (tt, (tt, (tt, (tt, (tt, g_minus true r)))))
guards p.Expression d r = (tt, (tt, g_minus d r))
guards p.NotExpression d r = (tt, (tt, g_minus d r))
guards p.RightSide d r = (tt, g_minus d r)
guards p.NestedValue d r = (tt, g_minus d r)
guards p.OneValue d r = g_minus d r
guards p.Argument d r = g_minus d r
guards p.Ternary d r = g_minus d r
guards p.RangeOperand d r = g_minus d r
guards p.OrOperand d r = g_minus d r
guards p.AndOperand d r = g_minus d r
guards p.EqualityOperand d r = g_minus d r
guards p.ComparisonOperand d r = g_minus d r
guards p.ShiftOperand d r = g_minus d r
guards p.SumOperand d r = g_minus d r
guards p.ProductOperand d r = g_minus d r
guards p.PowerOperand d r = g_power d r
guards p.NotOperand d r = (tt, g_prim d r)
guards p.Otherwise d r = (tt, ((tt, inr refl), tt))
guards (p.CommandArguments true) d r = (tt, (tt, (tt, g_minus d r)))
guards (p.CommandArguments false) d r = (tt, (tt, g_minus d r))
guards (p.Arguments true) d r = (tt, (tt, (tt, g_minus d r)))
guards (p.Arguments false) d r = (tt, (tt, g_minus d r))
guards (p.MorePairs true) d r = (tt, (tt, tt))
guards (p.MorePairs false) d r = (tt, tt)
guards (p.MoreTargets starred) d r = (tt, inr refl)
guards (p.Parameters stage.Plain true) d r = (((tt, inr refl), inr refl), ((tt, inr refl), ((tt, inr refl), (tt, inr refl))))
guards (p.Parameters stage.Plain false) d r = ((tt, inr refl), ((tt, inr refl), (tt, inr refl)))
guards (p.Parameters stage.Optional true) d r = (((tt, inr refl), inr refl), ((tt, inr refl), ((tt, inr refl), (tt, inr refl))))
guards (p.Parameters stage.Optional false) d r = ((tt, inr refl), ((tt, inr refl), (tt, inr refl)))
guards (p.Parameters stage.Rest true) d r = (((tt, inr refl), inr refl), ((tt, inr refl), (tt, inr refl)))
guards (p.Parameters stage.Rest false) d r = ((tt, inr refl), (tt, inr refl))
guards (p.Parameters stage.After true) d r = (((tt, inr refl), inr refl), ((tt, inr refl), (tt, inr refl)))
guards (p.Parameters stage.After false) d r = ((tt, inr refl), (tt, inr refl))

all_begin_statement : (r : Bool) → Included table (first table (value_of (statement r))) (begins p.Statement)
unfolding table placed target star_target behind_target next_target more_targets starred_set several_set parameter_name bracketed_names more_parameters default_value no_default behind_name named_parameter bracketed_parameter rest_parameter block_parameter sign_parameter simple_parameters parameters block_parameters brace_parts do_parts body_behind def_name def_in_brackets def_plain def_value plain_call lambda_block empty_brackets full_brackets lambda_call called arrow_parameters plain_block arrow_value then_sign else_part branch otherwise if_value unless_value loop_body while_value until_value when_clause case_value class_header rescue_clause body_else body_ensure handlers begin_value module_body class_value module_value keyword_form newlines behind_newlines paren closed brace_block do_block block tail paren_tail keyword_value word_value integer_value text ivar_value gvar_value top_constant word_list embedded interpolated parenthesized array label_key pair_in_braces hash_value name_call constant_value super_value yield_value prim dot_part scope_part bracket post not_level power_level minus_level product_level sum_level shift_level comparison_level equal_level equality_level and_level or_level range_level ternary argument command_arguments command_part splat item more_items splat_list other_items one_value nested_value right_side jump_value jump command_level block_argument label_pair arrow_pair arguments_from arguments cargs more_pairs method_name not_expression expression alias_statement undef_statement simple modifier statement line statement_list
all_begin_statement r = refl

all_begin_statements : (r : Bool) → Included table (first table (statement_list r)) (begins p.Statements)
unfolding table placed target star_target behind_target next_target more_targets starred_set several_set parameter_name bracketed_names more_parameters default_value no_default behind_name named_parameter bracketed_parameter rest_parameter block_parameter sign_parameter simple_parameters parameters block_parameters brace_parts do_parts body_behind def_name def_in_brackets def_plain def_value plain_call lambda_block empty_brackets full_brackets lambda_call called arrow_parameters plain_block arrow_value then_sign else_part branch otherwise if_value unless_value loop_body while_value until_value when_clause case_value class_header rescue_clause body_else body_ensure handlers begin_value module_body class_value module_value keyword_form newlines behind_newlines paren closed brace_block do_block block tail paren_tail keyword_value word_value integer_value text ivar_value gvar_value top_constant word_list embedded interpolated parenthesized array label_key pair_in_braces hash_value name_call constant_value super_value yield_value prim dot_part scope_part bracket post not_level power_level minus_level product_level sum_level shift_level comparison_level equal_level equality_level and_level or_level range_level ternary argument command_arguments command_part splat item more_items splat_list other_items one_value nested_value right_side jump_value jump command_level block_argument label_pair arrow_pair arguments_from arguments cargs more_pairs method_name not_expression expression alias_statement undef_statement simple modifier statement line statement_list
all_begin_statements r = refl

all_begin : (n : Production) (d r : Bool) → Included table (first table (rule_of n d r)) (begins n)
unfolding table placed target star_target behind_target next_target more_targets starred_set several_set parameter_name bracketed_names more_parameters default_value no_default behind_name named_parameter bracketed_parameter rest_parameter block_parameter sign_parameter simple_parameters parameters block_parameters brace_parts do_parts body_behind def_name def_in_brackets def_plain def_value plain_call lambda_block empty_brackets full_brackets lambda_call called arrow_parameters plain_block arrow_value then_sign else_part branch otherwise if_value unless_value loop_body while_value until_value when_clause case_value class_header rescue_clause body_else body_ensure handlers begin_value module_body class_value module_value keyword_form newlines behind_newlines paren closed brace_block do_block block tail paren_tail keyword_value word_value integer_value text ivar_value gvar_value top_constant word_list embedded interpolated parenthesized array label_key pair_in_braces hash_value name_call constant_value super_value yield_value prim dot_part scope_part bracket post not_level power_level minus_level product_level sum_level shift_level comparison_level equal_level equality_level and_level or_level range_level ternary argument command_arguments command_part splat item more_items splat_list other_items one_value nested_value right_side jump_value jump command_level block_argument label_pair arrow_pair arguments_from arguments cargs more_pairs method_name not_expression expression alias_statement undef_statement simple modifier statement line statement_list
all_begin p.Statements d r = all_begin_statements r
all_begin p.Statement d r = all_begin_statement r
all_begin p.Expression true r = refl
all_begin p.Expression false r = refl
all_begin p.NotExpression true r = refl
all_begin p.NotExpression false r = refl
all_begin p.RightSide true r = refl
all_begin p.RightSide false r = refl
all_begin p.NestedValue true r = refl
all_begin p.NestedValue false r = refl
all_begin p.OneValue true r = refl
all_begin p.OneValue false r = refl
all_begin p.Argument true r = refl
all_begin p.Argument false r = refl
all_begin p.Ternary true r = refl
all_begin p.Ternary false r = refl
all_begin p.RangeOperand true r = refl
all_begin p.RangeOperand false r = refl
all_begin p.OrOperand true r = refl
all_begin p.OrOperand false r = refl
all_begin p.AndOperand true r = refl
all_begin p.AndOperand false r = refl
all_begin p.EqualityOperand true r = refl
all_begin p.EqualityOperand false r = refl
all_begin p.ComparisonOperand true r = refl
all_begin p.ComparisonOperand false r = refl
all_begin p.ShiftOperand true r = refl
all_begin p.ShiftOperand false r = refl
all_begin p.SumOperand true r = refl
all_begin p.SumOperand false r = refl
all_begin p.ProductOperand true r = refl
all_begin p.ProductOperand false r = refl
all_begin p.PowerOperand true r = refl
all_begin p.PowerOperand false r = refl
all_begin p.NotOperand true r = refl
all_begin p.NotOperand false r = refl
all_begin p.Otherwise true r = refl
all_begin p.Otherwise false r = refl
all_begin (p.CommandArguments true) true r = refl
all_begin (p.CommandArguments false) true r = refl
all_begin (p.CommandArguments true) false r = refl
all_begin (p.CommandArguments false) false r = refl
all_begin (p.Arguments true) true r = refl
all_begin (p.Arguments false) true r = refl
all_begin (p.Arguments true) false r = refl
all_begin (p.Arguments false) false r = refl
all_begin (p.MorePairs true) true r = refl
all_begin (p.MorePairs false) true r = refl
all_begin (p.MorePairs true) false r = refl
all_begin (p.MorePairs false) false r = refl
all_begin (p.MoreTargets true) d r = refl
all_begin (p.MoreTargets false) d r = refl
all_begin (p.Parameters stage.Plain true) d r = refl
all_begin (p.Parameters stage.Plain false) d r = refl
all_begin (p.Parameters stage.Optional true) d r = refl
all_begin (p.Parameters stage.Optional false) d r = refl
all_begin (p.Parameters stage.Rest true) d r = refl
all_begin (p.Parameters stage.Rest false) d r = refl
all_begin (p.Parameters stage.After true) d r = refl
all_begin (p.Parameters stage.After false) d r = refl

all_continue_statement : (r : Bool) → Included table (continues table (value_of (statement r))) (behind p.Statement true)
unfolding table placed target star_target behind_target next_target more_targets starred_set several_set parameter_name bracketed_names more_parameters default_value no_default behind_name named_parameter bracketed_parameter rest_parameter block_parameter sign_parameter simple_parameters parameters block_parameters brace_parts do_parts body_behind def_name def_in_brackets def_plain def_value plain_call lambda_block empty_brackets full_brackets lambda_call called arrow_parameters plain_block arrow_value then_sign else_part branch otherwise if_value unless_value loop_body while_value until_value when_clause case_value class_header rescue_clause body_else body_ensure handlers begin_value module_body class_value module_value keyword_form newlines behind_newlines paren closed brace_block do_block block tail paren_tail keyword_value word_value integer_value text ivar_value gvar_value top_constant word_list embedded interpolated parenthesized array label_key pair_in_braces hash_value name_call constant_value super_value yield_value prim dot_part scope_part bracket post not_level power_level minus_level product_level sum_level shift_level comparison_level equal_level equality_level and_level or_level range_level ternary argument command_arguments command_part splat item more_items splat_list other_items one_value nested_value right_side jump_value jump command_level block_argument label_pair arrow_pair arguments_from arguments cargs more_pairs method_name not_expression expression alias_statement undef_statement simple modifier statement line statement_list
all_continue_statement r = refl

all_continue_statements : (r : Bool) → Included table (continues table (statement_list r)) (behind p.Statements true)
unfolding table placed target star_target behind_target next_target more_targets starred_set several_set parameter_name bracketed_names more_parameters default_value no_default behind_name named_parameter bracketed_parameter rest_parameter block_parameter sign_parameter simple_parameters parameters block_parameters brace_parts do_parts body_behind def_name def_in_brackets def_plain def_value plain_call lambda_block empty_brackets full_brackets lambda_call called arrow_parameters plain_block arrow_value then_sign else_part branch otherwise if_value unless_value loop_body while_value until_value when_clause case_value class_header rescue_clause body_else body_ensure handlers begin_value module_body class_value module_value keyword_form newlines behind_newlines paren closed brace_block do_block block tail paren_tail keyword_value word_value integer_value text ivar_value gvar_value top_constant word_list embedded interpolated parenthesized array label_key pair_in_braces hash_value name_call constant_value super_value yield_value prim dot_part scope_part bracket post not_level power_level minus_level product_level sum_level shift_level comparison_level equal_level equality_level and_level or_level range_level ternary argument command_arguments command_part splat item more_items splat_list other_items one_value nested_value right_side jump_value jump command_level block_argument label_pair arrow_pair arguments_from arguments cargs more_pairs method_name not_expression expression alias_statement undef_statement simple modifier statement line statement_list
all_continue_statements r = refl

all_continue : (n : Production) (d r : Bool) → Included table (continues table (rule_of n d r)) (behind n d)
unfolding table placed target star_target behind_target next_target more_targets starred_set several_set parameter_name bracketed_names more_parameters default_value no_default behind_name named_parameter bracketed_parameter rest_parameter block_parameter sign_parameter simple_parameters parameters block_parameters brace_parts do_parts body_behind def_name def_in_brackets def_plain def_value plain_call lambda_block empty_brackets full_brackets lambda_call called arrow_parameters plain_block arrow_value then_sign else_part branch otherwise if_value unless_value loop_body while_value until_value when_clause case_value class_header rescue_clause body_else body_ensure handlers begin_value module_body class_value module_value keyword_form newlines behind_newlines paren closed brace_block do_block block tail paren_tail keyword_value word_value integer_value text ivar_value gvar_value top_constant word_list embedded interpolated parenthesized array label_key pair_in_braces hash_value name_call constant_value super_value yield_value prim dot_part scope_part bracket post not_level power_level minus_level product_level sum_level shift_level comparison_level equal_level equality_level and_level or_level range_level ternary argument command_arguments command_part splat item more_items splat_list other_items one_value nested_value right_side jump_value jump command_level block_argument label_pair arrow_pair arguments_from arguments cargs more_pairs method_name not_expression expression alias_statement undef_statement simple modifier statement line statement_list
all_continue p.Statements d r = all_continue_statements r
all_continue p.Statement d r = all_continue_statement r
all_continue p.Expression true r = refl
all_continue p.Expression false r = refl
all_continue p.NotExpression true r = refl
all_continue p.NotExpression false r = refl
all_continue p.RightSide true r = refl
all_continue p.RightSide false r = refl
all_continue p.NestedValue true r = refl
all_continue p.NestedValue false r = refl
all_continue p.OneValue true r = refl
all_continue p.OneValue false r = refl
all_continue p.Argument true r = refl
all_continue p.Argument false r = refl
all_continue p.Ternary true r = refl
all_continue p.Ternary false r = refl
all_continue p.RangeOperand true r = refl
all_continue p.RangeOperand false r = refl
all_continue p.OrOperand true r = refl
all_continue p.OrOperand false r = refl
all_continue p.AndOperand true r = refl
all_continue p.AndOperand false r = refl
all_continue p.EqualityOperand true r = refl
all_continue p.EqualityOperand false r = refl
all_continue p.ComparisonOperand true r = refl
all_continue p.ComparisonOperand false r = refl
all_continue p.ShiftOperand true r = refl
all_continue p.ShiftOperand false r = refl
all_continue p.SumOperand true r = refl
all_continue p.SumOperand false r = refl
all_continue p.ProductOperand true r = refl
all_continue p.ProductOperand false r = refl
all_continue p.PowerOperand true r = refl
all_continue p.PowerOperand false r = refl
all_continue p.NotOperand true r = refl
all_continue p.NotOperand false r = refl
all_continue p.Otherwise true r = refl
all_continue p.Otherwise false r = refl
all_continue (p.CommandArguments true) true r = refl
all_continue (p.CommandArguments false) true r = refl
all_continue (p.CommandArguments true) false r = refl
all_continue (p.CommandArguments false) false r = refl
all_continue (p.Arguments true) true r = refl
all_continue (p.Arguments false) true r = refl
all_continue (p.Arguments true) false r = refl
all_continue (p.Arguments false) false r = refl
all_continue (p.MorePairs true) true r = refl
all_continue (p.MorePairs false) true r = refl
all_continue (p.MorePairs true) false r = refl
all_continue (p.MorePairs false) false r = refl
all_continue (p.MoreTargets true) d r = refl
all_continue (p.MoreTargets false) d r = refl
all_continue (p.Parameters stage.Plain true) d r = refl
all_continue (p.Parameters stage.Plain false) d r = refl
all_continue (p.Parameters stage.Optional true) d r = refl
all_continue (p.Parameters stage.Optional false) d r = refl
all_continue (p.Parameters stage.Rest true) d r = refl
all_continue (p.Parameters stage.Rest false) d r = refl
all_continue (p.Parameters stage.After true) d r = refl
all_continue (p.Parameters stage.After false) d r = refl

class_of : (n : Production) (d r : Bool) (x : El Seen Node (sort_of n)) (t : ℕ) → t < size → GoesOn table (rule_of n d r) x t → behind n d t ≡ true
unfolding table
class_of n d r x t less g = by_class table bounded (part n d r) (all_continue n d r) x t less g

with_value : (n t : ℕ) (c : Bool) → c ≡ true → (not (nat_eq n act.commanded) ≡ true → op mark.Comma t ≡ true → ⊥) → (c && value_goes_on n t) ≡ true
with_value n t c e h = and_both c _ e (by (nat_eq n act.commanded) (op mark.Comma t) h)
  where
    by : (x y : Bool) → (not x ≡ true → y ≡ true → ⊥) → (x || not y) ≡ true
    by true y h = refl
    by false true h = absurd (h refl refl)
    by false false h = refl

value_by : (n : Production) (d r : Bool) (x : El Seen Node (sort_of n)) (t : ℕ) → t < size → GoesOn table (rule_of n d r) x t → goes_on_of n d x t ≡ true
unfolding table placed target star_target behind_target next_target more_targets starred_set several_set parameter_name bracketed_names more_parameters default_value no_default behind_name named_parameter bracketed_parameter rest_parameter block_parameter sign_parameter simple_parameters parameters block_parameters brace_parts do_parts body_behind def_name def_in_brackets def_plain def_value plain_call lambda_block empty_brackets full_brackets lambda_call called arrow_parameters plain_block arrow_value then_sign else_part branch otherwise if_value unless_value loop_body while_value until_value when_clause case_value class_header rescue_clause body_else body_ensure handlers begin_value module_body class_value module_value keyword_form newlines behind_newlines paren closed brace_block do_block block tail paren_tail keyword_value word_value integer_value text ivar_value gvar_value top_constant word_list embedded interpolated parenthesized array label_key pair_in_braces hash_value name_call constant_value super_value yield_value prim dot_part scope_part bracket post not_level power_level minus_level product_level sum_level shift_level comparison_level equal_level equality_level and_level or_level range_level ternary argument command_arguments command_part splat item more_items splat_list other_items one_value nested_value right_side jump_value jump command_level block_argument label_pair arrow_pair arguments_from arguments cargs more_pairs method_name not_expression expression alias_statement undef_statement simple modifier statement line statement_list Quiet
value_by p.OneValue d r x t less g = with_value x.1 t (behind p.OneValue d t) (class_of p.OneValue d r x t less g) (λ k j. quiet_comma d r x k t less g j)
value_by p.NestedValue d r x t less (inl (n, e, g)) = with_value x.1 t (behind p.NestedValue d t) (class_of p.NestedValue d r x t less (inl (n, e, g))) (λ k j. true≢false (sym (subst (λ z. not (nat_eq z.1 act.commanded) ≡ true) e k)))
value_by p.NestedValue d r x t less (inr (inl g)) = with_value x.1 t (behind p.NestedValue d t) (class_of p.NestedValue d r x t less (inr (inl g))) (λ k j. quiet_comma d r x k t less g j)
value_by p.NestedValue d r x t less (inr (inr g)) = absurd (true≢false (sym g.0))
value_by p.Statements d r x t less g = class_of p.Statements d r x t less g
value_by p.Statement d r x t less g = class_of p.Statement d r x t less g
value_by p.Expression d r x t less g = class_of p.Expression d r x t less g
value_by p.NotExpression d r x t less g = class_of p.NotExpression d r x t less g
value_by p.RightSide d r x t less g = class_of p.RightSide d r x t less g
value_by p.Argument d r x t less g = class_of p.Argument d r x t less g
value_by p.Ternary d r x t less g = class_of p.Ternary d r x t less g
value_by p.RangeOperand d r x t less g = class_of p.RangeOperand d r x t less g
value_by p.OrOperand d r x t less g = class_of p.OrOperand d r x t less g
value_by p.AndOperand d r x t less g = class_of p.AndOperand d r x t less g
value_by p.EqualityOperand d r x t less g = class_of p.EqualityOperand d r x t less g
value_by p.ComparisonOperand d r x t less g = class_of p.ComparisonOperand d r x t less g
value_by p.ShiftOperand d r x t less g = class_of p.ShiftOperand d r x t less g
value_by p.SumOperand d r x t less g = class_of p.SumOperand d r x t less g
value_by p.ProductOperand d r x t less g = class_of p.ProductOperand d r x t less g
value_by p.PowerOperand d r x t less g = class_of p.PowerOperand d r x t less g
value_by p.NotOperand d r x t less g = class_of p.NotOperand d r x t less g
value_by p.Otherwise d r x t less g = class_of p.Otherwise d r x t less g
value_by (p.CommandArguments blocks) d r x t less g = class_of (p.CommandArguments blocks) d r x t less g
value_by (p.Arguments blocks) d r x t less g = class_of (p.Arguments blocks) d r x t less g
value_by (p.MorePairs blocks) d r x t less g = class_of (p.MorePairs blocks) d r x t less g
value_by (p.MoreTargets starred) d r x t less g = class_of (p.MoreTargets starred) d r x t less g
value_by (p.Parameters s brackets) d r x t less g = class_of (p.Parameters s brackets) d r x t less g

empties : (n : Production) (d r : Bool) → nullable table (rule_of n d r) ≡ true → is_nullable n ≡ true
unfolding table placed target star_target behind_target next_target more_targets starred_set several_set parameter_name bracketed_names more_parameters default_value no_default behind_name named_parameter bracketed_parameter rest_parameter block_parameter sign_parameter simple_parameters parameters block_parameters brace_parts do_parts body_behind def_name def_in_brackets def_plain def_value plain_call lambda_block empty_brackets full_brackets lambda_call called arrow_parameters plain_block arrow_value then_sign else_part branch otherwise if_value unless_value loop_body while_value until_value when_clause case_value class_header rescue_clause body_else body_ensure handlers begin_value module_body class_value module_value keyword_form newlines behind_newlines paren closed brace_block do_block block tail paren_tail keyword_value word_value integer_value text ivar_value gvar_value top_constant word_list embedded interpolated parenthesized array label_key pair_in_braces hash_value name_call constant_value super_value yield_value prim dot_part scope_part bracket post not_level power_level minus_level product_level sum_level shift_level comparison_level equal_level equality_level and_level or_level range_level ternary argument command_arguments command_part splat item more_items splat_list other_items one_value nested_value right_side jump_value jump command_level block_argument label_pair arrow_pair arguments_from arguments cargs more_pairs method_name not_expression expression alias_statement undef_statement simple modifier statement line statement_list
empties p.Statements d r h = refl
empties p.Statement d r h = h
empties p.Expression d r h = h
empties p.NotExpression d r h = h
empties p.RightSide d r h = h
empties p.NestedValue d r h = h
empties p.OneValue d r h = h
empties p.Argument d r h = h
empties p.Ternary d r h = h
empties p.RangeOperand d r h = h
empties p.OrOperand d r h = h
empties p.AndOperand d r h = h
empties p.EqualityOperand d r h = h
empties p.ComparisonOperand d r h = h
empties p.ShiftOperand d r h = h
empties p.SumOperand d r h = h
empties p.ProductOperand d r h = h
empties p.PowerOperand d r h = h
empties p.NotOperand d r h = h
empties p.Otherwise d r h = refl
empties (p.CommandArguments true) d r h = h
empties (p.CommandArguments false) d r h = h
empties (p.Arguments true) d r h = h
empties (p.Arguments false) d r h = h
empties (p.MorePairs true) d r h = h
empties (p.MorePairs false) d r h = h
empties (p.MoreTargets starred) d r h = h
empties (p.Parameters stage.Plain true) d r h = h
empties (p.Parameters stage.Plain false) d r h = h
empties (p.Parameters stage.Optional true) d r h = h
empties (p.Parameters stage.Optional false) d r h = h
empties (p.Parameters stage.Rest true) d r h = h
empties (p.Parameters stage.Rest false) d r h = h
empties (p.Parameters stage.After true) d r h = h
empties (p.Parameters stage.After false) d r h = h

-- One token tells how to go on.
pub predictive : Predictive table
unfolding table
predictive = record {
  checks = λ k. c_all k.production k.takes_do k.in_rescue;
  guarded = λ k. guards k.production k.takes_do k.in_rescue;
  within = λ t. code_within t.sign;
  begins = λ k. all_begin k.production k.takes_do k.in_rescue;
  goes_on = λ k. all_continue k.production k.takes_do k.in_rescue;
  by_value = λ k. value_by k.production k.takes_do k.in_rescue;
  bounded = bounded;
  empties = λ k. empties k.production k.takes_do k.in_rescue;
}
