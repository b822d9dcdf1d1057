-- Where some lists of tokens are refused, by the reader.
use Rattle.std.proofs.Common.{refl}
use Rattle.grammar.specs.Reading.{read_all}
use Rattle.grammar.specs.Readers.{read_named, read_within}
use Rattle.grammar.proofs.Theorem.{read_refusal}
use Rattle.ruby_meaning.specs.Grammar.Parameters.{newlines, behind_newlines, parameter_name, bracketed_names, more_parameters, default_value, no_default, behind_name, named_parameter, bracketed_parameter, rest_parameter, block_parameter, sign_parameter, simple_parameters, parameters}
use Rattle.ruby_meaning.specs.Grammar.Calls.{closed, paren, block_parameters, brace_parts, do_parts, brace_block, do_block, block, tail, paren_tail}
use Rattle.ruby_meaning.specs.Grammar.Definitions.{then_sign, else_part, branch, otherwise, if_value, unless_value, loop_body, while_value, until_value, when_clause, case_value, class_header, rescue_clause, body_else, body_ensure, handlers, body_behind, begin_value, module_body, class_value, module_value, method_name, def_name, def_in_brackets, def_plain, def_value, keyword_form}
use Rattle.ruby_meaning.specs.Grammar.Primaries.{keyword_value, word_value, integer_value, text, ivar_value, gvar_value, top_constant, word_list, embedded, interpolated, parenthesized, array, label_key, pair_in_braces, hash_value, plain_call, lambda_block, empty_brackets, full_brackets, lambda_call, called, name_call, arrow_parameters, plain_block, arrow_value, constant_value, super_value, yield_value, prim, dot_part, scope_part, bracket, post}
use Rattle.ruby_meaning.specs.Grammar.Expressions.{not_level, power_level, minus_level, product_level, sum_level, shift_level, comparison_level, equal_level, equality_level, and_level, or_level, range_level, ternary, argument, command_arguments, command_part, splat, item, more_items, splat_list, other_items, one_value, nested_value, right_side, jump_value, jump, command_level, block_argument, label_pair, arrow_pair, arguments_from, arguments, cargs, more_pairs}
use Rattle.ruby_meaning.specs.Grammar.Statements.{not_expression, expression, alias_statement, undef_statement, placed, target, star_target, behind_target, next_target, more_targets, starred_set, several_set, simple, modifier, statement, line, statement_list}
use Rattle.ruby_meaning.specs.Grammar.Table.{table}
use Rattle.ruby_meaning.specs.Grammar.Laws.{whole_file, limit}
use Rattle.ruby_meaning.specs.Grammar.Rows.{RefusedRows}
use Rattle.ruby_meaning.proofs.Grammar.TableMeets.{predictive}

pub refused_rows : RefusedRows
unfolding table placed target star_target behind_target next_target more_targets starred_set several_set parameter_name bracketed_names more_parameters default_value no_default behind_name named_parameter bracketed_parameter rest_parameter block_parameter sign_parameter simple_parameters parameters block_parameters brace_parts do_parts body_behind def_name def_in_brackets def_plain def_value plain_call lambda_block empty_brackets full_brackets lambda_call called arrow_parameters plain_block arrow_value then_sign else_part branch otherwise if_value unless_value loop_body while_value until_value when_clause case_value class_header rescue_clause body_else body_ensure handlers begin_value module_body class_value module_value keyword_form newlines behind_newlines paren closed brace_block do_block block tail paren_tail keyword_value word_value integer_value text ivar_value gvar_value top_constant word_list embedded interpolated parenthesized array label_key pair_in_braces hash_value name_call constant_value super_value yield_value prim dot_part scope_part bracket post not_level power_level minus_level product_level sum_level shift_level comparison_level equal_level equality_level and_level or_level range_level ternary argument command_arguments command_part splat item more_items splat_list other_items one_value nested_value right_side jump_value jump command_level block_argument label_pair arrow_pair arguments_from arguments cargs more_pairs method_name not_expression expression alias_statement undef_statement simple modifier statement line statement_list read_all read_named read_within
refused_rows = record {
  default_behind_rest = read_refusal table predictive whole_file limit _ 6 refl;
  default_behind_name = read_refusal table predictive whole_file limit _ 9 refl;
  two_rests = read_refusal table predictive whole_file limit _ 5 refl;
  name_behind_block = read_refusal table predictive whole_file limit _ 4 refl;
  brackets_in_method = read_refusal table predictive whole_file limit _ 5 refl;
  one_in_brackets = read_refusal table predictive whole_file limit _ 5 refl;
  parameters_behind_arrow = read_refusal table predictive whole_file limit _ 2 refl;
  method_of_a_name = read_refusal table predictive whole_file limit _ 2 refl;
  block_in_jump = read_refusal table predictive whole_file limit _ 2 refl;
}
