-- One token tells how to go on: the checks of the rules.
use Rattle.std.proofs.Common.{◌≡◌, ℕ, suc, ◌<◌, max, Bool, true, false, ◌&&◌, List, ◌∷◌, Option, Some, None, inl, inr, refl, sym, ap, ◌∙◌, subst, arith, true≢false}
use Rattle.std.specs.Prelude.{nat_eq}
use Rattle.grammar.specs.Rules.{choice, El, named, deep_if}
use Rattle.grammar.specs.Checks.{nullable, first, continues, GoesOn, Included, Checks}
use Rattle.grammar.proofs.Depths.{deepest_flat}
use Rattle.grammar.proofs.Classes.{clear_at, continues_of}
use Rattle.grammar.proofs.CommonChecks.{separated_checks}
use Rattle.grammar.proofs.Lists.{and_both, and_split, or_left, or_right, or_split}
use Rattle.es5_tree.specs.declared.terminal.Keyword.TheVariants as keyword
use Rattle.es5_tree.specs.declared.terminal.Level.TheVariants as level
use Rattle.es5_tree.specs.declared.token.EsMark.TheVariants as mark
use Rattle.es5_tree.specs.declared.token.EsToken.{EsToken}
use Rattle.es5_tree.specs.declared.tree.EsKind.TheVariants as kind
use Rattle.es5_tree.specs.Grammar.Terminals.{size, op, key}
use Rattle.es5_tree.specs.Grammar.Nodes.{Node, depth, place, expr_of, stmt_of, exprs, stmts, expr_if, name_of, operator_of, binary, is_member, is_target, is_target_form, takes_else}
use Rattle.es5_tree.specs.Grammar.Names.{Name, script, statement, expr, items, pairs, params, sorts}
use Rattle.es5_tree.specs.Grammar.Expressions.{simple, parenthesized, more_items, item_list, array, more_pairs, value_and_more, pair_list, object_literal, more_params, param_list, parameters, statement_list, block, function_expression, primary, member_part, index_part, arguments, call_part, access_part, call_level, deletion, operation, unary_level, product_part, product_level, sum_part, sum_level, relation_part, relation_level, equality_part, equality_level, and_part, and_level, or_part, or_level, choices, conditional_level, assigned_part, assignment_level, ends_where}
use Rattle.es5_tree.specs.Grammar.Statements.{ended, variable_statement, empty_statement, expression_statement, condition, return_statement, throw_statement, break_statement, continue_statement, block_statement, first_branch, both_branches, if_statement, while_statement, catch_part, finally_part, handlers, try_statement, any_statement, whole_script, branches, or_jump}
use Rattle.es5_tree.specs.Grammar.Table.{table, statement_goes_on, goes_on}
use Rattle.es5_tree.specs.Grammar.Table.{continues as behind_name}
use Rattle.es5_tree.proofs.Grammar.Depths.{expr_of_depth, stmt_of_depth, exprs_depth, stmts_depth, expr_if_depth, token_depth, object_pairs_depth, function_of_depth, access_depth, unary_depth, tried_depth, branched_depth, array_depth, delete_depth, binary_depth, and_depth, or_depth, cond_depth, assign_depth, expr_statement_depth, block_statement_depth, while_statement_depth, break_statement_depth, continue_statement_depth, throw_statement_depth, empty_statement_depth, var_statement_depth, return_statement_depth}

flat_if : (o : Option EsToken) → deep_if (λ t. 0) o ≡ 0
flat_if None = refl
flat_if (Some t) = refl

-- ---- expressions

c_simple : Checks table simple
unfolding table simple parenthesized more_items item_list array more_pairs value_and_more pair_list object_literal more_params param_list parameters statement_list block function_expression primary member_part index_part arguments call_part access_part call_level deletion operation unary_level product_part product_level sum_part sum_level relation_part relation_level equality_part equality_level and_part and_level or_part or_level choices conditional_level assigned_part assignment_level ended variable_statement empty_statement expression_statement condition return_statement throw_statement break_statement continue_statement block_statement first_branch both_branches if_statement while_statement catch_part finally_part handlers try_statement any_statement whole_script
c_simple = (λ t. omega (arith, token_depth t.kind (place t)), tt)

c_parenthesized : Checks table parenthesized
unfolding table simple parenthesized more_items item_list array more_pairs value_and_more pair_list object_literal more_params param_list parameters statement_list block function_expression primary member_part index_part arguments call_part access_part call_level deletion operation unary_level product_part product_level sum_part sum_level relation_part relation_level equality_part equality_level and_part and_level or_part or_level choices conditional_level assigned_part assignment_level ended variable_statement empty_statement expression_statement condition return_statement throw_statement break_statement continue_statement block_statement first_branch both_branches if_statement while_statement catch_part finally_part handlers try_statement any_statement whole_script
c_parenthesized = (λ x. omega arith, (refl, tt, (refl, tt, tt)))

c_items : Checks table item_list
unfolding table simple parenthesized more_items item_list array more_pairs value_and_more pair_list object_literal more_params param_list parameters statement_list block function_expression primary member_part index_part arguments call_part access_part call_level deletion operation unary_level product_part product_level sum_part sum_level relation_part relation_level equality_part equality_level and_part and_level or_part or_level choices conditional_level assigned_part assignment_level ended variable_statement empty_statement expression_statement condition return_statement throw_statement break_statement continue_statement block_statement first_branch both_branches if_statement while_statement catch_part finally_part handlers try_statement any_statement whole_script
c_items = (refl, refl, (λ x. omega arith, (refl, tt, tt)), tt)

pub c_more_items : Checks table more_items
unfolding table simple parenthesized more_items item_list array more_pairs value_and_more pair_list object_literal more_params param_list parameters statement_list block function_expression primary member_part index_part arguments call_part access_part call_level deletion operation unary_level product_part product_level sum_part sum_level relation_part relation_level equality_part equality_level and_part and_level or_part or_level choices conditional_level assigned_part assignment_level ended variable_statement empty_statement expression_statement condition return_statement throw_statement break_statement continue_statement block_statement first_branch both_branches if_statement while_statement catch_part finally_part handlers try_statement any_statement whole_script
c_more_items = (refl, refl, (λ x. omega arith, (refl, tt, c_items)), tt)

c_array : Checks table array
unfolding table simple parenthesized more_items item_list array more_pairs value_and_more pair_list object_literal more_params param_list parameters statement_list block function_expression primary member_part index_part arguments call_part access_part call_level deletion operation unary_level product_part product_level sum_part sum_level relation_part relation_level equality_part equality_level and_part and_level or_part or_level choices conditional_level assigned_part assignment_level ended variable_statement empty_statement expression_statement condition return_statement throw_statement break_statement continue_statement block_statement first_branch both_branches if_statement while_statement catch_part finally_part handlers try_statement any_statement whole_script
c_array = (λ x. omega (arith, array_depth (exprs x.1) (place x.0), exprs_depth x.1), (refl, tt, (λ x. omega arith, (refl, c_items, tt))))

c_more_pairs : (seen : List (List ℕ)) → Checks table (more_pairs seen)
unfolding table simple parenthesized more_items item_list array more_pairs value_and_more pair_list object_literal more_params param_list parameters statement_list block function_expression primary member_part index_part arguments call_part access_part call_level deletion operation unary_level product_part product_level sum_part sum_level relation_part relation_level equality_part equality_level and_part and_level or_part or_level choices conditional_level assigned_part assignment_level ended variable_statement empty_statement expression_statement condition return_statement throw_statement break_statement continue_statement block_statement first_branch both_branches if_statement while_statement catch_part finally_part handlers try_statement any_statement whole_script
c_more_pairs seen = (refl, refl, (λ x. omega arith, (refl, tt, (refl, refl, tt, tt))), tt)

c_value : (seen : List (List ℕ)) → Checks table (value_and_more seen)
unfolding table simple parenthesized more_items item_list array more_pairs value_and_more pair_list object_literal more_params param_list parameters statement_list block function_expression primary member_part index_part arguments call_part access_part call_level deletion operation unary_level product_part product_level sum_part sum_level relation_part relation_level equality_part equality_level and_part and_level or_part or_level choices conditional_level assigned_part assignment_level ended variable_statement empty_statement expression_statement condition return_statement throw_statement break_statement continue_statement block_statement first_branch both_branches if_statement while_statement catch_part finally_part handlers try_statement any_statement whole_script
c_value seen = (λ x. omega arith, (refl, tt, (refl, tt, c_more_pairs seen)))

pub c_pairs : (seen : List (List ℕ)) → Checks table (pair_list seen)
unfolding table simple parenthesized more_items item_list array more_pairs value_and_more pair_list object_literal more_params param_list parameters statement_list block function_expression primary member_part index_part arguments call_part access_part call_level deletion operation unary_level product_part product_level sum_part sum_level relation_part relation_level equality_part equality_level and_part and_level or_part or_level choices conditional_level assigned_part assignment_level ended variable_statement empty_statement expression_statement condition return_statement throw_statement break_statement continue_statement block_statement first_branch both_branches if_statement while_statement catch_part finally_part handlers try_statement any_statement whole_script
c_pairs seen = (λ x. omega arith, (refl, tt, λ t. (refl, refl, λ h. h, c_value (name_of t ∷ seen))))

c_object : Checks table object_literal
unfolding table simple parenthesized more_items item_list array more_pairs value_and_more pair_list object_literal more_params param_list parameters statement_list block function_expression primary member_part index_part arguments call_part access_part call_level deletion operation unary_level product_part product_level sum_part sum_level relation_part relation_level equality_part equality_level and_part and_level or_part or_level choices conditional_level assigned_part assignment_level ended variable_statement empty_statement expression_statement condition return_statement throw_statement break_statement continue_statement block_statement first_branch both_branches if_statement while_statement catch_part finally_part handlers try_statement any_statement whole_script
c_object = (λ x. omega (arith, object_pairs_depth x.1 (place x.0)), (refl, tt, (λ x. omega arith, (refl, (refl, refl, tt, tt), tt))))

c_more_params : (seen : List (List ℕ)) → Checks table (more_params seen)
unfolding table simple parenthesized more_items item_list array more_pairs value_and_more pair_list object_literal more_params param_list parameters statement_list block function_expression primary member_part index_part arguments call_part access_part call_level deletion operation unary_level product_part product_level sum_part sum_level relation_part relation_level equality_part equality_level and_part and_level or_part or_level choices conditional_level assigned_part assignment_level ended variable_statement empty_statement expression_statement condition return_statement throw_statement break_statement continue_statement block_statement first_branch both_branches if_statement while_statement catch_part finally_part handlers try_statement any_statement whole_script
c_more_params seen = (refl, refl, (λ x. omega arith, (refl, tt, tt)), tt)

pub c_params : (seen : List (List ℕ)) → Checks table (param_list seen)
unfolding table simple parenthesized more_items item_list array more_pairs value_and_more pair_list object_literal more_params param_list parameters statement_list block function_expression primary member_part index_part arguments call_part access_part call_level deletion operation unary_level product_part product_level sum_part sum_level relation_part relation_level equality_part equality_level and_part and_level or_part or_level choices conditional_level assigned_part assignment_level ended variable_statement empty_statement expression_statement condition return_statement throw_statement break_statement continue_statement block_statement first_branch both_branches if_statement while_statement catch_part finally_part handlers try_statement any_statement whole_script
c_params seen = (λ x. omega arith, (refl, tt, λ t. (refl, refl, λ h. refl, c_more_params (name_of t ∷ seen))))

c_parameters : Checks table parameters
unfolding table simple parenthesized more_items item_list array more_pairs value_and_more pair_list object_literal more_params param_list parameters statement_list block function_expression primary member_part index_part arguments call_part access_part call_level deletion operation unary_level product_part product_level sum_part sum_level relation_part relation_level equality_part equality_level and_part and_level or_part or_level choices conditional_level assigned_part assignment_level ended variable_statement empty_statement expression_statement condition return_statement throw_statement break_statement continue_statement block_statement first_branch both_branches if_statement while_statement catch_part finally_part handlers try_statement any_statement whole_script
c_parameters = (λ x. omega arith, (refl, tt, (λ x. omega arith, (refl, (refl, refl, tt, tt), tt))))

c_list : (f l : Bool) → Checks table (statement_list f l)
unfolding table simple parenthesized more_items item_list array more_pairs value_and_more pair_list object_literal more_params param_list parameters statement_list block function_expression primary member_part index_part arguments call_part access_part call_level deletion operation unary_level product_part product_level sum_part sum_level relation_part relation_level equality_part equality_level and_part and_level or_part or_level choices conditional_level assigned_part assignment_level ended variable_statement empty_statement expression_statement condition return_statement throw_statement break_statement continue_statement block_statement first_branch both_branches if_statement while_statement catch_part finally_part handlers try_statement any_statement whole_script
c_list f l = (refl, refl, (λ x. refl, tt))

c_block : (f l : Bool) → Checks table (block f l)
unfolding table simple parenthesized more_items item_list array more_pairs value_and_more pair_list object_literal more_params param_list parameters statement_list block function_expression primary member_part index_part arguments call_part access_part call_level deletion operation unary_level product_part product_level sum_part sum_level relation_part relation_level equality_part equality_level and_part and_level or_part or_level choices conditional_level assigned_part assignment_level ended variable_statement empty_statement expression_statement condition return_statement throw_statement break_statement continue_statement block_statement first_branch both_branches if_statement while_statement catch_part finally_part handlers try_statement any_statement whole_script
c_block f l = (λ x. omega arith, (refl, tt, (λ x. omega arith, (refl, c_list f l, tt))))

c_function : Checks table function_expression
unfolding table simple parenthesized more_items item_list array more_pairs value_and_more pair_list object_literal more_params param_list parameters statement_list block function_expression primary member_part index_part arguments call_part access_part call_level deletion operation unary_level product_part product_level sum_part sum_level relation_part relation_level equality_part equality_level and_part and_level or_part or_level choices conditional_level assigned_part assignment_level ended variable_statement empty_statement expression_statement condition return_statement throw_statement break_statement continue_statement block_statement first_branch both_branches if_statement while_statement catch_part finally_part handlers try_statement any_statement whole_script
c_function = (λ x. omega (arith, function_of_depth (x.1.0) (x.1.1.0) (x.1.1.1) (place x.0), flat_if (x.1.0), deepest_flat (x.1.1.0)), (refl, tt, (refl, (refl, refl, (λ t. refl, tt), tt), (refl, c_parameters, c_block true false))))

c_primary : Checks table primary
unfolding table simple parenthesized more_items item_list array more_pairs value_and_more pair_list object_literal more_params param_list parameters statement_list block function_expression primary member_part index_part arguments call_part access_part call_level deletion operation unary_level product_part product_level sum_part sum_level relation_part relation_level equality_part equality_level and_part and_level or_part or_level choices conditional_level assigned_part assignment_level ended variable_statement empty_statement expression_statement condition return_statement throw_statement break_statement continue_statement block_statement first_branch both_branches if_statement while_statement catch_part finally_part handlers try_statement any_statement whole_script
c_primary = (refl, refl, c_simple, (refl, refl, c_parenthesized, (refl, refl, c_array, (refl, refl, c_object, c_function))))

c_member : Checks table member_part
unfolding table simple parenthesized more_items item_list array more_pairs value_and_more pair_list object_literal more_params param_list parameters statement_list block function_expression primary member_part index_part arguments call_part access_part call_level deletion operation unary_level product_part product_level sum_part sum_level relation_part relation_level equality_part equality_level and_part and_level or_part or_level choices conditional_level assigned_part assignment_level ended variable_statement empty_statement expression_statement condition return_statement throw_statement break_statement continue_statement block_statement first_branch both_branches if_statement while_statement catch_part finally_part handlers try_statement any_statement whole_script
c_member = (λ t. omega arith, (λ x. omega arith, (refl, tt, tt)))

c_index : Checks table index_part
unfolding table simple parenthesized more_items item_list array more_pairs value_and_more pair_list object_literal more_params param_list parameters statement_list block function_expression primary member_part index_part arguments call_part access_part call_level deletion operation unary_level product_part product_level sum_part sum_level relation_part relation_level equality_part equality_level and_part and_level or_part or_level choices conditional_level assigned_part assignment_level ended variable_statement empty_statement expression_statement condition return_statement throw_statement break_statement continue_statement block_statement first_branch both_branches if_statement while_statement catch_part finally_part handlers try_statement any_statement whole_script
c_index = (λ x. omega arith, (refl, tt, (λ x. omega arith, (refl, tt, tt))))

c_arguments : Checks table arguments
unfolding table simple parenthesized more_items item_list array more_pairs value_and_more pair_list object_literal more_params param_list parameters statement_list block function_expression primary member_part index_part arguments call_part access_part call_level deletion operation unary_level product_part product_level sum_part sum_level relation_part relation_level equality_part equality_level and_part and_level or_part or_level choices conditional_level assigned_part assignment_level ended variable_statement empty_statement expression_statement condition return_statement throw_statement break_statement continue_statement block_statement first_branch both_branches if_statement while_statement catch_part finally_part handlers try_statement any_statement whole_script
c_arguments = (refl, refl, separated_checks table (named (expr level.Assignment)) tt (op mark.Comma) refl, tt)

c_call_part : Checks table call_part
unfolding table simple parenthesized more_items item_list array more_pairs value_and_more pair_list object_literal more_params param_list parameters statement_list block function_expression primary member_part index_part arguments call_part access_part call_level deletion operation unary_level product_part product_level sum_part sum_level relation_part relation_level equality_part equality_level and_part and_level or_part or_level choices conditional_level assigned_part assignment_level ended variable_statement empty_statement expression_statement condition return_statement throw_statement break_statement continue_statement block_statement first_branch both_branches if_statement while_statement catch_part finally_part handlers try_statement any_statement whole_script
c_call_part = (λ x. omega arith, (refl, tt, (λ x. omega arith, (refl, c_arguments, tt))))

c_access : Checks table access_part
unfolding table simple parenthesized more_items item_list array more_pairs value_and_more pair_list object_literal more_params param_list parameters statement_list block function_expression primary member_part index_part arguments call_part access_part call_level deletion operation unary_level product_part product_level sum_part sum_level relation_part relation_level equality_part equality_level and_part and_level or_part or_level choices conditional_level assigned_part assignment_level ended variable_statement empty_statement expression_statement condition return_statement throw_statement break_statement continue_statement block_statement first_branch both_branches if_statement while_statement catch_part finally_part handlers try_statement any_statement whole_script
c_access = (refl, refl, c_member, (refl, refl, c_index, c_call_part))

pub c_call : Checks table call_level
unfolding table simple parenthesized more_items item_list array more_pairs value_and_more pair_list object_literal more_params param_list parameters statement_list block function_expression primary member_part index_part arguments call_part access_part call_level deletion operation unary_level product_part product_level sum_part sum_level relation_part relation_level equality_part equality_level and_part and_level or_part or_level choices conditional_level assigned_part assignment_level ended variable_statement empty_statement expression_statement condition return_statement throw_statement break_statement continue_statement block_statement first_branch both_branches if_statement while_statement catch_part finally_part handlers try_statement any_statement whole_script
c_call = (refl, refl, refl, refl, λ l x. omega (arith, access_depth (expr_of l.1) (x.0.0) (exprs (x.0.1)) x.1 (place l.0), expr_of_depth l.1, exprs_depth (x.0.1)), c_primary, c_access)

c_ends : (c : Bool) → Included table (first table (ends_where c)) (λ n. false) × Included table (continues table (ends_where c)) (λ n. false) × (nullable table (ends_where c) ≡ true → true ≡ true) × Checks table (ends_where c)
unfolding table simple parenthesized more_items item_list array more_pairs value_and_more pair_list object_literal more_params param_list parameters statement_list block function_expression primary member_part index_part arguments call_part access_part call_level deletion operation unary_level product_part product_level sum_part sum_level relation_part relation_level equality_part equality_level and_part and_level or_part or_level choices conditional_level assigned_part assignment_level ended variable_statement empty_statement expression_statement condition return_statement throw_statement break_statement continue_statement block_statement first_branch both_branches if_statement while_statement catch_part finally_part handlers try_statement any_statement whole_script
c_ends true = (refl, refl, λ h. refl, tt)
c_ends false = (refl, refl, λ h. refl, (λ t. refl, tt))

c_deletion : Checks table deletion
unfolding table simple parenthesized more_items item_list array more_pairs value_and_more pair_list object_literal more_params param_list parameters statement_list block function_expression primary member_part index_part arguments call_part access_part call_level deletion operation unary_level product_part product_level sum_part sum_level relation_part relation_level equality_part equality_level and_part and_level or_part or_level choices conditional_level assigned_part assignment_level ended variable_statement empty_statement expression_statement condition return_statement throw_statement break_statement continue_statement block_statement first_branch both_branches if_statement while_statement catch_part finally_part handlers try_statement any_statement whole_script
c_deletion = (λ x. omega (arith, delete_depth (expr_of (x.1.0)) (place x.0), expr_of_depth (x.1.0)), (refl, tt, (refl, tt, λ e. c_ends (is_member e))))

c_operation : Checks table operation
unfolding table simple parenthesized more_items item_list array more_pairs value_and_more pair_list object_literal more_params param_list parameters statement_list block function_expression primary member_part index_part arguments call_part access_part call_level deletion operation unary_level product_part product_level sum_part sum_level relation_part relation_level equality_part equality_level and_part and_level or_part or_level choices conditional_level assigned_part assignment_level ended variable_statement empty_statement expression_statement condition return_statement throw_statement break_statement continue_statement block_statement first_branch both_branches if_statement while_statement catch_part finally_part handlers try_statement any_statement whole_script
c_operation = (λ x. omega (arith, unary_depth (x.0).kind (expr_of x.1) (place x.0), expr_of_depth x.1), (refl, tt, tt))

pub c_unary : Checks table unary_level
unfolding table simple parenthesized more_items item_list array more_pairs value_and_more pair_list object_literal more_params param_list parameters statement_list block function_expression primary member_part index_part arguments call_part access_part call_level deletion operation unary_level product_part product_level sum_part sum_level relation_part relation_level equality_part equality_level and_part and_level or_part or_level choices conditional_level assigned_part assignment_level ended variable_statement empty_statement expression_statement condition return_statement throw_statement break_statement continue_statement block_statement first_branch both_branches if_statement while_statement catch_part finally_part handlers try_statement any_statement whole_script
c_unary = (refl, refl, c_operation, (refl, refl, c_deletion, c_call))

binary_of_depth : (l x : EsToken × Node) → depth (binary l x).1 ≡ suc (max (depth l.1) (depth x.1))
binary_of_depth l x = omega (arith, binary_depth (operator_of x.0.kind) (expr_of l.1) (expr_of x.1) (place l.0), expr_of_depth l.1, expr_of_depth x.1)

pub c_product : Checks table product_level
unfolding table simple parenthesized more_items item_list array more_pairs value_and_more pair_list object_literal more_params param_list parameters statement_list block function_expression primary member_part index_part arguments call_part access_part call_level deletion operation unary_level product_part product_level sum_part sum_level relation_part relation_level equality_part equality_level and_part and_level or_part or_level choices conditional_level assigned_part assignment_level ended variable_statement empty_statement expression_statement condition return_statement throw_statement break_statement continue_statement block_statement first_branch both_branches if_statement while_statement catch_part finally_part handlers try_statement any_statement whole_script
c_product = (refl, refl, refl, refl, λ l x. omega (arith, binary_of_depth l x), c_unary, (refl, tt, tt))

pub c_sum : Checks table sum_level
unfolding table simple parenthesized more_items item_list array more_pairs value_and_more pair_list object_literal more_params param_list parameters statement_list block function_expression primary member_part index_part arguments call_part access_part call_level deletion operation unary_level product_part product_level sum_part sum_level relation_part relation_level equality_part equality_level and_part and_level or_part or_level choices conditional_level assigned_part assignment_level ended variable_statement empty_statement expression_statement condition return_statement throw_statement break_statement continue_statement block_statement first_branch both_branches if_statement while_statement catch_part finally_part handlers try_statement any_statement whole_script
c_sum = (refl, refl, refl, refl, λ l x. omega (arith, binary_of_depth l x), c_product, (refl, tt, tt))

pub c_relation : Checks table relation_level
unfolding table simple parenthesized more_items item_list array more_pairs value_and_more pair_list object_literal more_params param_list parameters statement_list block function_expression primary member_part index_part arguments call_part access_part call_level deletion operation unary_level product_part product_level sum_part sum_level relation_part relation_level equality_part equality_level and_part and_level or_part or_level choices conditional_level assigned_part assignment_level ended variable_statement empty_statement expression_statement condition return_statement throw_statement break_statement continue_statement block_statement first_branch both_branches if_statement while_statement catch_part finally_part handlers try_statement any_statement whole_script
c_relation = (refl, refl, refl, refl, λ l x. omega (arith, binary_of_depth l x), c_sum, (refl, tt, tt))

pub c_equality : Checks table equality_level
unfolding table simple parenthesized more_items item_list array more_pairs value_and_more pair_list object_literal more_params param_list parameters statement_list block function_expression primary member_part index_part arguments call_part access_part call_level deletion operation unary_level product_part product_level sum_part sum_level relation_part relation_level equality_part equality_level and_part and_level or_part or_level choices conditional_level assigned_part assignment_level ended variable_statement empty_statement expression_statement condition return_statement throw_statement break_statement continue_statement block_statement first_branch both_branches if_statement while_statement catch_part finally_part handlers try_statement any_statement whole_script
c_equality = (refl, refl, refl, refl, λ l x. omega (arith, binary_of_depth l x), c_relation, (refl, tt, tt))

pub c_and : Checks table and_level
unfolding table simple parenthesized more_items item_list array more_pairs value_and_more pair_list object_literal more_params param_list parameters statement_list block function_expression primary member_part index_part arguments call_part access_part call_level deletion operation unary_level product_part product_level sum_part sum_level relation_part relation_level equality_part equality_level and_part and_level or_part or_level choices conditional_level assigned_part assignment_level ended variable_statement empty_statement expression_statement condition return_statement throw_statement break_statement continue_statement block_statement first_branch both_branches if_statement while_statement catch_part finally_part handlers try_statement any_statement whole_script
c_and = (refl, refl, refl, refl, λ l r. omega (arith, and_depth (expr_of l.1) (expr_of r) (place l.0), expr_of_depth l.1, expr_of_depth r), c_equality, (λ x. omega arith, (refl, tt, tt)))

c_or : Checks table or_level
unfolding table simple parenthesized more_items item_list array more_pairs value_and_more pair_list object_literal more_params param_list parameters statement_list block function_expression primary member_part index_part arguments call_part access_part call_level deletion operation unary_level product_part product_level sum_part sum_level relation_part relation_level equality_part equality_level and_part and_level or_part or_level choices conditional_level assigned_part assignment_level ended variable_statement empty_statement expression_statement condition return_statement throw_statement break_statement continue_statement block_statement first_branch both_branches if_statement while_statement catch_part finally_part handlers try_statement any_statement whole_script
c_or = (refl, refl, refl, refl, λ l r. omega (arith, or_depth (expr_of l.1) (expr_of r) (place l.0), expr_of_depth l.1, expr_of_depth r), c_and, (λ x. omega arith, (refl, tt, tt)))

c_choices : Checks table choices
unfolding table simple parenthesized more_items item_list array more_pairs value_and_more pair_list object_literal more_params param_list parameters statement_list block function_expression primary member_part index_part arguments call_part access_part call_level deletion operation unary_level product_part product_level sum_part sum_level relation_part relation_level equality_part equality_level and_part and_level or_part or_level choices conditional_level assigned_part assignment_level ended variable_statement empty_statement expression_statement condition return_statement throw_statement break_statement continue_statement block_statement first_branch both_branches if_statement while_statement catch_part finally_part handlers try_statement any_statement whole_script
c_choices = (λ x. omega arith, (refl, tt, (refl, tt, (λ x. omega arith, (refl, tt, tt)))))

c_conditional : Checks table conditional_level
unfolding table simple parenthesized more_items item_list array more_pairs value_and_more pair_list object_literal more_params param_list parameters statement_list block function_expression primary member_part index_part arguments call_part access_part call_level deletion operation unary_level product_part product_level sum_part sum_level relation_part relation_level equality_part equality_level and_part and_level or_part or_level choices conditional_level assigned_part assignment_level ended variable_statement empty_statement expression_statement condition return_statement throw_statement break_statement continue_statement block_statement first_branch both_branches if_statement while_statement catch_part finally_part handlers try_statement any_statement whole_script
c_conditional = (inl refl, refl, refl, λ l x k. omega (arith, cond_depth (expr_of l.1) (expr_of x.0) (expr_of x.1) (place l.0), expr_of_depth l.1, expr_of_depth x.0, expr_of_depth x.1), c_or, c_choices)

pub bounded : (k : Name) (x : El EsToken Node (sorts k)) (t : ℕ) → goes_on k x t ≡ true → behind_name k t ≡ true
bounded (statement f l) x t g = elim (or_split (key keyword.Finally t) (key keyword.Else t && nat_eq 1 x.1) g) [
  | inl h ↦ or_right (key keyword.Else t) _ h
  | inr h ↦ or_left (key keyword.Else t) _ ((and_split (key keyword.Else t) (nat_eq 1 x.1) h).0)
]
bounded script x t g = g
bounded (expr l) x t g = g
bounded items x t g = g
bounded (pairs seen) x t g = g
bounded (params seen) x t g = g

-- no `=` goes on with what it may stand behind, since a conditional expression is no target
target_alone : (l : EsToken × Node) (t : ℕ) → t < size → is_target l.1 ≡ true → GoesOn table conditional_level l t → op mark.Assign t ≡ true → ⊥
unfolding table simple parenthesized more_items item_list array more_pairs value_and_more pair_list object_literal more_params param_list parameters statement_list block function_expression primary member_part index_part arguments call_part access_part call_level deletion operation unary_level product_part product_level sum_part sum_level relation_part relation_level equality_part equality_level and_part and_level or_part or_level choices conditional_level assigned_part assignment_level ended variable_statement empty_statement expression_statement condition return_statement throw_statement break_statement continue_statement block_statement first_branch both_branches if_statement while_statement catch_part finally_part handlers try_statement any_statement whole_script is_target expr_of
target_alone l t less k (inl g) h = clear_at size (λ n. continues table or_level n && op mark.Assign n) t refl less (and_both _ _ (continues_of table bounded or_level l t g) h)
target_alone l t less k (inr (inl (m, x, e, true_, g))) h =
    true≢false (sym (subst (λ z. is_target z.1 ≡ true) e k) ∙ ap is_target_form (kind.outs-Cond (expr_of m.1) (expr_of x.0) (expr_of x.1)))
target_alone l t less k (inr (inr (true_, g))) h = clear_at size (λ n. op mark.Question n && op mark.Assign n) t refl less (and_both _ _ g h)

pub c_assignment : Checks table assignment_level
unfolding table simple parenthesized more_items item_list array more_pairs value_and_more pair_list object_literal more_params param_list parameters statement_list block function_expression primary member_part index_part arguments call_part access_part call_level deletion operation unary_level product_part product_level sum_part sum_level relation_part relation_level equality_part equality_level and_part and_level or_part or_level choices conditional_level assigned_part assignment_level ended variable_statement empty_statement expression_statement condition return_statement throw_statement break_statement continue_statement block_statement first_branch both_branches if_statement while_statement catch_part finally_part handlers try_statement any_statement whole_script
c_assignment = (inr target_alone, refl, refl, λ l r k. omega (arith, assign_depth (expr_of l.1) (expr_of r) (place l.0), expr_of_depth l.1, expr_of_depth r), c_conditional, (λ x. omega arith, (refl, tt, tt)))

-- ---- statements

c_ended : Checks table ended
unfolding table simple parenthesized more_items item_list array more_pairs value_and_more pair_list object_literal more_params param_list parameters statement_list block function_expression primary member_part index_part arguments call_part access_part call_level deletion operation unary_level product_part product_level sum_part sum_level relation_part relation_level equality_part equality_level and_part and_level or_part or_level choices conditional_level assigned_part assignment_level ended variable_statement empty_statement expression_statement condition return_statement throw_statement break_statement continue_statement block_statement first_branch both_branches if_statement while_statement catch_part finally_part handlers try_statement any_statement whole_script
c_ended = (λ x. omega arith, (refl, tt, tt))

c_variable : Checks table variable_statement
unfolding table simple parenthesized more_items item_list array more_pairs value_and_more pair_list object_literal more_params param_list parameters statement_list block function_expression primary member_part index_part arguments call_part access_part call_level deletion operation unary_level product_part product_level sum_part sum_level relation_part relation_level equality_part equality_level and_part and_level or_part or_level choices conditional_level assigned_part assignment_level ended variable_statement empty_statement expression_statement condition return_statement throw_statement break_statement continue_statement block_statement first_branch both_branches if_statement while_statement catch_part finally_part handlers try_statement any_statement whole_script
c_variable = (λ x. omega (arith, var_statement_depth (name_of x.0) (expr_if x.1), expr_if_depth x.1), (λ x. omega arith, (refl, tt, (refl, tt, (λ x. omega arith, (refl, (refl, refl, (λ x. refl, (λ x. omega arith, (refl, tt, tt))), tt), tt))))))

c_empty : Checks table empty_statement
unfolding table simple parenthesized more_items item_list array more_pairs value_and_more pair_list object_literal more_params param_list parameters statement_list block function_expression primary member_part index_part arguments call_part access_part call_level deletion operation unary_level product_part product_level sum_part sum_level relation_part relation_level equality_part equality_level and_part and_level or_part or_level choices conditional_level assigned_part assignment_level ended variable_statement empty_statement expression_statement condition return_statement throw_statement break_statement continue_statement block_statement first_branch both_branches if_statement while_statement catch_part finally_part handlers try_statement any_statement whole_script
c_empty = (λ t. empty_statement_depth, tt)

c_expression : Checks table expression_statement
unfolding table simple parenthesized more_items item_list array more_pairs value_and_more pair_list object_literal more_params param_list parameters statement_list block function_expression primary member_part index_part arguments call_part access_part call_level deletion operation unary_level product_part product_level sum_part sum_level relation_part relation_level equality_part equality_level and_part and_level or_part or_level choices conditional_level assigned_part assignment_level ended variable_statement empty_statement expression_statement condition return_statement throw_statement break_statement continue_statement block_statement first_branch both_branches if_statement while_statement catch_part finally_part handlers try_statement any_statement whole_script
c_expression = (λ e. omega (arith, expr_statement_depth (expr_of e), expr_of_depth e), (refl, c_ended))

c_condition : Checks table condition
unfolding table simple parenthesized more_items item_list array more_pairs value_and_more pair_list object_literal more_params param_list parameters statement_list block function_expression primary member_part index_part arguments call_part access_part call_level deletion operation unary_level product_part product_level sum_part sum_level relation_part relation_level equality_part equality_level and_part and_level or_part or_level choices conditional_level assigned_part assignment_level ended variable_statement empty_statement expression_statement condition return_statement throw_statement break_statement continue_statement block_statement first_branch both_branches if_statement while_statement catch_part finally_part handlers try_statement any_statement whole_script
c_condition = (λ x. omega arith, (refl, tt, (λ x. omega arith, (refl, tt, tt))))

c_return : Checks table return_statement
unfolding table simple parenthesized more_items item_list array more_pairs value_and_more pair_list object_literal more_params param_list parameters statement_list block function_expression primary member_part index_part arguments call_part access_part call_level deletion operation unary_level product_part product_level sum_part sum_level relation_part relation_level equality_part equality_level and_part and_level or_part or_level choices conditional_level assigned_part assignment_level ended variable_statement empty_statement expression_statement condition return_statement throw_statement break_statement continue_statement block_statement first_branch both_branches if_statement while_statement catch_part finally_part handlers try_statement any_statement whole_script
c_return = (λ x. omega (arith, return_statement_depth (expr_if x), expr_if_depth x), (λ x. omega arith, (refl, tt, (λ x. omega arith, (refl, (refl, refl, (λ x. refl, tt), tt), tt)))))

c_throw : Checks table throw_statement
unfolding table simple parenthesized more_items item_list array more_pairs value_and_more pair_list object_literal more_params param_list parameters statement_list block function_expression primary member_part index_part arguments call_part access_part call_level deletion operation unary_level product_part product_level sum_part sum_level relation_part relation_level equality_part equality_level and_part and_level or_part or_level choices conditional_level assigned_part assignment_level ended variable_statement empty_statement expression_statement condition return_statement throw_statement break_statement continue_statement block_statement first_branch both_branches if_statement while_statement catch_part finally_part handlers try_statement any_statement whole_script
c_throw = (λ e. omega (arith, throw_statement_depth (expr_of e), expr_of_depth e), (λ x. omega arith, (refl, tt, c_ended)))

c_break : Checks table break_statement
unfolding table simple parenthesized more_items item_list array more_pairs value_and_more pair_list object_literal more_params param_list parameters statement_list block function_expression primary member_part index_part arguments call_part access_part call_level deletion operation unary_level product_part product_level sum_part sum_level relation_part relation_level equality_part equality_level and_part and_level or_part or_level choices conditional_level assigned_part assignment_level ended variable_statement empty_statement expression_statement condition return_statement throw_statement break_statement continue_statement block_statement first_branch both_branches if_statement while_statement catch_part finally_part handlers try_statement any_statement whole_script
c_break = (λ t. break_statement_depth, (λ x. omega arith, (refl, tt, tt)))

c_continue : Checks table continue_statement
unfolding table simple parenthesized more_items item_list array more_pairs value_and_more pair_list object_literal more_params param_list parameters statement_list block function_expression primary member_part index_part arguments call_part access_part call_level deletion operation unary_level product_part product_level sum_part sum_level relation_part relation_level equality_part equality_level and_part and_level or_part or_level choices conditional_level assigned_part assignment_level ended variable_statement empty_statement expression_statement condition return_statement throw_statement break_statement continue_statement block_statement first_branch both_branches if_statement while_statement catch_part finally_part handlers try_statement any_statement whole_script
c_continue = (λ t. continue_statement_depth, (λ x. omega arith, (refl, tt, tt)))

c_block_statement : (f l : Bool) → Checks table (block_statement f l)
unfolding table simple parenthesized more_items item_list array more_pairs value_and_more pair_list object_literal more_params param_list parameters statement_list block function_expression primary member_part index_part arguments call_part access_part call_level deletion operation unary_level product_part product_level sum_part sum_level relation_part relation_level equality_part equality_level and_part and_level or_part or_level choices conditional_level assigned_part assignment_level ended variable_statement empty_statement expression_statement condition return_statement throw_statement break_statement continue_statement block_statement first_branch both_branches if_statement while_statement catch_part finally_part handlers try_statement any_statement whole_script
c_block_statement f l = (λ xs. omega (arith, block_statement_depth (stmts xs), stmts_depth xs), c_block f l)

c_first : (f l : Bool) → Checks table (first_branch f l)
unfolding table simple parenthesized more_items item_list array more_pairs value_and_more pair_list object_literal more_params param_list parameters statement_list block function_expression primary member_part index_part arguments call_part access_part call_level deletion operation unary_level product_part product_level sum_part sum_level relation_part relation_level equality_part equality_level and_part and_level or_part or_level choices conditional_level assigned_part assignment_level ended variable_statement empty_statement expression_statement condition return_statement throw_statement break_statement continue_statement block_statement first_branch both_branches if_statement while_statement catch_part finally_part handlers try_statement any_statement whole_script
c_first f l = (λ x. omega arith, (λ x. omega arith, (refl, tt, (refl, c_condition, tt))))

none_deep : (x : El EsToken Node branches) → takes_else x ≡ true → deep_if (λ y. depth y.0) x.1 ≡ 0
none_deep (x, None) k = refl
none_deep (x, Some y) k = absurd (true≢false (sym k))

equal_by : (m n : ℕ) → nat_eq m n ≡ true → m ≡ n
equal_by m n h = search (arith, h)

first_takes : (x : El EsToken Node branches) → takes_else x ≡ true → nat_eq 0 (x.0.1.1) ≡ true
first_takes (x, None) k = k
first_takes (x, Some y) k = absurd (true≢false (sym k))

-- what goes on behind the statement of an `if`
pub first_goes_on : (f l : Bool) (x : El EsToken Node branches) (t : ℕ) → GoesOn table (first_branch f l) x t → statement_goes_on (x.0.1.1) t ≡ true
unfolding table simple parenthesized more_items item_list array more_pairs value_and_more pair_list object_literal more_params param_list parameters statement_list block function_expression primary member_part index_part arguments call_part access_part call_level deletion operation unary_level product_part product_level sum_part sum_level relation_part relation_level equality_part equality_level and_part and_level or_part or_level choices conditional_level assigned_part assignment_level ended variable_statement empty_statement expression_statement condition return_statement throw_statement break_statement continue_statement block_statement first_branch both_branches if_statement while_statement catch_part finally_part handlers try_statement any_statement whole_script
first_goes_on f l x t (a, e, (b, e', inl (inl h))) = subst (λ z. statement_goes_on (z.0.1.1) t ≡ true) (sym e) (subst (λ z. statement_goes_on (z.1.1) t ≡ true) (sym e') h)
first_goes_on f l x t (a, e, (b, e', inl (inr h))) = absurd (true≢false (sym h.0))
first_goes_on f l x t (a, e, (b, e', inr h)) = absurd (true≢false (sym h.0))

clash : (m t : ℕ) → nat_eq 0 m ≡ true → key keyword.Else t ≡ true → statement_goes_on m t ≡ true → ⊥
clash m t k h g = elim (or_split (key keyword.Finally t) (key keyword.Else t && nat_eq 1 m) g) [
  | inl a ↦ omega (arith, equal_by 10 t h, equal_by 12 t a)
  | inr a ↦ omega (arith, equal_by 0 m k, equal_by 1 m ((and_split (key keyword.Else t) (nat_eq 1 m) a).1))
]

else_alone : (f l : Bool) (x : El EsToken Node branches) (t : ℕ) → t < size → takes_else x ≡ true → GoesOn table (first_branch f l) x t → key keyword.Else t ≡ true → ⊥
else_alone f l x t less k g h = clash (x.0.1.1) t (first_takes x k) h (first_goes_on f l x t g)

c_both : (f l : Bool) → Checks table (both_branches f l)
unfolding table simple parenthesized more_items item_list array more_pairs value_and_more pair_list object_literal more_params param_list parameters statement_list block function_expression primary member_part index_part arguments call_part access_part call_level deletion operation unary_level product_part product_level sum_part sum_level relation_part relation_level equality_part equality_level and_part and_level or_part or_level choices conditional_level assigned_part assignment_level ended variable_statement empty_statement expression_statement condition return_statement throw_statement break_statement continue_statement block_statement first_branch both_branches if_statement while_statement catch_part finally_part handlers try_statement any_statement whole_script
c_both f l = (inr (else_alone f l), refl, refl, λ x y k. omega (arith, none_deep x k), c_first f l, (λ x. omega arith, (refl, tt, tt)))

c_if : (f l : Bool) → Checks table (if_statement f l)
unfolding table simple parenthesized more_items item_list array more_pairs value_and_more pair_list object_literal more_params param_list parameters statement_list block function_expression primary member_part index_part arguments call_part access_part call_level deletion operation unary_level product_part product_level sum_part sum_level relation_part relation_level equality_part equality_level and_part and_level or_part or_level choices conditional_level assigned_part assignment_level ended variable_statement empty_statement expression_statement condition return_statement throw_statement break_statement continue_statement block_statement first_branch both_branches if_statement while_statement catch_part finally_part handlers try_statement any_statement whole_script
c_if f l = (λ x. branched_depth x, c_both f l)

c_while : (f l : Bool) → Checks table (while_statement f l)
unfolding table simple parenthesized more_items item_list array more_pairs value_and_more pair_list object_literal more_params param_list parameters statement_list block function_expression primary member_part index_part arguments call_part access_part call_level deletion operation unary_level product_part product_level sum_part sum_level relation_part relation_level equality_part equality_level and_part and_level or_part or_level choices conditional_level assigned_part assignment_level ended variable_statement empty_statement expression_statement condition return_statement throw_statement break_statement continue_statement block_statement first_branch both_branches if_statement while_statement catch_part finally_part handlers try_statement any_statement whole_script
c_while f l = (λ x. omega (arith, while_statement_depth (expr_of x.0) (stmt_of (x.1.0)), expr_of_depth x.0, stmt_of_depth (x.1.0)), (λ x. omega arith, (refl, tt, (refl, c_condition, tt))))

c_catch : (f l : Bool) → Checks table (catch_part f l)
unfolding table simple parenthesized more_items item_list array more_pairs value_and_more pair_list object_literal more_params param_list parameters statement_list block function_expression primary member_part index_part arguments call_part access_part call_level deletion operation unary_level product_part product_level sum_part sum_level relation_part relation_level equality_part equality_level and_part and_level or_part or_level choices conditional_level assigned_part assignment_level ended variable_statement empty_statement expression_statement condition return_statement throw_statement break_statement continue_statement block_statement first_branch both_branches if_statement while_statement catch_part finally_part handlers try_statement any_statement whole_script
c_catch f l = (λ x. omega arith, (refl, tt, (refl, (λ x. omega arith, (refl, tt, (λ x. omega arith, (refl, tt, tt)))), c_block f l)))

c_finally : (f l : Bool) → Checks table (finally_part f l)
unfolding table simple parenthesized more_items item_list array more_pairs value_and_more pair_list object_literal more_params param_list parameters statement_list block function_expression primary member_part index_part arguments call_part access_part call_level deletion operation unary_level product_part product_level sum_part sum_level relation_part relation_level equality_part equality_level and_part and_level or_part or_level choices conditional_level assigned_part assignment_level ended variable_statement empty_statement expression_statement condition return_statement throw_statement break_statement continue_statement block_statement first_branch both_branches if_statement while_statement catch_part finally_part handlers try_statement any_statement whole_script
c_finally f l = (λ x. omega arith, (refl, tt, c_block f l))

c_handlers : (f l : Bool) → Checks table (handlers f l)
unfolding table simple parenthesized more_items item_list array more_pairs value_and_more pair_list object_literal more_params param_list parameters statement_list block function_expression primary member_part index_part arguments call_part access_part call_level deletion operation unary_level product_part product_level sum_part sum_level relation_part relation_level equality_part equality_level and_part and_level or_part or_level choices conditional_level assigned_part assignment_level ended variable_statement empty_statement expression_statement condition return_statement throw_statement break_statement continue_statement block_statement first_branch both_branches if_statement while_statement catch_part finally_part handlers try_statement any_statement whole_script
c_handlers f l = (refl, refl, (refl, (λ x. refl, c_catch f l), (refl, refl, (λ x. refl, c_finally f l), tt)), (λ x. omega arith, c_finally f l))

c_try : (f l : Bool) → Checks table (try_statement f l)
unfolding table simple parenthesized more_items item_list array more_pairs value_and_more pair_list object_literal more_params param_list parameters statement_list block function_expression primary member_part index_part arguments call_part access_part call_level deletion operation unary_level product_part product_level sum_part sum_level relation_part relation_level equality_part equality_level and_part and_level or_part or_level choices conditional_level assigned_part assignment_level ended variable_statement empty_statement expression_statement condition return_statement throw_statement break_statement continue_statement block_statement first_branch both_branches if_statement while_statement catch_part finally_part handlers try_statement any_statement whole_script
c_try f l = (λ x. tried_depth x.0 (x.1.0) (x.1.1), (λ x. omega arith, (refl, tt, (refl, c_block f l, c_handlers f l))))

c_always : (f l : Bool) → Checks table (choice (block_statement f l) (choice variable_statement (choice empty_statement (choice (if_statement f l) (choice (while_statement f l) (choice throw_statement (choice (try_statement f l) expression_statement)))))))
unfolding table simple parenthesized more_items item_list array more_pairs value_and_more pair_list object_literal more_params param_list parameters statement_list block function_expression primary member_part index_part arguments call_part access_part call_level deletion operation unary_level product_part product_level sum_part sum_level relation_part relation_level equality_part equality_level and_part and_level or_part or_level choices conditional_level assigned_part assignment_level ended variable_statement empty_statement expression_statement condition return_statement throw_statement break_statement continue_statement block_statement first_branch both_branches if_statement while_statement catch_part finally_part handlers try_statement any_statement whole_script
c_always f l = (refl, refl, c_block_statement f l, (refl, refl, c_variable, (refl, refl, c_empty, (refl, refl, c_if f l, (refl, refl, c_while f l, (refl, refl, c_throw, (refl, refl, c_try f l, c_expression)))))))

c_jumps : (f l : Bool) → Checks table (or_jump l (choice (block_statement f l) (choice variable_statement (choice empty_statement (choice (if_statement f l) (choice (while_statement f l) (choice throw_statement (choice (try_statement f l) expression_statement))))))))
unfolding table simple parenthesized more_items item_list array more_pairs value_and_more pair_list object_literal more_params param_list parameters statement_list block function_expression primary member_part index_part arguments call_part access_part call_level deletion operation unary_level product_part product_level sum_part sum_level relation_part relation_level equality_part equality_level and_part and_level or_part or_level choices conditional_level assigned_part assignment_level ended variable_statement empty_statement expression_statement condition return_statement throw_statement break_statement continue_statement block_statement first_branch both_branches if_statement while_statement catch_part finally_part handlers try_statement any_statement whole_script
c_jumps f true = (refl, refl, c_break, (refl, refl, c_continue, c_always f true))
c_jumps f false = c_always f false

pub c_statement : (f l : Bool) → Checks table (any_statement f l)
unfolding table simple parenthesized more_items item_list array more_pairs value_and_more pair_list object_literal more_params param_list parameters statement_list block function_expression primary member_part index_part arguments call_part access_part call_level deletion operation unary_level product_part product_level sum_part sum_level relation_part relation_level equality_part equality_level and_part and_level or_part or_level choices conditional_level assigned_part assignment_level ended variable_statement empty_statement expression_statement condition return_statement throw_statement break_statement continue_statement block_statement first_branch both_branches if_statement while_statement catch_part finally_part handlers try_statement any_statement whole_script
c_statement true true = (refl, refl, c_return, c_jumps true true)
c_statement true false = (refl, refl, c_return, c_jumps true false)
c_statement false l = c_jumps false l

pub c_script : Checks table whole_script
unfolding table simple parenthesized more_items item_list array more_pairs value_and_more pair_list object_literal more_params param_list parameters statement_list block function_expression primary member_part index_part arguments call_part access_part call_level deletion operation unary_level product_part product_level sum_part sum_level relation_part relation_level equality_part equality_level and_part and_level or_part or_level choices conditional_level assigned_part assignment_level ended variable_statement empty_statement expression_statement condition return_statement throw_statement break_statement continue_statement block_statement first_branch both_branches if_statement while_statement catch_part finally_part handlers try_statement any_statement whole_script
c_script = (λ x. omega arith, (refl, tt, (λ x. omega arith, (refl, tt, c_list false false))))
