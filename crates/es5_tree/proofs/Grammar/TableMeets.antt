-- The grammar meets what is asked of a grammar in which one token tells how to go on.
use Rattle.std.proofs.Common.{◌≡◌, ℕ, ◌<◌, Bool, true, false, ◌&&◌, Option, Some, None, inl, inr, refl, sym, ap, ◌∙◌, subst, arith, true≢false}
use Rattle.std.specs.Prelude.{nat_eq}
use Rattle.grammar.specs.Rules.{choice, tree, marked, El, named}
use Rattle.grammar.specs.Checks.{nullable, first, continues, GoesOn, Included, Checks, Guarded, Predictive}
use Rattle.grammar.specs.CommonRules.{behind}
use Rattle.grammar.proofs.Classes.{by_class, continues_of, included_at}
use Rattle.grammar.proofs.Lists.{and_both, and_split, or_left, or_right, or_split}
use Rattle.es5_tree.specs.declared.terminal.Keyword.TheVariants as keyword
use Rattle.es5_tree.specs.declared.terminal.Level.TheVariants as level
use Rattle.es5_tree.specs.declared.token.EsToken.{EsToken}
use Rattle.es5_tree.specs.Grammar.Terminals.{size, terminal_of, key}
use Rattle.es5_tree.specs.Grammar.Nodes.{Node, takes_else, branched}
use Rattle.es5_tree.specs.Grammar.Names.{Name, script, statement, expr, items, pairs, params, sorts, R}
use Rattle.es5_tree.specs.Grammar.Expressions.{simple, parenthesized, more_items, item_list, array, more_pairs, value_and_more, pair_list, object_literal, more_params, param_list, parameters, statement_list, block, function_expression, primary, member_part, index_part, arguments, call_part, access_part, call_level, deletion, operation, unary_level, product_part, product_level, sum_part, sum_level, relation_part, relation_level, equality_part, equality_level, and_part, and_level, or_part, or_level, choices, conditional_level, assigned_part, assignment_level}
use Rattle.es5_tree.specs.Grammar.Statements.{ended, variable_statement, empty_statement, expression_statement, condition, return_statement, throw_statement, break_statement, continue_statement, block_statement, first_branch, both_branches, if_statement, while_statement, catch_part, finally_part, handlers, try_statement, any_statement, whole_script, branches, or_jump}
use Rattle.es5_tree.specs.Grammar.Table.{table, production, begins, is_nullable, statement_goes_on, goes_on}
use Rattle.es5_tree.specs.Grammar.Table.{continues as behind_name}
use Rattle.es5_tree.proofs.Grammar.Codes.{code_within}
use Rattle.es5_tree.proofs.Grammar.Checks.{c_more_items, c_pairs, c_params, c_call, c_unary, c_product, c_sum, c_relation, c_equality, c_and, c_assignment, c_statement, c_script, first_goes_on, bounded}

c_all : (k : Name) → Checks table (production k)
unfolding table simple parenthesized more_items item_list array more_pairs value_and_more pair_list object_literal more_params param_list parameters statement_list block function_expression primary member_part index_part arguments call_part access_part call_level deletion operation unary_level product_part product_level sum_part sum_level relation_part relation_level equality_part equality_level and_part and_level or_part or_level choices conditional_level assigned_part assignment_level ended variable_statement empty_statement expression_statement condition return_statement throw_statement break_statement continue_statement block_statement first_branch both_branches if_statement while_statement catch_part finally_part handlers try_statement any_statement whole_script
c_all script = c_script
c_all (statement f l) = c_statement f l
c_all (expr level.Assignment) = (λ x. omega arith, c_assignment)
c_all (expr level.And) = (λ x. omega arith, c_and)
c_all (expr level.Equality) = (λ x. omega arith, c_equality)
c_all (expr level.Relational) = (λ x. omega arith, c_relation)
c_all (expr level.Additive) = (λ x. omega arith, c_sum)
c_all (expr level.Multiplicative) = (λ x. omega arith, c_product)
c_all (expr level.Unary) = (λ x. omega arith, c_unary)
c_all (expr level.Call) = (λ x. omega arith, c_call)
c_all items = c_more_items
c_all (pairs seen) = c_pairs seen
c_all (params seen) = c_params seen

g_call : Guarded table call_level
unfolding table simple parenthesized more_items item_list array more_pairs value_and_more pair_list object_literal more_params param_list parameters statement_list block function_expression primary member_part index_part arguments call_part access_part call_level deletion operation unary_level product_part product_level sum_part sum_level relation_part relation_level equality_part equality_level and_part and_level or_part or_level choices conditional_level assigned_part assignment_level ended variable_statement empty_statement expression_statement condition return_statement throw_statement break_statement continue_statement block_statement first_branch both_branches if_statement while_statement catch_part finally_part handlers try_statement any_statement whole_script
g_call = (tt, ((tt, inr refl), (tt, (tt, tt))))

g_unary : Guarded table unary_level
unfolding table simple parenthesized more_items item_list array more_pairs value_and_more pair_list object_literal more_params param_list parameters statement_list block function_expression primary member_part index_part arguments call_part access_part call_level deletion operation unary_level product_part product_level sum_part sum_level relation_part relation_level equality_part equality_level and_part and_level or_part or_level choices conditional_level assigned_part assignment_level ended variable_statement empty_statement expression_statement condition return_statement throw_statement break_statement continue_statement block_statement first_branch both_branches if_statement while_statement catch_part finally_part handlers try_statement any_statement whole_script
g_unary = (tt, (tt, g_call))

guards : (k : Name) → Guarded table (production k)
unfolding table simple parenthesized more_items item_list array more_pairs value_and_more pair_list object_literal more_params param_list parameters statement_list block function_expression primary member_part index_part arguments call_part access_part call_level deletion operation unary_level product_part product_level sum_part sum_level relation_part relation_level equality_part equality_level and_part and_level or_part or_level choices conditional_level assigned_part assignment_level ended variable_statement empty_statement expression_statement condition return_statement throw_statement break_statement continue_statement block_statement first_branch both_branches if_statement while_statement catch_part finally_part handlers try_statement any_statement whole_script
guards script = (tt, inr refl)
guards (statement true true) = (tt, (tt, (tt, (tt, (tt, (tt, (tt, (tt, (tt, (tt, tt))))))))))
guards (statement true false) = (tt, (tt, (tt, (tt, (tt, (tt, (tt, (tt, tt))))))))
guards (statement false true) = (tt, (tt, (tt, (tt, (tt, (tt, (tt, (tt, (tt, tt)))))))))
guards (statement false false) = (tt, (tt, (tt, (tt, (tt, (tt, (tt, tt)))))))
guards (expr level.Assignment) = g_unary
guards (expr level.And) = g_unary
guards (expr level.Equality) = g_unary
guards (expr level.Relational) = g_unary
guards (expr level.Additive) = g_unary
guards (expr level.Multiplicative) = g_unary
guards (expr level.Unary) = g_unary
guards (expr level.Call) = g_call
guards items = ((tt, inr refl), tt)
guards (pairs seen) = (tt, inr refl)
guards (params seen) = (tt, inr refl)

all_begin : (k : Name) → Included table (first table (production k)) (begins k)
unfolding table simple parenthesized more_items item_list array more_pairs value_and_more pair_list object_literal more_params param_list parameters statement_list block function_expression primary member_part index_part arguments call_part access_part call_level deletion operation unary_level product_part product_level sum_part sum_level relation_part relation_level equality_part equality_level and_part and_level or_part or_level choices conditional_level assigned_part assignment_level ended variable_statement empty_statement expression_statement condition return_statement throw_statement break_statement continue_statement block_statement first_branch both_branches if_statement while_statement catch_part finally_part handlers try_statement any_statement whole_script
all_begin script = refl
all_begin (statement true true) = refl
all_begin (statement true false) = refl
all_begin (statement false true) = refl
all_begin (statement false false) = refl
all_begin (expr level.Assignment) = refl
all_begin (expr level.And) = refl
all_begin (expr level.Equality) = refl
all_begin (expr level.Relational) = refl
all_begin (expr level.Additive) = refl
all_begin (expr level.Multiplicative) = refl
all_begin (expr level.Unary) = refl
all_begin (expr level.Call) = refl
all_begin items = refl
all_begin (pairs seen) = refl
all_begin (params seen) = refl

all_continue : (k : Name) → Included table (continues table (production k)) (behind_name k)
unfolding table simple parenthesized more_items item_list array more_pairs value_and_more pair_list object_literal more_params param_list parameters statement_list block function_expression primary member_part index_part arguments call_part access_part call_level deletion operation unary_level product_part product_level sum_part sum_level relation_part relation_level equality_part equality_level and_part and_level or_part or_level choices conditional_level assigned_part assignment_level ended variable_statement empty_statement expression_statement condition return_statement throw_statement break_statement continue_statement block_statement first_branch both_branches if_statement while_statement catch_part finally_part handlers try_statement any_statement whole_script
all_continue script = refl
all_continue (statement true true) = refl
all_continue (statement true false) = refl
all_continue (statement false true) = refl
all_continue (statement false false) = refl
all_continue (expr level.Assignment) = refl
all_continue (expr level.And) = refl
all_continue (expr level.Equality) = refl
all_continue (expr level.Relational) = refl
all_continue (expr level.Additive) = refl
all_continue (expr level.Multiplicative) = refl
all_continue (expr level.Unary) = refl
all_continue (expr level.Call) = refl
all_continue items = refl
all_continue (pairs seen) = refl
all_continue (params seen) = refl

-- ---- what goes on behind a statement

either : (r q : R (marked tree)) (x : Node × ℕ) (t : ℕ) → nullable table q ≡ false → (GoesOn table r x t → statement_goes_on x.1 t ≡ true) → (GoesOn table q x t → statement_goes_on x.1 t ≡ true)
    → GoesOn table (choice r q) x t → statement_goes_on x.1 t ≡ true
either r q x t n f g (inl h) = f h
either r q x t n f g (inr (inl h)) = g h
either r q x t n f g (inr (inr h)) = absurd (true≢false (sym h.0 ∙ n))

-- a rule behind which `finally` alone can go on
by_finally : (r : R (marked tree)) → Included table (continues table r) (key keyword.Finally) → (x : Node × ℕ) (t : ℕ) → t < size → GoesOn table r x t → statement_goes_on x.1 t ≡ true
unfolding table
by_finally r all x t less g = or_left (key keyword.Finally t) _ (included_at table (continues table r) (key keyword.Finally) t all less (continues_of table bounded r x t g))

open_after : (m t : ℕ) → statement_goes_on m t ≡ true → statement_goes_on 1 t ≡ true
open_after m t g = elim (or_split (key keyword.Finally t) (key keyword.Else t && nat_eq 1 m) g) [
  | inl h ↦ or_left (key keyword.Finally t) _ h
  | inr h ↦ or_right (key keyword.Finally t) _ (and_both (key keyword.Else t) _ ((and_split (key keyword.Else t) (nat_eq 1 m) h).0) refl)
]

-- behind the statement of an `if` without an `else`
single : (f l : Bool) (a : El EsToken Node branches) (t : ℕ) → GoesOn table (first_branch f l) a t → statement_goes_on (branched a).1 t ≡ true
unfolding table simple parenthesized more_items item_list array more_pairs value_and_more pair_list object_literal more_params param_list parameters statement_list block function_expression primary member_part index_part arguments call_part access_part call_level deletion operation unary_level product_part product_level sum_part sum_level relation_part relation_level equality_part equality_level and_part and_level or_part or_level choices conditional_level assigned_part assignment_level ended variable_statement empty_statement expression_statement condition return_statement throw_statement break_statement continue_statement block_statement first_branch both_branches if_statement while_statement catch_part finally_part handlers try_statement any_statement whole_script
single f l (a, None) t g = open_after (a.1.1) t (first_goes_on f l (a, None) t g)
single f l (a, Some y) t (b, e, g) = absurd (true≢false (sym (ap (λ z. is_none z.1) e)))
  where
    is_none : Option (Node × ℕ) → Bool
    is_none None = true
    is_none (Some y) = false

takes_one : (a : El EsToken Node branches) → takes_else a ≡ true → (branched a).1 ≡ 1
takes_one (a, None) k = refl
takes_one (a, Some y) k = absurd (true≢false (sym k))

behind_else : (f l : Bool) (y : Node × ℕ) (t : ℕ) → GoesOn table (behind (key keyword.Else) (named (statement f l))) y t → statement_goes_on y.1 t ≡ true
unfolding table
behind_else f l y t (b, e, inl h) = subst (λ z. statement_goes_on z.1 t ≡ true) (sym e) h
behind_else f l y t (b, e, inr h) = absurd (true≢false (sym h.0))

both : (f l : Bool) (a : El EsToken Node branches) (t : ℕ) → GoesOn table (both_branches f l) a t → statement_goes_on (branched a).1 t ≡ true
unfolding table simple parenthesized more_items item_list array more_pairs value_and_more pair_list object_literal more_params param_list parameters statement_list block function_expression primary member_part index_part arguments call_part access_part call_level deletion operation unary_level product_part product_level sum_part sum_level relation_part relation_level equality_part equality_level and_part and_level or_part or_level choices conditional_level assigned_part assignment_level ended variable_statement empty_statement expression_statement condition return_statement throw_statement break_statement continue_statement block_statement first_branch both_branches if_statement while_statement catch_part finally_part handlers try_statement any_statement whole_script
both f l a t (inl g) = single f l a t g
both f l a t (inr (inl (m, y, e, k, g))) = subst (λ z. statement_goes_on (branched z).1 t ≡ true) (sym e) (behind_else f l y t g)
both f l a t (inr (inr (k, h))) = subst (λ n. statement_goes_on n t ≡ true) (sym (takes_one a k)) (or_right (key keyword.Finally t) _ (and_both (key keyword.Else t) _ h refl))

if_goes_on : (f l : Bool) (x : Node × ℕ) (t : ℕ) → GoesOn table (if_statement f l) x t → statement_goes_on x.1 t ≡ true
unfolding table simple parenthesized more_items item_list array more_pairs value_and_more pair_list object_literal more_params param_list parameters statement_list block function_expression primary member_part index_part arguments call_part access_part call_level deletion operation unary_level product_part product_level sum_part sum_level relation_part relation_level equality_part equality_level and_part and_level or_part or_level choices conditional_level assigned_part assignment_level ended variable_statement empty_statement expression_statement condition return_statement throw_statement break_statement continue_statement block_statement first_branch both_branches if_statement while_statement catch_part finally_part handlers try_statement any_statement whole_script
if_goes_on f l x t (a, e, g) = subst (λ z. statement_goes_on z.1 t ≡ true) (sym e) (both f l a t g)

while_goes_on : (f l : Bool) (x : Node × ℕ) (t : ℕ) → GoesOn table (while_statement f l) x t → statement_goes_on x.1 t ≡ true
unfolding table simple parenthesized more_items item_list array more_pairs value_and_more pair_list object_literal more_params param_list parameters statement_list block function_expression primary member_part index_part arguments call_part access_part call_level deletion operation unary_level product_part product_level sum_part sum_level relation_part relation_level equality_part equality_level and_part and_level or_part or_level choices conditional_level assigned_part assignment_level ended variable_statement empty_statement expression_statement condition return_statement throw_statement break_statement continue_statement block_statement first_branch both_branches if_statement while_statement catch_part finally_part handlers try_statement any_statement whole_script
while_goes_on f l x t (a, e, (b, e', inl (inl h))) = subst (λ z. statement_goes_on z.1 t ≡ true) (sym e) (subst (λ z. statement_goes_on (z.1.1) t ≡ true) (sym e') h)
while_goes_on f l x t (a, e, (b, e', inl (inr h))) = absurd (true≢false (sym h.0))
while_goes_on f l x t (a, e, (b, e', inr h)) = absurd (true≢false (sym h.0))

-- the last two, three .. of the choice
abbrev last_two : Bool → Bool → R (marked tree)
last_two f l = choice (try_statement f l) expression_statement

abbrev last_three : Bool → Bool → R (marked tree)
last_three f l = choice throw_statement (last_two f l)

abbrev last_four : Bool → Bool → R (marked tree)
last_four f l = choice (while_statement f l) (last_three f l)

abbrev last_five : Bool → Bool → R (marked tree)
last_five f l = choice (if_statement f l) (last_four f l)

abbrev last_six : Bool → Bool → R (marked tree)
last_six f l = choice empty_statement (last_five f l)

abbrev last_seven : Bool → Bool → R (marked tree)
last_seven f l = choice variable_statement (last_six f l)

abbrev all_but_jumps : Bool → Bool → R (marked tree)
all_but_jumps f l = choice (block_statement f l) (last_seven f l)

always : (f l : Bool) (x : Node × ℕ) (t : ℕ) → t < size → GoesOn table (all_but_jumps f l) x t → statement_goes_on x.1 t ≡ true
unfolding table simple parenthesized more_items item_list array more_pairs value_and_more pair_list object_literal more_params param_list parameters statement_list block function_expression primary member_part index_part arguments call_part access_part call_level deletion operation unary_level product_part product_level sum_part sum_level relation_part relation_level equality_part equality_level and_part and_level or_part or_level choices conditional_level assigned_part assignment_level ended variable_statement empty_statement expression_statement condition return_statement throw_statement break_statement continue_statement block_statement first_branch both_branches if_statement while_statement catch_part finally_part handlers try_statement any_statement whole_script
always f l x t less = either (block_statement f l) (last_seven f l) x t refl (by_finally (block_statement f l) refl x t less)
    (either variable_statement (last_six f l) x t refl (by_finally variable_statement refl x t less)
    (either empty_statement (last_five f l) x t refl (by_finally empty_statement refl x t less)
    (either (if_statement f l) (last_four f l) x t refl (if_goes_on f l x t)
    (either (while_statement f l) (last_three f l) x t refl (while_goes_on f l x t)
    (either throw_statement (last_two f l) x t refl (by_finally throw_statement refl x t less)
    (either (try_statement f l) expression_statement x t refl (by_finally (try_statement f l) refl x t less) (by_finally expression_statement refl x t less)))))))

jumps : (f l : Bool) (x : Node × ℕ) (t : ℕ) → t < size → GoesOn table (or_jump l (all_but_jumps f l)) x t → statement_goes_on x.1 t ≡ true
unfolding table simple parenthesized more_items item_list array more_pairs value_and_more pair_list object_literal more_params param_list parameters statement_list block function_expression primary member_part index_part arguments call_part access_part call_level deletion operation unary_level product_part product_level sum_part sum_level relation_part relation_level equality_part equality_level and_part and_level or_part or_level choices conditional_level assigned_part assignment_level ended variable_statement empty_statement expression_statement condition return_statement throw_statement break_statement continue_statement block_statement first_branch both_branches if_statement while_statement catch_part finally_part handlers try_statement any_statement whole_script
jumps f true x t less = either break_statement (choice continue_statement (all_but_jumps f true)) x t refl (by_finally break_statement refl x t less)
    (either continue_statement (all_but_jumps f true) x t refl (by_finally continue_statement refl x t less) (always f true x t less))
jumps f false x t less = always f false x t less

statement_by : (f l : Bool) (x : Node × ℕ) (t : ℕ) → t < size → GoesOn table (any_statement f l) x t → statement_goes_on x.1 t ≡ true
unfolding table simple parenthesized more_items item_list array more_pairs value_and_more pair_list object_literal more_params param_list parameters statement_list block function_expression primary member_part index_part arguments call_part access_part call_level deletion operation unary_level product_part product_level sum_part sum_level relation_part relation_level equality_part equality_level and_part and_level or_part or_level choices conditional_level assigned_part assignment_level ended variable_statement empty_statement expression_statement condition return_statement throw_statement break_statement continue_statement block_statement first_branch both_branches if_statement while_statement catch_part finally_part handlers try_statement any_statement whole_script
statement_by true true x t less = either return_statement (or_jump true (all_but_jumps true true)) x t refl (by_finally return_statement refl x t less) (jumps true true x t less)
statement_by true false x t less = either return_statement (all_but_jumps true false) x t refl (by_finally return_statement refl x t less) (jumps true false x t less)
statement_by false l x t less = jumps false l x t less

class_of : (k : Name) (x : El EsToken Node (sorts k)) (t : ℕ) → t < size → GoesOn table (production k) x t → behind_name k t ≡ true
unfolding table
class_of k x t less g = by_class table bounded k (all_continue k) x t less g

by_value : (k : Name) (x : El EsToken Node (sorts k)) (t : ℕ) → t < size → GoesOn table (production k) x t → goes_on k x t ≡ true
by_value (statement f l) x t less g = statement_by f l x t less g
by_value script x t less g = class_of script x t less g
by_value (expr l) x t less g = class_of (expr l) x t less g
by_value items x t less g = class_of items x t less g
by_value (pairs seen) x t less g = class_of (pairs seen) x t less g
by_value (params seen) x t less g = class_of (params seen) x t less g

empties : (k : Name) → nullable table (production k) ≡ true → is_nullable k ≡ true
unfolding table simple parenthesized more_items item_list array more_pairs value_and_more pair_list object_literal more_params param_list parameters statement_list block function_expression primary member_part index_part arguments call_part access_part call_level deletion operation unary_level product_part product_level sum_part sum_level relation_part relation_level equality_part equality_level and_part and_level or_part or_level choices conditional_level assigned_part assignment_level ended variable_statement empty_statement expression_statement condition return_statement throw_statement break_statement continue_statement block_statement first_branch both_branches if_statement while_statement catch_part finally_part handlers try_statement any_statement whole_script
empties script h = h
empties (statement true true) h = h
empties (statement true false) h = h
empties (statement false true) h = h
empties (statement false false) h = h
empties (expr level.Assignment) h = h
empties (expr level.And) h = h
empties (expr level.Equality) h = h
empties (expr level.Relational) h = h
empties (expr level.Additive) h = h
empties (expr level.Multiplicative) h = h
empties (expr level.Unary) h = h
empties (expr level.Call) h = h
empties items h = refl
empties (pairs seen) h = h
empties (params seen) h = h

-- One token tells how to go on.
pub predictive : Predictive table
unfolding table
predictive = record {
  checks = c_all;
  guarded = guards;
  within = λ t. code_within (terminal_of t.kind);
  begins = all_begin;
  goes_on = all_continue;
  by_value = by_value;
  bounded = bounded;
  empties = empties;
}
