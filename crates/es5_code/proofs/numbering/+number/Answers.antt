use Rattle.std.proofs.Common.{◌∙◌, refl}
use Rattle.es5_code.specs.Trees.{expr_of, stmt_of}
use Rattle.es5_code.proofs.Forms.{expr_added, exprs_added, f_and, f_array, f_assign, f_binary, f_call, f_cond, f_delete, f_false, f_function, f_index, f_member, f_name, f_neg, f_not, f_null, f_num, f_object, f_or, f_str, f_this, f_true, f_typeof, none_numbered, one_more, s_block, s_break, s_continue, s_empty, s_expr, s_if, s_return, s_throw, s_try_none, s_try_some, s_var, s_while, stmt_added, stmts_added}
use Rattle.es5_code.proofs.numbering.+number.Goals as goal

pub expression-returns : goal.expression-returns
expression-returns t c = expr_added _ _ _ c.in_ok-form.form c.args.expr.origin c.args.expr.pos c.add.result c.into_inner.result c.args.expr c.in_ok-form.ensures c.into_inner.ensures refl refl c.add.ensures

pub statement-returns : goal.statement-returns
statement-returns t c = stmt_added _ _ _ c.in_ok-form.form c.add.result c.args.stmt c.in_ok-form.ensures c.add.ensures

pub expressions-loop-expr-init : goal.expressions-loop-expr-init
expressions-loop-expr-init t c = none_numbered expr_of c.args.nodes.now c.new-ids.result.items c.args.exprs c.requires c.new-ids.ensures.items

pub expressions-loop-expr-preserved : goal.expressions-loop-expr-preserved
expressions-loop-expr-preserved t c = one_more expr_of _ _ _ c.loop-expr.ids.items _ c.in_ok-id.id c.loop-expr.left _ c.args.exprs c.in-Some.expr c.loop-expr.invariant c.in_ok-id.ensures c.in_ok-push.ensures c.in-Some.ensures

pub expressions-returns : goal.expressions-returns
expressions-returns t c = exprs_added _ _ _ c.loop-expr.ids.items c.from_vec.result c.loop-expr.left c.args.exprs c.add.result c.loop-expr.invariant c.in_default.ensures.0 (c.from_vec.ensures ∙ c.reverse.ensures.items) c.add.ensures

pub statements-loop-stmt-init : goal.statements-loop-stmt-init
statements-loop-stmt-init t c = none_numbered stmt_of c.args.nodes.now c.new-ids.result.items c.args.stmts c.requires c.new-ids.ensures.items

pub statements-loop-stmt-preserved : goal.statements-loop-stmt-preserved
statements-loop-stmt-preserved t c = one_more stmt_of _ _ _ c.loop-stmt.ids.items _ c.in_ok-id.id c.loop-stmt.left _ c.args.stmts c.in-Some.stmt c.loop-stmt.invariant c.in_ok-id.ensures c.in_ok-push.ensures c.in-Some.ensures

pub statements-returns : goal.statements-returns
statements-returns t c = stmts_added _ _ _ c.loop-stmt.ids.items c.from_vec.result c.loop-stmt.left c.args.stmts c.add.result c.loop-stmt.invariant c.in_default.ensures.0 (c.from_vec.ensures ∙ c.reverse.ensures.items) c.add.ensures

pub form-returns-in-Num : goal.form-returns-in-Num
form-returns-in-Num t c = f_num _ c.in-Num.value _ c.requires c.in-Num.is

pub form-returns-in-True : goal.form-returns-in-True
form-returns-in-True t c = f_true _ _ c.requires c.in-True.is

pub form-returns-in-False : goal.form-returns-in-False
form-returns-in-False t c = f_false _ _ c.requires c.in-False.is

pub form-returns-in-Null : goal.form-returns-in-Null
form-returns-in-Null t c = f_null _ _ c.requires c.in-Null.is

pub form-returns-in-This : goal.form-returns-in-This
form-returns-in-This t c = f_this _ _ c.requires c.in-This.is

pub form-returns-in_ok-text-in-Str : goal.form-returns-in_ok-text-in-Str
form-returns-in_ok-text-in-Str t c = f_str _ c.in-Str.text _ _ c.requires c.in_ok-text-in-Str.ensures c.in-Str.is

pub form-returns-in_ok-name-in-Name : goal.form-returns-in_ok-name-in-Name
form-returns-in_ok-name-in-Name t c = f_name _ c.in-Name.name _ _ c.requires c.in_ok-name-in-Name.ensures c.in-Name.is

pub form-returns-in_ok-items-in-Array : goal.form-returns-in_ok-items-in-Array
form-returns-in_ok-items-in-Array t c = f_array _ _ _ c.in-Array.items _ c.in_ok-items-in-Array.ensures c.in-Array.is

pub form-returns-in_ok-values-in-Object : goal.form-returns-in_ok-values-in-Object
form-returns-in_ok-values-in-Object t c = f_object _ _ c.in-Object.keys _ c.in-Object.values _ c.in_ok-values-in-Object.ensures c.in-Object.is

pub form-returns-in_ok-name-in-Member : goal.form-returns-in_ok-name-in-Member
form-returns-in_ok-name-in-Member t c = f_member _ _ _ c.in-Member.base c.in-Member.name _ c.in-Member.mark _ c.in_ok-base-in-Member.ensures c.in_ok-name-in-Member.ensures c.in-Member.is

pub form-returns-in_ok-key-in-Index : goal.form-returns-in_ok-key-in-Index
form-returns-in_ok-key-in-Index t c = f_index _ _ _ _ _ c.in-Index.base c.in-Index.key c.in-Index.mark _ c.in_ok-base-in-Index.ensures c.in_ok-key-in-Index.ensures c.in-Index.is

pub form-returns-in_ok-args-in-Call : goal.form-returns-in_ok-args-in-Call
form-returns-in_ok-args-in-Call t c = f_call _ _ _ _ _ c.in-Call.callee c.in-Call.args _ c.in_ok-callee-in-Call.ensures c.in_ok-args-in-Call.ensures c.in-Call.is

pub form-returns-in_ok-value-in-Not : goal.form-returns-in_ok-value-in-Not
form-returns-in_ok-value-in-Not t c = f_not _ _ _ c.in-Not.value _ c.in_ok-value-in-Not.ensures c.in-Not.is

pub form-returns-in_ok-value-in-Neg : goal.form-returns-in_ok-value-in-Neg
form-returns-in_ok-value-in-Neg t c = f_neg _ _ _ c.in-Neg.value _ c.in_ok-value-in-Neg.ensures c.in-Neg.is

pub form-returns-in_ok-value-in-Typeof : goal.form-returns-in_ok-value-in-Typeof
form-returns-in_ok-value-in-Typeof t c = f_typeof _ _ _ c.in-Typeof.value _ c.in_ok-value-in-Typeof.ensures c.in-Typeof.is

pub form-returns-in_ok-value-in-Delete : goal.form-returns-in_ok-value-in-Delete
form-returns-in_ok-value-in-Delete t c = f_delete _ _ _ c.in-Delete.value _ c.in_ok-value-in-Delete.ensures c.in-Delete.is

pub form-returns-in_ok-right-in-Binary : goal.form-returns-in_ok-right-in-Binary
form-returns-in_ok-right-in-Binary t c = f_binary _ _ _ c.in-Binary.operator _ _ c.in-Binary.left c.in-Binary.right _ c.in_ok-left-in-Binary.ensures c.in_ok-right-in-Binary.ensures c.in-Binary.is

pub form-returns-in_ok-right-in-And : goal.form-returns-in_ok-right-in-And
form-returns-in_ok-right-in-And t c = f_and _ _ _ _ _ c.in-And.left c.in-And.right _ c.in_ok-left-in-And.ensures c.in_ok-right-in-And.ensures c.in-And.is

pub form-returns-in_ok-right-in-Or : goal.form-returns-in_ok-right-in-Or
form-returns-in_ok-right-in-Or t c = f_or _ _ _ _ _ c.in-Or.left c.in-Or.right _ c.in_ok-left-in-Or.ensures c.in_ok-right-in-Or.ensures c.in-Or.is

pub form-returns-in_ok-value-in-Assign : goal.form-returns-in_ok-value-in-Assign
form-returns-in_ok-value-in-Assign t c = f_assign _ _ _ _ _ c.in-Assign.target c.in-Assign.value _ c.in_ok-target-in-Assign.ensures c.in_ok-value-in-Assign.ensures c.in-Assign.is

pub form-returns-in_ok-second-in-Cond : goal.form-returns-in_ok-second-in-Cond
form-returns-in_ok-second-in-Cond t c = f_cond _ _ _ _ _ _ _ c.in-Cond.test c.in-Cond.first c.in-Cond.second _ c.in_ok-test-in-Cond.ensures c.in_ok-first-in-Cond.ensures c.in_ok-second-in-Cond.ensures c.in-Cond.is

pub form-returns-in_ok-body-in-Function : goal.form-returns-in_ok-body-in-Function
form-returns-in_ok-body-in-Function t c = f_function _ _ c.in-Function.name _ c.in-Function.params _ c.in-Function.body _ _ _ _ c.in_ok-body-in-Function.ensures c.in_ok-name-in-Function.ensures c.in_ok-own-in-Function.ensures.names c.in_ok-own-in-Function.ensures.arguments c.in_ok-variables-in-Function.ensures c.in-Function.is

pub stmt_form-returns-in-Break : goal.stmt_form-returns-in-Break
stmt_form-returns-in-Break t c = s_break _ _ c.requires c.in-Break.is

pub stmt_form-returns-in-Continue : goal.stmt_form-returns-in-Continue
stmt_form-returns-in-Continue t c = s_continue _ _ c.requires c.in-Continue.is

pub stmt_form-returns-in-Empty : goal.stmt_form-returns-in-Empty
stmt_form-returns-in-Empty t c = s_empty _ _ c.requires c.in-Empty.is

pub stmt_form-returns-in_ok-value-in-Var : goal.stmt_form-returns-in_ok-value-in-Var
stmt_form-returns-in_ok-value-in-Var t c = s_var _ _ c.in-Var.name _ _ c.in-Var.value _ c.in_ok-value-in-Var.ensures c.in_ok-name-in-Var.ensures c.in-Var.is

pub stmt_form-returns-in_ok-value-in-Expr : goal.stmt_form-returns-in_ok-value-in-Expr
stmt_form-returns-in_ok-value-in-Expr t c = s_expr _ _ _ c.in-Expr.value _ c.in_ok-value-in-Expr.ensures c.in-Expr.is

pub stmt_form-returns-in_ok-value-in-Throw : goal.stmt_form-returns-in_ok-value-in-Throw
stmt_form-returns-in_ok-value-in-Throw t c = s_throw _ _ _ c.in-Throw.value _ c.in_ok-value-in-Throw.ensures c.in-Throw.is

pub stmt_form-returns-in_ok-body-in-Block : goal.stmt_form-returns-in_ok-body-in-Block
stmt_form-returns-in_ok-body-in-Block t c = s_block _ _ _ c.in-Block.body _ c.in_ok-body-in-Block.ensures c.in-Block.is

pub stmt_form-returns-in_ok-value-in-Return : goal.stmt_form-returns-in_ok-value-in-Return
stmt_form-returns-in_ok-value-in-Return t c = s_return _ _ _ c.in-Return.value _ c.in_ok-value-in-Return.ensures c.in-Return.is

pub stmt_form-returns-in_ok-body-in-While : goal.stmt_form-returns-in_ok-body-in-While
stmt_form-returns-in_ok-body-in-While t c = s_while _ _ _ _ _ c.in-While.test _ c.in-While.body _ c.in_ok-test-in-While.ensures c.in_ok-body-in-While.ensures c.into_inner-in-While.ensures c.in-While.is

pub stmt_form-returns-in_ok-second-in-If : goal.stmt_form-returns-in_ok-second-in-If
stmt_form-returns-in_ok-second-in-If t c = s_if _ _ _ _ _ _ _ c.in-If.test _ c.in-If.first c.in-If.second _ c.in_ok-test-in-If.ensures c.in_ok-first-in-If.ensures c.into_inner.ensures c.in_ok-second-in-If.ensures c.in-If.is

pub stmt_form-returns-in-None : goal.stmt_form-returns-in-None
stmt_form-returns-in-None t c = s_try_none _ _ _ _ c.in-Try.body _ c.in-Try.catch c.in-Try.finally _ c.in_ok-body-in-Try.ensures c.in_ok-catch-in-Try.ensures c.in-None.is c.in-Try.is

pub stmt_form-returns-in_ok-statements-in-Some : goal.stmt_form-returns-in_ok-statements-in-Some
stmt_form-returns-in_ok-statements-in-Some t c = s_try_some _ _ _ _ _ _ c.in-Try.body c.in-Some.last _ c.in-Try.catch c.in-Try.finally _ c.in_ok-body-in-Try.ensures c.in_ok-catch-in-Try.ensures c.in_ok-statements-in-Some.ensures c.in-Some.is c.in-Try.is
