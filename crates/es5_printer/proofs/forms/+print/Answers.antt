use Rattle.std.proofs.Common.{rules, ◌≡◌, [], ◌∷◌, ◌++◌, map, option_map, codes, length, Some, ◌∙◌, sym, ap, arith}
use Rattle.std.proofs.lemmas.Grind.{common_steps}
use Rattle.es5_printer.specs.Forms as f
use Rattle.es5_printer.specs.Page.{written}
use Rattle.es5_printer.specs.Pieces.{listed, more_listed}
use Rattle.es5_printer.specs.Text.{catch_pieces, expr_part, stmt_pieces}
use Rattle.es5_printer.proofs.Equations.{stmt_if, stmt_try}
use Rattle.es5_printer.proofs.Written.{first_item, first_pair, item_at, lines_step, longer, next_item, next_pair, pairs_over, read_at, three_written}
use Rattle.es5_printer.proofs.forms.+print.Goals as goal

pub items-loop-i-init : goal.items-loop-i-init
items-loop-i-init t c =
    sym (first_item expr_part c.args.values.now c.index-values-0.result c.args.page.now c.expression.new.page
    (read_at c.args.values.now 0 c.index-values-0.result c.index-values-0.is (first_of (search rules, grind (arith, common_steps)))) c.in_ok-expression.ensures)

pub items-loop-i-preserved : goal.items-loop-i-preserved
items-loop-i-preserved t c =
    sym (next_item expr_part c.args.values.now c.loop-i.i c.index-values-i.result c.loop-i.page c.value_behind.new.page
    (read_at c.args.values.now c.loop-i.i c.index-values-i.result c.index-values-i.is c.loop-i-test.true) c.in_ok-value_behind.ensures)
    ∙ c.loop-i.invariant

pub lines-loop-stmt-preserved : goal.lines-loop-stmt-preserved
lines-loop-stmt-preserved t c =
    sym (lines_step c.args.body.now c.loop-stmt.stmt-index c.stmt-item.result c.loop-stmt.page c.statement.new.page c.put.new.self
    (read_at c.args.body.now c.loop-stmt.stmt-index c.stmt-item.result c.stmt-item.is c.loop-stmt-test.true) c.in_ok-statement.ensures c.in_ok-put.ensures)
    ∙ c.loop-stmt.invariant

pub pair_list-returns-then-count-eq0 : goal.pair_list-returns-then-count-eq0
pair_list-returns-then-count-eq0 t c =
    sym (ap (λ l. written (listed l) c.args.page.now) (pairs_over c.args.keys.now expr_part c.args.values.now 0 (omega (arith, c.if-count-eq0.true, c.min-count.ensures, c.len.ensures))))

pub pair_list-loop-i-init : goal.pair_list-loop-i-init
pair_list-loop-i-init t c =
    let long = longer c.len.result (length c.args.values.now) c.min-count.result 0 c.min-count.ensures (first_of (search rules, grind (arith, common_steps))) in
    sym (first_pair c.args.keys.now expr_part c.args.values.now c.at.result.now c.index-values-0.result c.args.page.now c.pair.new.page
    (item_at c.args.keys.now 0 c.at.result.now c.at.ensures) (read_at c.args.values.now 0 c.index-values-0.result c.index-values-0.is long.1) c.in_ok-pair.ensures)

pub pair_list-loop-i-preserved : goal.pair_list-loop-i-preserved
pair_list-loop-i-preserved t c =
    let long = longer c.len.result (length c.args.values.now) c.min-count.result c.loop-i.i c.min-count.ensures c.loop-i-test.true in
    sym (next_pair c.args.keys.now expr_part c.args.values.now c.loop-i.i c.at-in-loop-i.result.now c.index-values-i.result c.loop-i.page c.put.new.self c.pair-in-loop-i.new.page
    (item_at c.args.keys.now c.loop-i.i c.at-in-loop-i.result.now c.at-in-loop-i.ensures) (read_at c.args.values.now c.loop-i.i c.index-values-i.result c.index-values-i.is long.1)
    c.in_ok-put.ensures c.in_ok-pair-2.ensures)
    ∙ c.loop-i.invariant

pub pair_list-returns : goal.pair_list-returns
pair_list-returns t c =
    sym (ap (λ l. written (more_listed l) c.loop-i.page) (pairs_over c.args.keys.now expr_part c.args.values.now c.loop-i.i (omega (arith, c.min-count.ensures, c.len.ensures, c.loop-i-test.false))))
    ∙ c.loop-i.invariant

pub statement-returns-in_ok-statement-in-If : goal.statement-returns-in_ok-statement-in-If
statement-returns-in_ok-statement-in-If t c =
    three_written (f.test (codes "if (") (expr_part c.in-If.value)) (stmt_pieces c.in-If.yes) (f.otherwise (option_map stmt_pieces c.in-If.no)) (stmt_pieces c.args.stmt.now) c.args.page.now c.test.new.page c.statement.new.page c.otherwise.new.page c.otherwise.result
    (ap stmt_pieces c.in-If.is ∙ stmt_if c.in-If.value c.in-If.yes c.in-If.no) c.in_ok-test-in-If.ensures
    (c.in_ok-statement-in-If.ensures ∙ ap (λ x. written (stmt_pieces x) c.test.new.page) c.get.ensures) c.otherwise.ensures

pub statement-returns-in-Some : goal.statement-returns-in-Some
statement-returns-in-Some t c =
    three_written (f.block_behind (codes "try ") (map stmt_pieces c.in-Try.body)) (f.of_catch_if (option_map catch_pieces c.in-Try.catch)) (f.block_behind (codes " finally ") (map stmt_pieces c.as_slice-in-Some.result.now)) (stmt_pieces c.args.stmt.now) c.args.page.now c.block_behind.new.page c.caught_if.new.page c.block_behind-in-Some.new.page c.block_behind-in-Some.result
    (ap stmt_pieces c.in-Try.is ∙ (stmt_try c.in-Try.body c.in-Try.catch c.in-Try.finally
    ∙ ap (λ l. f.block_behind (codes "try ") (map stmt_pieces c.in-Try.body) ++ (f.of_catch_if (option_map catch_pieces c.in-Try.catch) ++ f.of_finally (option_map (map stmt_pieces) l))) (c.in-Some.is ∙ ap Some (sym c.as_slice-in-Some.ensures))))
    (c.in_ok-block_behind-in-Try.ensures ∙ ap (λ b. written (f.block_behind (codes "try ") (map stmt_pieces b)) c.args.page.now) c.as_slice-in-Try.ensures)
    c.in_ok-caught_if-in-Try.ensures c.block_behind-in-Some.ensures
