use Rattle.std.proofs.Common.{◌≡◌, map, drop}
use Rattle.es5_printer.specs.Forms as spec
use Rattle.es5_printer.specs.Page.{written}
use Rattle.es5_printer.specs.Pieces.{listed, more_listed}
use Rattle.es5_printer.specs.Text.{expr_part, stmt_pieces}
use Rattle.es5_printer.proofs.forms.+print.Given as goal

abbrev pub invariant-lines-loop-stmt : goal.invariant-lines-loop-stmt
invariant-lines-loop-stmt l = written (spec.lines (map stmt_pieces (drop l.stmt-index l.body))) l.page ≡ written (spec.lines (map stmt_pieces l.body)) l.initial.page

abbrev pub invariant-items-loop-i : goal.invariant-items-loop-i
invariant-items-loop-i l =
    written (more_listed (map spec.pieces (map expr_part (drop l.i l.values)))) l.page
    ≡ written (listed (map spec.pieces (map expr_part l.values))) l.fn.page

abbrev pub invariant-pair_list-loop-i : goal.invariant-pair_list-loop-i
invariant-pair_list-loop-i l =
    written (more_listed (spec.pairs (drop l.i l.keys) (map expr_part (drop l.i l.values)))) l.page
    ≡ written (listed (spec.pairs l.keys (map expr_part l.values))) l.fn.page
