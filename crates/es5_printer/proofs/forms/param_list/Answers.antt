use Rattle.std.proofs.Common.{◌≡◌, sym, ◌∙◌}
use Rattle.es5_printer.proofs.Written.{item_at, next_param}
use Rattle.es5_printer.proofs.forms.param_list.Goals as goal

pub loop-i-preserved : goal.loop-i-preserved
loop-i-preserved c =
    sym (next_param c.args.params.now c.loop-i.i c.at-in-loop-i.result.now c.loop-i.page c.put.new.self c.name-in-loop-i.new.page
    (item_at c.args.params.now c.loop-i.i c.at-in-loop-i.result.now c.at-in-loop-i.ensures) c.in_ok-put.ensures c.in_ok-name-2.ensures)
    ∙ c.loop-i.invariant
