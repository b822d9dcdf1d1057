use Rattle.std.proofs.Common.{◌≡◌, map, drop}
use Rattle.es5_printer.specs.Forms as spec
use Rattle.es5_printer.specs.Page.{written}
use Rattle.es5_printer.specs.Pieces.{listed, more_listed}
use Rattle.es5_printer.proofs.forms.param_list.Given as goal

abbrev pub invariant-loop-i : goal.invariant-loop-i
invariant-loop-i l = written (more_listed (map spec.param (drop l.i l.fn.params))) l.page ≡ written (listed (map spec.param l.fn.params)) l.fn.page
