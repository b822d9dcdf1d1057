use Rattle.std.proofs.Common.{◌≤◌, length, arith}
use Rattle.es5_operators.proofs.Objects.{plain_past_end}
use Rattle.es5_operators.proofs.kind.object_name.Goals as goal

pub returns-else-o-len : goal.returns-else-o-len
returns-else-o-len c =
    let e = c.len.ensures.len in
    let f = c.if-o-len.false in
    plain_past_end c.args.heap.now.cells c.args.o (omega (arith, e, f))
