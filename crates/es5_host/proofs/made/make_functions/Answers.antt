use Rattle.std.proofs.Common.{arith}
use Rattle.es5_host.proofs.Making.{next_function, all_functions}
use Rattle.es5_host.proofs.made.make_functions.Goals as goal

pub loop-number-preserved : goal.loop-number-preserved
loop-number-preserved c = record {
  made = next_function c.args.heap.now c.loop-number.heap c.make_function.new.heap c.loop-number.number c.loop-number.invariant.made c.in_ok-make_function.ensures.made;
  count = omega (arith, c.in_ok-make_function.ensures.count);
}

pub returns : goal.returns
returns c = all_functions c.args.heap.now c.loop-number.heap c.loop-number.number (omega arith) c.loop-number.invariant.made
