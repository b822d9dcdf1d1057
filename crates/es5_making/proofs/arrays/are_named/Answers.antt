use Rattle.std.proofs.Common.{◌<◌, ◌≤◌, length, arith}
use Rattle.es5_objects.specs.Values.{value_of}
use Rattle.es5_making.proofs.Filling.{named_more, named_all}
use Rattle.es5_making.proofs.arrays.are_named.Goals as goal

pub loop-i-preserved : goal.loop-i-preserved
loop-i-preserved c =
    let lt : c.loop-i.i < length c.args.values.now = omega (arith, c.len-i-end.ensures) in
    named_more (length c.args.heap.now.cells) c.loop-i.i c.args.values.now (value_of c.at.result.now) c.at.ensures lt (c.is_named.ensures c.if-not-is_named.false) c.loop-i.invariant

pub returns : goal.returns
returns c = λ _.
    let le : length c.args.values.now ≤ c.loop-i.i = omega (arith, c.len-i-end.ensures) in
    named_all (length c.args.heap.now.cells) c.loop-i.i c.args.values.now le c.loop-i.invariant
