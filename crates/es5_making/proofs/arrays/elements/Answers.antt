use Rattle.std.proofs.Common.{◌<◌, length, map, arith}
use Rattle.es5_objects.specs.Values.{value_if, value_of}
use Rattle.es5_making.proofs.Filling.{element_more}
use Rattle.es5_making.proofs.arrays.elements.Goals as goal

pub loop-i-preserved : goal.loop-i-preserved
loop-i-preserved c =
    let lt : c.loop-i.i < length c.args.values.now = omega (arith, c.len-i-end.ensures) in
    element_more c.args.values.now c.loop-i.i (value_of c.at.result.now) (map value_if c.loop-i.items.items) (map value_if c.push_element.new.items.items) c.at.ensures lt c.in_ok-push_element.ensures c.loop-i.invariant
