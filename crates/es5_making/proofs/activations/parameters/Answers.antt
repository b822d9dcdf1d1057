use Rattle.std.proofs.Common.{◌<◌, ◌≤◌, length, arith}
use Rattle.es5_objects.specs.Values.{value_of}
use Rattle.es5_making.proofs.Binding.{bound_more, bound_all}
use Rattle.es5_making.proofs.activations.parameters.Goals as goal

pub loop-i-preserved : goal.loop-i-preserved
loop-i-preserved c =
    let lt : c.loop-i.i < length c.args.params.now = omega (arith, c.len-i-end.ensures) in
    bound_more c.args.params.now c.args.args.now c.loop-i.i c.at.result.now (value_of c.in_ok-value.value) c.loop-i.bindings c.bind.new.bindings _ c.at.ensures lt c.in_ok-value.ensures c.in_ok-bind.ensures c.loop-i.invariant

pub returns : goal.returns
returns c =
    let le : length c.args.params.now ≤ c.loop-i.i = omega (arith, c.len-i-end.ensures) in
    bound_all c.args.params.now c.args.args.now c.loop-i.i c.loop-i.bindings _ le c.loop-i.invariant
