use Rattle.std.proofs.Common.{◌<◌, ◌≤◌, length, arith}
use Rattle.es5_making.proofs.Binding.{declared_more, declared_all}
use Rattle.es5_making.proofs.activations.declare.Goals as goal

pub loop-i-preserved : goal.loop-i-preserved
loop-i-preserved c =
    let lt : c.loop-i.i < length c.args.names.now = omega (arith, c.len-i-end.ensures) in
    declared_more c.args.names.now c.loop-i.i c.at.result.now c.loop-i.bindings c.bind.new.bindings _ c.at.ensures lt c.in_ok-bind.ensures c.loop-i.invariant

pub returns : goal.returns
returns c =
    let le : length c.args.names.now ≤ c.loop-i.i = omega (arith, c.len-i-end.ensures) in
    declared_all c.args.names.now c.loop-i.i c.loop-i.bindings _ le c.loop-i.invariant
