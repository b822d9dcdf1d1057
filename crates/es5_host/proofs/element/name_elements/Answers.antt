use Rattle.std.proofs.Common.{map, ◌<◌, length, arith}
use Rattle.es5_objects.specs.Values.{value_if}
use Rattle.es5_host.proofs.Elements.{names_more}
use Rattle.es5_host.proofs.element.name_elements.Goals as goal

pub loop-i-preserved : goal.loop-i-preserved
loop-i-preserved c =
    let lt : c.loop-i.i < length c.args.names.now = omega (arith, c.len-i-end.ensures) in
    names_more c.args.names.now c.loop-i.i c.at.result.now (map value_if c.loop-i.items.items) (map value_if c.push_name.new.items.items) c.at.ensures lt c.in_ok-push_name.ensures c.loop-i.invariant
