use Rattle.std.proofs.Common.{◌≡◌, ◌<◌, ◌≤◌, length, refl, arith}
use Rattle.es5_objects.specs.Values.{value_of}
use Rattle.es5_steps.proofs.PropertySteps.{property_put}
use Rattle.es5_steps.proofs.properties.write_own.Goals as goal

pub returns-in-Ok-clause-sound : goal.returns-in-Ok-clause-sound
returns-in-Ok-clause-sound c =
    let l = c.if-o-len.false in
    let n = c.len.ensures.len in
    property_put c.args.store.now c.put.new.heap c.args.o c.args.name.now (value_of c.args.value) c.requires.sound (omega (arith, l, n)) (c.if-not-is_named.ensures refl) c.in-Ok.ensures
