use Rattle.es5_host.proofs.Making.{whole}
use Rattle.es5_host.proofs.made.intrinsics.Goals as goal

pub returns-clause-made : goal.returns-clause-made
returns-clause-made c =
    whole c.make_globals.result c.args.heap.now c.make_prototypes.new.heap c.make_constructors.new.heap c.make_host.new.heap c.make_functions.new.heap
    c.requires.new c.in_ok-make_prototypes.ensures c.in_ok-make_constructors.ensures c.in_ok-make_host.ensures c.in_ok-make_functions.ensures
