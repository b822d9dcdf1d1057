use Rattle.std.proofs.Common.{ap}
use Rattle.es5_objects.specs.Values.{value_of}
use Rattle.es5_host.proofs.Making.{on_ok}
use Rattle.es5_making.proofs.Holding.{valid_given}
use Rattle.es5_making.proofs.properties.put_property.Goals as goal

pub returns-clause-valid : goal.returns-clause-valid
returns-clause-valid c = on_ok c.put.result _ _
    (λ e. valid_given c.args.heap.now c.put.new.self c.args.o c.in_ok-try_clone.field-0 (value_of c.in_ok-written.written) (value_of c.args.value.now) (ap value_of c.in_ok-written.ensures) e c.requires.object c.requires.value c.requires.valid)
    c.put.ensures.ok
