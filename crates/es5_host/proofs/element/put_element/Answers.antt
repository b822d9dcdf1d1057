use Rattle.es5_host.proofs.Validity.{left_alone}
use Rattle.es5_host.proofs.element.put_element.Goals as goal

pub returns-in-None-clause-put : goal.returns-in-None-clause-put
returns-in-None-clause-put c = left_alone c.args.heap.now c.args.o c.args.i c.args.item.now c.in-None.is
