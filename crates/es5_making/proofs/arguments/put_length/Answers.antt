use Rattle.std.proofs.Common.{refl}
use Rattle.es5_tree.specs.Values.{Num}
use Rattle.es5_host.proofs.Making.{on_ok}
use Rattle.es5_making.proofs.Holding.{valid_given}
use Rattle.es5_making.proofs.arguments.put_length.Goals as goal

pub returns-clause-valid : goal.returns-clause-valid
returns-clause-valid c = on_ok c.put.result _ _
    (λ e. valid_given c.args.heap.now c.put.new.self c.args.o c.in_ok-name.name (Num c.from_u32.result) (Num c.from_u32.result) refl e c.requires.object tt c.requires.valid)
    c.put.ensures.ok
