use Rattle.std.proofs.Common.{ap, map}
use Rattle.es5_tree.specs.Objects.Cells.{Object, new_cell}
use Rattle.es5_host.specs.Making.{holding, member_of}
use Rattle.es5_host.proofs.Making.{made_here, made_whole, on_ok}
use Rattle.es5_host.proofs.made.object.Goals as goal

pub give_all-requires-clause-plain : goal.give_all-requires-clause-plain
give_all-requires-clause-plain c = ap (λ x. x.kind) (made_here c.args.heap.now c.create.new.self c.in-Ok.o (new_cell Object c.args.link) c.in-Ok.ensures.made c.in-Ok.ensures.number)

pub returns-in-Ok-clause-made : goal.returns-in-Ok-clause-made
returns-in-Ok-clause-made c =
    on_ok c.give_all.result _ _
    (made_whole c.args.heap.now c.create.new.self c.give_all.new.heap c.in-Ok.o (new_cell Object c.args.link) (λ x. holding x (map (λ m. (m.0.now, member_of m.1)) c.args.members.now)) c.in-Ok.ensures.made c.in-Ok.ensures.capacity c.in-Ok.ensures.number)
    c.give_all.ensures
