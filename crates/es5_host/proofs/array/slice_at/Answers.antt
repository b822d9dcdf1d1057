use Rattle.std.proofs.Common.{◌≡◌, ◌∙◌, ◌-◌, ◌&&◌, ap, map, nat_le, true, rules}
use Rattle.es5_tree.specs.Intrinsics.Rows.{elements}
use Rattle.es5_host.specs.Items.{element}
use Rattle.es5_host.proofs.Named.{elements_named}
use Rattle.es5_host.proofs.LeftOut.{items_named, made_answers}
use Rattle.es5_host.proofs.array.slice_at.Goals as goal

pub make_present-requires-clause-items : goal.make_present-requires-clause-items
make_present-requires-clause-items c = items_named _ c.deref.result.now (elements c.args.heap.now.cells c.args.o c.args.i (c.args.j - c.args.i)) (ap (map element) c.deref.ensures.value ∙ c.in-Ok.ensures) (elements_named c.args.heap.now.cells c.args.o c.args.i (c.args.j - c.args.i) c.requires.valid)

pub returns-in-Ok-clause-answer : goal.returns-in-Ok-clause-answer
returns-in-Ok-clause-answer c =
    let within : (nat_le c.args.i c.args.j && nat_le c.args.j c.args.n) ≡ true = search rules in
    made_answers _ c.make_present.result c.args.heap.now c.make_present.new.heap c.deref.result.now (elements c.args.heap.now.cells c.args.o c.args.i (c.args.j - c.args.i)) within (ap (map element) c.deref.ensures.value ∙ c.in-Ok.ensures) c.make_present.ensures.answer
