use Rattle.std.proofs.Common.{◌≡◌, take, get_or, None}
use Rattle.es5_tree.specs.Objects.Cells.{Object, new_cell, put, with_value, with_property}
use Rattle.es5_tree.specs.Intrinsics.Made.{constructors}
use Rattle.es5_host.specs.Making.{holding, with_more}
use Rattle.es5_host.proofs.Making.{next}
use Rattle.es5_host.proofs.made.make_constructors.Goals as goal

pub returns : goal.returns
unfolding holding put with_value with_property
returns c =
    let none = new_cell Object None in
    let h = c.args.heap.now in
    let e1 : c.object.new.heap ≡ with_more h (take 1 constructors) = c.in_ok-object.ensures.made in
    let e2 : c.object-2.new.heap ≡ with_more h (take 2 constructors) = next h c.object.new.heap c.object-2.new.heap (take 1 constructors) (get_or constructors 1 none) e1 c.in_ok-object-2.ensures.made in
    let e3 : c.object-3.new.heap ≡ with_more h (take 3 constructors) = next h c.object-2.new.heap c.object-3.new.heap (take 2 constructors) (get_or constructors 2 none) e2 c.in_ok-object-3.ensures.made in
    let e4 : c.object-4.new.heap ≡ with_more h (take 4 constructors) = next h c.object-3.new.heap c.object-4.new.heap (take 3 constructors) (get_or constructors 3 none) e3 c.in_ok-object-4.ensures.made in
    let e5 : c.object-5.new.heap ≡ with_more h (take 5 constructors) = next h c.object-4.new.heap c.object-5.new.heap (take 4 constructors) (get_or constructors 4 none) e4 c.in_ok-object-5.ensures.made in
    next h c.object-5.new.heap c.object-6.new.heap (take 5 constructors) (get_or constructors 5 none) e5 c.in_ok-object-6.ensures.made
