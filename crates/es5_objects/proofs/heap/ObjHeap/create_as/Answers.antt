use Rattle.std.proofs.Common.{◌<◌, ap, sym, subst, length, arith, is_ok}
use Rattle.es5_tree.specs.Objects.Links.{Within}
use Rattle.es5_objects.proofs.Heaps.{links_pushed, no_cycle_pushed, length_pushed}
use Rattle.es5_objects.proofs.heap.ObjHeap.create_as.Goals as goal

pub invariant_of-self : goal.invariant_of-self
invariant_of-self c =
    let lt : length c.self.inside.cells.items < c.self.inside.capacity = omega (arith, c.self.inside.cells.ok.0, c.len-made.ensures, c.if-self-made.false) in
    let w : Within c.self.inside.cells.items c.new.result.link =
    subst (λ link. Within c.self.inside.cells.items link) (sym (ap (λ x. x.link) c.new.ensures))
    (subst (λ h. Within h.cells c.args.proto) (sym c.self.view_is) c.requires) in
    record {
      small = c.self.invariant.small;
      room = omega (arith, c.push.ensures.capacity);
      within = length_pushed c.self.inside.cells.items c.push.new.self.items c.new.result (is_ok c.push.result) c.self.inside.capacity c.push.ensures.items lt;
      links = links_pushed c.self.inside.cells.items c.push.new.self.items c.new.result (is_ok c.push.result) c.push.ensures.items w c.self.invariant.links;
      no_cycle = no_cycle_pushed c.self.inside.cells.items c.push.new.self.items c.new.result (is_ok c.push.result) c.push.ensures.items w c.self.invariant.links c.self.invariant.no_cycle;
    }
