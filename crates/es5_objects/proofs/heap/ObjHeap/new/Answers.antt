use Rattle.std.proofs.Common.{ap, sym, subst, length, arith, rules}
use Rattle.es5_tree.specs.Objects.Links.{LinksWithin, NoCycle}
use Rattle.es5_objects.proofs.Heaps.{no_links, no_loops}
use Rattle.es5_objects.proofs.heap.ObjHeap.new.Goals as goal

pub invariant_of-result : goal.invariant_of-result
invariant_of-result c =
    record {
      small = search rules;
      room = c.in-Ok.ensures.capacity;
      within = omega (arith, ap length c.in-Ok.ensures.items);
      links = subst LinksWithin (sym c.in-Ok.ensures.items) no_links;
      no_cycle = subst NoCycle (sym c.in-Ok.ensures.items) no_loops;
    }
