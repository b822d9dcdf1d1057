use Rattle.std.proofs.Common.{◌∙◌, ◌<◌, length, refl, sym, subst}
use Rattle.es5_tree.specs.Objects.Links.{cell_at}
use Rattle.es5_tree.specs.Intrinsics.Rows.{with_element}
use Rattle.es5_objects.specs.Values.{value_if}
use Rattle.es5_host.proofs.Elements.{filled_more, filled_whole, item_at, only_this}
use Rattle.es5_host.proofs.Validity.{unchanged}
use Rattle.es5_host.proofs.element.fill.Goals as goal

pub loop-i-init : goal.loop-i-init
loop-i-init c = record { filled = refl; other = unchanged c.args.heap.now c.args.o; valid = c.requires.valid; count = refl }

pub put_element-requires-clause-item : goal.put_element-requires-clause-item
put_element-requires-clause-item c = item_at _ _ c.args.items.now c.loop-i.i c.index-items-i.result c.loop-i.invariant.count c.requires.items c.loop-i-test.true c.index-items-i.is

pub loop-i-preserved : goal.loop-i-preserved
loop-i-preserved c =
    let lt : c.args.o < length c.loop-i.heap.cells = subst (λ n. c.args.o < n) (sym c.loop-i.invariant.count) c.requires.object in
    record {
      filled = filled_more c.loop-i.heap c.put_element.new.heap c.args.o c.loop-i.i c.args.items.now c.index-items-i.result _ c.loop-i.invariant.filled c.in_ok-put_element.ensures.put lt c.loop-i-test.true c.index-items-i.is;
      other = only_this c.args.heap.now c.loop-i.heap c.put_element.new.heap c.args.o (cell_at c.loop-i.heap.cells c.args.o) (with_element (cell_at c.loop-i.heap.cells c.args.o) c.loop-i.i (value_if c.index-items-i.result)) c.loop-i.invariant.other c.in_ok-put_element.ensures.put lt;
      valid = c.in_ok-put_element.ensures.valid;
      count = c.in_ok-put_element.ensures.count ∙ c.loop-i.invariant.count;
    }

pub returns-clause-filled : goal.returns-clause-filled
returns-clause-filled c = filled_whole c.args.heap.now c.loop-i.heap c.args.o c.loop-i.i c.args.items.now _ c.loop-i.invariant.filled c.loop-i.invariant.other c.loop-i-test.false
