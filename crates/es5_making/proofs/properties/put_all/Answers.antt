use Rattle.std.proofs.Common.{◌<◌, ◌≤◌, ◌∙◌, min, length, refl, sym, subst, arith}
use Rattle.es5_tree.specs.Objects.Links.{cell_at}
use Rattle.es5_tree.specs.Objects.Cells.{put}
use Rattle.es5_objects.specs.Values.{value_of}
use Rattle.es5_host.proofs.Elements.{only_this}
use Rattle.es5_host.proofs.Making.{stays_plain}
use Rattle.es5_host.proofs.Validity.{unchanged}
use Rattle.es5_making.proofs.Holding.{given_more, given_all, named_at}
use Rattle.es5_making.proofs.properties.put_all.Goals as goal

pub loop-i-init : goal.loop-i-init
loop-i-init c = record { left = refl; other = unchanged c.args.heap.now c.args.o; plain = c.requires.plain; valid = c.requires.valid; count = refl }

pub put_property-requires-clause-value : goal.put_property-requires-clause-value
put_property-requires-clause-value c =
    let lt : c.loop-i.i < length c.args.values.now = omega (arith, c.len.ensures, c.len-2.ensures, c.min-count.ensures, c.loop-i-test.true) in
    named_at (length c.loop-i.heap.cells) (length c.args.heap.now.cells) c.args.values.now c.loop-i.i (value_of c.at-in-loop-i.result.now) c.loop-i.invariant.count c.requires.values c.at-in-loop-i.ensures lt

pub loop-i-preserved : goal.loop-i-preserved
loop-i-preserved c =
    let lt : c.args.o < length c.loop-i.heap.cells = subst (λ n. c.args.o < n) (sym c.loop-i.invariant.count) c.requires.object in
    let in_names : c.loop-i.i < length c.args.names.now = omega (arith, c.len.ensures, c.len-2.ensures, c.min-count.ensures, c.loop-i-test.true) in
    let in_values : c.loop-i.i < length c.args.values.now = omega (arith, c.len.ensures, c.len-2.ensures, c.min-count.ensures, c.loop-i-test.true) in
    record {
      left = given_more c.loop-i.heap c.put_property.new.heap c.args.o c.loop-i.i c.args.names.now c.args.values.now c.at.result.now (value_of c.at-in-loop-i.result.now) _ c.loop-i.invariant.left c.in_ok-put_property.ensures.put lt c.at.ensures in_names c.at-in-loop-i.ensures in_values;
      other = only_this c.args.heap.now c.loop-i.heap c.put_property.new.heap c.args.o (cell_at c.loop-i.heap.cells c.args.o) (put (cell_at c.loop-i.heap.cells c.args.o) c.at.result.now (value_of c.at-in-loop-i.result.now)) c.loop-i.invariant.other c.in_ok-put_property.ensures.put lt;
      plain = stays_plain c.loop-i.heap c.put_property.new.heap c.args.o c.at.result.now (value_of c.at-in-loop-i.result.now) c.in_ok-put_property.ensures.put lt c.loop-i.invariant.plain;
      valid = c.in_ok-put_property.ensures.valid;
      count = c.in_ok-put_property.ensures.count ∙ c.loop-i.invariant.count;
    }

pub returns-clause-put : goal.returns-clause-put
returns-clause-put c =
    let le : min (length c.args.names.now) (length c.args.values.now) ≤ c.loop-i.i = omega (arith, c.len.ensures, c.len-2.ensures, c.min-count.ensures, c.loop-i-test.false) in
    given_all c.args.heap.now c.loop-i.heap c.args.o c.loop-i.i c.args.names.now c.args.values.now _ c.loop-i.invariant.left c.loop-i.invariant.other le
