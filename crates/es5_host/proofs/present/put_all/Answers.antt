use Rattle.std.proofs.Common.{◌∙◌, ◌<◌, length, refl, sym, subst}
use Rattle.es5_host.specs.Items.{element}
use Rattle.es5_host.proofs.Elements.{only_this}
use Rattle.es5_host.proofs.Making.{given_more, given_all}
use Rattle.es5_host.proofs.LeftOut.{element_at}
use Rattle.es5_host.proofs.Validity.{unchanged}
use Rattle.es5_host.proofs.present.put_all.Goals as goal

pub loop-i-init : goal.loop-i-init
loop-i-init c = record { left = refl; other = unchanged c.args.heap.now c.args.o; valid = c.requires.valid; count = refl }

pub put_at-requires-clause-value : goal.put_at-requires-clause-value
put_at-requires-clause-value c = element_at _ _ c.args.items.now c.loop-i.i c.index-items-i.result c.loop-i.invariant.count c.requires.items c.loop-i-test.true c.index-items-i.is

pub loop-i-preserved : goal.loop-i-preserved
loop-i-preserved c =
    let lt : c.args.o < length c.loop-i.heap.cells = subst (λ n. c.args.o < n) (sym c.loop-i.invariant.count) c.requires.object in
    record {
      left = given_more element c.loop-i.heap c.put_at.new.heap c.args.o c.loop-i.i c.args.items.now c.index-items-i.result _ c.loop-i.invariant.left c.in_ok-put_at.ensures.put lt c.loop-i-test.true c.index-items-i.is;
      other = only_this c.args.heap.now c.loop-i.heap c.put_at.new.heap c.args.o _ _ c.loop-i.invariant.other c.in_ok-put_at.ensures.put lt;
      valid = c.in_ok-put_at.ensures.valid;
      count = c.in_ok-put_at.ensures.count ∙ c.loop-i.invariant.count;
    }

pub returns-clause-put : goal.returns-clause-put
returns-clause-put c = given_all element c.args.heap.now c.loop-i.heap c.args.o c.loop-i.i c.args.items.now _ c.loop-i.invariant.left c.loop-i.invariant.other c.loop-i-test.false
