use Rattle.std.proofs.Common.{◌∙◌, ◌<◌, length, refl, sym, subst}
use Rattle.es5_host.specs.Making.{member_of}
use Rattle.es5_host.proofs.Making.{given_at, given_all, stays_plain}
use Rattle.es5_host.proofs.Elements.{only_this}
use Rattle.es5_host.proofs.Validity.{unchanged}
use Rattle.es5_host.proofs.made.give_all.Goals as goal

pub loop-member-init : goal.loop-member-init
loop-member-init c = record { left = refl; other = unchanged c.args.heap.now c.args.o; plain = c.requires.plain; count = refl }

pub loop-member-preserved : goal.loop-member-preserved
loop-member-preserved c =
    let lt : c.args.o < length c.loop-member.heap.cells = subst (λ n. c.args.o < n) (sym c.loop-member.invariant.count) c.requires.object in
    record {
      left = given_at (λ m. (m.0.now, member_of m.1)) c.loop-member.heap c.give.new.heap c.args.o c.loop-member.member-index c.args.members.now _ _ c.loop-member.invariant.left c.in_ok-give.ensures.put lt c.loop-member-test.true;
      other = only_this c.args.heap.now c.loop-member.heap c.give.new.heap c.args.o _ _ c.loop-member.invariant.other c.in_ok-give.ensures.put lt;
      plain = stays_plain c.loop-member.heap c.give.new.heap c.args.o _ _ c.in_ok-give.ensures.put lt c.loop-member.invariant.plain;
      count = c.in_ok-give.ensures.count ∙ c.loop-member.invariant.count;
    }

pub returns : goal.returns
returns c = given_all (λ m. (m.0.now, member_of m.1)) c.args.heap.now c.loop-member.heap c.args.o c.loop-member.member-index c.args.members.now _ c.loop-member.invariant.left c.loop-member.invariant.other c.loop-member-test.false
