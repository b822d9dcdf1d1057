use Rattle.es5_host.proofs.Making.{on_ok}
use Rattle.es5_store.proofs.ErrorObjects.{both_given, still_plain}
use Rattle.es5_store.proofs.errors.give_both.Goals as goal

pub give-requires-2-clause-plain : goal.give-requires-2-clause-plain
give-requires-2-clause-plain c = still_plain c.args.heap.now c.give.new.heap c.args.o c.args.name c.requires.object c.requires.fresh c.in_ok-give.ensures.put

pub returns-clause-put : goal.returns-clause-put
returns-clause-put c =
    on_ok c.give-2.result _ _
    (λ d. both_given c.args.heap.now c.give.new.heap c.give-2.new.heap c.args.o c.args.name c.args.message c.requires.object c.requires.fresh c.in_ok-give.ensures.put d)
    c.give-2.ensures.put
