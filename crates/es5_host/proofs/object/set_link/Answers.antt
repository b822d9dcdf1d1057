use Rattle.std.proofs.Common.{sym, subst, ap}
use Rattle.es5_tree.specs.Intrinsics.Rows.{linked}
use Rattle.es5_tree.specs.Intrinsics.Valid.{Valid}
use Rattle.es5_host.proofs.Rows.{answered_as, still}
use Rattle.es5_host.proofs.Validity.{valid_link}
use Rattle.es5_host.proofs.object.set_link.Goals as goal

pub returns-in-Ok-clause-valid : goal.returns-in-Ok-clause-valid
returns-in-Ok-clause-valid c =
    subst (λ h. Valid h.cells) (sym c.in-Ok.ensures.ok)
    (valid_link c.args.heap.now.cells c.args.o c.args.link c.requires.object c.requires.link c.requires.valid)

pub returns-in-Err-clause-answer : goal.returns-in-Err-clause-answer
returns-in-Err-clause-answer c = still _ _ _ _ c.in-Err.ensures.err
    (answered_as _ _ _ _ _ (ap (λ b. linked b c.args.heap.now.cells c.args.o c.args.link) c.in-Err.ensures.cycle) (c.type_error.ensures c.args.heap.now))
