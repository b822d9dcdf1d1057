use Rattle.std.proofs.Common.{refl}
use Rattle.es5_store.proofs.Walks.{raise_full, raised}
use Rattle.es5_store.proofs.errors.raise.Goals as goal

pub returns-then-is_full-clause-does : goal.returns-then-is_full-clause-does
returns-then-is_full-clause-does c = λ T ρ. raise_full T ρ c.args.store.now c.args.name.now c.args.message (c.if-is_full.ensures.0 refl)

pub returns-in-Ok-clause-does : goal.returns-in-Ok-clause-does
returns-in-Ok-clause-does c = λ T ρ. raised T ρ c.args.store.now c.make_error.new.heap c.in-Ok.o c.args.name.now c.args.message c.in-Ok.ensures.number c.in-Ok.ensures.made
