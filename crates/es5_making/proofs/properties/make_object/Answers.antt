use Rattle.std.proofs.Common.{refl}
use Rattle.es5_making.proofs.NewObjects.{holder_full, holder_made}
use Rattle.es5_making.proofs.properties.make_object.Goals as goal

pub returns-then-is_full-clause-does : goal.returns-then-is_full-clause-does
returns-then-is_full-clause-does c = λ T ρ. holder_full T c.args.store.now c.args.names.now c.args.values (c.if-is_full.ensures.0 refl)

pub returns-in-Ok-clause-does : goal.returns-in-Ok-clause-does
returns-in-Ok-clause-does c = λ T ρ. holder_made T c.args.store.now c.new_holder.new.heap c.in-Ok.o c.args.names.now c.args.values c.in-Ok.ensures.number c.in-Ok.ensures.made
