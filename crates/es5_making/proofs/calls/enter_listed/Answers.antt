use Rattle.std.proofs.Common.{refl}
use Rattle.es5_objects.specs.Values.{value_of}
use Rattle.es5_code.specs.Trees.{code_of}
use Rattle.es5_making.proofs.CallSteps.{listed, listed_full}
use Rattle.es5_making.proofs.calls.enter_listed.Goals as goal

pub returns-then-is_full-clause-does : goal.returns-then-is_full-clause-does
returns-then-is_full-clause-does c = λ T ρ d. listed_full T c.args.store.now (code_of T c.args.function.now) c.args.f c.args.outer (value_of c.args.this) c.args.args.now (c.if-is_full.ensures.0 refl)

pub returns-in-Ok-clause-does : goal.returns-in-Ok-clause-does
returns-in-Ok-clause-does c = λ T ρ d.
    listed T ρ c.args.store.now c.enter_record.new.store c.new_arguments.new.heap c.enter_record.result (code_of T c.args.function.now) c.args.f c.args.outer c.in-Ok.o (value_of c.args.this) c.args.args.now
    c.in-Ok.ensures.number c.in-Ok.ensures.made (c.enter_record.ensures.does T ρ d)
