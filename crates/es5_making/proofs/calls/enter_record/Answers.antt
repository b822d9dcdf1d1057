use Rattle.std.proofs.Common.{refl}
use Rattle.es5_evaluation.specs.Evaluate.{activation}
use Rattle.es5_objects.specs.Values.{value_of}
use Rattle.es5_code.specs.Trees.{code_of}
use Rattle.es5_making.specs.Calls.{arguments_bound}
use Rattle.es5_making.proofs.CallSteps.{body_full, body_begun}
use Rattle.es5_making.proofs.calls.enter_record.Goals as goal

pub returns-then-is_full-clause-does : goal.returns-then-is_full-clause-does
returns-then-is_full-clause-does c = λ T ρ d.
    body_full T c.args.store.now c.args.function.now.body (value_of c.args.this) (activation (code_of T c.args.function.now) c.args.f c.args.outer c.args.args.now (arguments_bound c.args.arguments)) (c.if-is_full.ensures.0 refl)

pub returns-in-Ok-add_record-clause-does : goal.returns-in-Ok-add_record-clause-does
returns-in-Ok-add_record-clause-does c = λ T ρ d.
    body_begun T c.args.store.now (record c.args.store.now { records = c.add_record.new.records }) c.in-Ok.made _ c.args.function.now.body c.in-Ok-add_record.innermost (value_of c.args.this)
    (c.in-Ok.ensures T d) c.in-Ok-add_record.ensures.number c.in-Ok-add_record.ensures.added refl refl refl
