use Rattle.std.proofs.Common.{Some, refl, ap₂}
use Rattle.es5_objects.specs.Values.{value_of}
use Rattle.es5_making.proofs.NewRecords.{catch_full, catch_made}
use Rattle.es5_making.proofs.records.catch.Goals as goal

pub returns-then-is_full-clause-does : goal.returns-then-is_full-clause-does
returns-then-is_full-clause-does c = λ T ρ i. catch_full T c.args.store.now c.args.name.now c.args.body ρ (value_of c.args.value) (c.if-is_full.ensures.0 refl)

pub returns-in-Ok-add_record-clause-does : goal.returns-in-Ok-add_record-clause-does
returns-in-Ok-add_record-clause-does c = λ T ρ i.
    catch_made T ρ c.args.store.now (record c.args.store.now { records = c.add_record.new.records }) (record { variables = c.in-Ok.variables; constants = c.new.result; outer = Some c.args.r })
    c.args.name.now c.args.body c.args.r c.in-Ok-add_record.innermost (value_of c.args.value)
    i
    (ap₂ (λ variables constants. record { variables = variables; constants = constants; outer = Some c.args.r }) c.in-Ok.ensures c.new.ensures)
    c.in-Ok-add_record.ensures.number c.in-Ok-add_record.ensures.added refl refl refl
