use Rattle.std.proofs.Common.{◌∙◌}
use Rattle.es5_machine.proofs.First.{first_is, first_sound}
use Rattle.es5_machine.proofs.start.first_store.Goals as goal

pub returns-clause-state : goal.returns-clause-state
returns-clause-state c = first_is c.args.table.now c.args.input (record { heap = c.intrinsics.new.heap; codes = c.new-2.result; records = c.in_ok-records.records; lines = c.new-3.result; limit = c.args.cells }) _ _ _ _ c.in_ok-globals.ensures.made c.new-2.ensures.items c.in_ok-records.ensures c.in_ok-globals.ensures.globals c.new-own.ensures c.in_ok-declare.ensures c.variables.ensures c.requires c.new-3.ensures

pub returns-clause-sound : goal.returns-clause-sound
returns-clause-sound c = first_sound (record { heap = c.intrinsics.new.heap; codes = c.new-2.result; records = c.in_ok-records.records; lines = c.new-3.result; limit = c.args.cells }) _ _ c.intrinsics_stand.ensures.counted c.intrinsics_stand.ensures.valid c.in_ok-globals.ensures.made c.in_ok-records.ensures (c.in_ok-globals.ensures.capacity ∙ c.in_ok-heap.ensures.capacity ∙ c.in-Some.ensures.1)
