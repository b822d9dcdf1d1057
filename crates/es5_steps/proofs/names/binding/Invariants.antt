use Rattle.std.proofs.Common.{◌≡◌, ◌-◌, length, Some}
use Rattle.es5_evaluation.specs.State.{binding_by}
use Rattle.es5_store.specs.Store.{records_of}
use Rattle.es5_steps.proofs.names.binding.Given as goal

abbrev pub invariant-loop-turn : goal.invariant-loop-turn
invariant-loop-turn l = binding_by (length l.fn.records) (records_of l.fn.records) (Some l.fn.r) l.fn.name ≡ binding_by (length l.fn.records - l.turn) (records_of l.fn.records) (Some l.at) l.fn.name
