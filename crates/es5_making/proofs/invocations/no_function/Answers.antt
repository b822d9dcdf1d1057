use Rattle.std.proofs.Common.{[]}
use Rattle.es5_tree.specs.Values.{Undefined}
use Rattle.es5_evaluation.specs.Evaluate.{not_a_function}
use Rattle.es5_evaluation.specs.Task.{Scope}
use Rattle.es5_making.proofs.HostSteps.{quiet_acted, quiet_cause}
use Rattle.es5_making.proofs.invocations.no_function.Goals as goal

pub returns-clause-does : goal.returns-clause-does
returns-clause-does c = λ T ρ told. quiet_acted c.type_error.result T ρ not_a_function c.args.store.now c.type_error.new.store told (c.type_error.ensures.does T ρ)

abbrev nowhere : Scope
nowhere = record { this = Undefined; innermost = 0 }

pub returns-clause-cause : goal.returns-clause-cause
returns-clause-cause c = λ n. quiet_cause c.type_error.result [] nowhere not_a_function c.args.store.now c.type_error.new.store n n (c.type_error.ensures.does [] nowhere)
