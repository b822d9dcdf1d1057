use Rattle.std.proofs.Common.{refl, subst}
use Rattle.es5_tree.specs.declared.tree.Catch.{roll-Catch}
use Rattle.es5_evaluation.specs.Evaluate.{caught_by}
use Rattle.es5_objects.specs.Values.{value_of}
use Rattle.es5_code.specs.Trees.{stmts_in}
use Rattle.es5_pending.specs.Meaning.{act_task}
use Rattle.es5_store.specs.Steps.{Quiet}
use Rattle.es5_execution.specs.Scopes.{scope_of}
use Rattle.es5_execution.proofs.act.quiet.Goals as goal

pub returns-in-Catch-clause-does : goal.returns-in-Catch-clause-does
unfolding act_task
returns-in-Catch-clause-does c =
    let T = c.args.table.now.nodes in
    let ρ = scope_of c.args.scope.now in
    rw c.in-Catch.is
    (subst (λ n. Quiet c.catch.result T ρ (caught_by (roll-Catch (record { name = n; body = stmts_in T c.in-Catch.handler.body })) ρ (value_of c.in-Catch.value)) c.args.store.now c.catch.new.store) c.units.ensures (c.catch.ensures.does T ρ refl))
