use Rattle.opal_cli.proofs.Executing.{run_with}
use Rattle.opal_cli.proofs.run.run_on_input.Goals as goal

pub returns-in-Ok-clause-answer : goal.returns-in-Ok-clause-answer
returns-in-Ok-clause-answer g c a = run_with _ c.args.script c.in-Ok.text c.args.budget _ _ _ c.execute.ensures.kind c.in-Ok.ensures.text (c.execute.ensures.ran a)
