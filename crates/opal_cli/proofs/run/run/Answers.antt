use Rattle.opal_cli.proofs.Executing.{no_file}
use Rattle.opal_cli.proofs.run.run.Goals as goal

pub returns-in-Err-clause-answer : goal.returns-in-Err-clause-answer
returns-in-Err-clause-answer g c map e a = no_file map _ c.args.file.now c.args.budget c.in-Err.fault (c.in-Err.ensures.reads map e) _ _ c.unread_script.ensures a
