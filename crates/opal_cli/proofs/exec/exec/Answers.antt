use Rattle.opal_cli.proofs.Executing.{no_program, exec_with, exec_front, not_back}
use Rattle.opal_cli.proofs.exec.exec.Goals as goal

pub returns-in-Err-clause-answer : goal.returns-in-Err-clause-answer
returns-in-Err-clause-answer g c map e a = no_program map _ c.args.file.now c.args.budget c.in-Err.fault _ _ (c.in-Err.ensures.loads map e) c.unloaded.ensures a

pub returns-in-Ok-script_back-clause-answer : goal.returns-in-Ok-script_back-clause-answer
returns-in-Ok-script_back-clause-answer g c map e a =
    exec_with map _ c.args.file.now c.in-Ok.bundle c.in-Ok-script_back.script c.args.budget _ _ _ c.run_on_input.ensures.kind
    (c.in-Ok.ensures.loads map e) c.in-Ok-script_back.ensures (c.run_on_input.ensures.answer a)

pub returns-in-Ok-script_back-clause-front : goal.returns-in-Ok-script_back-clause-front
returns-in-Ok-script_back-clause-front g c map e =
    exec_front map _ c.args.file.now c.in-Ok.bundle c.in-Ok-script_back.script c.args.budget _ _
    (c.in-Ok.ensures.loads map e) c.in-Ok-script_back.ensures c.run_on_input.ensures.front

pub returns-clause-answer : goal.returns-clause-answer
returns-clause-answer g c map e a =
    not_back map _ c.args.file.now c.in-Ok.bundle c.args.budget c.in-Err-script_back.stop _ _
    (c.in-Ok.ensures.loads map e) c.in-Err-script_back.ensures c.unprinted.ensures a
