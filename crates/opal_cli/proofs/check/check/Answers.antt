use Rattle.std.proofs.Common.{codes, refl}
use Rattle.opal_cli.specs.Answers.{ok_line}
use Rattle.opal_cli.proofs.Compiling.{front_of_load, unloaded_answer, written_answer}
use Rattle.opal_cli.proofs.check.check.Goals as goal

pub returns-in-Err-clause-answer : goal.returns-in-Err-clause-answer
returns-in-Err-clause-answer g c map e a = unloaded_answer ok_line map c.args.file.now c.in-Err.fault _ _ (c.in-Err.ensures.loads map e) c.unloaded.ensures a

pub returns-in-Ok-write_all-clause-done : goal.returns-in-Ok-write_all-clause-done
returns-in-Ok-write_all-clause-done g c map e d = record { bundle = c.in-Ok.bundle; loads = c.in-Ok.ensures.loads map e; written = c.in-Ok-write_all.ensures.took }

pub returns-in-Ok-write_all-clause-answer : goal.returns-in-Ok-write_all-clause-answer
returns-in-Ok-write_all-clause-answer g c map e a =
    written_answer ok_line map c.args.file.now c.in-Ok.bundle (codes "ok\n") _ _ (c.in-Ok.ensures.loads map e) refl c.in-Ok-write_all.ensures.took

pub returns-in-Ok-write_all-clause-front : goal.returns-in-Ok-write_all-clause-front
returns-in-Ok-write_all-clause-front g c map e loaded l =
    front_of_load ok_line map c.args.file.now c.in-Ok.bundle (codes "ok\n") loaded _ _ c.one_load.ensures.one_load (c.in-Ok.ensures.loads map e) refl l c.write_all.ensures.front

pub returns-clause-front : goal.returns-clause-front
returns-clause-front g c map e loaded l =
    front_of_load ok_line map c.args.file.now c.in-Ok.bundle (codes "ok\n") loaded _ _ c.one_load.ensures.one_load (c.in-Ok.ensures.loads map e) refl l c.write_all.ensures.front
