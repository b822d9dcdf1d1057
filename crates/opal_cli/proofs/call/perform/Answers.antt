use Rattle.opal_cli.proofs.call.perform.Goals as goal

pub returns-in-Exec-clause-front : goal.returns-in-Exec-clause-front
returns-in-Exec-clause-front g c map e = rw c.in-Exec.is (c.exec.ensures.front map e)
