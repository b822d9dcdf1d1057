use Rattle.opal_cli.proofs.Running.{ran_from, took_from, took_nothing}
use Rattle.opal_cli.proofs.execute.execute.Goals as goal

pub returns-clause-ran : goal.returns-clause-ran
returns-clause-ran g c a =
    let r = c.run-end.ensures in
    ran_from c.args.script c.args.input c.args.budget c.in-Ok.machine c.run-end.new.self c.run-end.result _ _ _ c.in-Ok.ensures r.same r.begun.1 r.keeps r.says c.outcome_of.ensures a

pub returns-clause-front : goal.returns-clause-front
returns-clause-front g c =
    let r = c.run-end.ensures in
    took_from c.args.script c.args.input c.args.budget c.in-Ok.machine c.run-end.new.self c.run-end.result _ _ c.in-Ok.ensures r.same r.begun.1 r.says

pub returns-in-Err-clause-front : goal.returns-in-Err-clause-front
returns-in-Err-clause-front g c = took_nothing c.args.script c.args.input c.args.budget _
