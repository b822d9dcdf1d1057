use Rattle.es5_code.proofs.Gathering.{gathered}
use Rattle.es5_code.proofs.own.own_names.Goals as goal

pub returns-clause-names : goal.returns-clause-names
returns-clause-names c = (gathered c.statements.new.own c.new.result c.as_slice.result.now c.args.body.now c.new.ensures c.as_slice.ensures c.in_ok-statements.ensures).0

pub returns-clause-arguments : goal.returns-clause-arguments
returns-clause-arguments c = (gathered c.statements.new.own c.new.result c.as_slice.result.now c.args.body.now c.new.ensures c.as_slice.ensures c.in_ok-statements.ensures).1
