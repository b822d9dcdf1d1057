use Rattle.std.proofs.Common.{◌∙◌, ap, sym}
use Rattle.std.specs.Option.{option_copied}
use Rattle.es5_code.proofs.Found.{stmt_found, no_stmt}
use Rattle.es5_code.proofs.table.NodeTable.stmt.Goals as goal

pub returns-in-Some : goal.returns-in-Some
returns-in-Some c = rw (← c.self.view_is) (stmt_found c.self.inside.nodes c.args.i c.in-Some.node.now _ (sym c.get.ensures.value ∙ ap option_copied c.in-Some.is) c.as_stmt.ensures c.self.invariant)

pub returns-in-None : goal.returns-in-None
returns-in-None c = rw (← c.self.view_is) (no_stmt c.self.inside.nodes c.args.i (sym c.get.ensures.value ∙ ap option_copied c.in-None.is))
