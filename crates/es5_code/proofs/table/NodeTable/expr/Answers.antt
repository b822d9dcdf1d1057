use Rattle.std.proofs.Common.{◌∙◌, ap, sym}
use Rattle.std.specs.Option.{option_copied}
use Rattle.es5_code.proofs.Found.{expr_found, no_expr}
use Rattle.es5_code.proofs.table.NodeTable.expr.Goals as goal

pub returns-in-Some : goal.returns-in-Some
returns-in-Some c = rw (← c.self.view_is) (expr_found c.self.inside.nodes c.args.i c.in-Some.node.now _ (sym c.get.ensures.value ∙ ap option_copied c.in-Some.is) c.as_expr.ensures c.self.invariant)

pub returns-in-None : goal.returns-in-None
returns-in-None c = rw (← c.self.view_is) (no_expr c.self.inside.nodes c.args.i (sym c.get.ensures.value ∙ ap option_copied c.in-None.is))
