use Rattle.std.proofs.Common.{◌∙◌, ap, sym}
use Rattle.std.specs.Option.{option_copied}
use Rattle.es5_code.proofs.Found.{stmt_element, no_stmt_element}
use Rattle.es5_code.proofs.table.NodeTable.stmt_of_list.Goals as goal

pub returns-in-Some-clause-element : goal.returns-in-Some-clause-element
returns-in-Some-clause-element c = rw (← c.self.view_is) (stmt_element c.self.inside.nodes c.args.list c.args.k c.in-Some.node.now _ (sym c.get.ensures.value ∙ ap option_copied c.in-Some.is) c.stmt_of_list.ensures.id c.self.invariant)

pub returns-in-None-clause-element : goal.returns-in-None-clause-element
returns-in-None-clause-element c = rw (← c.self.view_is) (no_stmt_element c.self.inside.nodes c.args.list c.args.k (sym c.get.ensures.value ∙ ap option_copied c.in-None.is))
