use Rattle.std.proofs.Common.{◌∙◌, ap, sym}
use Rattle.std.specs.Option.{option_copied}
use Rattle.es5_code.proofs.Found.{function_found, no_function}
use Rattle.es5_code.proofs.table.NodeTable.function.Goals as goal

pub returns-in-Some : goal.returns-in-Some
returns-in-Some c = rw (← c.self.view_is) (function_found c.self.inside.nodes c.args.i c.in-Some.node.now _ (sym c.get.ensures.value ∙ ap option_copied c.in-Some.is) c.as_function.ensures c.self.invariant)

pub returns-in-None : goal.returns-in-None
returns-in-None c = rw (← c.self.view_is) (no_function c.self.inside.nodes c.args.i (sym c.get.ensures.value ∙ ap option_copied c.in-None.is))
