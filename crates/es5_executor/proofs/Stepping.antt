-- What a proof about a symbolic state unfolds. Objects and records stay shut.
use denote.Hole.Carrier
use Rattle.es5_tree.specs.declared.tree.EsKind.TheBlock
use Rattle.es5_tree.specs.declared.tree.EsKind.{out-EsKind}
use Rattle.es5_tree.specs.declared.tree.EsStmt.{out-EsStmt}
use Rattle.es5_tree.specs.Values.{find_own}
use Rattle.es5_tree.specs.Objects.Cells.{own, with_property, with_value, put}
use Rattle.es5_evaluation.specs.Evaluate.{bound_params, with_properties}
use Rattle.es5_evaluation.specs.Declared.{new_names}
use Rattle.es5_executor.specs.Memory.{listed, plain}
use Rattle.es5_executor.proofs.Memory.{clash}
use Rattle.es5_executor.proofs.Sym
use Rattle.es5_executor.proofs.Calls
use Rattle.es5_executor.proofs.Codes

unfoldable pub stepping : Unit {0}
unfolding out-EsStmt out-EsKind Carrier.out TheBlock.shown-the_row-EsExpr-1 TheBlock.shown-the_row-EsKind-0 TheBlock.shown-the_row-EsStmt-3 Carrier.shown Carrier.hidden find_own with_property with_value own put bound_params with_properties new_names Sym.fact_at Sym.outer_at Sym.rewritten Sym.revalued clash plain listed Sym.Unless Sym.unless Sym.Changes Sym.Hit Sym.hit Sym.added Sym.Kept Sym.kept Sym.Cut Sym.cut Sym.Spared Sym.spared Sym.Linked Sym.linked Sym.Unlinked Sym.unlinked Sym.lengths Sym.news Sym.No Sym.on Sym.on_place Sym.Hinted Sym.Choice Sym.Test Sym.VarIs Sym.var Sym.SetIs Sym.set_var Sym.AbsentAt Sym.absent_by Sym.behind Sym.LinkAt Sym.link_by Sym.SeenAt Sym.seen_by Sym.OwnsAt Sym.owns_by Sym.makes Sym.items Sym.listing Sym.arrayed Sym.raised Sym.Pick Sym.NoIndex Sym.prop Sym.placed Sym.named Sym.put_at Sym.set_prop Sym.cut_at Sym.cut_prop Sym.link_at_by Sym.removed Sym.read Sym.set Sym.make Sym.function Sym.ranged Sym.Holds Sym.Fails Sym.result Sym.spelled Sym.sum Sym.numbers Sym.divided Sym.rest Sym.operate Sym.KindAt Sym.kind_by Sym.typed Sym.known Sym.prints Sym.created Sym.linking Sym.arrays Sym.hosted Sym.found Sym.intrinsic Sym.passing Sym.by_row Sym.gathers Sym.alls Sym.invoked Sym.called Sym.typed_place Sym.eval Sym.refer Sym.second Sym.first_value Sym.returned Sym.lasts Sym.tries Sym.exec Sym.node Sym.go Calls.answer Calls.Ends Calls.Stops Codes.readers Codes.read_code
stepping = tt
