use Rattle.std.proofs.Common.{Some, sym, ap, ◌∙◌, subst}
use Rattle.es5_tree.specs.Objects.Cells.{Object, new_cell}
use Rattle.es5_tree.specs.Intrinsics.Made.{object_prototype}
use Rattle.es5_tree.specs.Intrinsics.Valid.{Valid}
use Rattle.es5_evaluation.specs.Evaluate.{error_object}
use Rattle.es5_objects.specs.Heap.{Heap}
use Rattle.es5_host.specs.Answers.{with_new}
use Rattle.es5_host.proofs.Making.{made_here, made_whole}
use Rattle.es5_store.proofs.ErrorObjects.{valid_error}
use Rattle.es5_store.proofs.errors.make_error.Goals as goal

pub give_both-requires-clause-fresh : goal.give_both-requires-clause-fresh
give_both-requires-clause-fresh c = made_here c.args.heap.now c.create.new.self c.in-Ok.o (new_cell Object (Some object_prototype)) c.in-Ok.ensures.made c.in-Ok.ensures.number

pub returns-clause-made : goal.returns-clause-made
returns-clause-made c = made_whole c.args.heap.now c.create.new.self c.give_both.new.heap c.in-Ok.o (new_cell Object (Some object_prototype)) (λ x. error_object c.in_ok-name.name c.args.message) c.in-Ok.ensures.made c.in-Ok.ensures.capacity c.in-Ok.ensures.number c.in_ok-give_both.ensures.put ∙ ap (λ n. with_new c.args.heap.now (error_object n c.args.message)) c.in_ok-name.ensures

pub returns-clause-valid : goal.returns-clause-valid
returns-clause-valid c = subst (λ (h : Heap). Valid h.cells) (sym (returns-clause-made c)) (valid_error c.args.heap.now.cells c.args.name.now c.args.message c.requires)
