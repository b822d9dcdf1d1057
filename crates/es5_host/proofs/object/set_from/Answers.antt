use Rattle.es5_tree.specs.Objects.Links.{in_chain}
use Rattle.es5_tree.specs.Intrinsics.Rows.{link_of, linked, or_type_error}
use Rattle.es5_objects.specs.Values.{value_of}
use Rattle.es5_host.proofs.Rows.{refused, accepted}
use Rattle.es5_host.proofs.object.set_from.Goals as goal

pub returns-in-None-clause-answer : goal.returns-in-None-clause-answer
returns-in-None-clause-answer c = refused c.object_of.result _ (λ o. or_type_error (link_of (value_of c.args.p.now)) (λ link. linked (in_chain c.args.heap.now.cells o link) c.args.heap.now.cells o link)) _ _ c.in-None.is c.object_of.ensures c.type_error.ensures

pub returns-in-None-link_of-clause-answer : goal.returns-in-None-link_of-clause-answer
returns-in-None-link_of-clause-answer c = accepted c.object_of.result _ (λ o. or_type_error (link_of (value_of c.args.p.now)) (λ link. linked (in_chain c.args.heap.now.cells o link) c.args.heap.now.cells o link)) c.in-Some.o _ _ _ c.in-Some.is c.object_of.ensures
    (refused c.link_of.result _ (λ link. linked (in_chain c.args.heap.now.cells c.in-Some.o link) c.args.heap.now.cells c.in-Some.o link) _ _ c.in-None-link_of.is c.link_of.ensures c.type_error-in-None-link_of.ensures)
