use Rattle.std.proofs.Common.{◌∙◌, sym, refl, subst}
use Rattle.std.proofs.lemmas.List.Elements.{All-nil}
use Rattle.es5_tree.specs.Objects.Cells.{new_cell, Object}
use Rattle.es5_tree.specs.Intrinsics.Rows.{link_of, Makes}
use Rattle.es5_tree.specs.Intrinsics.Valid.{Valid}
use Rattle.es5_objects.specs.Values.{value_of}
use Rattle.es5_host.proofs.Rows.{refused, an_object, link_named}
use Rattle.es5_host.proofs.Validity.{valid_push}
use Rattle.es5_host.proofs.object.create_from.Goals as goal

pub returns-in-None-clause-answer : goal.returns-in-None-clause-answer
returns-in-None-clause-answer c = refused c.link_of.result _ (λ link. Makes (new_cell Object link)) _ _ c.in-None.is c.link_of.ensures c.type_error.ensures

pub returns-in-Ok-clause-valid : goal.returns-in-Ok-clause-valid
returns-in-Ok-clause-valid c =
    subst Valid (sym c.in-Ok.ensures.made)
    (valid_push c.args.heap.now.cells (new_cell Object c.in-Some.link)
    (link_named _ _ (value_of c.args.p.now) c.in-Some.link refl (sym c.in-Some.is ∙ c.link_of.ensures) c.requires.p)
    (All-nil _)
    c.requires.valid)

pub returns-in-Err-clause-answer : goal.returns-in-Err-clause-answer
returns-in-Err-clause-answer c = (
  (new_cell Object c.in-Some.link, sym (an_object (link_of (value_of c.args.p.now)) (λ link. Makes (new_cell Object link)) c.in-Some.link (sym c.in-Some.is ∙ c.link_of.ensures))),
  c.in-Err.ensures.full.0 refl,
  c.in-Err.ensures.unchanged,
)
