use Rattle.std.proofs.Common.{◌∙◌, ap, not}
use Rattle.name_set.specs.Names.{has, names, with_new}
use Rattle.name_set.proofs.Known.{inserted, told}
use Rattle.name_set.proofs.set.NameSet.insert.Goals as goal

pub returns-clause-new : goal.returns-clause-new
returns-clause-new c =
    c.in-Ok-insert.ensures.added
    ∙ told c.in-Ok.key c.self.inside.index.keys c.args.name.now (c.in-Ok.ensures.items ∙ c.as_slice.ensures)
    ∙ ap (λ ns. not (has ns c.args.name.now)) c.self.view_is

pub returns-clause-names : goal.returns-clause-names
returns-clause-names c =
    ap names c.in-Ok-insert.ensures.keys
    ∙ inserted c.in-Ok.key c.self.inside.index.keys c.args.name.now (c.in-Ok.ensures.items ∙ c.as_slice.ensures)
    ∙ ap (λ ns. with_new ns c.args.name.now ns) c.self.view_is
