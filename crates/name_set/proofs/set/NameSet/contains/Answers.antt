use Rattle.std.proofs.Common.{◌∙◌, ap}
use Rattle.name_set.specs.Names.{has}
use Rattle.name_set.proofs.Known.{found}
use Rattle.name_set.proofs.set.NameSet.contains.Goals as goal

pub returns : goal.returns
returns c = c.contains.ensures ∙ found c.args.name.now c.self.inside.index.keys ∙ ap (λ ns. has ns c.args.name.now) c.self.view_is
