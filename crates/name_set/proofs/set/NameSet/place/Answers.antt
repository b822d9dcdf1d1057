use Rattle.std.proofs.Common.{◌∙◌, ap, bytes_eq}
use Rattle.std.specs.List.{position}
use Rattle.name_set.proofs.Known.{placed}
use Rattle.name_set.proofs.set.NameSet.place.Goals as goal

pub returns : goal.returns
returns c = c.get_index_of.ensures.index ∙ placed c.args.name.now c.self.inside.index.keys ∙ ap (position (bytes_eq c.args.name.now)) c.self.view_is
