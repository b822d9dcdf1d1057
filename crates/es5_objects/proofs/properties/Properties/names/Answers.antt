use Rattle.std.proofs.Common.{◌∙◌, ap, map}
use Rattle.es5_objects.specs.Properties.{names}
use Rattle.es5_objects.proofs.Lists.{names_are}
use Rattle.es5_objects.proofs.properties.Properties.names.Goals as goal

pub returns : goal.returns
returns c = ap names (c.as_slice.ensures ∙ c.keys.ensures.rest) ∙ (names_are c.self.inside.items.entries ∙ ap (λ ps. map (λ p. p.0) ps) c.self.view_is)
