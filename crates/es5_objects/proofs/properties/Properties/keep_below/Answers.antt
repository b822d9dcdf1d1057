use Rattle.std.proofs.Common.{◌∙◌, ap, rules}
use Rattle.indexmap.proofs.CallerLemmas.{filter-RetainsPairs}
use Rattle.es5_tree.specs.Objects.Names.{index_of}
use Rattle.es5_tree.specs.Objects.Cells.{elements_below, stays_below}
use Rattle.es5_objects.proofs.Lists.{below}
use Rattle.es5_objects.proofs.properties.Properties.keep_below.Goals as goal

pub returns : goal.returns
returns c =
    below _ _ c.args.end (filter-RetainsPairs _ (λ e. stays_below c.args.end (index_of e.0.items)) _ (λ k v b w g call. search rules) _ _ c.retain.ensures.filtered)
    ∙ ap (elements_below c.args.end) c.self.view_is
