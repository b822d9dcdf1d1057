use Rattle.es5_laws.proofs.SameRuns.{same_cells_is, sites_dont_matter_is}
use Rattle.es5_laws.proofs.laws.sites_dont_matter.Goals as goal

pub returns : goal.returns
returns c = record { shown = sites_dont_matter_is; cells = same_cells_is }
