use Rattle.both_meanings.proofs.Whole.{law_by}
use Rattle.both_meanings.proofs.laws.agreement.Goals as goal

pub returns : goal.returns
returns c = law_by c.one_unit_more.ensures
