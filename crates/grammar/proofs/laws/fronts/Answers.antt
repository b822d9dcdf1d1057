use Rattle.grammar.proofs.OneAnswer.{beginning}
use Rattle.grammar.proofs.Completions.{completes}
use Rattle.grammar.proofs.MoreLevels.{more_levels}
use Rattle.grammar.proofs.laws.fronts.Goals as goal

pub returns-clause-beginnings : goal.returns-clause-beginnings
returns-clause-beginnings g c = λ sorts G S k b u v p. beginning G S k b u p v

pub returns-clause-completions : goal.returns-clause-completions
returns-clause-completions g c = λ sorts G S P k b u. completes G S P k b u

pub returns-clause-more : goal.returns-clause-more
returns-clause-more g c = λ sorts G k b more u. more_levels G k b more u
