use Rattle.grammar.proofs.SmallGrammarMeets.{predictive, no_dead_ends}
use Rattle.grammar.proofs.laws.small_grammar.Goals as goal

pub returns : goal.returns
returns c = record { predictive = predictive; no_dead_ends = no_dead_ends }
