use Rattle.grammar.proofs.OpeningsCounted.{without_recursion}
use Rattle.grammar.proofs.laws.parentheses.Goals as goal

pub returns : goal.returns
returns g c = λ opens atom primary expression resume close by_primary opened not_opened ts. without_recursion opens atom primary expression resume close by_primary opened not_opened ts
