use Rattle.grammar.proofs.Stability.{read_named_is}
use Rattle.grammar.proofs.FrontTests.{is_front, front_is}
use Rattle.grammar.proofs.laws.reads_names.Goals as goal

pub returns-clause-by_production : goal.returns-clause-by_production
returns-clause-by_production g c = λ sorts G S b k ts. read_named_is G S b k ts

pub returns-clause-tells_fronts : goal.returns-clause-tells_fronts
returns-clause-tells_fronts g c = record { front = λ sorts G S k b ts. is_front G S k b ts; nothing_left = λ sorts G S k b ts. front_is G S k b ts }
