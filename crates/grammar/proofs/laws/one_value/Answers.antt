use Rattle.grammar.proofs.Theorem.{one_tree}
use Rattle.grammar.proofs.laws.one_value.Goals as goal

pub returns : goal.returns
returns g c = λ sorts G S k p q ts. one_tree G S k p q ts
