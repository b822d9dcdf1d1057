use Rattle.grammar.proofs.OneAnswer.{some_answer, never_both, one_place}
use Rattle.grammar.proofs.laws.one_answer.Goals as goal

pub returns-clause-some : goal.returns-clause-some
returns-clause-some g c = λ sorts G S k b ts. some_answer G S k b ts

pub returns-clause-never_both : goal.returns-clause-never_both
returns-clause-never_both g c = λ sorts G S k b ts p at. never_both G S k b ts p at

pub returns-clause-one_place : goal.returns-clause-one_place
returns-clause-one_place g c = λ sorts G S k b ts at other. one_place G S k b ts at other
