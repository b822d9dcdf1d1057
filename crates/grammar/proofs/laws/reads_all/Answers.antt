use Rattle.grammar.proofs.Theorem.{read_ok, read_whole, read_refusal}
use Rattle.grammar.proofs.laws.reads_all.Goals as goal

pub returns-clause-gives : goal.returns-clause-gives
returns-clause-gives g c = λ sorts G S k b ts p. read_ok G S k b ts p

pub returns-clause-reads : goal.returns-clause-reads
returns-clause-reads g c = λ sorts G S k b ts p. read_whole G S k b ts p

pub returns-clause-refuses : goal.returns-clause-refuses
returns-clause-refuses g c = λ sorts G S k b ts at. read_refusal G S k b ts at
