use Rattle.ruby_meaning.proofs.Lexing.Total.{some_lexing}
use Rattle.ruby_meaning.proofs.Lexing.Once.{one_list, never_both, one_fault, joined}
use Rattle.ruby_meaning.proofs.token_laws.one_lexing.Goals as goal

pub returns-clause-one_list : goal.returns-clause-one_list
returns-clause-one_list c = one_list

pub returns-clause-never_both : goal.returns-clause-never_both
returns-clause-never_both c = never_both

pub returns-clause-one_fault : goal.returns-clause-one_fault
returns-clause-one_fault c = one_fault

pub returns-clause-joined : goal.returns-clause-joined
returns-clause-joined c = joined

pub returns-clause-some_lexing : goal.returns-clause-some_lexing
returns-clause-some_lexing c = some_lexing
