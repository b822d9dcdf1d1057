use Rattle.ruby_meaning.proofs.Grammar.Programs.{one_program, some_answer, never_both, one_place}
use Rattle.ruby_meaning.proofs.grammar_laws.one_program.Goals as goal

pub returns-clause-one_program : goal.returns-clause-one_program
returns-clause-one_program c = one_program

pub returns-clause-some_answer : goal.returns-clause-some_answer
returns-clause-some_answer c = some_answer

pub returns-clause-never_both : goal.returns-clause-never_both
returns-clause-never_both c = never_both

pub returns-clause-one_place : goal.returns-clause-one_place
returns-clause-one_place c = one_place
