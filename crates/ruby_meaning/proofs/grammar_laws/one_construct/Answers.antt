use Rattle.ruby_meaning.proofs.Grammar.Refusals.{one_construct, some_construct}
use Rattle.ruby_meaning.proofs.grammar_laws.one_construct.Goals as goal

pub returns-clause-one : goal.returns-clause-one
returns-clause-one c = one_construct

pub returns-clause-some : goal.returns-clause-some
returns-clause-some c = some_construct
