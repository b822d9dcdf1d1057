use Rattle.ruby_meaning.proofs.Grammar.Programs.{beginnings}
use Rattle.ruby_meaning.proofs.grammar_laws.beginnings_are_fronts.Goals as goal

pub returns : goal.returns
returns c = beginnings
