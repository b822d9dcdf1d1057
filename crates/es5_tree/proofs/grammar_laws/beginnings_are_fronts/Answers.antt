use Rattle.es5_tree.proofs.Grammar.Scripts.{beginnings}
use Rattle.es5_tree.proofs.grammar_laws.beginnings_are_fronts.Goals as goal

pub returns : goal.returns
returns c = beginnings
