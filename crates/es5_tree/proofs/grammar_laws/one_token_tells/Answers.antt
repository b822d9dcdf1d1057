use Rattle.es5_tree.proofs.Grammar.TableMeets.{predictive}
use Rattle.es5_tree.proofs.grammar_laws.one_token_tells.Goals as goal

pub returns : goal.returns
returns c = predictive
