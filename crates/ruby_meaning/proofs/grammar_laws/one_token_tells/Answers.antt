use Rattle.ruby_meaning.proofs.Grammar.TableMeets.{predictive}
use Rattle.ruby_meaning.proofs.grammar_laws.one_token_tells.Goals as goal

pub returns : goal.returns
returns c = predictive
