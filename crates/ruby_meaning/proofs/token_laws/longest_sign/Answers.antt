use Rattle.ruby_meaning.proofs.Lexing.Signs.{longest_sign, longest_method_sign, no_sign}
use Rattle.ruby_meaning.proofs.token_laws.longest_sign.Goals as goal

pub returns-clause-longest : goal.returns-clause-longest
returns-clause-longest c = longest_sign

pub returns-clause-longest_method : goal.returns-clause-longest_method
returns-clause-longest_method c = longest_method_sign

pub returns-clause-none : goal.returns-clause-none
returns-clause-none c = no_sign
