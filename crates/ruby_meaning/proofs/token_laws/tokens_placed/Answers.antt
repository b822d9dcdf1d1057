use Rattle.ruby_meaning.proofs.Lexing.Places.{placed}
use Rattle.ruby_meaning.proofs.Lexing.Order.{in_order, one_eof}
use Rattle.ruby_meaning.proofs.token_laws.tokens_placed.Goals as goal

pub returns-clause-placed : goal.returns-clause-placed
returns-clause-placed c = placed

pub returns-clause-in_order : goal.returns-clause-in_order
returns-clause-in_order c = in_order

pub returns-clause-one_eof : goal.returns-clause-one_eof
returns-clause-one_eof c = one_eof
