use Rattle.std.proofs.Common.{subst}
use Rattle.es5_lexer.specs.Pieces.{QuotedOrNot}
use Rattle.es5_lexer.proofs.Steps.{tail, string_at, no_string}
use Rattle.es5_lexer.proofs.piece.string.Goals as goal

pub returns-in-Some : goal.returns-in-Some
returns-in-Some c = string_at c.args.bytes.now c.in-Some.text c.in-Some.size c.requires.some c.requires.quote (subst (QuotedOrNot _ (tail c.args.bytes.now)) c.in-Some.is c.in_ok-text.ensures)

pub returns-in-None : goal.returns-in-None
returns-in-None c = no_string c.args.bytes.now c.requires.some c.requires.quote (subst (QuotedOrNot _ (tail c.args.bytes.now)) c.in-None.is c.in_ok-text.ensures)
